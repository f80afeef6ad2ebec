-- The addresses that an access may get from any value that a word had.
use Rattle.std.specs.Prelude.{◌≡◌, ℕ, ◌≤◌, ◌%◌, ◌==◌, if◌then◌else◌, List, ◌++◌}
use Rattle.std.specs.Prelude.{Option, Some, None, option_to_list}
use Rattle.std.specs.List.{Contains}
use Rattle.std.specs.List.Sorted.{IsStrictlyIncreasing}
use Rattle.pg_entry.specs.declared.Level.{Level}
use Rattle.pg_entry.specs.declared.Level.TheVariants.{Three, Two, One}
use Rattle.pg_event.specs.Spelling.{Recorded}
use Rattle.pg_event.specs.Values.{mem_at}
use Rattle.pg_event.specs.Walk.{entry_address}
use Rattle.pg_reach.specs.Given.{page_by}

-- the physical address that a linear one gets by the value that a word has at a moment, where its
-- place in a table is that of the entry
abbrev pub page_at : Recorded → ℕ → ℕ → Level → ℕ → Option ℕ
page_at r w word level la =
    if word % 4096 == entry_address 0 level la
    then page_by r.head.cfg level (mem_at r.events w word) la else None

-- the list, with those that a word gives at a moment, as the entry of any level
abbrev pub with_pages : List ℕ → Recorded → ℕ → ℕ → ℕ → List ℕ
with_pages xs r w word la =
    xs ++ option_to_list (page_at r w word Three la) ++ option_to_list (page_at r w word Two la)
    ++ option_to_list (page_at r w word One la)

-- each that a word gives at a moment up to this one, as the entry of any level, is in the list
abbrev pub HavePages : Recorded → ℕ → ℕ → List ℕ → Type 0
HavePages r moment la pages = (w word page : ℕ) (level : Level) → w ≤ moment →
    page_at r w word level la ≡ Some page → Contains pages page

-- the second ascend, each once, and the numbers of the first are among them
pub record AreAscending (xs ys : List ℕ) : Type 0 where
  pub rise : IsStrictlyIncreasing ys
  pub all : (x : ℕ) → Contains xs x → Contains ys x
