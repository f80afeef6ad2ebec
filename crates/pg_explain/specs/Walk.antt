-- The entries that the moments of an event name, and which events wrote them.
use Rattle.std.specs.Prelude.{◌≡◌, ℕ, if◌then◌else◌, List, [], ◌∷◌, map}
use Rattle.std.specs.List.{AllByRecursion}
use Rattle.pg_entry.specs.Kinds.{kind_of}
use Rattle.pg_event.specs.declared.event.Event.{Event}
use Rattle.pg_event.specs.Heads.{Head}
use Rattle.pg_event.specs.Values.{control_at}
use Rattle.pg_event.specs.Walk.{Reading}
use Rattle.pg_event.specs.Wants.{is_table}
use Rattle.pg_chain.specs.Walked.{reading_of}
use Rattle.pg_search.specs.Writers.{IsWriter}
use Rattle.pg_explain.specs.declared.entry.WalkEntry.{WalkEntry}
use Rattle.pg_explain.specs.Findings.{readings_by}

-- what is told of an entry that processor p reads
pub record IsTold (head : Head) (events : List Event) (p : ℕ) (x : WalkEntry) : Type 0 where
  pub pcid : x.pcid ≡ (control_at head events p x.step.moment).pcid
  pub kind : x.kind ≡ kind_of head.cfg x.step.level x.step.value
  pub writer : IsWriter events x.step.address x.step.moment x.writer

abbrev pub reading_at : WalkEntry → Reading
reading_at x = reading_of x.step

-- these are the entries that the moments name, from level 4 down
pub record IsWalk (head : Head) (events : List Event) (p la : ℕ) (moments : List ℕ)
    (walk : List WalkEntry) : Type 0 where
  pub read : map reading_at walk ≡ readings_by head events p la moments
  pub told : AllByRecursion (IsTold head events p) walk

-- the entries of a walk down to the first that is no table
abbrev pub down_to_end : List WalkEntry → List WalkEntry
down_to_end [] = []
down_to_end (x ∷ xs) = x ∷ (if is_table x.kind then down_to_end xs else [])
