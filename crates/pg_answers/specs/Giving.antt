-- What gives an outcome of an access: since when the leaf of its walk is cached, and which accessed
-- and dirty flags must be set in its entries (Intel SDM, vol. 3, 4.8).
use Rattle.std.specs.Prelude.{◌≡◌, ℕ, Bool, true, false, if◌then◌else◌, List, [], ◌∷◌, ◌++◌, map}
use Rattle.std.specs.Prelude.{Option, Some, None, option_to_list, take}
use Rattle.std.specs.List.{AllByRecursion}
use Rattle.pg_entry.specs.declared.AccessKind.{AccessKind}
use Rattle.pg_event.specs.declared.event.Event.{Event}
use Rattle.pg_event.specs.declared.event.Event.TheVariants.{Write, Access, Assist, MovCr3, Invlpg}
use Rattle.pg_event.specs.declared.event.Event.TheVariants.{Invpcid, MovCr4Pge}
use Rattle.pg_event.specs.declared.event.Outcome.{Outcome}
use Rattle.pg_event.specs.Form.{access_kind}
use Rattle.pg_event.specs.Heads.{judges_accessed}
use Rattle.pg_event.specs.Spelling.{Recorded}
use Rattle.pg_event.specs.Wants.{want_of, is_table, is_leaf, uses_last}
use Rattle.pg_event.specs.Witness.{is_done_write}
use Rattle.pg_explain.specs.declared.entry.WalkEntry.{WalkEntry}
use Rattle.pg_explain.specs.Walk.{IsWalk}
use Rattle.pg_outcomes.specs.declared.allowed.Allowed.{Allowed}
use Rattle.pg_answers.specs.declared.answer.NeededFlags.{NeededFlags}
use Rattle.pg_answers.specs.declared.answer.OutcomeWalk.{OutcomeWalk}

-- the entry that ends a walk: the first that is no table
abbrev pub end_of : List WalkEntry → Option WalkEntry
end_of [] = None
end_of (x ∷ xs) = if is_table x.kind then end_of xs else Some x

-- the moment at which a leaf was read: since then its translation is cached
abbrev pub leaf_moment : Option WalkEntry → Option ℕ
leaf_moment None = None
leaf_moment (Some x) = if is_leaf x.kind then Some x.step.moment else None

abbrev pub cached_since : List WalkEntry → Option ℕ
cached_since walk = leaf_moment (end_of walk)

-- ---- flags: those that `failing_flags` of pg_event looks at, as the words that have them

abbrev pub table_words : List WalkEntry → List ℕ
table_words [] = []
table_words (x ∷ xs) = if is_table x.kind then x.step.address ∷ table_words xs else []

-- the word of an entry, if it needs a flag
abbrev pub word_if : Bool → Option WalkEntry → Option ℕ
word_if needs None = None
word_if needs (Some x) = if needs then Some x.step.address else None

-- each table needs the accessed flag, and so does a leaf, whether it gives a page or a protection
-- fault; an absent or reserved entry does not
abbrev pub accessed_words : Outcome → List WalkEntry → List ℕ
accessed_words outcome walk =
    table_words walk ++ option_to_list (word_if (uses_last (want_of outcome)) (end_of walk))

-- the leaf of a write that is done needs the dirty flag
abbrev pub dirty_word : AccessKind → Outcome → List WalkEntry → Option ℕ
dirty_word kind outcome walk = word_if (is_done_write kind outcome) (end_of walk)

-- no flags are needed where records are not judged by them
abbrev pub AreNeeded :
    Bool → AccessKind → Outcome → List WalkEntry → Option NeededFlags → Type 0
AreNeeded false kind outcome walk None = Unit {0}
AreNeeded false kind outcome walk (Some x) = ⊥
AreNeeded true kind outcome walk None = ⊥
AreNeeded true kind outcome walk (Some x) =
    (x.accessed.items ≡ accessed_words outcome walk) × (x.dirty ≡ dirty_word kind outcome walk)

-- ---- outcomes

-- the walk by the moments of an outcome, for an access of processor p to a linear address
pub record IsGivenBy (r : Recorded) (p : ℕ) (kind : AccessKind) (la : ℕ) (x : OutcomeWalk) :
    Type 0 where
  pub walk : IsWalk r.head r.events p la x.allowed.moments x.walk.items
  pub since : x.since ≡ cached_since x.walk.items
  pub flags : AreNeeded (judges_accessed r.head.version) kind x.allowed.outcome x.walk.items
      x.flags

abbrev pub IsGivenTo : Recorded → Event → OutcomeWalk → Type 0
IsGivenTo r (Write p addr value) x = ⊥
IsGivenTo r (Access p flags la outcome moments) x = IsGivenBy r p (access_kind flags) la x
IsGivenTo r (Assist p flags la word moments) x = ⊥
IsGivenTo r (MovCr3 p operand) x = ⊥
IsGivenTo r (Invlpg p la) x = ⊥
IsGivenTo r (Invpcid p kind pcid la) x = ⊥
IsGivenTo r (MovCr4Pge p on) x = ⊥

abbrev pub allowed_of : OutcomeWalk → Allowed
allowed_of x = x.allowed

-- the first of the outcomes of an access, so many at most, each with what gives it
pub record AreTold (r : Recorded) (e : Event) (most : ℕ) (found : List Allowed)
    (told : List OutcomeWalk) : Type 0 where
  pub outcomes : map allowed_of told ≡ take most found
  pub given : AllByRecursion (IsGivenTo r e) told
