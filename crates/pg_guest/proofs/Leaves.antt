-- What a turn and a core run leave alone.
use Rattle.std.proofs.Common.{◌≡◌, ℕ, List, [], ◌∷◌, ◌++◌, length, refl, ap, sym, ◌∙◌, subst, length-set, Option, Some, None, inl, inr}
use Rattle.std.specs.Prelude.{slice_get, slice_set}
use Rattle.std.proofs.lemmas.Bool.{cases_eq}
use Rattle.std.proofs.lemmas.Option.{same_Some}
use Rattle.pg_entry.specs.declared.Kind.{Kind}
use Rattle.pg_entry.specs.declared.Kind.TheVariants as kinds
use Rattle.pg_entry.specs.Kinds.{kind_of}
use Rattle.pg_event.specs.Form.{access_kind}
use Rattle.pg_guest.specs.declared.instruction.Instruction.{Instruction}
use Rattle.pg_guest.specs.declared.instruction.Instruction.TheVariants.{Write, Access, MovCr3, Invlpg, Invpcid, MovCr4Pge}
use Rattle.pg_shadow.specs.declared.entries.Found.{Found}
use Rattle.pg_shadow.specs.declared.entries.Found.TheVariants.{Hit, Partial, Miss}
use Rattle.pg_world.specs.declared.walk.LevelRead.{LevelRead}
use Rattle.pg_world.specs.declared.walk.LevelRead.TheVariants as founds
use Rattle.pg_world.specs.declared.walk.Walk.{Walk}
use Rattle.pg_world.specs.Recording.{Recording}
use Rattle.pg_world.specs.Walks.{moments_of, found_in}
use Rattle.pg_guest.specs.Turn.{Processor, Turned, from_root, from_table, keeps, after_read, goes_on, begun, turned_by}
use Rattle.pg_guest.specs.Leaves.{Leaves, TurnsLeave, LeaveAll, CoreRunsLeave}
use Rattle.pg_guest.proofs.CoreRuns.{set_other, set_here}

-- ---- a turn

abbrev LeavesBy : Recording → Processor → Turned → Type 0
LeavesBy r x t = Leaves r t.world x t.processor

kept_leaves : (r : Recording) (x : Processor) (walk : Walk) (value : ℕ) (moments : List ℕ) (kind : Kind) → LeavesBy r x (keeps r x walk value moments kind)
kept_leaves r x walk value moments kinds.Absent = record { head = refl; taken = refl; finished = refl; instructions = refl; width = refl }
kept_leaves r x walk value moments kinds.Reserved = record { head = refl; taken = refl; finished = refl; instructions = refl; width = refl }
kept_leaves r x walk value moments (kinds.Table addr) = record { head = refl; taken = refl; finished = refl; instructions = refl; width = refl }
kept_leaves r x walk value moments (kinds.Leaf frame shift global_bit) = record { head = refl; taken = refl; finished = refl; instructions = refl; width = refl }

read_leaves : (r : Recording) (x : Processor) (way : Found) (walk : Walk) (found : LevelRead) → LeavesBy r x (after_read r x way walk found)
read_leaves r x way walk (founds.Entry value moment) = kept_leaves r x walk value (moments_of walk.moments ++ moment ∷ []) (kind_of r.head.cfg walk.level value)
read_leaves r x way walk (founds.Fault receipt) = record { head = refl; taken = refl; finished = refl; instructions = refl; width = refl }
read_leaves r x way walk (founds.Assisted receipt) = record { head = refl; taken = refl; finished = refl; instructions = refl; width = refl }

walk_leaves : (p : ℕ) (r : Recording) (x : Processor) (flags la : ℕ) (way : Found) → LeavesBy r x (goes_on p r x flags la way)
walk_leaves p r x flags la (Hit frame shift rights global moments) = record { head = refl; taken = refl; finished = refl; instructions = refl; width = refl }
walk_leaves p r x flags la (Partial level table rights moments) =
    let walk : Walk = from_table (access_kind flags) la level table rights moments in
    read_leaves r x (Partial level table rights moments) walk (found_in r p walk)
walk_leaves p r x flags la Miss =
    let walk : Walk = from_root x.caches.control (access_kind flags) la in
    read_leaves r x Miss walk (found_in r p walk)

step_leaves : (p : ℕ) (r : Recording) (x : Processor) (i : Option Instruction) → LeavesBy r x (turned_by p r x i)
step_leaves p r x None = record { head = refl; taken = refl; finished = refl; instructions = refl; width = refl }
step_leaves p r x (Some (Write addr value)) = record { head = refl; taken = refl; finished = refl; instructions = refl; width = refl }
step_leaves p r x (Some (Access flags la)) = walk_leaves p r x flags la (begun r.head x.caches la (access_kind flags) x.way)
step_leaves p r x (Some (MovCr3 operand)) = record { head = refl; taken = refl; finished = refl; instructions = refl; width = refl }
step_leaves p r x (Some (Invlpg la)) = record { head = refl; taken = refl; finished = refl; instructions = refl; width = refl }
step_leaves p r x (Some (Invpcid kind pcid la)) = record { head = refl; taken = refl; finished = refl; instructions = refl; width = refl }
step_leaves p r x (Some (MovCr4Pge on)) = record { head = refl; taken = refl; finished = refl; instructions = refl; width = refl }

pub turns_leave : TurnsLeave
turns_leave p r x t (inl halt) = subst (LeavesBy r x) (sym halt.is) (record { head = refl; taken = refl; finished = refl; instructions = refl; width = refl })
turns_leave p r x t (inr went) = subst (LeavesBy r x) (sym went.is) (step_leaves p r x (slice_get x.instructions x.place))

-- ---- a core run

none_leave : (r end : Recording) (xs ys : List Processor) → end ≡ r → ys ≡ xs → LeaveAll r end xs ys
none_leave r end xs ys still same = record {
  head = ap (λ (r : Recording). r.head) still;
  taken = ap (λ (r : Recording). r.taken) still;
  finished = ap (λ (r : Recording). r.finished) still;
  count = ap (λ (zs : List Processor). length zs) same;
  each = λ p x y here there.
      let is : y ≡ x = same_Some y x (sym there ∙ ap (λ (zs : List Processor). slice_get zs p) same ∙ here) in
      (ap (λ (z : Processor). z.instructions) is, ap (λ (z : Processor). z.caches.width) is);
}

-- a turn of one, and then a core run
turn_leaves_all : (p : ℕ) (r end : Recording) (x : Processor) (t : Turned) (xs ys : List Processor) → slice_get xs p ≡ Some x → Leaves r t.world x t.processor →
    LeaveAll t.world end (slice_set xs p t.processor) ys → LeaveAll r end xs ys
turn_leaves_all p r end x t xs ys at left rest = record {
  head = rest.head ∙ left.head;
  taken = rest.taken ∙ left.taken;
  finished = rest.finished ∙ left.finished;
  count = rest.count ∙ length-set xs p t.processor;
  each = λ q z y here there.
      elim (cases_eq q p) [
        | inl same ↦
            let is : x ≡ z = same_Some x z (sym at ∙ ap (slice_get xs) (sym same) ∙ here) in
            let now : slice_get (slice_set xs p t.processor) q ≡ Some t.processor = ap (slice_get (slice_set xs p t.processor)) same ∙ set_here xs p x t.processor at in
            let more = rest.each q t.processor y now there in
            (more.0 ∙ left.instructions ∙ ap (λ (z : Processor). z.instructions) is, more.1 ∙ left.width ∙ ap (λ (z : Processor). z.caches.width) is)
        | inr away ↦ rest.each q z y (set_other xs p q t.processor away ∙ here) there
      ];
}

pub core_runs_leave : CoreRunsLeave
core_runs_leave r xs [] answers end ys run = none_leave r end xs ys run.1 run.2
core_runs_leave r xs (p ∷ ps) answers end ys run =
    turn_leaves_all p r end run.0 run.1 xs ys run.3 (turns_leave p r run.0 run.1 run.4) (core_runs_leave run.1.world (slice_set xs p run.1.processor) ps run.2 end ys run.6)
