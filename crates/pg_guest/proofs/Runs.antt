-- What a turn leaves of a run's settings and of its processor.
use Rattle.std.proofs.Common.{ℕ, List, sym, ◌∙◌, ap, subst}
use Rattle.std.specs.List.{AllByRecursion}
use Rattle.pg_event.specs.Heads.{Head}
use Rattle.pg_guest.specs.declared.instruction.Instruction.{Instruction}
use Rattle.pg_guest.specs.Tasks.{IsWellFormed}
use Rattle.pg_world.specs.Recording.{Recording}
use Rattle.pg_guest.specs.Turn.{Processor, Turned, IsTurn}
use Rattle.pg_guest.proofs.Leaves.{turns_leave}
use Rattle.pg_guest.specs.Steps.{IsOfRun}

-- a processor stays one of its run
pub stays_of_run : (p : ℕ) (r : Recording) (x : Processor) (t : Turned) → IsTurn p r x t → IsOfRun r.head p x → IsOfRun t.world.head p t.processor
stays_of_run p r x t turn of =
    let left = turns_leave p r x t turn in
    let well = subst (λ (is : List Instruction). AllByRecursion (IsWellFormed r.head p) is) (sym left.instructions) of.well in
    record {
      width = left.width ∙ of.width ∙ ap (λ (head : Head). head.cfg.m) (sym left.head);
      well = subst (λ (head : Head). AllByRecursion (IsWellFormed head p) t.processor.instructions) (sym left.head) well;
    }

-- and the others do, whatever it does
pub others_of_run : (p q : ℕ) (r : Recording) (x y : Processor) (t : Turned) → IsTurn p r x t → IsOfRun r.head q y → IsOfRun t.world.head q y
others_of_run p q r x y t turn of = subst (λ (head : Head). IsOfRun head q y) (sym (turns_leave p r x t turn).head) of
