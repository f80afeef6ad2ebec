use Rattle.std.proofs.Common.{sym, subst}
use Rattle.pg_event.specs.Heads.{Head}
use Rattle.pg_guest.specs.Runs.{IsPlaced}
use Rattle.pg_test_records.proofs.processors.started.Goals as goal

pub returns : goal.returns
returns c = λ p h is. subst (λ (head : Head). IsPlaced head p h) (sym c.in_ok-world.ensures) (c.in_ok-processors.ensures.made.each p h is).placed
