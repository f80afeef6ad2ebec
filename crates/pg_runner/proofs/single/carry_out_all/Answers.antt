use Rattle.std.proofs.Common.{◌≡◌, ◌∙◌, length, map, ap, subst, arith}
use Rattle.std.proofs.lemmas.List.{length-map}
use Rattle.pg_guest.specs.Held.{seen}
use Rattle.pg_guest.specs.declared.instruction.Task.{Task}
use Rattle.pg_runner.specs.Lines.{AreCarriedOut}
use Rattle.pg_runner.proofs.single.carry_out_all.Goals as goal

pub returns : goal.returns
returns c =
    let script = c.args.script.now in
    let count = ap length c.order-line-end.ensures.order ∙ length-map script.tasks (λ (t : Task). t.p) in
    let all : c.loop-line.line ≡ length script.tasks = omega (arith, c.loop-line.auto.line-end, c.loop-line-test.false, count) in
    subst (λ k. AreCarriedOut script k c.loop-line.world (map seen c.loop-line.processors)) all c.loop-line.invariant.before
