use Rattle.std.proofs.Common.{ℕ, ◌+◌, List, Bor, map, drop, subst}
use Rattle.pg_report.specs.Changes.{filled}
use Rattle.pg_span_run.specs.contracts.peeked.PeekedSource.TheImpl as peeked
use Rattle.pg_tool.specs.Answers.{DoesEach, opens}
use Rattle.pg_tool.proofs.Each.{one_more}
use Rattle.pg_tool.proofs.inputs.perform_each.Goals as goal

pub loop-name-preserved : goal.loop-name-preserved
loop-name-preserved g c =
    let opening = opens g.F.Fn (peeked.ghosts g.row.S g.S.Source g.S.Source-dict) c.args.opener.now in
    let command = c.args.plan.now.command in
    let names = c.args.names.now in
    let i = c.loop-name.name-index in
    let one = c.perform_on-one in
    let told = filled g.E.Sink c.loop-name.errors one.new.errors in
    λ last final rest.
    let Q : ℕ → Type 0 = λ n. DoesEach opening command (map (λ (name : Bor (List ℕ)). name.now) (drop (i + 1) names)) told.new n last final in
    c.loop-name.invariant last final (one_more opening command names i _ _ told.old told.new last c.loop-name.status one.result final c.loop-name-test.true one.ensures (subst Q c.max-status.ensures rest))
