use Rattle.std.proofs.Common.{ℕ, List, Bor, map, drop}
use Rattle.pg_report.specs.Changes.{Stream, filled}
use Rattle.pg_span_run.specs.contracts.peeked.PeekedSource.TheImpl as peeked
use Rattle.pg_tool.specs.Answers.{DoesEach, opens}
use Rattle.pg_tool.proofs.inputs.perform_each.Given as goal

-- what is still done of the files that are left completes what is done of all
abbrev pub invariant-loop-name : goal.invariant-loop-name
invariant-loop-name g l =
    let opening = opens g.F.Fn (peeked.ghosts g.row.S g.S.Source g.S.Source-dict) l.fn.opener in
    let errors = filled g.E.Sink l.fn.errors l.errors in
    (last : Stream) (final : ℕ) → DoesEach opening l.fn.plan.command (map (λ (name : Bor (List ℕ)). name.now) (drop l.name-index l.names)) errors.new l.status last final
    → DoesEach opening l.fn.plan.command (map (λ (name : Bor (List ℕ)). name.now) l.names) errors.old 0 last final
