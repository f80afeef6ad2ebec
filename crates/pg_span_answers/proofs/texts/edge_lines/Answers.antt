use Rattle.std.proofs.Common.{◌++◌, ℕ, List, get_or, ap, sym, ◌∙◌, arith}
use Rattle.std.specs.List.{flat_map}
use Rattle.std.proofs.lemmas.List.{take_all}
use Rattle.pg_span_refute.specs.declared.edge.Edge.{Edge}
use Rattle.pg_span_answers.specs.Texts.{edge_line}
use Rattle.pg_span_answers.proofs.Telling.{edges_more}
use Rattle.pg_span_answers.proofs.texts.edge_lines.Goals as goal

pub loop-edge-preserved : goal.loop-edge-preserved
loop-edge-preserved c =
    let k : ℕ = c.loop-edge.edge-index in
    let edges : List Edge = c.args.edges.now in
    let first : Edge = record { first = 0; second = 0 } in
    c.in_ok-push_edge.ensures ∙ (ap (λ xs. xs ++ edge_line (get_or edges k first)) c.loop-edge.invariant ∙ sym (edges_more edges k first c.loop-edge-test.true))

pub returns : goal.returns
returns c =
    let edges : List Edge = c.args.edges.now in
    c.loop-edge.invariant ∙ ap (flat_map edge_line) (take_all c.loop-edge.edge-index edges (omega (arith, c.loop-edge-test.false)))
