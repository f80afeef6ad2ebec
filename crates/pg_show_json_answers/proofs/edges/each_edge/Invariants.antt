use Rattle.std.proofs.Common.{◌≡◌, map, take}
use Rattle.serde_json.specs.View.{view}
use Rattle.pg_show_json.specs.Tree.{data_of}
use Rattle.pg_show_json_answers.specs.Verdicts.{edge_json}
use Rattle.pg_show_json_answers.proofs.edges.each_edge.Given as goal

abbrev pub invariant-loop-edge : goal.invariant-loop-edge
invariant-loop-edge l =
    map view l.values.items ≡ map (λ x. data_of (edge_json x)) (take l.edge-index l.edges)
