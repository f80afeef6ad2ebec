use Rattle.std.proofs.Common.{◌≡◌, take, string_bytes}
use Rattle.std.specs.List.{flat_map}
use Rattle.pg_span_answers.specs.Texts.{edge_line}
use Rattle.pg_span_answers.proofs.texts.edge_lines.Given as goal

abbrev pub invariant-loop-edge : goal.invariant-loop-edge
invariant-loop-edge l = string_bytes l.text ≡ flat_map edge_line (take l.edge-index l.edges)
