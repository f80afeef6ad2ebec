use Rattle.std.proofs.Common.{◌≡◌, ◌++◌, drop, string_bytes}
use Rattle.pg_span_text.specs.Picture.{rows_text}
use Rattle.pg_span_text.proofs.picture.push_rows.Given as goal

abbrev pub invariant-loop-name : goal.invariant-loop-name
invariant-loop-name l =
    string_bytes l.text ++ rows_text l.run l.names l.lanes l.asked (drop l.name-index l.names)
    ≡ string_bytes l.fn.text ++ rows_text l.run l.names l.lanes l.asked l.names
