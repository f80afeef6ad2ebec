use Rattle.std.proofs.Common.{◌≡◌, ◌++◌, drop, string_bytes}
use Rattle.pg_show_picture.specs.Svg.{escaped}
use Rattle.pg_show_picture.proofs.shapes.push_escaped.Given as goal

abbrev pub invariant-loop-byte : goal.invariant-loop-byte
invariant-loop-byte l =
    string_bytes l.text ++ escaped (drop l.byte-index l.line) ≡ string_bytes l.fn.text ++ escaped l.line
