use Rattle.std.proofs.Common.{◌≡◌, ◌++◌, drop, string_bytes}
use Rattle.pg_span_text.specs.Picture.{shown_bytes}
use Rattle.pg_span_text.proofs.picture.push_bytes.Given as goal

abbrev pub invariant-loop-byte : goal.invariant-loop-byte
invariant-loop-byte l =
    string_bytes l.text ++ shown_bytes (drop l.byte-index l.shown)
    ≡ string_bytes l.fn.text ++ shown_bytes l.shown
