use Rattle.std.proofs.Common.{◌≡◌, ◌-◌, ◌++◌, string_bytes}
use Rattle.pg_explain.specs.Line.{names_from, bit_names, in_brackets}
use Rattle.pg_explain.proofs.Lines.{rest_of}
use Rattle.pg_explain.proofs.line.push_bits.Given as goal

abbrev pub invariant-loop-k : goal.invariant-loop-k
invariant-loop-k l =
    string_bytes l.text ++ rest_of l.is_opened (names_from l.code l.k (5 - l.k))
    ≡ string_bytes l.fn.text ++ in_brackets (bit_names l.code)
