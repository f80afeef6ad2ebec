use Rattle.std.proofs.Common.{ℕ, ◌≢◌, ◌-◌, List, take, subst, arith}
use Rattle.std.proofs.lemmas.List.{take-take, length-take-le}
use Rattle.std.proofs.lemmas.List.Elements.{All-take}
use Rattle.std.specs.List.{All}
use Rattle.pg_tool.proofs.named.Named.put_part.Goals as goal

-- a byte that ends no line
abbrev Within : ℕ → Type 0
Within byte = byte ≢ 10

pub returns-clause-line : goal.returns-clause-line
returns-clause-line g c =
    let bytes = c.args.bytes.now in
    let taken = c.in_ok-taken.taken in
    let line = c.line_length.result in
    let bound = c.in_ok-taken.ensures.bound in
    let fewer = length-take-le line bytes in
    subst (All Within) (take-take (taken - 1) (line - 1) bytes (omega (arith, bound, fewer)))
    (All-take Within (taken - 1) (take (line - 1) bytes) c.line_length.ensures.line)
