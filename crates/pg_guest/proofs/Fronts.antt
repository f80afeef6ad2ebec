-- What stands at the front of a text that is cut at its first LF.
use Rattle.std.proofs.Common.{◌≡◌, ◌<◌, ◌+◌, ◌∙◌, ℕ, List, [], ◌∷◌, length, refl, ap, arith}
use Rattle.std.specs.Prelude.{◌==◌}
use Rattle.std.proofs.lemmas.List.Splits.{length-slice_split}
use Rattle.pg_guest.specs.Lines.{Line, lines_from, lines_of, pieces}

line_on : (n : ℕ) (line : List ℕ) (more : List (List ℕ)) → 0 < length more → lines_from n (line ∷ more) ≡ Line n line (lines_from (n + 1) more)
line_on n line [] some = absurd (omega arith)
line_on n line (next ∷ more) some = refl

-- a line, and the lines after its LF
pub lines_of_cut : (n : ℕ) (bytes line rest : List ℕ) → pieces 10 bytes ≡ line ∷ pieces 10 rest → lines_of n bytes ≡ Line n line (lines_of (n + 1) rest)
lines_of_cut n bytes line rest cut =
    let count = length-slice_split (λ b. b == 10) rest in
    ap (lines_from n) cut ∙ line_on n line (pieces 10 rest) (omega (arith, count))
