use Rattle.std.proofs.Common.{All, ℕ, List, get_or, sym, ap, subst, ◌≡◌, ◌++◌, ◌∷◌, [], ◌∙◌}
use Rattle.std.proofs.lemmas.Grind.{take_at_read}
use Rattle.std.proofs.lemmas.List.{map-append}
use Rattle.std.proofs.lemmas.List.Elements.{All-push}
use Rattle.pg_pool.specs.declared.numbered_verdict.NumberedVerdict.{NumberedVerdict}
use Rattle.pg_pool.specs.Verdicts.{IsTold, numbers_of}
use Rattle.pg_pool.proofs.placing.judge_left.Goals as goal

pub loop-number-preserved : goal.loop-number-preserved
loop-number-preserved g c =
    let was = c.loop-number.invariant in
    let i : ℕ = c.loop-number.number-index in
    let before : List (NumberedVerdict g.row.J-Verdict.Denot) = c.loop-number.told.items in
    let told : NumberedVerdict g.row.J-Verdict.Denot = record { number = get_or c.args.left.now i 0; verdict = c.in_ok-judged.field-0 } in
    let grown : c.push.new.self.items ≡ before ++ told ∷ [] = c.in_ok-push.ensures.items in
    record {
      fits = λ run at. c.in_ok-judged.ensures.fits run (was.fits run at);
      numbers = ap (λ (l : List (NumberedVerdict g.row.J-Verdict.Denot)). numbers_of l) grown ∙ map-append (λ (t : NumberedVerdict g.row.J-Verdict.Denot). t.number) before (told ∷ []) ∙ ap (λ (l : List ℕ). l ++ told.number ∷ []) was.numbers
          ∙ sym (take_at_read c.args.left.now i 0 c.loop-number-test.true).1;
      told = λ run at.
          let P : NumberedVerdict g.row.J-Verdict.Denot → Type 0 = IsTold (g.J.Segments.tells c.args.segments.now run) (g.J.Segments.round c.args.segments.now) in
          let all : All P (before ++ told ∷ []) = All-push P before told (was.told run at) (c.requires.round i 0 c.loop-number-test.true, c.in_ok-judged.ensures.verdict run (was.fits run at)) in
          subst (λ (l : List (NumberedVerdict g.row.J-Verdict.Denot)). All P l) (sym grown) all;
    }
