use Rattle.std.proofs.Common.{refl, sym, ap, ◌∙◌}
use Rattle.pg_guest.proofs.Fronts.{lines_of_cut}
use Rattle.pg_guest.specs.Reading.{front_at}
use Rattle.pg_guest.specs.Answers.{lines_in, pieces_behind}
use Rattle.std.specs.Option.{option_copied}
use Rattle.std.specs.Prelude.{◌∷◌}
use Rattle.pg_guest.proofs.script_text.Text.front.Goals as goal

pub returns-in_default-Some-clause-front : goal.returns-in_default-Some-clause-front
returns-in_default-Some-clause-front c =
    let text = c.self.inside in
    let line = c.cut.result.0.now in
    let some = c.in_default-Some.is-1 in
    let behind = ap (λ o. line ∷ pieces_behind 10 (option_copied o)) some in
    let cut = lines_of_cut text.number text.bytes.now line c.in_default-Some.bytes.now (c.cut.ensures.pieces ∙ behind) in
    rw some (ap (λ rest. front_at (lines_in rest)) (sym c.self.view_is) ∙ ap front_at cut ∙ rw (sym c.is_plain.ensures ∙ c.if-is_plain.true) refl)
