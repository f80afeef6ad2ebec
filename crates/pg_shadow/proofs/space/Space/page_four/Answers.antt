use Rattle.std.proofs.Common.{◌≡◌, List, [], ◌∷◌, ◌++◌, arith, sym, ap, ◌∙◌}
use Rattle.std.proofs.lemmas.Grind.{common_steps}
use Rattle.pg_entry.specs.declared.Level.TheVariants.{Four}
use Rattle.pg_shadow.specs.Pages.{Sheet, empty_page}
use Rattle.pg_shadow.proofs.Pages.{IsTree-first, HasPage-first}
use Rattle.pg_shadow.proofs.space.Space.page_four.Goals as goal

pub invariant_of-self-in_ok-push : goal.invariant_of-self-in_ok-push
invariant_of-self-in_ok-push c =
    let none : c.self.inside.pages.items ≡ [] = grind (arith, common_steps) in
    let one : c.push.new.self.items ≡ empty_page Four 0 ∷ [] =
    c.in_ok-push.ensures.items ∙ ap (λ (ps : List Sheet). ps ++ c.in_ok-new.field-0 ∷ []) none ∙ ap (λ p. p ∷ []) c.in_ok-new.ensures in
    rw one IsTree-first

pub returns-in_ok-push : goal.returns-in_ok-push
returns-in_ok-push c =
    let none : c.self.inside.pages.items ≡ [] = grind (arith, common_steps) in
    let before : c.args.self.now ≡ [] = sym c.self.view_is ∙ none in
    let one : c.push.new.self.items ≡ empty_page Four 0 ∷ [] =
    c.in_ok-push.ensures.items ∙ ap (λ (ps : List Sheet). ps ++ c.in_ok-new.field-0 ∷ []) none ∙ ap (λ p. p ∷ []) c.in_ok-new.ensures in
    rw (one, before) HasPage-first
