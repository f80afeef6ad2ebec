use Rattle.std.proofs.Common.{◌≡◌, ◌/◌, ◌≤◌, length, List, Some, ap, sym, ◌∙◌, arith}
use Rattle.pg_shadow.specs.Pages.{Sheet, page_at}
use Rattle.pg_shadow.proofs.Pages.{slot_in-missing, slot_in-beyond}
use Rattle.pg_shadow.proofs.Results.{on_err}
use Rattle.pg_shadow.proofs.space.Space.page_to_keep.Goals as goal

pub returns-in-None-clause-refused : goal.returns-in-None-clause-refused
returns-in-None-clause-refused c =
    on_err c.page_for.result (slot_in-missing c.args.self.now c.args.level c.args.number (sym c.page_of.ensures ∙ c.in-None.is))

pub returns-else-j-len-clause-refused : goal.returns-else-j-len-clause-refused
returns-else-j-len-clause-refused c =
    let at : page_at c.args.self.now c.args.level (c.args.number / 512) ≡ Some c.in-Some.j = sym c.page_of.ensures ∙ c.in-Some.is in
    let beyond : length c.args.self.now ≤ c.in-Some.j = omega (arith, ap (λ (ps : List Sheet). length ps) c.self.view_is, c.len.ensures, c.if-j-len.false, c.self.inside.pages.ok.0) in
    on_err c.page_for-else-j-len.result (slot_in-beyond c.args.self.now c.args.level c.args.number c.in-Some.j at beyond)
