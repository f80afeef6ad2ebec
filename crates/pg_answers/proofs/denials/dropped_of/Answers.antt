use Rattle.std.proofs.Common.{Some, IfSome, ap, sym, subst, ◌∙◌}
use Rattle.pg_explain.specs.Lasts.{dropped_in}
use Rattle.pg_answers.specs.Accounts.{IsChange}
use Rattle.pg_answers.proofs.denials.dropped_of.Goals as goal

pub returns-in-Some : goal.returns-in-Some
returns-in-Some c = λ head events known changes.
    let x = subst (λ o. IfSome o (IsChange events)) c.in-Some.is changes in
    ap Some (c.change_at.ensures head events x.0 known x.1 x.2) ∙ sym x.1 ∙ ap (dropped_in events) (sym c.in-Some.is)
