use Rattle.std.proofs.Common.{◌≡◌, List, ap, sym, subst, ◌∙◌}
use Rattle.pg_event.specs.declared.event.Event.{Event}
use Rattle.pg_event.specs.Heads.{Head, with_rules}
use Rattle.pg_event.specs.Spelling.{Recorded}
use Rattle.pg_event.proofs.FewerRules.{well_held}
use Rattle.pg_check.specs.Kept.{AreWellFormed}
use Rattle.pg_check.proofs.history.History.held_to.Goals as goal

pub extend-requires-clause-well : goal.extend-requires-clause-well
extend-requires-clause-well c =
    let run : Recorded = c.args.self.now in
    let same : c.in_ok-header.header ≡ run.head = c.in_ok-header.ensures ∙ c.header.ensures.header in
    let head : c.in_ok-history.history.head ≡ with_rules run.head c.args.rules =
    ap (λ (r : Recorded). r.head) c.in_ok-history.ensures ∙ c.with_rules.ensures ∙ ap (λ (h : Head). with_rules h c.args.rules) same in
    subst (λ (h : Head). AreWellFormed h c.events.result.now) (sym head)
    (subst (λ (events : List Event). AreWellFormed (with_rules run.head c.args.rules) events) (sym c.events.ensures.events)
    (well_held run.head c.args.rules run.events c.events.ensures.well))
