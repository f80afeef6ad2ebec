use Rattle.std.proofs.Common.{◌≡◌, Option, List, Some, None, sym, ap, ◌∙◌}
use Rattle.std.specs.Prelude.{slice_get}
use Rattle.std.proofs.lemmas.Option.{slice_get_past, slice_get-get_or}
use Rattle.pg_event.specs.declared.control.Control.{Control}
use Rattle.pg_event.specs.declared.event.Event.{Event}
use Rattle.pg_event.specs.Heads.{Head}
use Rattle.pg_event.specs.Values.{control_at}
use Rattle.pg_event.specs.Witness.{takes_out}
use Rattle.pg_explain.specs.Drops.{must_drop}
use Rattle.pg_explain.proofs.dropped.is_dropped_at.Goals as goal

pub returns-in-Some : goal.returns-in-Some
returns-in-Some c =
    let head = c.args.history.now.head in
    let events = c.args.history.now.events in
    let j = c.args.number in
    let e = c.in-Some.event.now in
    let found = c.in-Some.ensures.lookup in
    let at : slice_get events j ≡ Some e = ap (λ (es : List Event). slice_get es j) (sym c.events.ensures.events) ∙ slice_get-get_or c.events.result.now j e (found.3.0) ∙ ap (λ (x : Event). Some x) (sym found.1) in
    c.takes_out.ensures
    ∙ ap (λ (h : Head). takes_out c.args.p (must_drop h.cfg.rules c.args.key) c.control_at.result (Some e)) (c.behind-history.view_is ∙ c.header.ensures.header)
    ∙ ap (λ (d : Control). takes_out c.args.p (must_drop head.cfg.rules c.args.key) d (Some e)) c.control_at.ensures.control
    ∙ ap (λ (o : Option Event). takes_out c.args.p (must_drop head.cfg.rules c.args.key) (control_at head events c.args.p j) o) (sym at)

pub returns-in-None : goal.returns-in-None
returns-in-None c =
    let head = c.args.history.now.head in
    let events = c.args.history.now.events in
    let j = c.args.number in
    let at : slice_get events j ≡ None = ap (λ (es : List Event). slice_get es j) (sym c.events.ensures.events) ∙ slice_get_past c.events.result.now j c.in-None.ensures.lookup.3 in
    ap (λ (o : Option Event). takes_out c.args.p (must_drop head.cfg.rules c.args.key) (control_at head events c.args.p j) o) (sym at)
