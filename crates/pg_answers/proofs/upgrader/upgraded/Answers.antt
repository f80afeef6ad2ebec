use Rattle.std.proofs.Common.{◌≡◌, List, None, sym, ap, subst, ◌∙◌}
use Rattle.std.specs.List.{AllByRecursion}
use Rattle.std.proofs.lemmas.Map.Entries.{entries_from_clone}
use Rattle.pg_event.specs.declared.event.Event.{Event}
use Rattle.pg_event.specs.Heads.{Head}
use Rattle.pg_event.specs.Form.{broken_rule}
use Rattle.pg_event.specs.Spelling.{Recorded}
use Rattle.pg_answers.proofs.Upgraded.{two, two_head, all_well, made_whole}
use Rattle.pg_answers.proofs.upgrader.upgraded.Goals as goal

pub extend-requires-clause-well : goal.extend-requires-clause-well
extend-requires-clause-well c =
    let old = c.args.history.now in
    let new = c.in_ok-new.new in
    let inside = c.header.inside in
    let seen : Head = record { version = inside.version; cfg = inside.cfg; segment = inside.segment; processors = inside.processors.items } in
    let copied = entries_from_clone _ _ (λ x y h. h) (λ x y h. h) inside.processors.items c.in_ok-clone.field-0.items c.in_ok-clone.ensures.cases.0 in
    let head : new.head ≡ two old.head = two_head old.head seen new.head c.in_ok-clone.field-0.items (c.header.view_is ∙ c.header-header.ensures.header) copied (ap (λ (r : Recorded). r.head) c.in_ok-new.ensures) in
    let events = c.events.ensures in
    let of_old : AllByRecursion (λ e. broken_rule (two old.head) e ≡ None) c.events.result.now =
    subst (λ (es : List Event). AllByRecursion (λ e. broken_rule (two old.head) e ≡ None) es) (sym events.events) (all_well old.head old.events events.well) in
    subst (λ (h : Head). AllByRecursion (λ e. broken_rule h e ≡ None) c.events.result.now) (sym head) of_old

pub returns : goal.returns
returns c =
    let old = c.args.history.now in
    let new = c.in_ok-new.new in
    let inside = c.header.inside in
    let seen : Head = record { version = inside.version; cfg = inside.cfg; segment = inside.segment; processors = inside.processors.items } in
    let copied = entries_from_clone _ _ (λ x y h. h) (λ x y h. h) inside.processors.items c.in_ok-clone.field-0.items c.in_ok-clone.ensures.cases.0 in
    let head : new.head ≡ two old.head = two_head old.head seen new.head c.in_ok-clone.field-0.items (c.header.view_is ∙ c.header-header.ensures.header) copied (ap (λ (r : Recorded). r.head) c.in_ok-new.ensures) in
    c.in_ok-extend.ensures.ok ∙ made_whole old new c.events.result.now head (ap (λ (r : Recorded). r.events) c.in_ok-new.ensures) c.events.ensures.events
