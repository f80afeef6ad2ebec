use Rattle.std.proofs.Common.{◌≡◌, ◌&&◌, Bool, true, List, Some, None, min, ap, sym, ◌∙◌, subst, arith}
use Rattle.pg_entry.specs.declared.Cfg.{Cfg}
use Rattle.pg_entry.specs.declared.Kind.TheVariants as kinds
use Rattle.pg_entry.specs.Kinds.{kind_of}
use Rattle.pg_check.proofs.Pages.{IsPaged, kind_paged}
use Rattle.pg_event.specs.declared.control.Control.{Control}
use Rattle.pg_event.specs.Heads.{Head}
use Rattle.pg_event.specs.Spelling.{Recorded}
use Rattle.pg_event.specs.Values.{control_at}
use Rattle.pg_event.specs.Wants.{uses_last}
use Rattle.pg_event.specs.Invalidation.{translation_key}
use Rattle.pg_event.specs.Witness.{translation_survives}
use Rattle.pg_search.specs.declared.lookup.Lookup.{Lookup}
use Rattle.pg_search.specs.Lasts.{IsEnd}
use Rattle.pg_timeline.specs.declared.timeline.Span.{Span}
use Rattle.pg_reach.specs.declared.walker.Walker.{Walker}
use Rattle.pg_reach.specs.Asking.{want_by}
use Rattle.pg_reach.specs.Reaching.{IsLastRead}
use Rattle.pg_reach.specs.Stays.{AreStays, IsLatest}
use Rattle.pg_reach.specs.Views.{Viewed}
use Rattle.pg_reach.specs.WitnessedUpTo.{IsLastUse, translation_lasts}
use Rattle.pg_reach.proofs.Spans.{last_read}
use Rattle.pg_reach.proofs.Used.{use_global, use_own}
use Rattle.pg_reach.proofs.view.View.last_use.Goals as goal
use Rattle.pg_reach.proofs.view.View.last_use.Goals.{After-translation_end, After-latest_of}

pub translation_end-requires : goal.translation_end-requires
translation_end-requires c = subst IsPaged (sym c.classify-kind.ensures.kind ∙ c.in-Leaf.is) (kind_paged c.behind-self.inside.cfg c.args.level c.args.entry.0)

-- what was read is a leaf
leaf_there : (c : After-translation_end) → kind_of c.args.self.now.run.head.cfg c.args.level c.args.entry.0 ≡ kinds.Leaf c.in-Leaf.frame c.in-Leaf.shift c.in-Leaf.global_bit
leaf_there c =
    let cfg : c.behind-self.inside.cfg ≡ c.args.self.now.run.head.cfg =
    ap (λ (h : Head). h.cfg) c.behind-self.view_is ∙ ap (λ (h : Head). h.cfg) c.header.ensures.header ∙ ap (λ (w : Viewed). w.run.head.cfg) c.self.view_is in
    ap (λ (g : Cfg). kind_of g c.args.level c.args.entry.0) (sym cfg) ∙ sym c.classify-kind.ensures.kind ∙ c.in-Leaf.is

-- a page is wanted
wants_page : (c : After-translation_end) → uses_last (want_by c.args.self.now.event) ≡ true
wants_page c = ap (λ (w : Viewed). uses_last (want_by w.event)) (sym c.self.view_is) ∙ ap uses_last (sym c.want_by.ensures) ∙ sym c.uses_last.ensures ∙ c.if-not-uses_last.false

-- up to when its translation survives
ends_there : (c : After-translation_end) → IsEnd (λ w. translation_lasts c.args.self.now.run c.args.self.now.walker c.in-Leaf.shift
    (c.in-Leaf.global_bit && (control_at c.args.self.now.run.head c.args.self.now.run.events c.args.self.now.walker.p c.args.read).pge) c.args.read w) c.args.read c.translation_end.result
ends_there c =
    let here : IsEnd (λ u. translation_lasts c.self.inside.seen.now c.self.inside.walker c.in-Leaf.shift c.is_global-global.result c.args.read u) c.args.read c.translation_end.result =
    subst (λ (k : Lookup). IsEnd (λ u. translation_survives c.self.inside.seen.now.head c.self.inside.seen.now.events k.p (translation_key k.pcid c.in-Leaf.shift c.is_global-global.result k.la) c.args.read u) c.args.read c.translation_end.result) c.lookup.ensures c.translation_end.ensures in
    let ends : IsEnd (λ u. translation_lasts c.args.self.now.run c.args.self.now.walker c.in-Leaf.shift c.is_global-global.result c.args.read u) c.args.read c.translation_end.result =
    subst (λ (w : Viewed). IsEnd (λ u. translation_lasts w.run w.walker c.in-Leaf.shift c.is_global-global.result c.args.read u) c.args.read c.translation_end.result) c.self.view_is here in
    subst (λ (g : Bool). IsEnd (λ u. translation_lasts c.args.self.now.run c.args.self.now.walker c.in-Leaf.shift g c.args.read u) c.args.read c.translation_end.result) c.is_global-global.ensures ends

-- the latest moment under the PCID, up to then
latest_there : (c : After-latest_of) → IsLastRead c.args.self.now.run c.args.self.now.walker c.args.read (min c.translation_end.result c.args.self.now.walker.number) c.latest_of.result
latest_there c =
    let view : Viewed = c.args.self.now in
    let number : c.self.inside.walker.number ≡ view.walker.number = ap (λ (w : Viewed). w.walker.number) c.self.view_is in
    let end : c.min-end.result ≡ min c.translation_end.result view.walker.number = c.min-end.ensures ∙ ap (min c.translation_end.result) number in
    let stays : AreStays view.run view.walker view.low c.self.inside.stays.items = subst (λ (w : Viewed). AreStays w.run w.walker w.low c.self.inside.stays.items) c.self.view_is c.self.invariant in
    let latest : IsLatest c.self.inside.stays.items c.args.read c.min-end.result c.latest_of.result = subst (λ (xs : List (Span Control)). IsLatest xs c.args.read c.min-end.result c.latest_of.result) c.deref.ensures.value c.latest_of.ensures in
    subst (λ to. IsLastRead view.run view.walker c.args.read to c.latest_of.result) end
    (last_read view.run view.walker view.low c.self.inside.stays.items c.args.read c.min-end.result c.latest_of.result stays c.requires.low (omega (arith, end)) latest)

pub returns-then-global-clause-last : goal.returns-then-global-clause-last
returns-then-global-clause-last c =
    let r : Recorded = c.args.self.now.run in
    let v : Walker = c.args.self.now.walker in
    let at : After-translation_end = (goal.at.returns-then-global-clause-last c).After-translation_end in
    let number : c.self.inside.walker.number ≡ v.number = ap (λ (w : Viewed). w.walker.number) c.self.view_is in
    let end : c.min-end.result ≡ min c.translation_end.result v.number = c.min-end.ensures ∙ ap (min c.translation_end.result) number in
    subst (λ k. IsLastUse r v c.args.self.now.event k c.args.read c.min-end.result) (sym (leaf_there at))
    (use_global r v c.args.self.now.event c.in-Leaf.frame c.in-Leaf.shift c.in-Leaf.global_bit c.args.read c.min-end.result c.translation_end.result (wants_page at) c.requires.order end (ends_there at) (sym c.is_global-global.ensures ∙ c.if-global.true) c.requires.small)

pub returns-in-Some-clause-last : goal.returns-in-Some-clause-last
returns-in-Some-clause-last c =
    let r : Recorded = c.args.self.now.run in
    let v : Walker = c.args.self.now.walker in
    let at : After-translation_end = (goal.at.returns-in-Some-clause-last c).After-translation_end in
    let read : IsLastRead r v c.args.read (min c.translation_end.result v.number) (Some c.in-Some.number) =
    subst (IsLastRead r v c.args.read (min c.translation_end.result v.number)) c.in-Some.is (latest_there (goal.at.returns-in-Some-clause-last c).After-latest_of) in
    subst (λ k. IsLastUse r v c.args.self.now.event k c.args.read c.in-Some.number) (sym (leaf_there at))
    (use_own r v c.args.self.now.event c.in-Leaf.frame c.in-Leaf.shift c.in-Leaf.global_bit c.args.read c.in-Some.number c.translation_end.result (wants_page at) (ends_there at) (sym c.is_global-global.ensures ∙ c.if-global.false) read c.requires.small)

pub returns-in-None-clause-last : goal.returns-in-None-clause-last
returns-in-None-clause-last c =
    let r : Recorded = c.args.self.now.run in
    let v : Walker = c.args.self.now.walker in
    let read : IsLastRead r v c.args.read (min c.translation_end.result v.number) None =
    subst (IsLastRead r v c.args.read (min c.translation_end.result v.number)) c.in-None.is (latest_there (goal.at.returns-in-None-clause-last c).After-latest_of) in
    absurd (read c.args.read (omega arith) (omega (arith, c.translation_end.ensures.order, c.requires.order)) c.requires.under)
