use Rattle.std.proofs.Common.{◌≡◌, ℕ, List, take, get_or, ap, ◌∙◌, sym, subst}
use Rattle.std.proofs.lemmas.List.{take_more, take_all}
use Rattle.pg_event.specs.declared.control.Control.{Control}
use Rattle.pg_event.specs.declared.walk.Parent.{Parent}
use Rattle.pg_event.specs.Walk.{root_of}
use Rattle.pg_timeline.specs.declared.timeline.Span.{Span}
use Rattle.pg_reach.specs.declared.reach.Reach.{Reach}
use Rattle.std.specs.List.{All}
use Rattle.std.proofs.lemmas.List.Elements.{All-get_or}
use Rattle.pg_reach.specs.Stays.{IsStay, AreStays}
use Rattle.pg_reach.specs.Views.{Viewed}
use Rattle.pg_reach.specs.Reaching.{IsAdded, root_reach, AreRootsOf}
use Rattle.pg_reach.proofs.Spans.{no_span}
use Rattle.pg_reach.proofs.Levels.{roots_more, roots_all}
use Rattle.pg_reach.proofs.view.View.roots.Goals as goal

abbrev reach_by : Span Control → Parent → List ℕ → Reach
reach_by s table latest = record { from = s.from; to = s.to; table = table; latest = latest }

pub loop-stay-preserved : goal.loop-stay-preserved
loop-stay-preserved c =
    let view : Viewed = c.args.self.now in
    let own : List (Span Control) = c.self.inside.stays.items in
    let stays : AreStays view.run view.walker view.low own = subst (λ (v : Viewed). AreStays v.run v.walker v.low own) c.self.view_is c.self.invariant in
    let xs : List (Span Control) = c.deref-stay-items.result.now in
    let i : ℕ = c.loop-stay.stay-index in
    let s : Span Control = get_or xs i no_span in
    let all : All (IsStay view.run view.walker) xs = subst (All (IsStay view.run view.walker)) (sym c.deref-stay-items.ensures.value) stays.each in
    let stay : IsStay view.run view.walker s = All-get_or (IsStay view.run view.walker) xs i no_span c.loop-stay-test.true all in
    let freshest : c.self.inside.walker.freshest ≡ view.walker.freshest = ap (λ (v : Viewed). v.walker.freshest) c.self.view_is in
    let added : IsAdded view.walker.freshest c.loop-stay.roots c.add.new.self (root_reach s) = subst (λ f. IsAdded f c.loop-stay.roots c.add.new.self (root_reach s)) freshest
    (subst (IsAdded c.self.inside.walker.freshest c.loop-stay.roots c.add.new.self) (ap (λ (t : Parent). reach_by s t c.first.result) c.root_of.ensures ∙ ap (reach_by s (root_of s.value)) c.first.ensures) c.in_ok-add.ensures) in
    subst (λ (ys : List (Span Control)). AreRootsOf view.run view.walker ys c.add.new.self) (sym (take_more xs i no_span c.loop-stay-test.true)) (roots_more view.run view.walker (take i xs) s c.loop-stay.roots c.add.new.self stay c.loop-stay.invariant added)

pub returns : goal.returns
returns c =
    let view : Viewed = c.args.self.now in
    let stays : AreStays view.run view.walker view.low c.self.inside.stays.items = subst (λ (v : Viewed). AreStays v.run v.walker v.low c.self.inside.stays.items) c.self.view_is c.self.invariant in
    let own : AreRootsOf view.run view.walker c.self.inside.stays.items c.loop-stay.roots = subst (λ (ys : List (Span Control)). AreRootsOf view.run view.walker ys c.loop-stay.roots) (take_all c.loop-stay.stay-index c.deref-stay-items.result.now c.loop-stay-test.false ∙ c.deref-stay-items.ensures.value) c.loop-stay.invariant in
    roots_all view.run view.walker view.low c.self.inside.stays.items c.loop-stay.roots stays own
