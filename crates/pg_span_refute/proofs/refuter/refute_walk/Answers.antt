use Rattle.std.proofs.Common.{◌≡◌, ◌+◌, ◌<◌, ◌≤◌, ◌^◌, ℕ, [], List, length, get_or, max, refl, sym, ap, subst, ◌∙◌, arith, Some, Result, Ok, Err, Bool}
use Rattle.std.specs.Prelude.{IfOk, IsTrue, slice_get}
use Rattle.std.proofs.lemmas.Option.{slice_get-get_or}
use Rattle.pg_entry.specs.declared.Rules.{Rules}
use Rattle.pg_event.specs.declared.control.Control.{Control}
use Rattle.pg_event.specs.declared.event.Event.{Event}
use Rattle.pg_event.specs.Form.{processor_of}
use Rattle.pg_event.specs.Heads.{Head}
use Rattle.pg_event.specs.Values.{controlled, started}
use Rattle.pg_machine.proofs.Bounds.{root-controlled}
use Rattle.pg_span_run.specs.Orders.{Spanned, ended_before}
use Rattle.pg_span_refute.specs.declared.caches.Caches.{Caches}
use Rattle.pg_span_refute.specs.declared.words.Words.{Words}
use Rattle.pg_span_refute.specs.Caches.{Known, Grows, IsLeft, IsNotGiven, known_of}
use Rattle.pg_span_refute.specs.Witness.{HasNoWitness, MayHaveCached}
use Rattle.pg_span_refute.specs.Words.{AreWordsOf}
use Rattle.pg_span_refute.proofs.Witness.{at_start, on, over, none_at}
use Rattle.pg_span_refute.proofs.refuter.refute_walk.Goals as goal
use Rattle.pg_span_refute.proofs.refuter.refute_walk.Goals.{then-processor_of-p+in_ok-fill+else-not-branch, else-processor_of-p}

if_ok : {E : Type 0} (P Q : Bool → Type 0) → ((b : Bool) → P b → Q b) → (r : Result Bool E) → IfOk r P → IfOk r Q
if_ok P Q f (Ok b) h = f b h
if_ok P Q f (Err e) h = tt

pub loop-next-init : goal.loop-next-init
loop-next-init c =
    let s : Spanned = c.args.run.now in
    let p : ℕ = c.args.walk.p in
    let empty : Control → Known = λ d. record { control = d; tables = []; translations = [] } in
    let control : c.started.result ≡ started s.head.cfg.m (slice_get s.head.processors p) = c.started.ensures.value in
    record {
      words = subst (AreWordsOf s.events) (sym c.may_look.ensures) c.requires.words;
      root = subst (λ (k : Known). k.control.root < 2 ^ 52) (sym c.new-caches.ensures) c.started.ensures.within;
      may = subst (MayHaveCached s c.args.edges.now p c.args.walk.la 0 0) (sym (c.new-caches.ensures ∙ ap empty control)) (at_start s c.args.edges.now p c.args.walk.la);
    }

pub loop-next-preserved : goal.loop-next-preserved
loop-next-preserved c =
    let s : Spanned = c.args.run.now in
    let p : ℕ = c.args.walk.p in
    let la : ℕ = c.args.walk.la in
    let n : ℕ = c.loop-next.next in
    let e : Event = c.index-events-next.result in
    let within : n < length s.events = omega (arith, c.loop-next-test.true, c.requires.count) in
    let there : slice_get s.events n ≡ Some e =
    slice_get-get_or s.events n e within ∙ ap Some (sym (c.index-events-next.is ∙ ap (λ (xs : List Event). get_or xs n e) c.events-events.ensures.events)) in
    let m : c.header.inside.cfg.m ≡ s.head.cfg.m = ap (λ (h : Head). h.cfg.m) (c.header.view_is ∙ c.header-header.ensures.header) in
    let held : c.header.inside.cfg.rules ≡ s.head.cfg.rules = ap (λ (h : Head). h.cfg.rules) (c.header.view_is ∙ c.header-header.ensures.header) in
    let low : 36 ≤ s.head.cfg.m = c.header-header.ensures.head.low in
    let high : s.head.cfg.m ≤ 52 = c.header-header.ensures.head.high in
    elim c.if-processor_of-p.branch [
      | then-processor_of-p+in_ok-fill+else-not-branch w ↦
          let mine : processor_of e ≡ p = sym c.processor_of.ensures ∙ w.if-processor_of-p.true in
          let before : Known = known_of c.loop-next.caches in
          let filled : Known = known_of w.fill.new.self in
          let left : Known = known_of w.pass.new.self in
          let grows : Grows before filled = w.in_ok-fill.ensures.grows w.if-not-branch.false in
          let control : left.control ≡ controlled s.head.cfg.m (processor_of e) filled.control e = w.pass.ensures.control ∙ ap (λ (k : ℕ). controlled k (processor_of e) filled.control e) m in
          let later : w.max-ended.result ≡ max c.loop-next.ended (ended_before s n) = w.max-ended.ensures ∙ ap (max c.loop-next.ended) w.ended_before.ensures.count in
          let root : left.control.root < 2 ^ 52 =
          subst (λ (d : Control). d.root < 2 ^ 52) (sym control)
          (root-controlled s.head.cfg.m (processor_of e) filled.control e (omega (arith, low)) high (subst (λ (d : Control). d.root < 2 ^ 52) (sym grows.control) c.loop-next.invariant.root)) in
          let later_on : MayHaveCached s c.args.edges.now p la (n + 1) w.max-ended.result left =
          on s la filled _ (w.in_ok-fill.ensures.filled w.if-not-branch.false) w.max-ended.result e before left there mine c.loop-next.invariant.may grows
          (subst (λ (r : Rules). IsLeft r la e filled left) held w.pass.ensures.left) control later in
          record {
            words = subst (λ (v : Words). AreWordsOf s.events v.words.items) (sym w.words-is) w.in_ok-fill.ensures.words;
            root = subst (λ (v : Caches). v.control.root < 2 ^ 52) (sym w.caches-is) root;
            may = subst (λ (v : Caches). MayHaveCached s c.args.edges.now p la (n + 1) c.if-processor_of-p.ended (known_of v)) (sym w.caches-is)
                (subst (λ (k : ℕ). MayHaveCached s c.args.edges.now p la (n + 1) k left) (sym w.ended-is) later_on);
          }
      | else-processor_of-p w ↦
          let later_on : MayHaveCached s c.args.edges.now p la (n + 1) c.loop-next.ended (known_of c.loop-next.caches) =
          over s c.args.edges.now p la n c.loop-next.ended e (known_of c.loop-next.caches) there (λ h. w.if-processor_of-p.false (c.processor_of.ensures ∙ h)) c.loop-next.invariant.may in
          record {
            words = subst (λ (v : Words). AreWordsOf s.events v.words.items) (sym w.words-is) c.loop-next.invariant.words;
            root = subst (λ (v : Caches). v.control.root < 2 ^ 52) (sym w.caches-is) c.loop-next.invariant.root;
            may = subst (λ (v : Caches). MayHaveCached s c.args.edges.now p la (n + 1) c.if-processor_of-p.ended (known_of v)) (sym w.caches-is)
                (subst (λ (k : ℕ). MayHaveCached s c.args.edges.now p la (n + 1) k (known_of c.loop-next.caches)) (sym w.ended-is) later_on);
          }
    ]

pub returns-clause-none : goal.returns-clause-none
returns-clause-none c =
    let s : Spanned = c.args.run.now in
    let p : ℕ = c.args.walk.p in
    let la : ℕ = c.args.walk.la in
    let i : ℕ = c.args.walk.number in
    let end : c.loop-next.next ≡ i = omega (arith, c.loop-next-test.false, c.loop-next.auto.next-end) in
    let before : Known = known_of c.loop-next.caches in
    let filled : Known = known_of c.fill-2.new.self in
    let later : c.max.result ≡ max c.loop-next.ended (ended_before s i) = c.max.ensures ∙ ap (max c.loop-next.ended) c.ended_before-2.ensures.count in
    let yes_means : (b : Bool) → (IsTrue b → IsNotGiven s _ la filled c.args.asked.now) → IsTrue b → HasNoWitness s c.args.edges.now i =
    λ b h is_true. none_at s la filled _ (c.in_ok-fill-2.ensures.filled c.if-not-branch-2.false) c.args.asked.now _ (h is_true) refl refl refl before c.requires.there c.requires.own c.requires.names
    (subst (λ (k : ℕ). MayHaveCached s c.args.edges.now p la k c.loop-next.ended before) end c.loop-next.invariant.may)
    (c.in_ok-fill-2.ensures.grows c.if-not-branch-2.false) later in
    if_ok _ (λ refuted. IsTrue refuted → HasNoWitness s c.args.edges.now i) yes_means c.is_not_given.result c.is_not_given.ensures.cannot
