-- What is known of drops, as a run grows or is cut.
use Rattle.std.proofs.Common.{◌≡◌, ℕ, ◌+◌, ◌-◌, ◌<◌, Bool, true, false, not, ◌&&◌, ◌||◌, nat_lt, nat_le, nat_eq, min, List, [], ◌∷◌, ◌++◌, length, length-append, Option, Result, Ok, Err, refl, ap, sym, subst, ◌∙◌, arith, inl, inr}
use Rattle.std.specs.Result.{OnErr}
use Rattle.std.proofs.lemmas.Bool.{false≢true, and_from, eq-eqb}
use Rattle.pg_event.specs.declared.event.Event.{Event}
use Rattle.pg_entry.specs.declared.Rules.{Rules}
use Rattle.pg_entry.specs.declared.Level.TheVariants.{Two}
use Rattle.pg_event.specs.declared.invalidation.Invalidation.{Invalidation}
use Rattle.pg_event.specs.declared.invalidation.Invalidation.TheVariants.{Nothing, Address, Page, Pcid, Everything}
use Rattle.pg_event.specs.declared.control.Control.{Control}
use Rattle.pg_event.specs.declared.keys.StructureKey.{StructureKey}
use Rattle.pg_event.specs.declared.keys.TranslationKey.{TranslationKey}
use Rattle.pg_event.specs.Heads.{Head}
use Rattle.pg_event.specs.Form.{processor_of}
use Rattle.pg_event.specs.Values.{control_at}
use Rattle.pg_event.specs.Invalidation.{structure_key, translation_key, bits_from, must_drop_structure, must_drop_translation}
use Rattle.pg_event.specs.Meaning.{takes_structure, takes_translation, names_some}
use Rattle.pg_event.specs.Witness.{survives}
use Rattle.pg_inval.specs.declared.packed.Packed.{Packed}
use Rattle.pg_inval.specs.Keys.{dropped_keys}
use Rattle.pg_inval.specs.Packed.{invalidation_of}
use Rattle.pg_inval.specs.Lists.{Log, has_among, has_between, cut_log, IsFirstDrop}
use Rattle.pg_entry.specs.Kinds.{IsPageShift}
use Rattle.pg_inval.specs.Drops.{DropsNothing, CacheEntry, Structure, Translation, MayBeCached, must_drop, drops_between, keys_of, is_dropped, IsNoted, IsSame, IsCutAt, StandsFor}
use Rattle.pg_inval.proofs.AnyFrom.{any_from-same, any_from-none, any_from-more, any_from-below, within, IsFirstDrop-same}
use Rattle.pg_inval.proofs.Logs.{has_among-push, has_among-cut, has_among-none}
use Rattle.pg_inval.proofs.Table.{is_hit, takes, entry_table}
use Rattle.pg_inval.proofs.Windows.{is_taken, is_taken-survives, is_taken-none, is_taken-push, is_taken-cut}

pub shift-small : (shift : ℕ) → IsPageShift shift → shift < 64
shift-small shift (inl e) = omega arith
shift-small shift (inr (inl e)) = omega arith
shift-small shift (inr (inr e)) = omega arith

-- whether p had to drop an entry at a moment
abbrev is_dropped_at : Log → ℕ → CacheEntry → ℕ → Bool
is_dropped_at drops p entry j = has_among drops.entries (keys_of p entry) j

-- ---- one more event

together : (w a b : Bool) → (w && (a && b)) ≡ (w && a && b)
together true a b = refl
together false a b = refl

or_false : (b : Bool) → (b || false) ≡ b
or_false true = refl
or_false false = refl

never : (b : Bool) → (b && false) ≡ false
never true = refl
never false = refl

takes-must : (rules : Rules) (x : CacheEntry) (i : Invalidation) (c : Control) (e : Event) → ((key : StructureKey) → takes_structure i key ≡ must_drop_structure rules c e key) →
    ((key : TranslationKey) → takes_translation i key ≡ must_drop_translation rules c e key) → takes x i ≡ must_drop rules x c e
takes-must rules (Structure key) i c e structures translations = structures key
takes-must rules (Translation key) i c e structures translations = translations key

pub IsNoted-pushed : (rules : Rules) (old new : Log) (moment : ℕ) (e : Event) (before : Control) (q : ℕ) (i : Invalidation) (d : Packed) → invalidation_of d ≡ i → q ≡ processor_of e →
    ((key : StructureKey) → takes_structure i key ≡ must_drop_structure rules before e key) → ((key : TranslationKey) → takes_translation i key ≡ must_drop_translation rules before e key) →
    new.next ≡ moment + 1 → new.entries ≡ old.entries ++ record { moment = moment; p = q; packed = d } ∷ [] → IsNoted rules old new moment e before
IsNoted-pushed rules old new moment e before q i d same own structures translations next pushed = record {
  next = next;
  drops = λ p x from to cached.
      any_from-same (is_dropped_at new p x) (λ j. is_dropped_at old p x j || (nat_eq moment j && is_hit (dropped_keys q i) (keys_of p x))) from (to - from)
      (λ j. ap (λ es. has_among es (keys_of p x) j) pushed ∙ has_among-push old.entries (record { moment = moment; p = q; packed = d }) (keys_of p x) j
      ∙ ap (λ v. is_dropped_at old p x j || (nat_eq moment j && is_hit (dropped_keys q v) (keys_of p x))) same)
      ∙ any_from-more (is_dropped_at old p x) moment (is_hit (dropped_keys q i) (keys_of p x)) from to
      ∙ ap (λ b. is_dropped old p x from to || (within from to moment && b)) (entry_table i q p x cached)
      ∙ ap (λ b. is_dropped old p x from to || (within from to moment && (nat_eq q p && b))) (takes-must rules x i before e structures translations)
      ∙ ap (λ r. is_dropped old p x from to || (within from to moment && (nat_eq r p && must_drop rules x before e))) own
      ∙ ap (λ b. is_dropped old p x from to || b) (together (within from to moment) (nat_eq (processor_of e) p) (must_drop rules x before e));
}

-- an event that drops nothing has the invalidation that takes nothing
takes_something : (x : CacheEntry) (i : Invalidation) → ((y : CacheEntry) → takes y i ≡ false) → takes x i ≡ true → i ≡ Nothing
takes_something x i none some = absurd (false≢true (sym (none x) ∙ some))

-- each kind of entries that goes at an address has one that goes
own_structure : (pcid la : ℕ) (t g : Bool) → takes (Structure (structure_key pcid Two la)) (Address pcid la true t g) ≡ true
own_structure pcid la t g =
    and_from (nat_eq pcid pcid) (nat_eq (bits_from 21 la) (bits_from 21 la)) (eq-eqb pcid pcid refl) (eq-eqb (bits_from 21 la) (bits_from 21 la) refl)

own_translation : (pcid la : ℕ) (s g : Bool) → takes (Translation (translation_key pcid 12 false la)) (Address pcid la s true g) ≡ true
own_translation pcid la s g =
    and_from (nat_eq (bits_from 12 la) (bits_from 12 la)) (nat_eq pcid pcid) (eq-eqb (bits_from 12 la) (bits_from 12 la) refl) (eq-eqb pcid pcid refl)

own_global : (pcid la : ℕ) (s t : Bool) → takes (Translation (translation_key pcid 12 true la)) (Address pcid la s t true) ≡ true
own_global pcid la s t = and_from (nat_eq (bits_from 12 la) (bits_from 12 la)) true (eq-eqb (bits_from 12 la) (bits_from 12 la) refl) refl

takes_nothing : (i : Invalidation) → names_some i ≡ true → ((x : CacheEntry) → takes x i ≡ false) → i ≡ Nothing
takes_nothing Nothing some none = refl
takes_nothing (Address pcid la true t g) some none = takes_something (Structure (structure_key pcid Two la)) (Address pcid la true t g) none (own_structure pcid la t g)
takes_nothing (Address pcid la false true g) some none =
    takes_something (Translation (translation_key pcid 12 false la)) (Address pcid la false true g) none (own_translation pcid la false g)
takes_nothing (Address pcid la false false true) some none =
    takes_something (Translation (translation_key pcid 12 true la)) (Address pcid la false false true) none (own_global pcid la false false)
takes_nothing (Address pcid la false false false) some none = absurd (false≢true some)
takes_nothing (Page pcid la) some none = takes_something (Structure (structure_key pcid Two la)) (Page pcid la) none (eq-eqb pcid pcid refl)
takes_nothing (Pcid pcid) some none = takes_something (Structure (structure_key pcid Two 0)) (Pcid pcid) none (eq-eqb pcid pcid refl)
takes_nothing (Everything globals) some none = takes_something (Structure (structure_key 0 Two 0)) (Everything globals) none refl

pub DropsNothing-none : (rules : Rules) (i : Invalidation) (c : Control) (e : Event) → names_some i ≡ true → ((key : StructureKey) → takes_structure i key ≡ must_drop_structure rules c e key) →
    ((key : TranslationKey) → takes_translation i key ≡ must_drop_translation rules c e key) → DropsNothing rules c e → i ≡ Nothing
DropsNothing-none rules i c e some structures translations none = takes_nothing i some (λ x. takes-must rules x i c e structures translations ∙ none x)

drops_between-never : (rules : Rules) (m : ℕ) (e : Event) (c : Control) (p : ℕ) (x : CacheEntry) (from to : ℕ) → must_drop rules x c e ≡ false → drops_between rules m e c p x from to ≡ false
drops_between-never rules m e c p x from to h =
    ap (λ b. nat_le from m && nat_lt m to && nat_eq (processor_of e) p && b) h
    ∙ never (nat_le from m && nat_lt m to && nat_eq (processor_of e) p)

nothing_taken : (x : CacheEntry) → takes x Nothing ≡ false
nothing_taken (Structure key) = refl
nothing_taken (Translation key) = refl

pub IsNoted-nothing : (rules : Rules) (old new : Log) (moment : ℕ) (e : Event) (before : Control) →
    ((key : StructureKey) → takes_structure Nothing key ≡ must_drop_structure rules before e key) → ((key : TranslationKey) → takes_translation Nothing key ≡ must_drop_translation rules before e key) →
    new.next ≡ moment + 1 → new.entries ≡ old.entries → IsNoted rules old new moment e before
IsNoted-nothing rules old new moment e before structures translations next same = record {
  next = next;
  drops = λ p x from to _.
      ap (λ es. has_between es (keys_of p x) from to) same
      ∙ sym (or_false (is_dropped old p x from to))
      ∙ ap (λ b. is_dropped old p x from to || b) (sym (drops_between-never rules moment e before p x from to (sym (takes-must rules x Nothing before e structures translations) ∙ nothing_taken x)));
}

pub IsSame-refl : (d : Log) → IsSame d d
IsSame-refl d = record { next = refl; drops = λ p x from to _. refl }

-- ---- a cut

pub IsCutAt-cut : (old new : Log) (moment : ℕ) → new.next ≡ min old.next moment → new.entries ≡ cut_log moment old.entries → IsCutAt old new moment
IsCutAt-cut old new moment next cut = record {
  next = omega arith;
  drops = λ p x from to _.
      any_from-same (is_dropped_at new p x) (λ j. is_dropped_at old p x j && nat_lt j moment) from (to - from)
      (λ j. ap (λ es. has_among es (keys_of p x) j) cut ∙ has_among-cut old.entries moment (keys_of p x) j)
      ∙ any_from-below (is_dropped_at old p x) moment from to;
}

-- ---- a window

-- the first drop that is noted is the first of the run
pub IsFirstDrop-survives : (d : Log) (head : Head) (events : List Event) (p : ℕ) (x : CacheEntry) (from to : ℕ) (found : Option ℕ) → StandsFor d head events → MayBeCached x →
    IsFirstDrop (is_dropped d p x) from to found → IsFirstDrop (λ a b. not (survives head events p (must_drop head.cfg.rules x) a b)) from to found
IsFirstDrop-survives d head events p x from to found stands may first =
    IsFirstDrop-same (is_dropped d p x) (λ a b. not (survives head events p (must_drop head.cfg.rules x) a b)) from to found (λ a b. stands.drops p x a b may) first

-- ---- what drops stand for

pub StandsFor-start : (head : Head) → StandsFor (record { entries = []; next = 0 }) head []
StandsFor-start head = record {
  next = omega arith;
  drops = λ p x from to _.
      any_from-same (λ j. has_among [] (keys_of p x) j) (λ j. false) from (to - from) (has_among-none (keys_of p x))
      ∙ any_from-none from (to - from)
      ∙ is_taken-none head p (must_drop head.cfg.rules x) from to ∙ is_taken-survives head [] p (must_drop head.cfg.rules x) from to;
}

pub StandsFor-cut : (old new : Log) (head : Head) (before more : List Event) → StandsFor old head (before ++ more) → IsCutAt old new (length before) → StandsFor new head before
StandsFor-cut old new head before more stands cut = record {
  next = omega (arith, cut.next);
  drops = λ p x from to may.
      cut.drops p x from to may
      ∙ stands.drops p x from (min to (length before)) may
      ∙ sym (is_taken-survives head (before ++ more) p (must_drop head.cfg.rules x) from (min to (length before)))
      ∙ is_taken-cut head before more p (must_drop head.cfg.rules x) from to
      ∙ is_taken-survives head before p (must_drop head.cfg.rules x) from to;
}

pub StandsFor-noted : (rules : Rules) (old new : Log) (head : Head) (events : List Event) (moment : ℕ) (e : Event) (before : Control) → StandsFor old head events → rules ≡ head.cfg.rules → moment ≡ length events → before ≡ control_at head events (processor_of e) moment → IsNoted rules old new moment e before → StandsFor new head (events ++ e ∷ [])
StandsFor-noted rules old new head events moment e before stands held count read other =
    let noted : IsNoted head.cfg.rules old new moment e before = subst (λ (r : Rules). IsNoted r old new moment e before) held other in
    let more : length (events ++ e ∷ []) ≡ length events + 1 = length-append events (e ∷ []) in
    let n : ℕ = length events in
    let at : before ≡ control_at head events (processor_of e) n = read ∙ ap (control_at head events (processor_of e)) count in
    record {
      next = omega (arith, noted.next);
      drops = λ p x from to may.
          noted.drops p x from to may
          ∙ ap (λ b. b || drops_between head.cfg.rules moment e before p x from to) (stands.drops p x from to may)
          ∙ ap (λ b. b || drops_between head.cfg.rules moment e before p x from to) (sym (is_taken-survives head events p (must_drop head.cfg.rules x) from to))
          ∙ ap (λ k. is_taken head events p (must_drop head.cfg.rules x) from to || drops_between head.cfg.rules k e before p x from to) count
          ∙ ap (λ (c : Control). is_taken head events p (must_drop head.cfg.rules x) from to || drops_between head.cfg.rules n e c p x from to) at
          ∙ sym (is_taken-push head events e p (must_drop head.cfg.rules x) from to)
          ∙ is_taken-survives head (events ++ e ∷ []) p (must_drop head.cfg.rules x) from to;
    }

pub StandsFor-same : (old new : Log) (head : Head) (events : List Event) → StandsFor old head events → IsSame old new → StandsFor new head events
StandsFor-same old new head events stands same = record {
  next = omega (arith, stands.next, same.next);
  drops = λ p x from to may. same.drops p x from to may ∙ stands.drops p x from to may;
}

-- an event that drops nothing
pub StandsFor-other : (d : Log) (head : Head) (events : List Event) (e : Event) → StandsFor d head events → ((c : Control) → DropsNothing head.cfg.rules c e) → StandsFor d head (events ++ e ∷ [])
StandsFor-other d head events e stands none =
    let more : length (events ++ e ∷ []) ≡ length events + 1 = length-append events (e ∷ []) in
    let n : ℕ = length events in
    let c : Control = control_at head events (processor_of e) n in
    record {
      next = omega (arith, stands.next);
      drops = λ p x from to may.
          stands.drops p x from to may
          ∙ sym (is_taken-survives head events p (must_drop head.cfg.rules x) from to)
          ∙ sym (or_false (is_taken head events p (must_drop head.cfg.rules x) from to))
          ∙ ap (λ b. is_taken head events p (must_drop head.cfg.rules x) from to || b) (sym (drops_between-never head.cfg.rules n e c p x from to (none c x)))
          ∙ sym (is_taken-push head events e p (must_drop head.cfg.rules x) from to)
          ∙ is_taken-survives head (events ++ e ∷ []) p (must_drop head.cfg.rules x) from to;
    }

pub OnErr-holds : {T E Q : Type 0} (r : Result T E) → Q → OnErr r Q
OnErr-holds (Ok x) q = tt
OnErr-holds (Err e) q = q
