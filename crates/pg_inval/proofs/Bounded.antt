-- Up to which moment keys may have been dropped, as a run grows or is cut.
use Rattle.std.proofs.Common.{◌≡◌, ℕ, suc, zero, ◌+◌, ◌-◌, ◌<◌, ◌≤◌, Bool, true, false, not, cond, ◌&&◌, ◌||◌, nat_eq, nat_lt, List, [], ◌∷◌, ◌++◌, None, refl, ap, sym, subst, ◌∙◌, arith, inl, inr}
use Rattle.std.proofs.lemmas.List.Folds.{list_any-append}
use Rattle.std.proofs.lemmas.Bool.{cases_lt, cases_Bool, or_cases, and_parts, eqb-true, false≢true}
use Rattle.pg_timeline.specs.Timelines.{IsLeastFrom}
use Rattle.pg_inval.specs.declared.log.LogEntry.{LogEntry}
use Rattle.pg_inval.specs.declared.key.DropKey.{DropKey}
use Rattle.pg_event.specs.declared.keys.StructureKey.{StructureKey}
use Rattle.pg_event.specs.declared.keys.TranslationKey.{TranslationKey}
use Rattle.pg_event.specs.Witness.{any_from}
use Rattle.pg_inval.specs.declared.key.DropKey.TheVariants.{NotGlobal, Globals, StructuresOf, LocalsOf}
use Rattle.pg_inval.specs.Keys.{is_same_key, has_key, structure_at, global_at, local_at, structure_keys, translation_keys}
use Rattle.pg_inval.specs.SameKey.{same_key}
use Rattle.pg_inval.specs.Lists.{has_drop, has_among, has_between, cut_log}
use Rattle.pg_inval.specs.Lasts.{Bounds, MayHave, AreRaised, AreBounded}
use Rattle.pg_inval.proofs.AnyFrom.{neither}
use Rattle.pg_inval.proofs.Logs.{keys_at, has_drop-push, has_drop-cut}
use Rattle.pg_inval.proofs.Pushes.{has_key-more}

-- ---- keys one after another

pub AreRaised-none : (lasts : Bounds) (moment : ℕ) → AreRaised lasts lasts [] moment
AreRaised-none lasts moment = record {
  kept = λ k m may. may;
  raised = λ k has. absurd (false≢true has);
}

pub AreRaised-one : (old mid new : Bounds) (done : List DropKey) (key : DropKey) (moment : ℕ) → AreRaised old mid done moment →
    ((k : DropKey) (m : ℕ) → MayHave mid k m → MayHave new k m) → MayHave new key moment → AreRaised old new (done ++ key ∷ []) moment
AreRaised-one old mid new done key moment before kept own = record {
  kept = λ k m may. kept k m (before.kept k m may);
  raised = λ k has.
      elim (cases_Bool (has_key done k)) [
        | inl was ↦ kept k moment (before.raised k was)
        | inr fresh ↦
            let same : is_same_key key k ≡ true = ap (λ b. b || is_same_key key k) (sym fresh) ∙ sym (has_key-more done key k) ∙ has in
            subst (λ (q : DropKey). MayHave new q moment) (same_key key k same) own
      ];
}

pub AreRaised-two : (a b c : Bounds) (one two : List DropKey) (moment : ℕ) → AreRaised a b one moment → AreRaised b c two moment → AreRaised a c (one ++ two) moment
AreRaised-two a b c one two moment first second = record {
  kept = λ k m may. second.kept k m (first.kept k m may);
  raised = λ k has.
      elim (or_cases (has_key one k) (has_key two k) (sym (list_any-append (λ d. is_same_key d k) one two) ∙ has)) [
        | inl was ↦ second.kept k moment (first.raised k was)
        | inr own ↦ second.raised k own
      ];
}

pub AreRaised-own : (old new : Bounds) (key : DropKey) (moment : ℕ) → ((k : DropKey) (m : ℕ) → MayHave old k m → MayHave new k m) → MayHave new key moment → AreRaised old new (key ∷ []) moment
AreRaised-own old new key moment kept own = AreRaised-one old old new [] key moment (AreRaised-none old moment) kept own

-- ---- all keys

pub AreBounded-empty : (lasts : Bounds) → AreBounded lasts []
AreBounded-empty lasts = λ k m has. absurd (false≢true has)

pub AreBounded-pushed : (old new : Bounds) (log : List LogEntry) (e : LogEntry) → AreRaised old new (keys_at e) e.moment → AreBounded old log → AreBounded new (log ++ e ∷ [])
AreBounded-pushed old new log e raised bounded = λ k m has.
    let more : (has_drop log k m || (nat_eq e.moment m && has_key (keys_at e) k)) ≡ true = sym (has_drop-push log e k m) ∙ has in
    elim (cases_Bool (has_drop log k m)) [
      | inl was ↦ raised.kept k m (bounded k m was)
      | inr fresh ↦
          let parts = and_parts (nat_eq e.moment m) (has_key (keys_at e) k) (ap (λ b. b || (nat_eq e.moment m && has_key (keys_at e) k)) (sym fresh) ∙ more) in
          subst (λ (n : ℕ). MayHave new k n) (eqb-true e.moment m parts.0) (raised.raised k parts.1)
    ]

pub AreBounded-cut : (lasts : Bounds) (log : List LogEntry) (w : ℕ) → AreBounded lasts log → AreBounded lasts (cut_log w log)
AreBounded-cut lasts log w bounded = λ k m has.
    bounded k m (and_parts (has_drop log k m) (nat_lt m w) (sym (has_drop-cut log w k m) ∙ has)).0

-- ---- a key that has none

-- a number that lies below another even where it does not lies below it
pub below_or : (m from : ℕ) → (from ≤ m → m < from) → m < from
below_or m from h =
    elim (cases_lt m from) [
      | inl below ↦ below
      | inr above ↦ h above
    ]

pub none-over : (lasts : Bounds) (log : List LogEntry) (key : DropKey) (from : ℕ) → AreBounded lasts log → ((m : ℕ) → MayHave lasts key m → m < from) →
    IsLeastFrom (has_drop log key) from None
none-over lasts log key from bounded over = λ j le.
    elim (cases_Bool (has_drop log key j)) [
      | inl has ↦ let below : j < from = over j (bounded key j has) in absurd (omega (arith, le, below))
      | inr none ↦ none
    ]

-- ---- a translation whose keys have none

-- a test that no number from one on passes is passed in no window from there
nowhere : (test : ℕ → Bool) (from n : ℕ) → ((j : ℕ) → from ≤ j → test j ≡ false) → any_from test from n ≡ false
nowhere test from zero h = refl
nowhere test from (suc n) h = ap (λ b. b || any_from test (from + 1) n) (h from (omega arith)) ∙ nowhere test (from + 1) n (λ j le. h j (omega (arith, le)))

pub not_false : (x : Bool) → not x ≡ false → x ≡ true
not_false true h = refl
not_false false h = sym h

-- a key has no moment from one on, as far as its place tells
abbrev pub IsOver : Bounds → DropKey → ℕ → Type 0
IsOver lasts key from = (m : ℕ) → MayHave lasts key m → m < from

pub global-outlasts : (lasts : Bounds) (log : List LogEntry) (p : ℕ) (key : TranslationKey) (from to : ℕ) → AreBounded lasts log → key.global ≡ true →
    IsOver lasts (Globals p) from → IsOver lasts (global_at p key) from → has_between log (translation_keys p key) from to ≡ false
global-outlasts lasts log p key from to bounded e all own =
    ap (λ b. has_between log (cond b (Globals p ∷ global_at p key ∷ []) (NotGlobal p ∷ LocalsOf p key.pcid ∷ local_at p key ∷ [])) from to) e
    ∙ nowhere (has_among log (Globals p ∷ global_at p key ∷ [])) from (to - from)
    (λ j le. neither _ _ (none-over lasts log (Globals p) from bounded all j le)
    (neither _ false (none-over lasts log (global_at p key) from bounded own j le) refl))

pub local-outlasts : (lasts : Bounds) (log : List LogEntry) (p : ℕ) (key : TranslationKey) (from to : ℕ) → AreBounded lasts log → key.global ≡ false →
    IsOver lasts (NotGlobal p) from → IsOver lasts (LocalsOf p key.pcid) from → IsOver lasts (local_at p key) from →
    has_between log (translation_keys p key) from to ≡ false
local-outlasts lasts log p key from to bounded e all of_pcid own =
    ap (λ b. has_between log (cond b (Globals p ∷ global_at p key ∷ []) (NotGlobal p ∷ LocalsOf p key.pcid ∷ local_at p key ∷ [])) from to) e
    ∙ nowhere (has_among log (NotGlobal p ∷ LocalsOf p key.pcid ∷ local_at p key ∷ [])) from (to - from)
    (λ j le. neither _ _ (none-over lasts log (NotGlobal p) from bounded all j le)
    (neither _ _ (none-over lasts log (LocalsOf p key.pcid) from bounded of_pcid j le)
    (neither _ false (none-over lasts log (local_at p key) from bounded own j le) refl)))

pub structure-outlasts : (lasts : Bounds) (log : List LogEntry) (p : ℕ) (key : StructureKey) (from to : ℕ) → AreBounded lasts log →
    IsOver lasts (NotGlobal p) from → IsOver lasts (StructuresOf p key.pcid) from → IsOver lasts (structure_at p key) from →
    has_between log (structure_keys p key) from to ≡ false
structure-outlasts lasts log p key from to bounded all of_pcid own =
    nowhere (has_among log (structure_keys p key)) from (to - from)
    (λ j le. neither _ _ (none-over lasts log (NotGlobal p) from bounded all j le)
    (neither _ _ (none-over lasts log (StructuresOf p key.pcid) from bounded of_pcid j le)
    (neither _ false (none-over lasts log (structure_at p key) from bounded own j le) refl)))
