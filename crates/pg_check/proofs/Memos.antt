-- What a slot of a memo says of the walk that it names.
use Rattle.std.proofs.Common.{◌≡◌, ℕ, suc, zero, ◌-◌, ◌<◌, ◌≤◌, Bool, true, false, cond, ◌&&◌, nat_eq, List, [], ◌∷◌, ◌++◌, length, take, get_or, set, Option, Some, None, Ok, ap, sym, subst, ◌∙◌, arith}
use Rattle.std.specs.Cmp.Lexicographic.{pointwise, same_text}
use Rattle.std.proofs.Math.Seq.{take-append_seam}
use Rattle.std.proofs.lemmas.Bool.{and_parts, eqb-true}
use Rattle.pg_event.specs.declared.event.Event.{Event}
use Rattle.pg_event.specs.declared.event.Want.TheVariants as wants
use Rattle.pg_event.specs.Heads.{Head}
use Rattle.pg_chain.specs.declared.past.Past.{Past}
use Rattle.pg_chain.specs.Standing.{IsPast}
use Rattle.pg_check.specs.declared.memo.Slot.{Slot}
use Rattle.pg_check.specs.declared.lasting.Lasting.{Lasting}
use Rattle.pg_entry.specs.declared.Cfg.{Cfg}
use Rattle.pg_entry.specs.declared.Kind.{Kind}
use Rattle.pg_entry.specs.declared.Kind.TheVariants.{Leaf}
use Rattle.pg_entry.specs.Kinds.{kind_of}
use Rattle.pg_event.specs.Invalidation.{translation_key}
use Rattle.pg_event.specs.Witness.{translation_survives}
use Rattle.pg_chain.specs.declared.steps.Chain.{Chain}
use Rattle.pg_check.specs.Lasting.{IsLasting, IsWalk, LastsTo}
use Rattle.pg_check.specs.Remembered.{HasWalk, HaveWalks, IsWithin, IsLeaf, frame_in, walk_in, lasting_to}
use Rattle.pg_check.proofs.Frames.{framed}
use Rattle.pg_check.proofs.Lastings.{drops_at, lasts_on}

-- what holds of each slot holds of the one at a place
pub slot_at : (past : Past) (n : ℕ) (slots : List (Option Slot)) (i : ℕ) (d : Option Slot) → HaveWalks past n slots → i < length slots → HasWalk past n (get_or slots i d)
slot_at past n [] i d all h = absurd (omega arith)
slot_at past n (x ∷ xs) zero d all h = all.0
slot_at past n (x ∷ xs) (suc i) d all h = slot_at past n xs i d all.1 (omega arith)

-- a slot says what the walk comes to that it names
pub walk_of_slot : (past : Past) (n : ℕ) (s : Slot) (p page : ℕ) (ws : List ℕ) → HasWalk past n (Some s) → (s.p ≡ p) × (s.page ≡ page) × (s.moments ≡ ws) →
    (head : Head) (events : List Event) → IsPast past head events → IsWalk head events p page wants.Leaf ws (Ok (walk_in s))
walk_of_slot past n s p page ws has same head events h =
    subst (λ q. IsWalk head events q page wants.Leaf ws (Ok (walk_in s))) same.0
    (subst (λ la. IsWalk head events s.p la wants.Leaf ws (Ok (walk_in s))) same.1
    (subst (λ vs. IsWalk head events s.p s.page wants.Leaf vs (Ok (walk_in s))) same.2 (has.1 head events h)))

-- a slot may be written at any place
pub slots_kept : (past : Past) (n : ℕ) (slots : List (Option Slot)) (i : ℕ) (s : Option Slot) → HaveWalks past n slots → HasWalk past n s → HaveWalks past n (set slots i s)
slots_kept past n [] i s all has = all
slots_kept past n (x ∷ xs) zero s all has = (has, all.1)
slots_kept past n (x ∷ xs) (suc i) s all has = (all.0, slots_kept past n xs i s all.1 has)

-- a slot that is made of a walk to a leaf has it
pub made_slot : (past : Past) (n : ℕ) (s : Slot) (p page : ℕ) (ws : List ℕ) (walk : Lasting) (cfg : Cfg) (frame shift : ℕ) (global_bit : Bool) →
    (s.p ≡ p) × (s.page ≡ page) × (s.moments ≡ ws) → s.shift ≡ shift → (walk_in s).chain ≡ walk.chain →
    ((head : Head) (events : List Event) → IsLasting head events p page walk → IsLasting head events p page (walk_in s)) → IsWithin n s →
    ((head : Head) (events : List Event) → IsPast past head events → IsWalk head events p page wants.Leaf ws (Ok walk)) →
    (36 ≤ cfg.m) × (cfg.m ≤ 52) → ((head : Head) (events : List Event) → IsPast past head events → cfg ≡ head.cfg) →
    kind_of cfg walk.chain.end.level walk.chain.end.value ≡ Leaf frame shift global_bit → HasWalk past n (Some s)
made_slot past n s p page ws walk cfg frame shift global_bit same leaf chain lasting within is range own kind = (
  within,
  (λ head events h.
      let was = is head events h in
      let now : IsWalk head events p page wants.Leaf ws (Ok (walk_in s)) = (was.0 ∙ ap (λ (x : Chain). Ok x) (sym chain), lasting head events was.1) in
      subst (λ q. IsWalk head events q s.page wants.Leaf s.moments (Ok (walk_in s))) (sym same.0)
      (subst (λ la. IsWalk head events p la wants.Leaf s.moments (Ok (walk_in s))) (sym same.1)
      (subst (λ vs. IsWalk head events p page wants.Leaf vs (Ok (walk_in s))) (sym same.2) now))),
  λ head events h. record {
    global_bit = global_bit;
    kind = sym (ap (λ (x : Cfg). kind_of x s.level s.value) (own head events h))
        ∙ framed cfg s.level s.value frame s.shift global_bit range
        (ap (λ (x : Chain). kind_of cfg x.end.level x.end.value) chain ∙ kind ∙ ap (λ n. Leaf frame n global_bit) (sym leaf));
  },
)

-- the walk of a slot lasts on to a number, where nothing drops its translation up to there
pub lasts_to : (past : Past) (n : ℕ) (s : Slot) (number : ℕ) → HasWalk past n (Some s) → s.dropped ≡ false → (head : Head) (events : List Event) → IsPast past head events →
    translation_survives head events s.p (translation_key s.pcid s.shift s.global s.page) s.asked number ≡ true →
    IsWalk head events s.p s.page wants.Leaf s.moments (Ok (lasting_to number s))
lasts_to past n s number has stays head events h stands =
    let is = has.1 head events h in
    let leaf : IsLeaf head s = has.2 head events h in
    let none : (walk_in s).dropped ≡ None = ap (λ (b : Bool). cond b (Some (s.asked - 1)) None) stays in
    let was : LastsTo head events s.p s.page (walk_in s) (Leaf (frame_in s) s.shift leaf.global_bit) = subst (λ (k : Kind). LastsTo head events s.p s.page (walk_in s) k) leaf.kind is.1 in (
      is.0,
      subst (λ (k : Kind). LastsTo head events s.p s.page (lasting_to number s) k) (sym leaf.kind)
          (was.0, lasts_on (drops_at head events s.p (translation_key s.pcid s.shift s.global s.page)) s.moment s.asked number (walk_in s).dropped none was.1 stands),
    )

-- moments that are the same as they are kept, with noughts behind them, are the same
pub same_moments : (xs ys us vs : List ℕ) → (nat_eq (length xs) (length ys) && pointwise nat_eq (xs ++ us) (ys ++ vs)) ≡ true → xs ≡ ys
same_moments xs ys us vs h =
    let parts = and_parts (nat_eq (length xs) (length ys)) (pointwise nat_eq (xs ++ us) (ys ++ vs)) h in
    sym (take-append_seam xs us)
    ∙ ap (take (length xs)) (same_text (xs ++ us) (ys ++ vs) (sym parts.1))
    ∙ ap (λ n. take n (ys ++ vs)) (eqb-true (length xs) (length ys) parts.0)
    ∙ take-append_seam ys vs
