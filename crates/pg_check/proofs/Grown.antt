-- Walks that were kept stay right as events are added to their run.
use Rattle.std.proofs.Common.{◌≡◌, ℕ, ◌≤◌, List, [], ◌∷◌, ◌++◌, length, Option, Some, None, Result, Ok, Err, OnOk, OnErr, sym, subst, ◌∙◌, arith}
use Rattle.pg_event.specs.declared.event.Event.{Event}
use Rattle.pg_event.specs.declared.event.Want.TheVariants as wants
use Rattle.pg_event.specs.Heads.{Head}
use Rattle.pg_entry.specs.Kinds.{kind_of}
use Rattle.pg_chain.specs.declared.past.Past.{Past}
use Rattle.pg_chain.specs.Standing.{IsPast}
use Rattle.pg_chain.specs.Walked.{chain_of}
use Rattle.pg_check.specs.declared.memo.Slot.{Slot}
use Rattle.pg_check.specs.Lasting.{IsLasting}
use Rattle.pg_check.specs.Remembered.{HasWalk, HaveWalks, IsWithin, IsLeaf, walk_in}
use Rattle.pg_check.proofs.Alike.{AreAlike, alike-next, alike-past, alike-longer, same-head, alike_chain, alike_lasts, in_order-later}
use Rattle.pg_check.proofs.Pages.{kind_paged}

-- what a slot says of a run
abbrev pub Says : Slot → Head → List Event → Type 0
Says s head events = (chain_of head events s.p s.page s.moments wants.Leaf ≡ Ok (walk_in s).chain) × IsLasting head events s.p s.page (walk_in s)

pub says_alike : (n : ℕ) (head : Head) (xs ys : List Event) (s : Slot) → AreAlike n head xs ys → IsWithin n s → Says s head xs → Says s head ys
says_alike n head xs ys s alike within says = (
  sym (alike_chain n head xs ys s.p s.page s.moments wants.Leaf alike within.ordered within.few) ∙ says.0,
  alike_lasts n head xs ys s.p s.page (walk_in s) (kind_of head.cfg s.level s.value) alike within.read within.asked (kind_paged head.cfg s.level s.value) says.1,
)

-- a slot that is right of a run is right of each that reads alike
walk_stays : (old new : Past) (n : ℕ) (head : Head) (xs ys : List Event) (slot : Option Slot) → IsPast old head xs → IsPast new head ys → AreAlike n head xs ys → HasWalk old n slot → HasWalk new n slot
walk_stays old new n head xs ys None was is alike has = tt
walk_stays old new n head xs ys (Some s) was is alike has = (
  has.0,
  λ other events stands.
      let same : head ≡ other = same-head new head other ys events is stands in
      let here : IsPast new head events = subst (λ (h : Head). IsPast new h events) (sym same) stands in
      subst (λ (h : Head). Says s h events) same
      (says_alike n head xs events s (alike-next n head xs ys events alike (alike-past new n head ys events is here)) has.0 (has.1 head xs was)),
  λ other events stands. subst (λ (h : Head). IsLeaf h s) (same-head new head other ys events is stands) (has.2 head xs was),
)

walks_stay : (old new : Past) (n : ℕ) (head : Head) (xs ys : List Event) (slots : List (Option Slot)) → IsPast old head xs → IsPast new head ys → AreAlike n head xs ys → HaveWalks old n slots → HaveWalks new n slots
walks_stay old new n head xs ys [] was is alike have = tt
walks_stay old new n head xs ys (s ∷ ss) was is alike have = (walk_stays old new n head xs ys s was is alike have.0, walks_stay old new n head xs ys ss was is alike have.1)

-- events were noted, or none of them was
pub walks_noted : {E : Type 0} (r : Result (Unit {0}) E) (old new : Past) (n : ℕ) (head : Head) (before more : List Event) (slots : List (Option Slot)) → n ≤ length before → IsPast old head before →
    OnOk r (IsPast new head (before ++ more)) → OnErr r (IsPast new head before) → HaveWalks old n slots → HaveWalks new n slots
walks_noted (Ok x) old new n head before more slots within was noted refused have = walks_stay old new n head before (before ++ more) slots was noted (alike-longer n head before more within) have
walks_noted (Err e) old new n head before more slots within was noted refused have = walks_stay old new n head before before slots was refused (alike-past new n head before before refused refused) have

-- what rests on so many events rests on more of them
pub within_later : (n m : ℕ) (s : Slot) → n ≤ m → IsWithin n s → IsWithin m s
within_later n m s le within =
    let read : s.moment ≤ n = within.read in
    let asked : s.asked ≤ n = within.asked in
    record {
      few = within.few;
      ordered = in_order-later s.moments n m le within.ordered;
      read = omega (arith, le, read);
      asked = omega (arith, le, asked);
      shift = within.shift;
    }

walk_later : (past : Past) (n m : ℕ) (slot : Option Slot) → n ≤ m → HasWalk past n slot → HasWalk past m slot
walk_later past n m None le has = tt
walk_later past n m (Some s) le has = (within_later n m s le has.0, has.1, has.2)

pub walks_later : (past : Past) (n m : ℕ) (slots : List (Option Slot)) → n ≤ m → HaveWalks past n slots → HaveWalks past m slots
walks_later past n m [] le have = tt
walks_later past n m (s ∷ ss) le have = (walk_later past n m s le have.0, walks_later past n m ss le have.1)
