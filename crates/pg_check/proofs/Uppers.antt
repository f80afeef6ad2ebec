-- Upper parts of walks that were kept stay right, and what they come to with one moment more.
use Rattle.std.proofs.Common.{◌≡◌, refl, ℕ, suc, zero, ◌<◌, ◌≤◌, true, nat_le, ◌&&◌, List, [], ◌∷◌, ◌++◌, length, get_or, set, Option, Some, None, Result, Ok, Err, OnOk, OnErr, sym, ap, subst, ◌∙◌, arith}
use Rattle.std.proofs.lemmas.Bool.{and_parts, le-leb}
use Rattle.pg_event.specs.declared.event.Event.{Event}
use Rattle.pg_event.specs.declared.event.Want.TheVariants as wants
use Rattle.pg_event.specs.Heads.{Head}
use Rattle.pg_event.specs.Witness.{is_in_order}
use Rattle.pg_chain.specs.declared.past.Past.{Past}
use Rattle.pg_chain.specs.declared.steps.Chain.{Chain}
use Rattle.pg_chain.specs.Standing.{IsPast}
use Rattle.pg_chain.specs.Walked.{chain_of}
use Rattle.pg_check.specs.declared.stems.Stem.{Stem}
use Rattle.pg_check.specs.Remembered.{page_bits, page_start}
use Rattle.pg_check.specs.Stems.{IsStem, HasStem, HaveStems}
use Rattle.pg_check.proofs.Alike.{AreAlike, alike-next, alike-past, alike-longer, same-head, alike_chain, in_order-later}
use Rattle.pg_check.proofs.Pages.{chain_of_page}

-- what holds of each holds of the one at a place
pub stem_at : (past : Past) (n : ℕ) (stems : List (Option Stem)) (i : ℕ) (d : Option Stem) → HaveStems past n stems → i < length stems → HasStem past n (get_or stems i d)
stem_at past n [] i d all h = absurd (omega arith)
stem_at past n (x ∷ xs) zero d all h = all.0
stem_at past n (x ∷ xs) (suc i) d all h = stem_at past n xs i d all.1 (omega arith)

-- one may be written at any place
pub stems_kept : (past : Past) (n : ℕ) (stems : List (Option Stem)) (i : ℕ) (s : Option Stem) → HaveStems past n stems → HasStem past n s → HaveStems past n (set stems i s)
stems_kept past n [] i s all has = all
stems_kept past n (x ∷ xs) zero s all has = (has, all.1)
stems_kept past n (x ∷ xs) (suc i) s all has = (all.0, stems_kept past n xs i s all.1 has)

-- one that is right of a run is right of each that reads alike
stem_stays : (old new : Past) (n : ℕ) (head : Head) (xs ys : List Event) (stem : Option Stem) → IsPast old head xs → IsPast new head ys → AreAlike n head xs ys → HasStem old n stem → HasStem new n stem
stem_stays old new n head xs ys None was is alike has = tt
stem_stays old new n head xs ys (Some s) was is alike has = record {
  few = has.few;
  ordered = has.ordered;
  walk = λ other events stands.
      let same : head ≡ other = same-head new head other ys events is stands in
      let here : IsPast new head events = subst (λ (h : Head). IsPast new h events) (sym same) stands in
      subst (λ (h : Head). chain_of h events s.p s.region s.moments wants.Present ≡ Ok s.chain) same
      (sym (alike_chain n head xs events s.p s.region s.moments wants.Present (alike-next n head xs ys events alike (alike-past new n head ys events is here)) has.ordered has.few)
      ∙ has.walk head xs was);
}

stems_stay : (old new : Past) (n : ℕ) (head : Head) (xs ys : List Event) (stems : List (Option Stem)) → IsPast old head xs → IsPast new head ys → AreAlike n head xs ys → HaveStems old n stems → HaveStems new n stems
stems_stay old new n head xs ys [] was is alike have = tt
stems_stay old new n head xs ys (s ∷ ss) was is alike have = (stem_stays old new n head xs ys s was is alike have.0, stems_stay old new n head xs ys ss was is alike have.1)

-- events were noted, or none of them was
pub stems_noted : {E : Type 0} (r : Result (Unit {0}) E) (old new : Past) (n : ℕ) (head : Head) (before more : List Event) (stems : List (Option Stem)) → n ≤ length before → IsPast old head before →
    OnOk r (IsPast new head (before ++ more)) → OnErr r (IsPast new head before) → HaveStems old n stems → HaveStems new n stems
stems_noted (Ok x) old new n head before more stems within was noted refused have = stems_stay old new n head before (before ++ more) stems was noted (alike-longer n head before more within) have
stems_noted (Err e) old new n head before more stems within was noted refused have = stems_stay old new n head before before stems was refused (alike-past new n head before before refused refused) have

-- what rests on so many events rests on more of them
stem_later : (past : Past) (n m : ℕ) (stem : Option Stem) → n ≤ m → HasStem past n stem → HasStem past m stem
stem_later past n m None le has = tt
stem_later past n m (Some s) le has = record { few = has.few; ordered = in_order-later s.moments n m le has.ordered; walk = has.walk }

pub stems_later : (past : Past) (n m : ℕ) (stems : List (Option Stem)) → n ≤ m → HaveStems past n stems → HaveStems past m stems
stems_later past n m [] le have = tt
stems_later past n m (s ∷ ss) le have = (stem_later past n m s le have.0, stems_later past n m ss le have.1)

-- moments are in order still with that of the event behind them
pub in_order-event : (ws : List ℕ) (n : ℕ) → is_in_order ws n ≡ true → is_in_order (ws ++ n ∷ []) n ≡ true
in_order-event [] n h = le-leb n n (omega arith)
in_order-event (w ∷ []) n h = ap (λ b. b && nat_le n n) h ∙ le-leb n n (omega arith)
in_order-event (w ∷ x ∷ ws) n h =
    let parts = and_parts (nat_le w x) (is_in_order (x ∷ ws) n) h in
    ap (λ b. b && is_in_order (x ∷ (ws ++ n ∷ [])) n) parts.0 ∙ in_order-event (x ∷ ws) n parts.1

-- what the upper part of a region comes to, it comes to for each of its addresses
pub stem_walk : (past : Past) (n p region la : ℕ) (ws : List ℕ) (chain : Chain) → IsStem past n p region ws chain → region ≡ page_start (page_bits (length ws)) la →
    (head : Head) (events : List Event) → IsPast past head events → chain_of head events p la ws wants.Present ≡ Ok chain
stem_walk past n p region la ws chain is same head events h =
    sym (chain_of_page head events p la wants.Present ws is.few) ∙ ap (λ r. chain_of head events p r ws wants.Present) (sym same) ∙ is.walk head events h

-- one that goes on by the event behind its moments
pub stem_further : (past : Past) (n p region : ℕ) (upper ws : List ℕ) (stem chain : Chain) →
    IsStem past n p (page_start (page_bits (length upper)) region) upper stem → ws ≡ upper ++ n ∷ [] → length ws ≤ 4 →
    ((head : Head) (events : List Event) → IsPast past head events → chain_of head events p region upper wants.Present ≡ Ok stem → chain_of head events p region (upper ++ n ∷ []) wants.Present ≡ Ok chain) →
    IsStem past n p region ws chain
stem_further past n p region upper ws stem chain is whole few on = record {
  few = few;
  ordered = subst (λ (vs : List ℕ). is_in_order vs n ≡ true) (sym whole) (in_order-event upper n is.ordered);
  walk = λ head events h.
      ap (λ (vs : List ℕ). chain_of head events p region vs wants.Present) whole
      ∙ on head events h (stem_walk past n p (page_start (page_bits (length upper)) region) region upper stem is refl head events h);
}
