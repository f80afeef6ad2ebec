-- The last number at which some moments witness an event.
use Rattle.std.proofs.Common.{◌≡◌, ℕ, ◌+◌, ◌≤◌, ◌⊎◌, ◌++◌, List, [], ◌∷◌, Option, Some, None, IfSome, refl, inl, inr, ap, sym, ◌∙◌, subst, arith}
use Rattle.pg_entry.specs.declared.Level.{Level}
use Rattle.pg_event.specs.declared.event.Event.{Event}
use Rattle.pg_event.specs.declared.event.Event.TheVariants.{Write, Access, Assist, MovCr3, Invlpg, Invpcid, MovCr4Pge}
use Rattle.pg_event.specs.declared.walk.Parent.{Parent}
use Rattle.pg_event.specs.Form.{processor_of}
use Rattle.pg_event.specs.Spelling.{Recorded}
use Rattle.pg_event.specs.Values.{control_at}
use Rattle.pg_search.specs.ReachableTables.{first_or, IsWayFromRoot}
use Rattle.pg_search.specs.Last.{NoneWitness, AreOwn, HasOwn, NoneOwn, IsLastOf}
use Rattle.pg_search.specs.Law.{AreWitness}
use Rattle.pg_search.specs.Law.{AreFreshestOf}
use Rattle.pg_reach.specs.declared.walker.Walker.{Walker}
use Rattle.pg_reach.specs.declared.reach.Reach.{Reach}
use Rattle.pg_reach.specs.Asking.{Asks, under, pcid_of, IsAtNext}
use Rattle.pg_reach.specs.Reaching.{IsReach, up_to, way_of}
use Rattle.pg_reach.specs.Stays.{IsUnder}
use Rattle.pg_reach.specs.WitnessedUpTo.{IsUpTo, HasWitness, HasWitnessUnder, IsFoundAfter, AreUpTo}
use Rattle.pg_reach.proofs.Cases.{first_low}
use Rattle.pg_reach.proofs.Nexts.{first-push}
use Rattle.pg_reach.proofs.Passed.{at_number, asks_at}

-- no moments witness the event at a later number, under whatever PCID
abbrev pub AllUpTo : Recorded → Walker → Event → Option ℕ → Type 0
AllUpTo r v e last = (w : ℕ) → w ≤ v.number → AreUpTo r (under v (control_at r.head r.events v.p w).pcid) e last

up_to_last : (r : Recorded) (v : Walker) (e : Event) (last : Option ℕ) → Asks v e → AllUpTo r v e last → (j : ℕ) → j ≤ v.number → (ws : List ℕ) → AreWitness r.head r.events j e ws → IsUpTo last j
up_to_last r v e last asks all j low ws witness =
    let first : first_or 0 ws ≤ j = first_low r (at_number v j) e ws (asks_at v e j asks) witness in
    all (first_or 0 ws) (omega (arith, first, low)) j low ws witness refl

pub none_before : (r : Recorded) (v : Walker) (e : Event) (i : ℕ) → Asks v e → v.number + 1 ≡ i → AllUpTo r v e None → NoneWitness r.head r.events e 0 i
none_before r v e i asks next all = λ j from lt ws witness. up_to_last r v e None asks all j (omega (arith, lt, next)) ws witness

-- ---- the PCID under which moments read

under_way : (r : Recorded) (v : Walker) (m : ℕ) (ws : List ℕ) (level : Level) (to : Parent) → IsWayFromRoot r.head r.events (way_of v) m ws level to → pcid_of r v (ws ++ m ∷ []) ≡ v.pcid
under_way r v m ws level to h = ap (λ w. (control_at r.head r.events v.p w).pcid) (first-push 0 m ws) ∙ h.0

-- that of a reach is the walker's
pub reached_under : (r : Recorded) (v : Walker) (level : Level) (x : Reach) (m : ℕ) → IsReach r v level x → x.from ≤ m → m ≤ x.to → IsUnder r v m → pcid_of r v (up_to m x.latest) ≡ v.pcid
reached_under r v level x m h from to under =
    let by = h.way m from to under in
    ap (pcid_of r v) by.1 ∙ under_way r v m by.0 level x.table by.2

pub processor_asked : (v : Walker) (e : Event) → Asks v e → processor_of e ≡ v.p
processor_asked v (Access p flags la outcome own) asks = sym asks.0
processor_asked v (Assist p flags la word own) asks = sym asks.0
processor_asked v (Write p addr value) asks = absurd asks
processor_asked v (MovCr3 p operand) asks = absurd asks
processor_asked v (Invlpg p la) asks = absurd asks
processor_asked v (Invpcid p kind pcid la) asks = absurd asks
processor_asked v (MovCr4Pge p on) asks = absurd asks

module _ (r : Recorded) (v : Walker) (e : Event) (asks : Asks v e) (own : IsAtNext r v) where
  abbrev next : ℕ
  next = v.number + 1

  own_by : (ws : List ℕ) → pcid_of r v ws ≡ v.pcid → AreOwn r.head r.events next e ws
  own_by ws h =
      let same : processor_of e ≡ v.p = processor_asked v e asks in
      ap (λ q. (control_at r.head r.events q (first_or 0 ws)).pcid) same ∙ h ∙ sym own ∙ ap (λ q. (control_at r.head r.events q next).pcid) (sym same)

  under_by : (ws : List ℕ) → AreOwn r.head r.events next e ws → pcid_of r v ws ≡ v.pcid
  under_by ws h =
      let same : processor_of e ≡ v.p = processor_asked v e asks in
      ap (λ q. (control_at r.head r.events q (first_or 0 ws)).pcid) (sym same) ∙ h ∙ ap (λ q. (control_at r.head r.events q next).pcid) same ∙ own

  has_own : (n : ℕ) → HasWitnessUnder r v e n → HasOwn r.head r.events next e n
  has_own n h = (h.moments, h.witness, own_by h.moments h.under)

  own_up_to : (last : Option ℕ) → AreUpTo r v e last → (j : ℕ) → j ≤ v.number → HasOwn r.head r.events next e j → IsUpTo last j
  own_up_to last all j low h = all j low h.0 h.1 (under_by h.0 h.2)

  pub none_own : AreUpTo r v e None → NoneOwn r.head r.events next e 0 next
  none_own all = λ j from lt has. own_up_to None all j (omega (arith, lt)) has

  pub own_found : (n : ℕ) (ms : List ℕ) → AreUpTo r v e (Some n) → HasWitnessUnder r v e n → AreWitness r.head r.events n e ms → AreFreshestOf r.head r.events n e ms →
      IsLastOf r.head r.events next e (record { number = n; moments = ms; other = None })
  own_found n ms all has witness freshest = record {
    before = omega (arith, has.within);
    witness = witness;
    freshest = freshest;
    under = (has_own n has, λ j from lt by. let up : j ≤ n = own_up_to (Some n) all j (omega (arith, lt)) by in omega (arith, from, up));
  }

pub other_found : (r : Recorded) (v : Walker) (e : Event) (n : ℕ) (ms : List ℕ) (pcid : ℕ) → Asks v e → AllUpTo r v e (Some n) → HasWitness r e v.number n → AreWitness r.head r.events n e ms → AreFreshestOf r.head r.events n e ms →
    NoneOwn r.head r.events (v.number + 1) e 0 (v.number + 1) → pcid ≡ (control_at r.head r.events v.p (first_or 0 ms)).pcid →
    IsLastOf r.head r.events (v.number + 1) e (record { number = n; moments = ms; other = Some pcid })
other_found r v e n ms pcid asks all has witness freshest none is = record {
  before = omega (arith, has.0);
  witness = witness;
  freshest = freshest;
  under = (
    is ∙ ap (λ q. (control_at r.head r.events q (first_or 0 ms)).pcid) (sym (processor_asked v e asks)),
    none,
    λ j from lt ws by.
        let up : j ≤ n = up_to_last r v e (Some n) asks all j (omega (arith, lt)) ws by in
        omega (arith, from, up),
  );
}

-- ---- numbers that are found one after another

pub found_more : (r : Recorded) (v : Walker) (e : Event) (found last result : Option ℕ) → IsFoundAfter r v e found last → IsFoundAfter r v e last result → IsFoundAfter r v e found result
found_more r v e found last None h k = tt
found_more r v e found last (Some n) h (inl is) = subst (IsFoundAfter r v e found) is h
found_more r v e found last (Some n) h (inr new) = inr new

pub found_any : (r : Recorded) (v : Walker) (e : Event) (found last : Option ℕ) → IfSome found (HasWitness r e v.number) → IsFoundAfter r v e found last → IfSome last (HasWitness r e v.number)
found_any r v e found None h k = tt
found_any r v e found (Some n) h (inl is) = subst (λ o. IfSome o (HasWitness r e v.number)) is h
found_any r v e found (Some n) h (inr new) = (new.within, (new.moments, new.witness))

pub found_first : (r : Recorded) (v : Walker) (e : Event) (last : Option ℕ) → IsFoundAfter r v e None last → IfSome last (HasWitnessUnder r v e)
found_first r v e None k = tt
found_first r v e (Some n) (inl is) = absurd (cc)
found_first r v e (Some n) (inr new) = new

pub found_there : (r : Recorded) (v : Walker) (e : Event) (n : ℕ) (found result : Option ℕ) → HasWitnessUnder r v e n → IfSome result (λ k. (k ≡ n) ⊎ (found ≡ Some k)) → IsFoundAfter r v e found result
found_there r v e n found None new h = tt
found_there r v e n found (Some k) new (inl a) = inr (subst (HasWitnessUnder r v e) (sym a) new)
found_there r v e n found (Some k) new (inr b) = inl b
