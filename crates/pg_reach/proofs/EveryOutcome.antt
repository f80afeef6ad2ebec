-- Moments that are kept by outcome: what one more reading adds.
use Rattle.std.proofs.Common.{◌≡◌, ℕ, Bool, true, List, Option, Some, None, Result, Ok, Err, ap, sym, ◌∙◌, subst, inl, inr}
use Rattle.std.specs.Prelude.{IfSome, OnOk}
use Rattle.std.specs.Option.{option_map}
use Rattle.pg_entry.specs.declared.Cfg.{Cfg}
use Rattle.pg_entry.specs.declared.Level.{Level}
use Rattle.pg_entry.specs.Kinds.{kind_of}
use Rattle.pg_event.specs.declared.event.Event.{Event}
use Rattle.pg_event.specs.declared.event.Event.TheVariants.{Write, Access, Assist, MovCr3, Invlpg, Invpcid, MovCr4Pge}
use Rattle.pg_event.specs.declared.event.Outcome.{Outcome}
use Rattle.pg_event.specs.declared.event.Outcome.TheVariants.{Page, Fault}
use Rattle.pg_event.specs.Form.{broken_rule, access_kind}
use Rattle.pg_event.specs.Heads.{Head}
use Rattle.pg_event.specs.Spelling.{Recorded}
use Rattle.pg_event.specs.Witness.{failing_event}
use Rattle.pg_search.specs.Law.{with_moments, AreWitness}
use Rattle.pg_search.proofs.Freshness.{fresh_refl}
use Rattle.pg_reach.specs.declared.walker.Walker.{Walker}
use Rattle.pg_reach.specs.declared.reach.Reach.{Reach}
use Rattle.pg_reach.specs.declared.view.Piece.{Piece}
use Rattle.pg_reach.specs.Asking.{Asks}
use Rattle.pg_reach.specs.Reaching.{up_to, IsFresher}
use Rattle.pg_reach.specs.Placed.{with_outcome}
use Rattle.pg_reach.specs.Given.{page_by, cause_of, code_by}
use Rattle.pg_reach.specs.Ends.{IsNoEnd}
use Rattle.pg_reach.specs.ByOutcome.{Findings, IsPut, IsGrown, IsNoted, AreByOutcome}
use Rattle.pg_reach.proofs.Fresh.{freshest_of}

-- what a call leaves where it does not fail
pub on_ok_both : {T E : Type 0} {P Q R : Type 0} (x : Result T E) → (P → Q → R) → OnOk x P → OnOk x Q → OnOk x R
on_ok_both (Ok a) f p q = f p q
on_ok_both (Err e) f p q = p

-- ---- what grows

pub grown_on : (r : Recorded) (n : ℕ) (freshest : Bool) (e : Event) (x y z : Findings) → IsGrown r n freshest e x y → IsGrown r n freshest e y z → IsGrown r n freshest e x z
grown_on r n freshest e x y z a b = record { some = λ o h. b.some o (a.some o h); fresher = λ o ws h. b.fresher o ws (a.fresher o ws h) }

-- moments that witness the access and are fresher than those for the outcome
pub grown_put : (r : Recorded) (n : ℕ) (freshest : Bool) (e : Event) (o : Outcome) (ms : List ℕ) (x y : Findings) → IsPut x y o ms → AreWitness r.head r.events n (with_outcome o e) ms →
    ((ws : List ℕ) → IsFresher freshest (x o) ws → IsFresher freshest (Some ms) ws) → IsGrown r n freshest e x y
grown_put r n freshest e o ms x y put witness newer = record {
  some = λ p h. elim (put.each p) as (λ _. IfSome (y p) (AreWitness r.head r.events n (with_outcome p e))) [
    | inl same ↦ subst (λ found. IfSome found (AreWitness r.head r.events n (with_outcome p e))) (sym same) h
    | inr here ↦ subst (λ found. IfSome found (AreWitness r.head r.events n (with_outcome p e))) (sym here.1) (subst (λ q. AreWitness r.head r.events n (with_outcome q e) ms) (sym here.0) witness)
  ];
  fresher = λ p ws h. elim (put.each p) as (λ _. IsFresher freshest (y p) ws) [
    | inl same ↦ subst (λ found. IsFresher freshest found ws) (sym same) h
    | inr here ↦ subst (λ found. IsFresher freshest found ws) (sym here.1) (newer ws (subst (λ q. IsFresher freshest (x q) ws) here.0 h))
  ];
}

pub noted_put : (r : Recorded) (v : Walker) (e : Event) (o : Outcome) (ms : List ℕ) (x y : Findings) → IsPut x y o ms → IsNoted r v e o ms y
noted_put r v e o ms x y put = λ good. subst (λ found. IsFresher v.freshest found ms) (sym put.here) (λ f. fresh_refl ms)

pub noted_on : (r : Recorded) (v : Walker) (e : Event) (o : Outcome) (ms : List ℕ) (x y : Findings) → IsGrown r v.number v.freshest e x y → IsNoted r v e o ms x → IsNoted r v e o ms y
noted_on r v e o ms x y grown h = λ good. grown.fresher o ms (h good)

-- ---- a piece

module _ (r : Recorded) (v : Walker) (p flags la : ℕ) (out : Outcome) (own : List ℕ) (level : Level) (x : Reach) (piece : Piece) (read : ℕ) (ms : List ℕ) (after found : Findings) (is : piece.read ≡ Some read) (latest : ms ≡ up_to read x.latest) where
  abbrev access : Event
  access = Access p flags la out own

  -- it reads the piece last
  reads : (m : ℕ) → piece.read ≡ Some m → ms ≡ up_to m x.latest
  reads m last = let same : read ≡ m = cc (is, last) in latest ∙ ap (λ k. up_to k x.latest) same

  noted_by : (o : Outcome) (m : ℕ) → piece.read ≡ Some m → IsNoted r v access o ms found → failing_event r.head r.events v.number (with_moments (up_to m x.latest) (with_outcome o access)) ≡ None →
      IsFresher v.freshest (found o) (up_to m x.latest)
  noted_by o m last noted = subst (λ ws. IsNoted r v access o ws found) (reads m last) noted

  piece_none : ((o : Outcome) → option_map Page (page_by r.head.cfg level piece.entry la) ≡ Some o → IsNoted r v access o ms after) →
      ((o : Outcome) → option_map Fault (code_by r.head.cfg (access_kind flags) (cause_of (kind_of r.head.cfg level piece.entry))) ≡ Some o → IsNoted r v access o ms found) →
      IsGrown r v.number v.freshest access after found → (o : Outcome) → IsNoEnd r v (with_outcome o access) level x piece (found o)
  piece_none pages faults grown (Page page) = λ m last wanted gives.
      noted_by (Page page) m last (noted_on r v access (Page page) ms after found grown (pages (Page page) (ap (option_map Page) gives)))
  piece_none pages faults grown (Fault code) = λ m last wanted gives. noted_by (Fault code) m last (faults (Fault code) (ap (option_map Fault) gives))

-- of an event that is such an access
pub piece_noted : (r : Recorded) (v : Walker) (e : Event) (p flags la : ℕ) (out : Outcome) (own : List ℕ) (level : Level) (x : Reach) (piece : Piece) (read : ℕ) (ms : List ℕ) (after found : Findings) (cfg : Cfg) (page fault : Option Outcome) →
    e ≡ Access p flags la out own → cfg ≡ r.head.cfg → piece.read ≡ Some read → ms ≡ up_to read x.latest → page ≡ option_map Page (page_by cfg level piece.entry la) →
    fault ≡ option_map Fault (code_by cfg (access_kind flags) (cause_of (kind_of cfg level piece.entry))) → ((o : Outcome) → page ≡ Some o → IsNoted r v e o ms after) → ((o : Outcome) → fault ≡ Some o → IsNoted r v e o ms found) →
    IsGrown r v.number v.freshest e after found → (o : Outcome) → IsNoEnd r v (with_outcome o e) level x piece (found o)
piece_noted r v e p flags la out own level x piece read ms after found cfg page fault is own_cfg last latest page_is fault_is pages faults grown o =
    let access : Event = Access p flags la out own in
    let by_page : (q : Outcome) → option_map Page (page_by r.head.cfg level piece.entry la) ≡ Some q → IsNoted r v access q ms after = λ q at.
    subst (λ y. IsNoted r v y q ms after) is (pages q (page_is ∙ ap (λ k. option_map Page (page_by k level piece.entry la)) own_cfg ∙ at)) in
    let by_fault : (q : Outcome) → option_map Fault (code_by r.head.cfg (access_kind flags) (cause_of (kind_of r.head.cfg level piece.entry))) ≡ Some q → IsNoted r v access q ms found = λ q at.
    subst (λ y. IsNoted r v y q ms found) is (faults q (fault_is ∙ ap (λ k. option_map Fault (code_by k (access_kind flags) (cause_of (kind_of k level piece.entry)))) own_cfg ∙ at)) in
    subst (λ y. IsNoEnd r v (with_outcome o y) level x piece (found o)) (sym is)
    (piece_none r v p flags la out own level x piece read ms after found last latest by_page by_fault (subst (λ y. IsGrown r v.number v.freshest y after found) is grown) o)

-- ---- the access with another outcome

pub well_placed : (head : Head) (e : Event) (o : Outcome) → broken_rule head e ≡ None → broken_rule head (with_outcome o e) ≡ None
well_placed head (Access p flags la outcome own) o h = h
well_placed head (Write p addr value) o h = h
well_placed head (Assist p flags la word own) o h = h
well_placed head (MovCr3 p operand) o h = h
well_placed head (Invlpg p la) o h = h
well_placed head (Invpcid p kind pcid la) o h = h
well_placed head (MovCr4Pge p on) o h = h

pub asks_placed : (v : Walker) (e : Event) (o : Outcome) → Asks v e → Asks v (with_outcome o e)
asks_placed v (Access p flags la outcome own) o h = h
asks_placed v (Write p addr value) o h = h
asks_placed v (Assist p flags la word own) o h = h
asks_placed v (MovCr3 p operand) o h = h
asks_placed v (Invlpg p la) o h = h
asks_placed v (Invpcid p kind pcid la) o h = h
asks_placed v (MovCr4Pge p on) o h = h

-- ---- what is found under each PCID

-- where nothing was found at first, and what was found then is as fresh as any that witnesses
pub by_outcome : (r : Recorded) (n : ℕ) (e : Event) (olds news : Findings) → ((o : Outcome) → olds o ≡ None) → IsGrown r n true e olds news →
    ((o : Outcome) (ws : List ℕ) → AreWitness r.head r.events n (with_outcome o e) ws → IsFresher true (news o) ws) → AreByOutcome r n e news
by_outcome r n e olds news empty grown all = record {
  some = λ o. grown.some o (subst (λ found. IfSome found (AreWitness r.head r.events n (with_outcome o e))) (sym (empty o)) tt);
  freshest = λ o. freshest_of (AreWitness r.head r.events n (with_outcome o e)) (news o) (all o);
  none = λ o is ws witness. subst (λ found. IsFresher true found ws) is (all o ws witness);
}
