-- Under which PCID and how late moments end that witness an event.
use Rattle.std.proofs.Common.{◌≡◌, ℕ, ◌<◌, ◌≤◌, ◌==◌, ◌&&◌, not, Bool, true, false, List, [], ◌∷◌, length, refl, ap, sym, ◌∙◌, subst, inl, inr, ◌⊎◌, arith, Option, None}
use Rattle.std.proofs.lemmas.Bool.{cases_Bool, cases_lt, and_parts, eqb-true}
use Rattle.pg_entry.specs.declared.Cfg.{Cfg}
use Rattle.pg_entry.specs.declared.Cause.{Cause}
use Rattle.pg_entry.specs.declared.Cause.TheVariants as causes
use Rattle.pg_entry.specs.declared.Level.{Level}
use Rattle.pg_entry.specs.declared.Level.TheVariants.{Four, Three}
use Rattle.pg_entry.specs.declared.Kind.{Kind}
use Rattle.pg_entry.specs.declared.Kind.TheVariants as kinds
use Rattle.pg_entry.specs.Kinds.{kind_of, IsPageShift}
use Rattle.pg_entry.specs.Permission.{joined}
use Rattle.pg_event.specs.declared.claim.Claim.{Claim}
use Rattle.pg_event.specs.declared.claim.Update.{Update}
use Rattle.pg_event.specs.declared.control.Control.{Control}
use Rattle.pg_event.specs.declared.event.Event.{Event}
use Rattle.pg_event.specs.declared.event.Event.TheVariants.{Write, Access, Assist, MovCr3, Invlpg, Invpcid, MovCr4Pge}
use Rattle.pg_event.specs.declared.event.Outcome.{Outcome}
use Rattle.pg_event.specs.declared.event.Outcome.TheVariants.{Page, Fault}
use Rattle.pg_event.specs.declared.event.Want.{Want}
use Rattle.pg_event.specs.declared.walk.Parent.{Parent}
use Rattle.pg_event.specs.Form.{broken_rule}
use Rattle.pg_event.specs.Heads.{Head}
use Rattle.pg_event.specs.Spelling.{Recorded}
use Rattle.pg_event.specs.Values.{mem_at, control_at}
use Rattle.pg_event.specs.Invalidation.{translation_key}
use Rattle.pg_event.specs.Walk.{Reading, readings, below, entry_address}
use Rattle.pg_event.specs.Wants.{want_of, is_wanted, is_table, uses_last}
use Rattle.pg_event.specs.Witness.{last_or, leads_to, is_one_context, failing_fault, failing_end, failing_access, failing_assist, claim_of, update_of, translation_survives}
use Rattle.pg_run_of.specs.Plan.{root_at}
use Rattle.pg_run_of.proofs.Standing.{seen, given}
use Rattle.pg_run_of.proofs.Accesses.{guard_none, bar_none, wants_leaf, access_inside, assist_inside, claim_holds, update_holds}
use Rattle.pg_run_of.proofs.Chains.{reading_at}
use Rattle.pg_check.proofs.Pages.{IsPaged, kind_paged}
use Rattle.pg_search.specs.ReachableTables.{first_or}
use Rattle.pg_search.specs.Law.{AreWitness}
use Rattle.pg_reach.specs.declared.walker.Walker.{Walker}
use Rattle.pg_reach.specs.Asking.{want_by, Asks, last_moment, pcid_of, LastsBy, EndsLate, AreUnder, AreLate, AreGlobal, under}
use Rattle.pg_reach.specs.Reaching.{IsFresher}
use Rattle.pg_reach.specs.Bounds.{translation_up_to}
use Rattle.pg_reach.proofs.Coming.{in_order_low}

-- the first moment of a walk is not above its event
access_low : (head : Head) (events : List Event) (c : Claim) (ws : List ℕ) → failing_access head events c ws ≡ None → first_or 0 ws ≤ c.number
access_low head events c [] good = absurd (cc)
access_low head events c (w ∷ ws) good =
    let root : Parent = root_at head events c.p w in
    let gave : Parent = given head.cfg.m (mem_at events) c.la Four root w in
    let h = claim_holds head events c (control_at head events c.p w).pcid (w ∷ ws) (reading_at events c.la Four root w) (readings head.cfg.m (mem_at events) c.la Three gave.table gave.rights ws) good in
    in_order_low w ws c.number h.walk.order

assist_low : (head : Head) (events : List Event) (u : Update) (ws : List ℕ) → failing_assist head events u ws ≡ None → first_or 0 ws ≤ u.number
assist_low head events u [] good = absurd (cc)
assist_low head events u (w ∷ ws) good =
    let root : Parent = root_at head events u.p w in
    let gave : Parent = given head.cfg.m (mem_at events) u.la Four root w in
    let h = update_holds head events u (control_at head events u.p w).pcid (w ∷ ws) (reading_at events u.la Four root w) (readings head.cfg.m (mem_at events) u.la Three gave.table gave.rights ws) good in
    in_order_low w ws u.number h.walk.order

-- how moments under a PCID end: late, under the PCID of the event, or by a global translation
abbrev pub EndsSo : Recorded → Walker → Event → List ℕ → Type 0
EndsSo r v e ws = ((pcid_of r v ws ≡ v.pcid) × EndsLate r v e ws)
    ⊎ ((uses_last (want_by e) ≡ true) × LastsBy r (under v (pcid_of r v ws)) true ws)

-- the last reading is at the last moment

last_at : (m : ℕ) (look : ℕ → ℕ → ℕ) (la : ℕ) (level : Level) (from : Parent) (x : ℕ) (ws : List ℕ) (r : Reading) → r.moment ≡ x →
    (last_or r (readings m look la level from.table from.rights ws)).moment ≡ last_moment (x ∷ ws)
last_at m look la level from x [] r h = h
last_at m look la level from x (y ∷ ys) r h = last_at m look la (below level) (given m look la level from y) y ys (record {
  level = level;
  address = entry_address from.table level la;
  value = seen look la level from y;
  moment = y;
  rights = joined from.rights (seen look la level from y);
}) refl

-- and under the PCID of the first

one_context : (head : Head) (events : List Event) (p pcid : ℕ) (x : ℕ) (ws : List ℕ) → is_one_context head events p pcid (x ∷ ws) ≡ true → (control_at head events p (last_moment (x ∷ ws))).pcid ≡ pcid
one_context head events p pcid x [] h = eqb-true _ _ (and_parts ((control_at head events p x).pcid == pcid) true h).0
one_context head events p pcid x (y ∷ ys) h = one_context head events p pcid y ys (and_parts ((control_at head events p x).pcid == pcid) (is_one_context head events p pcid (y ∷ ys)) h).1

fault_at : (head : Head) (c : Claim) (cause : Cause) (w : ℕ) (outcome : Outcome) → failing_fault head.cfg c cause w outcome ≡ None → w ≡ c.number
fault_at head c cause w (Page page) h = absurd (cc)
fault_at head c cause w (Fault code) h = eqb-true _ _ (guard_none (w == c.number) _ _ h).0

not_both : (a b : Bool) → (not a && not b) ≡ false → (a ≡ true) ⊎ (b ≡ true)
not_both true b h = inl refl
not_both false true h = inr refl
not_both false false h = absurd (cc)

leads_last : (cfg : Cfg) (want : Want) (r : Reading) (rs : List Reading) → leads_to cfg want (r ∷ rs) ≡ true → is_wanted want (kind_of cfg (last_or r rs).level (last_or r rs).value) ≡ true
leads_last cfg want r [] h = h
leads_last cfg want r (s ∷ rs) h = leads_last cfg want s rs (and_parts (is_table (kind_of cfg r.level r.value)) (leads_to cfg want (s ∷ rs)) h).1

ends_by_kind : (r : Recorded) (v : Walker) (flags : ℕ) (outcome : Outcome) (own ws : List ℕ) (q : Reading) → (control_at r.head r.events v.p v.number).pcid ≡ v.pcid → q.moment ≡ last_moment ws →
    (control_at r.head r.events v.p (last_moment ws)).pcid ≡ pcid_of r v ws → (k : Kind) → kind_of r.head.cfg q.level q.value ≡ k → is_wanted (want_of outcome) k ≡ true →
    failing_end r.head r.events (claim_of v.number v.p flags v.la outcome) (pcid_of r v ws) q k ≡ None → EndsSo r v (Access v.p flags v.la outcome own) ws
ends_by_kind r v flags outcome own ws q now at alike (kinds.Leaf frame shift g) is wanted h =
    let pcid : ℕ = pcid_of r v ws in
    let global : Bool = g && (control_at r.head r.events v.p q.moment).pge in
    let size : IsPageShift shift = subst IsPaged is (kind_paged r.head.cfg q.level q.value) in
    let want : uses_last (want_of outcome) ≡ true = ap uses_last (wants_leaf outcome frame shift g wanted) in
    let kept = guard_none (translation_survives r.head r.events v.p (translation_key pcid shift global v.la) q.moment v.number) _ _ h in
    let used = bar_none (not ((control_at r.head r.events v.p v.number).pcid == pcid) && not global) _ _ kept.1 in
    let lasts : translation_up_to r (under v pcid) shift global (last_moment ws) ≡ true = ap (λ w. translation_up_to r (under v pcid) shift global w) (sym at) ∙ kept.0 in
    elim (cases_Bool global) as (λ _. EndsSo r v (Access v.p flags v.la outcome own) ws) [
      | inl t ↦ inr (want, (shift, size, subst (λ b. translation_up_to r (under v pcid) shift b (last_moment ws) ≡ true) t lasts))
      | inr f ↦
          let mine : pcid ≡ v.pcid = elim (not_both ((control_at r.head r.events v.p v.number).pcid == pcid) global used.0) as (λ _. pcid ≡ v.pcid) [
            | inl same ↦ sym (eqb-true _ _ same) ∙ now
            | inr t ↦ absurd (apart t f)
          ] in
          inl (mine, inr (want, (shift, size, subst (λ b. translation_up_to r v shift b (last_moment ws) ≡ true) f (subst (λ n. translation_up_to r (under v n) shift global (last_moment ws) ≡ true) mine lasts))))
    ]
  where
    apart : {b : Bool} → b ≡ true → b ≡ false → ⊥
    apart h k = cc
ends_by_kind r v flags outcome own ws q now at alike kinds.Absent is wanted h =
    let here : last_moment ws ≡ v.number = sym at ∙ fault_at r.head (claim_of v.number v.p flags v.la outcome) causes.Absent q.moment outcome h in
    inl (sym alike ∙ ap (λ w. (control_at r.head r.events v.p w).pcid) here ∙ now, inl here)
ends_by_kind r v flags outcome own ws q now at alike kinds.Reserved is wanted h =
    let here : last_moment ws ≡ v.number = sym at ∙ fault_at r.head (claim_of v.number v.p flags v.la outcome) causes.Reserved q.moment outcome h in
    inl (sym alike ∙ ap (λ w. (control_at r.head r.events v.p w).pcid) here ∙ now, inl here)
ends_by_kind r v flags outcome own ws q now at alike (kinds.Table addr) is wanted h = absurd (cc)

access_ends : (r : Recorded) (v : Walker) (flags : ℕ) (outcome : Outcome) (own ws : List ℕ) → (control_at r.head r.events v.p v.number).pcid ≡ v.pcid → failing_access r.head r.events (claim_of v.number v.p flags v.la outcome) ws ≡ None →
    EndsSo r v (Access v.p flags v.la outcome own) ws
access_ends r v flags outcome own [] now good = absurd (cc)
access_ends r v flags outcome own (w ∷ ws) now good =
    let head : Head = r.head in
    let events : List Event = r.events in
    let c : Claim = claim_of v.number v.p flags v.la outcome in
    let start : Control = control_at head events v.p w in
    let root : Parent = root_at head events v.p w in
    let gave : Parent = given head.cfg.m (mem_at events) v.la Four root w in
    let read : Reading = reading_at events v.la Four root w in
    let rest : List Reading = readings head.cfg.m (mem_at events) v.la Three gave.table gave.rights ws in
    let h = claim_holds head events c start.pcid (w ∷ ws) read rest good in
    let last : Reading = last_or read rest in
    ends_by_kind r v flags outcome own (w ∷ ws) last now (last_at head.cfg.m (mem_at events) v.la Three gave w ws read refl) (one_context head events v.p start.pcid w ws h.walk.alike)
    (kind_of head.cfg last.level last.value) refl (leads_last head.cfg (want_of outcome) read rest h.walk.kinds) h.ends

assist_ends : (r : Recorded) (v : Walker) (flags word : ℕ) (own ws : List ℕ) → (control_at r.head r.events v.p v.number).pcid ≡ v.pcid → failing_assist r.head r.events (update_of v.number v.p flags v.la word) ws ≡ None →
    EndsSo r v (Assist v.p flags v.la word own) ws
assist_ends r v flags word own [] now good = absurd (cc)
assist_ends r v flags word own (w ∷ ws) now good =
    let head : Head = r.head in
    let events : List Event = r.events in
    let u : Update = update_of v.number v.p flags v.la word in
    let start : Control = control_at head events v.p w in
    let root : Parent = root_at head events v.p w in
    let gave : Parent = given head.cfg.m (mem_at events) v.la Four root w in
    let read : Reading = reading_at events v.la Four root w in
    let rest : List Reading = readings head.cfg.m (mem_at events) v.la Three gave.table gave.rights ws in
    let h = update_holds head events u start.pcid (w ∷ ws) read rest good in
    let last : Reading = last_or read rest in
    let moment : last.moment ≡ last_moment (w ∷ ws) = last_at head.cfg.m (mem_at events) v.la Three gave w ws read refl in
    let here : last_moment (w ∷ ws) ≡ v.number = sym moment ∙ eqb-true _ _ (and_parts _ _ (and_parts _ _ h.updated).0).0 in
    let alike = one_context head events v.p start.pcid w ws h.walk.alike in
    inl (sym alike ∙ ap (λ k. (control_at head events v.p k).pcid) here ∙ now, inl here)

pub ends_so : (r : Recorded) (v : Walker) (e : Event) (ws : List ℕ) → Asks v e → (control_at r.head r.events v.p v.number).pcid ≡ v.pcid → AreWitness r.head r.events v.number e ws → EndsSo r v e ws
ends_so r v (Access p flags la outcome own) ws asks now witness =
    let good : failing_access r.head r.events (claim_of v.number v.p flags v.la outcome) ws ≡ None =
    ap (λ q. failing_access r.head r.events (claim_of v.number q flags v.la outcome) ws) asks.0 ∙ ap (λ a. failing_access r.head r.events (claim_of v.number p flags a outcome) ws) asks.1 ∙ witness.good in
    access_ends r v flags outcome own ws now good
ends_so r v (Assist p flags la word own) ws asks now witness =
    let good : failing_assist r.head r.events (update_of v.number v.p flags v.la word) ws ≡ None =
    ap (λ q. failing_assist r.head r.events (update_of v.number q flags v.la word) ws) asks.0 ∙ ap (λ a. failing_assist r.head r.events (update_of v.number p flags a word) ws) asks.1 ∙ witness.good in
    assist_ends r v flags word own ws now good
ends_so r v (Write p addr value) ws asks now witness = absurd asks
ends_so r v (MovCr3 p operand) ws asks now witness = absurd asks
ends_so r v (Invlpg p la) ws asks now witness = absurd asks
ends_so r v (Invpcid p kind pcid la) ws asks now witness = absurd asks
ends_so r v (MovCr4Pge p on) ws asks now witness = absurd asks

-- the first of moments that witness an event comes before it
pub first_low : (r : Recorded) (v : Walker) (e : Event) (ws : List ℕ) → Asks v e → AreWitness r.head r.events v.number e ws → first_or 0 ws ≤ v.number
first_low r v (Access p flags la outcome own) ws asks witness = access_low r.head r.events (claim_of v.number p flags la outcome) ws witness.good
first_low r v (Assist p flags la word own) ws asks witness = assist_low r.head r.events (update_of v.number p flags la word) ws witness.good
first_low r v (Write p addr value) ws asks witness = absurd asks
first_low r v (MovCr3 p operand) ws asks witness = absurd asks
first_low r v (Invlpg p la) ws asks witness = absurd asks
first_low r v (Invpcid p kind pcid la) ws asks witness = absurd asks
first_low r v (MovCr4Pge p on) ws asks witness = absurd asks

-- what is found under each PCID is found
pub all_found : (r : Recorded) (v : Walker) (e : Event) (found : Option (List ℕ)) → Asks v e → (control_at r.head r.events v.p v.number).pcid ≡ v.pcid → AreLate r v e found →
    (uses_last (want_by e) ≡ true → (w : ℕ) → w ≤ v.number → AreGlobal r (under v (control_at r.head r.events v.p w).pcid) e found) → (ws : List ℕ) → AreWitness r.head r.events v.number e ws → IsFresher v.freshest found ws
all_found r v e found asks now own globals ws witness =
    elim (ends_so r v e ws asks now witness) as (λ _. IsFresher v.freshest found ws) [
      | inl a ↦ own ws witness a.0 a.1
      | inr b ↦ globals b.0 (first_or 0 ws) (first_low r v e ws asks witness) ws witness refl b.1
    ]

-- what is found since a moment before which no global translation survives is found of all
pub global_since : (r : Recorded) (v : Walker) (since : ℕ) (e : Event) (found : Option (List ℕ)) → AreUnder r v since e found → ((shift w : ℕ) → IsPageShift shift → w < since → translation_up_to r v shift true w ≡ false) → AreGlobal r v e found
global_since r v since e found h none = λ ws witness alike lasts.
    elim (cases_lt (last_moment ws) since) as (λ _. IsFresher v.freshest found ws) [
      | inl lt ↦ absurd (apart lasts.2 (none lasts.0 (last_moment ws) lasts.1 lt))
      | inr le ↦ h ws witness alike le
    ]
  where
    apart : {b : Bool} → b ≡ true → b ≡ false → ⊥
    apart h k = cc

-- what is found since a moment before which no translation of the PCID survives is found of those
-- that end late
pub late_page : (r : Recorded) (v : Walker) (since : ℕ) (e : Event) (found : Option (List ℕ)) → since ≤ v.number → ((shift w : ℕ) → IsPageShift shift → w < since → translation_up_to r v shift false w ≡ false) → AreUnder r v since e found → AreLate r v e found
late_page r v since e found low none h = λ ws witness alike ends.
    elim ends as (λ _. IsFresher v.freshest found ws) [
      | inl now ↦ h ws witness alike (omega (arith, now, low))
      | inr page ↦ elim (cases_lt (last_moment ws) since) as (λ _. IsFresher v.freshest found ws) [
        | inl lt ↦ absurd (apart page.1.2 (none page.1.0 (last_moment ws) page.1.1 lt))
        | inr le ↦ h ws witness alike le
      ]
    ]
  where
    apart : {b : Bool} → b ≡ true → b ≡ false → ⊥
    apart h k = cc

-- where no page is wanted they end at the event
pub late_now : (r : Recorded) (v : Walker) (e : Event) (found : Option (List ℕ)) → uses_last (want_by e) ≡ false → AreUnder r v v.number e found → AreLate r v e found
late_now r v e found none h = λ ws witness alike ends.
    elim ends as (λ _. IsFresher v.freshest found ws) [
      | inl now ↦ h ws witness alike (omega (arith, now))
      | inr page ↦ absurd (apart page.0 none)
    ]
  where
    apart : {b : Bool} → b ≡ true → b ≡ false → ⊥
    apart h k = cc

-- the processor of an event that names moments is there
pub processor_there : (head : Head) (v : Walker) (e : Event) → Asks v e → broken_rule head e ≡ None → v.p < length head.processors
processor_there head v (Access p flags la outcome own) asks well = let there = access_inside head p flags la outcome own well in omega (arith, asks.0, there.0)
processor_there head v (Assist p flags la word own) asks well = let there = assist_inside head p flags la word own well in omega (arith, asks.0, there.0)
processor_there head v (Write p addr value) asks well = absurd asks
processor_there head v (MovCr3 p operand) asks well = absurd asks
processor_there head v (Invlpg p la) asks well = absurd asks
processor_there head v (Invpcid p kind pcid la) asks well = absurd asks
processor_there head v (MovCr4Pge p on) asks well = absurd asks
