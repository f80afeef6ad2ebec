-- An accepted record is the record of a run.
use Rattle.pg_entry.specs.declared.Level.{Level}
use Rattle.pg_event.specs.declared.control.Control.{Control}
use Rattle.pg_machine.specs.declared.step.Structure.{Structure}
use Rattle.pg_machine.specs.declared.step.Translation.{Translation}
use Rattle.std.specs.List.{AllByRecursion}
use Rattle.pg_event.specs.Wants.{is_table}
use Rattle.pg_event.specs.Walk.{entry_address}
use Rattle.pg_entry.specs.declared.Level.TheVariants.{Two, One}
use Rattle.std.proofs.Common.{Bool, List, None, Option, Some, [], ap, arith, nat_le, not, ◌||◌, refl, subst, sym, true, ℕ, ◌++◌, ◌+◌, ◌==◌, ◌∙◌, ◌∷◌, ◌≡◌, ◌≤◌, length, take}
use Rattle.std.proofs.lemmas.Bool.{and_parts, eqb-true, leb-true}
use Rattle.std.specs.List.{list_all}
use Rattle.pg_entry.specs.declared.Rights.{Rights}
use Rattle.pg_entry.specs.declared.Level.TheVariants.{Four, Three}
use Rattle.pg_entry.specs.declared.Kind.{Kind}
use Rattle.pg_entry.specs.declared.AccessKind.{AccessKind}
use Rattle.pg_entry.specs.Kinds.{kind_of, table_of}
use Rattle.pg_entry.specs.Permission.{joined}
use Rattle.pg_event.specs.declared.event.Event.{Event}
use Rattle.pg_event.specs.declared.event.Outcome.{Outcome}
use Rattle.pg_event.specs.declared.event.Want.{Want}
use Rattle.pg_event.specs.Heads.{Head}
use Rattle.pg_event.specs.Form.{access_kind, says_dirty, broken_rule}
use Rattle.pg_event.specs.declared.claim.Claim.{Claim}
use Rattle.pg_event.specs.declared.claim.Update.{Update}
use Rattle.pg_event.specs.Values.{control_at, mem_at, written, controlled, started}
use Rattle.pg_event.specs.Walk.{Reading, readings, below, root_of}
use Rattle.pg_event.specs.Wants.{is_wanted, may_dirty, want_of}
use Rattle.pg_event.specs.Witness.{Asked, asked_by, asked_of, claim_of, update_of, failing_access, failing_assist, failing_end, is_in_order, last_or, leads_to, structures_survive, failing_event, first_bad_from, first_some, Accepted, structure_survives, translation_survives}
use Rattle.pg_event.specs.declared.walk.Parent.{Parent}
use Rattle.pg_machine.specs.declared.step.Step.TheVariants.{Do}
use Rattle.pg_machine.specs.Machine.{IsIn, HasOutcome, IsWalkable, MayAssist, State, after_event, is_usable, start, MayCome, MayRead}
use Rattle.pg_run_of.proofs.Paths.{Leads, leads_on, leads_runs}
use Rattle.pg_run_of.proofs.Walks.{Reads}
use Rattle.pg_run_of.specs.declared.fill.Fill.{Fill}
use Rattle.pg_run_of.specs.Plan.{leaf_fills, root_at, event_fills, fills_of, fills_at, steps_from, steps_of}
use Rattle.pg_run_of.proofs.Fills.{fills-append, table_fills, last_parent, walk_parts, no_fills_after, plan_visible}
use Rattle.std.specs.List.{flat_map}
use Rattle.std.proofs.Common.{◌<◌}
use Rattle.std.proofs.lemmas.Grind.{flat_map-append}
use Rattle.pg_machine.specs.Machine.{IsRun}
use Rattle.std.specs.Prelude.{slice_get, fold}
use Rattle.pg_run_of.proofs.Accesses.{guard_none, WalkHolds, AreCached, ClaimHolds, claim_holds, UpdateHolds, update_holds, access_inside, assist_inside}
use Rattle.pg_run_of.proofs.Standing.{read_at, At, Grows, Stands, Stood, Tables, entry_of, given, grows_refl, grows_on, stands_grow, stood_grow, tables, at_grown}
use Rattle.std.proofs.lemmas.List.{append_assoc, length_push}
use Rattle.std.proofs.lemmas.List.Sums.{fold-append}
use Rattle.std.proofs.Math.Seq.{take-append_seam}
use Rattle.pg_event.specs.declared.event.Reason.{Reason}
use Rattle.pg_run_of.specs.Law.{AcceptedEventsRun, AcceptedRecordsRun}
use Rattle.pg_run_of.proofs.Ends.{leaf_of, LeafStands, LeafStood, leaves, comes, assists, structure_stays, translation_stays}
use Rattle.pg_entry.specs.declared.Kind.TheVariants as kinds
use Rattle.pg_event.specs.declared.event.Event.TheVariants as events
use Rattle.pg_event.specs.declared.event.Reason.TheVariants as reasons
use Rattle.pg_event.specs.declared.event.Want.TheVariants as wants

-- the walk of an access: what it reads first, the others, the last, and the table that it reads
-- that in
abbrev pub first : Head → List Event → ℕ → ℕ → ℕ → Reading
first head all p la x = read_at (mem_at all) la Four (root_at head all p x) x

abbrev pub second : Head → List Event → ℕ → ℕ → ℕ → Parent
second head all p la x = given head.cfg.m (mem_at all) la Four (root_at head all p x) x

abbrev pub others : Head → List Event → ℕ → ℕ → ℕ → List ℕ → List Reading
others head all p la x ws = readings head.cfg.m (mem_at all) la Three (second head all p la x).table (second head all p la x).rights ws

abbrev pub final : Head → List Event → ℕ → ℕ → ℕ → List ℕ → Reading
final head all p la x ws = last_or (first head all p la x) (others head all p la x ws)

abbrev pub final_parent : Head → List Event → ℕ → ℕ → ℕ → List ℕ → Parent
final_parent head all p la x ws = last_parent head.cfg.m (root_at head all p x) (first head all p la x) (others head all p la x ws)

abbrev pub final_kind : Head → List Event → ℕ → ℕ → ℕ → List ℕ → Kind
final_kind head all p la x ws = kind_of head.cfg (final head all p la x ws).level (final head all p la x ws).value

-- the entries of an event stand before the fills at w, and after them
pub record AccessStands (head : Head) (all : List Event) (s : State) (w i p la x : ℕ) (ws : List ℕ) : Type 0 where
  pub tables : Stands head.cfg.m (mem_at all) s p la (control_at head all p x).pcid w Four (root_at head all p x) x ws
  pub leaf : LeafStands head all s p la (control_at head all p x).pcid w i (final head all p la x ws) (final_kind head all p la x ws)

pub record AccessStood (head : Head) (all : List Event) (s : State) (w i p la x : ℕ) (ws : List ℕ) : Type 0 where
  pub tables : Stood head.cfg.m (mem_at all) s p la (control_at head all p x).pcid w Four (root_at head all p x) x ws
  pub leaf : LeafStood head all s p la (control_at head all p x).pcid w i (final head all p la x ws) (final_kind head all p la x ws)

abbrev pub EventStands : Head → List Event → State → ℕ → ℕ → Event → Type 0
EventStands head all s w i (events.Access p flags la outcome (x ∷ ws)) = AccessStands head all s w i p la x ws
EventStands head all s w i (events.Assist p flags la word (x ∷ ws)) = Stands head.cfg.m (mem_at all) s p la (control_at head all p x).pcid w Four (root_at head all p x) x ws
EventStands head all s w i _ = Unit {0}

abbrev pub EventStood : Head → List Event → State → ℕ → ℕ → Event → Type 0
EventStood head all s w i (events.Access p flags la outcome (x ∷ ws)) = AccessStood head all s w i p la x ws
EventStood head all s w i (events.Assist p flags la word (x ∷ ws)) = Stood head.cfg.m (mem_at all) s p la (control_at head all p x).pcid w Four (root_at head all p x) x ws
EventStood head all s w i _ = Unit {0}

leaf_stands_grow : (head : Head) (all : List Event) (s t : State) → Grows s t → (p la pcid w i : ℕ) (r : Reading) (k : Kind) →
    LeafStands head all s p la pcid w i r k → LeafStands head all t p la pcid w i r k
leaf_stands_grow head all s t g p la pcid w i r (kinds.Leaf frame shift global) h = λ a b. g.translations p _ (h a b)
leaf_stands_grow head all s t g p la pcid w i r kinds.Absent h = tt
leaf_stands_grow head all s t g p la pcid w i r kinds.Reserved h = tt
leaf_stands_grow head all s t g p la pcid w i r (kinds.Table addr) h = tt

leaf_stood_grow : (head : Head) (all : List Event) (s t : State) → Grows s t → (p la pcid w i : ℕ) (r : Reading) (k : Kind) →
    LeafStood head all s p la pcid w i r k → LeafStood head all t p la pcid w i r k
leaf_stood_grow head all s t g p la pcid w i r (kinds.Leaf frame shift global) h = λ a b. g.translations p _ (h a b)
leaf_stood_grow head all s t g p la pcid w i r kinds.Absent h = tt
leaf_stood_grow head all s t g p la pcid w i r kinds.Reserved h = tt
leaf_stood_grow head all s t g p la pcid w i r (kinds.Table addr) h = tt

event_stands_grow : (head : Head) (all : List Event) (s t : State) → Grows s t → (w i : ℕ) (e : Event) → EventStands head all s w i e → EventStands head all t w i e
event_stands_grow head all s t g w i (events.Access p flags la outcome (x ∷ ws)) h = record {
  tables = stands_grow head.cfg.m (mem_at all) s t g p la (control_at head all p x).pcid w Four (root_at head all p x) x ws h.tables;
  leaf = leaf_stands_grow head all s t g p la (control_at head all p x).pcid w i (final head all p la x ws) (final_kind head all p la x ws) h.leaf;
}
event_stands_grow head all s t g w i (events.Access p flags la outcome []) h = tt
event_stands_grow head all s t g w i (events.Assist p flags la word (x ∷ ws)) h = stands_grow head.cfg.m (mem_at all) s t g p la (control_at head all p x).pcid w Four (root_at head all p x) x ws h
event_stands_grow head all s t g w i (events.Assist p flags la word []) h = tt
event_stands_grow head all s t g w i (events.Write p addr value) h = tt
event_stands_grow head all s t g w i (events.MovCr3 p operand) h = tt
event_stands_grow head all s t g w i (events.Invlpg p la) h = tt
event_stands_grow head all s t g w i (events.Invpcid p kind pcid la) h = tt
event_stands_grow head all s t g w i (events.MovCr4Pge p on) h = tt

event_stood_grow : (head : Head) (all : List Event) (s t : State) → Grows s t → (w i : ℕ) (e : Event) → EventStood head all s w i e → EventStood head all t w i e
event_stood_grow head all s t g w i (events.Access p flags la outcome (x ∷ ws)) h = record {
  tables = stood_grow head.cfg.m (mem_at all) s t g p la (control_at head all p x).pcid w Four (root_at head all p x) x ws h.tables;
  leaf = leaf_stood_grow head all s t g p la (control_at head all p x).pcid w i (final head all p la x ws) (final_kind head all p la x ws) h.leaf;
}
event_stood_grow head all s t g w i (events.Access p flags la outcome []) h = tt
event_stood_grow head all s t g w i (events.Assist p flags la word (x ∷ ws)) h = stood_grow head.cfg.m (mem_at all) s t g p la (control_at head all p x).pcid w Four (root_at head all p x) x ws h
event_stood_grow head all s t g w i (events.Assist p flags la word []) h = tt
event_stood_grow head all s t g w i (events.Write p addr value) h = tt
event_stood_grow head all s t g w i (events.MovCr3 p operand) h = tt
event_stood_grow head all s t g w i (events.Invlpg p la) h = tt
event_stood_grow head all s t g w i (events.Invpcid p kind pcid la) h = tt
event_stood_grow head all s t g w i (events.MovCr4Pge p on) h = tt

-- the last moment: not above the event, and with the PCID of all
final_low : (m : ℕ) (look : ℕ → ℕ → ℕ) (la i : ℕ) (level : Level) (table : ℕ) (rights : Rights) (r : Reading) (ws : List ℕ) → is_in_order (r.moment ∷ ws) i ≡ true →
    (last_or r (readings m look la level table rights ws)).moment ≤ i
final_low m look la i level table rights r [] h = leb-true _ _ h
final_low m look la i level table rights r (y ∷ ys) h =
    final_low m look la i (below level) (table_of m (look y (entry_address table level la))) (joined rights (look y (entry_address table level la)))
    (record { level = level; address = entry_address table level la; value = look y (entry_address table level la); moment = y; rights = joined rights (look y (entry_address table level la)) }) ys
    (and_parts (nat_le r.moment y) (is_in_order (y ∷ ys) i) h).1

final_alike : (test : ℕ → Bool) (m : ℕ) (look : ℕ → ℕ → ℕ) (la : ℕ) (level : Level) (table : ℕ) (rights : Rights) (r : Reading) (ws : List ℕ) → list_all test (r.moment ∷ ws) ≡ true →
    test (last_or r (readings m look la level table rights ws)).moment ≡ true
final_alike test m look la level table rights r [] h = (and_parts (test r.moment) true h).0
final_alike test m look la level table rights r (y ∷ ys) h =
    final_alike test m look la (below level) (table_of m (look y (entry_address table level la))) (joined rights (look y (entry_address table level la)))
    (record { level = level; address = entry_address table level la; value = look y (entry_address table level la); moment = y; rights = joined rights (look y (entry_address table level la)) }) ys
    (and_parts (test r.moment) (list_all test (y ∷ ys)) h).1

leads_end : (head : Head) (want : Want) (r : Reading) (rs : List Reading) → leads_to head.cfg want (r ∷ rs) ≡ true →
    is_wanted want (kind_of head.cfg (last_or r rs).level (last_or r rs).value) ≡ true
leads_end head want r [] h = h
leads_end head want r (q ∷ rs) h = leads_end head want q rs (and_parts (is_table (kind_of head.cfg r.level r.value)) (leads_to head.cfg want (q ∷ rs)) h).1

may_grow : (s t : State) → Grows s t → (p la : ℕ) (level : Level) (from : Parent) → MayRead s p la level from → MayRead t p la level from
may_grow s t g p la Four from h = h ∙ ap (λ (f : ℕ → Control). root_of (f p)) (sym g.control)
may_grow s t g p la Three from h = subst (λ (f : ℕ → Control). IsIn (entry_of (f p).pcid la Four from) (t.structures p)) (sym g.control) (g.structures p _ h)
may_grow s t g p la Two from h = subst (λ (f : ℕ → Control). IsIn (entry_of (f p).pcid la Three from) (t.structures p)) (sym g.control) (g.structures p _ h)
may_grow s t g p la One from h = subst (λ (f : ℕ → Control). IsIn (entry_of (f p).pcid la Two from) (t.structures p)) (sym g.control) (g.structures p _ h)

reads_grow : (s t : State) → Grows s t → (p la : ℕ) (from : Parent) (r : Reading) → Reads s p la from r → Reads t p la from r
reads_grow s t g p la from r h = record {
  may = may_grow s t g p la r.level from h.may;
  address = h.address;
  value = ap (λ (f : ℕ → ℕ). f (entry_address from.table r.level la)) g.memory ∙ h.value;
  rights = h.rights;
}

facts : (head : Head) (all : List Event) (c : Claim) (x : ℕ) (ws : List ℕ) → failing_access head all c (x ∷ ws) ≡ None →
    ClaimHolds head all c (control_at head all c.p x).pcid (x ∷ ws) (first head all c.p c.la x) (others head all c.p c.la x ws)
facts head all c x ws h =
    claim_holds head all c (control_at head all c.p x).pcid (x ∷ ws) (first head all c.p c.la x) (others head all c.p c.la x ws) h

assist_facts : (head : Head) (all : List Event) (u : Update) (x : ℕ) (ws : List ℕ) → failing_assist head all u (x ∷ ws) ≡ None →
    UpdateHolds head all u (control_at head all u.p x).pcid (x ∷ ws) (first head all u.p u.la x) (others head all u.p u.la x ws)
assist_facts head all u x ws h =
    update_holds head all u (control_at head all u.p x).pcid (x ∷ ws) (first head all u.p u.la x) (others head all u.p u.la x ws) h

-- the walk of an event at the moment w: its tables are filled
abbrev pub Walk : Head → List Event → State → ℕ → ℕ → ℕ → ℕ → List ℕ → Type 0
Walk head all s w p la x ws =
    Tables head.cfg.m (mem_at all) head s p la (control_at head all p x).pcid w Four (root_at head all p x) x ws (final_parent head all p la x ws) (final head all p la x ws)

walk_of : (head : Head) (all : List Event) (s : State) (w : ℕ) → At head all s w → (a : Asked) (x : ℕ) (ws : List ℕ) → IsWalkable head a.p a.la →
    WalkHolds head all a (control_at head all a.p x).pcid (x ∷ ws) (first head all a.p a.la x ∷ others head all a.p a.la x ws) →
    AreCached head.version (first head all a.p a.la x ∷ others head all a.p a.la x ws) →
    Stands head.cfg.m (mem_at all) s a.p a.la (control_at head all a.p x).pcid w Four (root_at head all a.p x) x ws → Walk head all s w a.p a.la x ws
walk_of head all s w now a x ws inside holds cached stands =
    let may : x ≡ w → root_at head all a.p x ≡ root_of (s.control a.p) = λ e. ap (λ (c : Control). root_of c) (ap (control_at head all a.p) e ∙ now.control a.p) in
    tables head all a.p a.la inside a.want a.number (control_at head all a.p x).pcid w s now Four (root_at head all a.p x) x ws holds.order holds.kinds holds.alike cached stands may

-- the fills of an event at the moment w were taken, and it may come where it is event w
pub record Block (head : Head) (all : List Event) (s : State) (w i : ℕ) (e : Event) : Type 0 where
  pub to : State
  pub leads : Leads head s (fills_at w (event_fills head all e)) to
  pub grows : Grows s to
  pub stood : EventStood head all to w i e
  pub may : i ≡ w → MayCome head to e

idle : (head : Head) (all : List Event) (s : State) (w i : ℕ) (e : Event) → event_fills head all e ≡ [] → EventStood head all s w i e → MayCome head s e → Block head all s w i e
idle head all s w i e none stood may =
    record { to = s; leads = subst (λ fills. Leads head s (fills_at w fills) s) (sym none) refl; grows = grows_refl s; stood = stood; may = λ _. may }

access_block : (head : Head) (all : List Event) (s : State) (w i : ℕ) → At head all s w → (p flags la : ℕ) (outcome : Outcome) (x : ℕ) (ws : List ℕ) → IsWalkable head p la →
    failing_access head all (claim_of i p flags la outcome) (x ∷ ws) ≡ None → AccessStands head all s w i p la x ws → Block head all s w i (events.Access p flags la outcome (x ∷ ws))
access_block head all s w i now p flags la outcome x ws inside h stands =
    let pcid : ℕ = (control_at head all p x).pcid in
    let c : Claim = claim_of i p flags la outcome in
    let want : Want = want_of outcome in
    let holds = facts head all c x ws h in
    let walk = holds.walk in
    let end : Reading = final head all p la x ws in
    let kind : Kind = final_kind head all p la x ws in
    let wanted : is_wanted want kind ≡ true = leads_end head want (first head all p la x) (others head all p la x ws) walk.kinds in
    let low : end.moment ≤ i = final_low head.cfg.m (mem_at all) la i Three (second head all p la x).table (second head all p la x).rights (first head all p la x) ws walk.order in
    let alike : (control_at head all p end.moment).pcid ≡ pcid =
    eqb-true _ _ (final_alike (λ v. (control_at head all p v).pcid == pcid) head.cfg.m (mem_at all) la Three (second head all p la x).table (second head all p la x).rights (first head all p la x) ws walk.alike) in
    let made = walk_of head all s w now (asked_by c) x ws inside walk holds.flags.tables stands.tables in
    let after_tables : At head all made.to w = at_grown head all s made.to w now made.grows in
    let last : Parent = final_parent head all p la x ws in
    let filled = leaves head all made.to outcome p la pcid w i inside after_tables last end alike made.reads kind refl wanted holds.flags.leaf
    (leaf_stands_grow head all s made.to made.grows p la pcid w i end kind stands.leaf) in
    let tables_of : List Fill = table_fills head.cfg.m p la (root_at head all p x) (first head all p la x ∷ others head all p la x ws) in
    let leaf : List Fill = leaf_fills want p la end.level last end.moment in
    let parts : fills_at w (event_fills head all (events.Access p flags la outcome (x ∷ ws))) ≡ fills_at w tables_of ++ fills_at w leaf =
    ap (fills_at w) (walk_parts head.cfg.m want p la (root_at head all p x) (first head all p la x) (others head all p la x ws)) ∙ fills-append w tables_of leaf in
    let whole : Grows s filled.to = grows_on s made.to filled.to made.grows filled.grows in
    record {
      to = filled.to;
      leads = subst (λ steps. Leads head s steps filled.to) (sym parts)
          (leads_on head s (fills_at w tables_of) made.to (fills_at w leaf) filled.to made.leads filled.leads);
      grows = whole;
      stood = record { tables = stood_grow head.cfg.m (mem_at all) made.to filled.to filled.grows p la pcid w Four (root_at head all p x) x ws made.stood; leaf = filled.stood };
      may = λ e. comes head all filled.to c pcid (subst (At head all filled.to) (sym e) (at_grown head all s filled.to w now whole)) last end low
          (λ e2. reads_grow made.to filled.to filled.grows p la last end (made.reads (e2 ∙ e))) kind refl wanted
          (subst (λ v. LeafStood head all filled.to p la pcid v i end kind) (sym e) filled.stood) holds.ends holds.flags.write;
    }

assist_block : (head : Head) (all : List Event) (s : State) (w i : ℕ) → At head all s w → (p flags la word x : ℕ) (ws : List ℕ) → IsWalkable head p la →
    failing_assist head all (update_of i p flags la word) (x ∷ ws) ≡ None →
    Stands head.cfg.m (mem_at all) s p la (control_at head all p x).pcid w Four (root_at head all p x) x ws → Block head all s w i (events.Assist p flags la word (x ∷ ws))
assist_block head all s w i now p flags la word x ws inside h stands =
    let u : Update = update_of i p flags la word in
    let holds = assist_facts head all u x ws h in
    let end : Reading = final head all p la x ws in
    let last : Parent = final_parent head all p la x ws in
    let wanted : is_wanted wants.Present (final_kind head all p la x ws) ≡ true = leads_end head wants.Present (first head all p la x) (others head all p la x ws) holds.walk.kinds in
    let made = walk_of head all s w now (asked_of u) x ws inside holds.walk holds.tables stands in
    let tables_of : List Fill = table_fills head.cfg.m p la (root_at head all p x) (first head all p la x ∷ others head all p la x ws) in
    let parts : fills_at w (event_fills head all (events.Assist p flags la word (x ∷ ws))) ≡ fills_at w tables_of ++ [] =
    ap (fills_at w) (walk_parts head.cfg.m wants.Present p la (root_at head all p x) (first head all p la x) (others head all p la x ws)) ∙ fills-append w tables_of [] in
    record {
      to = made.to;
      leads = subst (λ steps. Leads head s steps made.to) (sym parts) (leads_on head s (fills_at w tables_of) made.to [] made.to made.leads refl);
      grows = made.grows;
      stood = made.stood;
      may = λ e. assists head made.to u last end (λ e2. made.reads (e2 ∙ e)) wanted holds.updated;
    }

block : (head : Head) (all : List Event) (s : State) (w i : ℕ) → At head all s w → (e : Event) → broken_rule head e ≡ None → failing_event head all i e ≡ None →
    EventStands head all s w i e → Block head all s w i e
block head all s w i now (events.Access p flags la outcome (x ∷ ws)) well h stands =
    access_block head all s w i now p flags la outcome x ws (access_inside head p flags la outcome (x ∷ ws) well) h stands
block head all s w i now (events.Access p flags la outcome []) well h stands = absurd (cc)
block head all s w i now (events.Assist p flags la word (x ∷ ws)) well h stands =
    assist_block head all s w i now p flags la word x ws (assist_inside head p flags la word (x ∷ ws) well) h stands
block head all s w i now (events.Assist p flags la word []) well h stands = absurd (cc)
block head all s w i now (events.Write p addr value) well h stands = idle head all s w i _ refl tt tt
block head all s w i now (events.MovCr3 p operand) well h stands = idle head all s w i _ refl tt tt
block head all s w i now (events.Invlpg p la) well h stands = idle head all s w i _ refl tt tt
block head all s w i now (events.Invpcid p kind pcid la) well h stands = idle head all s w i _ refl tt tt
block head all s w i now (events.MovCr4Pge p on) well h stands = idle head all s w i _ refl tt tt

abbrev pub AllStand : Head → List Event → State → ℕ → ℕ → List Event → Type 0
AllStand head all s w i [] = Unit {0}
AllStand head all s w i (e ∷ es) = EventStands head all s w i e × AllStand head all s w (i + 1) es

abbrev pub AllStood : Head → List Event → State → ℕ → ℕ → List Event → Type 0
AllStood head all s w i [] = Unit {0}
AllStood head all s w i (e ∷ es) = EventStood head all s w i e × AllStood head all s w (i + 1) es

all_stand_grow : (head : Head) (all : List Event) (s t : State) → Grows s t → (w i : ℕ) (es : List Event) → AllStand head all s w i es → AllStand head all t w i es
all_stand_grow head all s t g w i [] h = tt
all_stand_grow head all s t g w i (e ∷ es) h = (event_stands_grow head all s t g w i e h.0, all_stand_grow head all s t g w (i + 1) es h.1)

all_stood_grow : (head : Head) (all : List Event) (s t : State) → Grows s t → (w i : ℕ) (es : List Event) → AllStood head all s w i es → AllStood head all t w i es
all_stood_grow head all s t g w i [] h = tt
all_stood_grow head all s t g w i (e ∷ es) h = (event_stood_grow head all s t g w i e h.0, all_stood_grow head all s t g w (i + 1) es h.1)

-- the first of the events may come, if it is event w
abbrev pub FirstMay : Head → State → ℕ → ℕ → List Event → Type 0
FirstMay head s w i [] = Unit {0}
FirstMay head s w i (e ∷ es) = i ≡ w → MayCome head s e

outcome_grow : (head : Head) (s t : State) → Grows s t → (p la : ℕ) (access : AccessKind) (outcome : Outcome) (want : Want) → HasOutcome head s p la access outcome want → HasOutcome head t p la access outcome want
outcome_grow head s t g p la access outcome wants.Leaf h =
    (h.0, g.translations p h.0 h.1, ap (λ (f : ℕ → Control). is_usable (f p) la h.0) g.control ∙ h.2, h.3)
outcome_grow head s t g p la access outcome wants.Absent h =
    (h.0, h.1, may_grow s t g p la h.0 h.1 h.2, ap (λ (f : ℕ → ℕ). kind_of head.cfg h.0 (f (entry_address h.1.table h.0 la))) g.memory ∙ h.3, h.4)
outcome_grow head s t g p la access outcome wants.Reserved h =
    (h.0, h.1, may_grow s t g p la h.0 h.1 h.2, ap (λ (f : ℕ → ℕ). kind_of head.cfg h.0 (f (entry_address h.1.table h.0 la))) g.memory ∙ h.3, h.4)
outcome_grow head s t g p la access outcome wants.Present h = absurd h

assist_grow : (head : Head) (s t : State) → Grows s t → (p la : ℕ) (access : AccessKind) (word : ℕ) (dirty : Bool) → MayAssist head s p la access word dirty → MayAssist head t p la access word dirty
assist_grow head s t g p la access word dirty h =
    let level : Level = h.0 in
    let from : Parent = h.1 in
    let now : (ℕ → ℕ) → ℕ = λ f. f (entry_address from.table level la) in (
      level,
      from,
      may_grow s t g p la level from h.2,
      h.3,
      ap (λ (f : ℕ → ℕ). is_wanted wants.Present (kind_of head.cfg level (now f))) g.memory ∙ h.4,
      ap (λ (f : ℕ → ℕ). not dirty || may_dirty head.cfg access (joined from.rights (now f)) (kind_of head.cfg level (now f))) g.memory ∙ h.5,
    )

may_come_grow : (head : Head) (s t : State) → Grows s t → (e : Event) → MayCome head s e → MayCome head t e
may_come_grow head s t g (events.Access p flags la outcome ws) h = outcome_grow head s t g p la (access_kind flags) outcome (want_of outcome) h
may_come_grow head s t g (events.Assist p flags la word ws) h = assist_grow head s t g p la (access_kind flags) word (says_dirty flags) h
may_come_grow head s t g (events.Write p addr value) h = tt
may_come_grow head s t g (events.MovCr3 p operand) h = tt
may_come_grow head s t g (events.Invlpg p la) h = tt
may_come_grow head s t g (events.Invpcid p kind pcid la) h = tt
may_come_grow head s t g (events.MovCr4Pge p on) h = tt

pub record Blocks (head : Head) (all : List Event) (s : State) (w i : ℕ) (es : List Event) : Type 0 where
  pub to : State
  pub leads : Leads head s (fills_at w (flat_map (event_fills head all) es)) to
  pub grows : Grows s to
  pub stood : AllStood head all to w i es
  pub may : FirstMay head to w i es

none_parts : (i : ℕ) (o : Option Reason) (rest : Option (ℕ × Reason)) → first_some i o rest ≡ None → (o ≡ None) × (rest ≡ None)
none_parts i None rest h = (refl, h)
none_parts i (Some reason) rest h = absurd (cc)

blocks : (head : Head) (all : List Event) (w : ℕ) (es : List Event) (i : ℕ) (s : State) → At head all s w → AllByRecursion (λ e. broken_rule head e ≡ None) es → first_bad_from head all i es ≡ None →
    AllStand head all s w i es → Blocks head all s w i es
blocks head all w [] i s now well h stand = record { to = s; leads = refl; grows = grows_refl s; stood = tt; may = tt }
blocks head all w (e ∷ es) i s now well h stand =
    let parts = none_parts _ _ _ h in
    let one = block head all s w i now e well.0 parts.0 stand.0 in
    let more = blocks head all w es (i + 1) one.to (at_grown head all s one.to w now one.grows) well.1 parts.1 (all_stand_grow head all s one.to one.grows w (i + 1) es stand.1) in
    record {
      to = more.to;
      leads = subst (λ steps. Leads head s steps more.to) (sym (fills-append w (event_fills head all e) (flat_map (event_fills head all) es)))
          (leads_on head s (fills_at w (event_fills head all e)) one.to (fills_at w (flat_map (event_fills head all) es)) more.to one.leads more.leads);
      grows = grows_on s one.to more.to one.grows more.grows;
      stood = (event_stood_grow head all one.to more.to more.grows w i e one.stood, more.stood);
      may = λ same. may_come_grow head one.to more.to more.grows e (one.may same);
    }

-- what stood at w stands for w + 1 after event w
stood_stays : (head : Head) (all : List Event) (s : State) (w p la pcid : ℕ) (e : Event) → At head all s w → slice_get all w ≡ Some e →
    (level : Level) (from : Parent) (x : ℕ) (ws : List ℕ) →
    structures_survive head all p pcid la (readings head.cfg.m (mem_at all) la level from.table from.rights (x ∷ ws)) ≡ true →
    Stood head.cfg.m (mem_at all) s p la pcid w level from x ws → Stands head.cfg.m (mem_at all) (after_event head s e) p la pcid (w + 1) level from x ws
stood_stays head all s w p la pcid e now at level from x [] kept h = tt
stood_stays head all s w p la pcid e now at level from x (y ∷ ys) kept h =
    let gave : Parent = given head.cfg.m (mem_at all) la level from x in
    let mine : Structure = entry_of pcid la level gave in
    let parts = and_parts (structure_survives head all p mine.key x y)
    (structures_survive head all p pcid la (readings head.cfg.m (mem_at all) la (below level) gave.table gave.rights (y ∷ ys))) kept in (
      λ low high. structure_stays head all s p w mine x y e now parts.0 (omega (arith, low)) (omega (arith, high)) at (h.0 (omega (arith, low)) (omega (arith, high))),
      stood_stays head all s w p la pcid e now at (below level) gave y ys parts.1 h.1,
    )

leaf_stays : (head : Head) (all : List Event) (s : State) (w : ℕ) (c : Claim) (pcid : ℕ) (e : Event) → At head all s w → slice_get all w ≡ Some e →
    (r : Reading) (k : Kind) → failing_end head all c pcid r k ≡ None →
    LeafStood head all s c.p c.la pcid w c.number r k → LeafStands head all (after_event head s e) c.p c.la pcid (w + 1) c.number r k
leaf_stays head all s w c pcid e now at r (kinds.Leaf frame shift g) h stood =
    let t : Translation = leaf_of head all c.p c.la pcid r frame shift g in
    let kept = guard_none (translation_survives head all c.p t.key r.moment c.number) reasons.TranslationDropped _ h in
    λ low high. translation_stays head all s c.p w t r.moment c.number e now kept.0 (omega (arith, low)) (omega (arith, high)) at (stood (omega (arith, low)) (omega (arith, high)))
leaf_stays head all s w c pcid e now at r kinds.Absent h stood = tt
leaf_stays head all s w c pcid e now at r kinds.Reserved h stood = tt
leaf_stays head all s w c pcid e now at r (kinds.Table addr) h stood = tt

event_stays : (head : Head) (all : List Event) (s : State) (w i : ℕ) (e : Event) → At head all s w → slice_get all w ≡ Some e → (f : Event) → failing_event head all i f ≡ None →
    EventStood head all s w i f → EventStands head all (after_event head s e) (w + 1) i f
event_stays head all s w i e now at (events.Access p flags la outcome (x ∷ ws)) h stood =
    let pcid : ℕ = (control_at head all p x).pcid in
    let c : Claim = claim_of i p flags la outcome in
    let holds = facts head all c x ws h in
    record {
      tables = stood_stays head all s w p la pcid e now at Four (root_at head all p x) x ws holds.walk.kept stood.tables;
      leaf = leaf_stays head all s w c pcid e now at (final head all p la x ws) (final_kind head all p la x ws) holds.ends stood.leaf;
    }
event_stays head all s w i e now at (events.Access p flags la outcome []) h stood = tt
event_stays head all s w i e now at (events.Assist p flags la word (x ∷ ws)) h stood =
    stood_stays head all s w p la (control_at head all p x).pcid e now at Four (root_at head all p x) x ws (assist_facts head all (update_of i p flags la word) x ws h).walk.kept stood
event_stays head all s w i e now at (events.Assist p flags la word []) h stood = tt
event_stays head all s w i e now at (events.Write p addr value) h stood = tt
event_stays head all s w i e now at (events.MovCr3 p operand) h stood = tt
event_stays head all s w i e now at (events.Invlpg p la) h stood = tt
event_stays head all s w i e now at (events.Invpcid p kind pcid la) h stood = tt
event_stays head all s w i e now at (events.MovCr4Pge p on) h stood = tt

all_stay : (head : Head) (all : List Event) (s : State) (w : ℕ) (e : Event) → At head all s w → slice_get all w ≡ Some e → (es : List Event) (i : ℕ) → first_bad_from head all i es ≡ None →
    AllStood head all s w i es → AllStand head all (after_event head s e) (w + 1) i es
all_stay head all s w e now at [] i h stood = tt
all_stay head all s w e now at (f ∷ es) i h stood =
    let parts = none_parts _ _ _ h in
    (event_stays head all s w i e now at f parts.0 stood.0, all_stay head all s w e now at es (i + 1) parts.1 stood.1)

-- at the start nothing need stand
none_stand : (m : ℕ) (look : ℕ → ℕ → ℕ) (s : State) (p la pcid : ℕ) (level : Level) (from : Parent) (x : ℕ) (ws : List ℕ) → Stands m look s p la pcid 0 level from x ws
none_stand m look s p la pcid level from x [] = tt
none_stand m look s p la pcid level from x (y ∷ ys) = (λ low _. absurd (omega (arith, low)), none_stand m look s p la pcid (below level) (given m look la level from x) y ys)

no_leaf_stands : (head : Head) (all : List Event) (s : State) (p la pcid i : ℕ) (r : Reading) (k : Kind) → LeafStands head all s p la pcid 0 i r k
no_leaf_stands head all s p la pcid i r (kinds.Leaf frame shift g) = λ low _. absurd (omega (arith, low))
no_leaf_stands head all s p la pcid i r kinds.Absent = tt
no_leaf_stands head all s p la pcid i r kinds.Reserved = tt
no_leaf_stands head all s p la pcid i r (kinds.Table addr) = tt

none_stands : (head : Head) (all : List Event) (s : State) (i : ℕ) (e : Event) → EventStands head all s 0 i e
none_stands head all s i (events.Access p flags la outcome (x ∷ ws)) = record {
  tables = none_stand head.cfg.m (mem_at all) s p la (control_at head all p x).pcid Four (root_at head all p x) x ws;
  leaf = no_leaf_stands head all s p la (control_at head all p x).pcid i (final head all p la x ws) (final_kind head all p la x ws);
}
none_stands head all s i (events.Access p flags la outcome []) = tt
none_stands head all s i (events.Assist p flags la word (x ∷ ws)) = none_stand head.cfg.m (mem_at all) s p la (control_at head all p x).pcid Four (root_at head all p x) x ws
none_stands head all s i (events.Assist p flags la word []) = tt
none_stands head all s i (events.Write p addr value) = tt
none_stands head all s i (events.MovCr3 p operand) = tt
none_stands head all s i (events.Invlpg p la) = tt
none_stands head all s i (events.Invpcid p kind pcid la) = tt
none_stands head all s i (events.MovCr4Pge p on) = tt

start_stands : (head : Head) (all : List Event) (s : State) (es : List Event) (i : ℕ) → AllStand head all s 0 i es
start_stands head all s [] i = tt
start_stands head all s (e ∷ es) i = (none_stands head all s i e, start_stands head all s es (i + 1))

get-seam : (done : List Event) (e : Event) (rest : List Event) → slice_get (done ++ e ∷ rest) (length done) ≡ Some e
get-seam [] e rest = refl
get-seam (d ∷ done) e rest = get-seam done e rest

-- no fill of an event stands after it
none_after : (head : Head) (all : List Event) (i v : ℕ) (e : Event) → failing_event head all i e ≡ None → i < v → fills_at v (event_fills head all e) ≡ []
none_after head all i v (events.Access p flags la outcome (x ∷ ws)) h lt =
    no_fills_after head.cfg.m (want_of outcome) (mem_at all) p la i v lt Four (root_at head all p x) x ws (facts head all (claim_of i p flags la outcome) x ws h).walk.order
none_after head all i v (events.Access p flags la outcome []) h lt = refl
none_after head all i v (events.Assist p flags la word (x ∷ ws)) h lt =
    no_fills_after head.cfg.m wants.Present (mem_at all) p la i v lt Four (root_at head all p x) x ws (assist_facts head all (update_of i p flags la word) x ws h).walk.order
none_after head all i v (events.Assist p flags la word []) h lt = refl
none_after head all i v (events.Write p addr value) h lt = refl
none_after head all i v (events.MovCr3 p operand) h lt = refl
none_after head all i v (events.Invlpg p la) h lt = refl
none_after head all i v (events.Invpcid p kind pcid la) h lt = refl
none_after head all i v (events.MovCr4Pge p on) h lt = refl

rest_runs : (head : Head) (all : List Event) (rest done : List Event) (w : ℕ) (s : State) → all ≡ done ++ rest → w ≡ length done → At head all s w →
    ((v : ℕ) → w ≤ v → fills_at v (flat_map (event_fills head all) done) ≡ []) →
    AllStand head all s w w rest → AllByRecursion (λ e. broken_rule head e ≡ None) rest → first_bad_from head all w rest ≡ None →
    (t : State) × Leads head s (steps_from (fills_of head all) w rest) t
rest_runs head all [] done w s whole count now past stand well h = (s, refl)
rest_runs head all (e ∷ rest) done w s whole count now past stand well h =
    let fills : Event → List Fill = event_fills head all in
    let made = blocks head all w (e ∷ rest) w s now well h stand in
    let parts = none_parts _ _ _ h in
    let here : slice_get all w ≡ Some e = ap (λ xs. slice_get xs w) whole ∙ ap (slice_get (done ++ e ∷ rest)) count ∙ get-seam done e rest in
    let whole' : all ≡ (done ++ e ∷ []) ++ rest = whole ∙ sym (append_assoc done (e ∷ []) rest) in
    let count' : w + 1 ≡ length (done ++ e ∷ []) = ap (λ n. n + 1) count ∙ sym (length_push done e) in
    let front : take w all ≡ done = ap (λ n. take n all) count ∙ ap (take (length done)) whole ∙ take-append_seam done (e ∷ rest) in
    let longer : take (w + 1) all ≡ take w all ++ e ∷ [] =
    ap (λ n. take n all) count' ∙ ap (take (length (done ++ e ∷ []))) whole' ∙ take-append_seam (done ++ e ∷ []) rest ∙ ap (λ xs. xs ++ e ∷ []) (sym front) in
    let at : At head all made.to w = at_grown head all s made.to w now made.grows in
    let t : State = after_event head made.to e in
    let at' : At head all t (w + 1) = record {
      memory = λ a. ap (fold (written a) 0) longer ∙ fold-append (written a) 0 (take w all) (e ∷ []) ∙ ap (λ v. written a v e) (at.memory a);
      control = λ q. ap (fold (controlled head.cfg.m q) (started head.cfg.m (slice_get head.processors q))) longer
          ∙ fold-append (controlled head.cfg.m q) (started head.cfg.m (slice_get head.processors q)) (take w all) (e ∷ [])
          ∙ ap (λ c. controlled head.cfg.m q c e) (at.control q);
    } in
    let past' : (v : ℕ) → w + 1 ≤ v → fills_at v (flat_map fills (done ++ e ∷ [])) ≡ [] = λ v lt.
    ap (fills_at v) (flat_map-append fills done (e ∷ [])) ∙ fills-append v (flat_map fills done) (fills e ++ [])
    ∙ ap (λ xs. xs ++ fills_at v (fills e ++ [])) (past v (omega (arith, lt)))
    ∙ fills-append v (fills e) [] ∙ ap (λ xs. xs ++ []) (none_after head all w v e parts.0 (omega (arith, lt))) in
    let mine : fills_at w (fills_of head all) ≡ fills_at w (flat_map fills (e ∷ rest)) =
    ap (λ xs. fills_at w (flat_map fills xs)) whole ∙ ap (fills_at w) (flat_map-append fills done (e ∷ rest))
    ∙ fills-append w (flat_map fills done) (flat_map fills (e ∷ rest))
    ∙ ap (λ xs. xs ++ fills_at w (flat_map fills (e ∷ rest))) (past w (omega arith)) in
    let more = rest_runs head all rest (done ++ e ∷ []) (w + 1) t whole' count' at' past' (all_stay head all made.to w e at here rest (w + 1) parts.1 made.stood.1) well.1 parts.1 in (
      more.0,
      leads_on head s (fills_at w (fills_of head all)) made.to (Do e ∷ steps_from (fills_of head all) (w + 1) rest) more.0
          (subst (λ steps. Leads head s steps made.to) (sym mine) made.leads) ((well.0, made.may refl), more.1),
    )

-- the steps that moments name are a run
pub plan_runs : (head : Head) (events : List Event) → AllByRecursion (λ e. broken_rule head e ≡ None) events → Accepted head events → IsRun head (steps_of head events)
plan_runs head events well h =
    let run = rest_runs head events events [] 0 (start head) refl refl (record { memory = λ a. refl; control = λ q. refl }) (λ v lt. refl)
    (start_stands head events (start head) events 0) well h in
    leads_runs head (start head) (steps_of head events) run.0 run.1

pub accepted_events_run : AcceptedEventsRun
accepted_events_run head events well h = (steps_of head events, plan_runs head events well h, plan_visible head events)

pub accepted_records_run : AcceptedRecordsRun
accepted_records_run r is h = accepted_events_run r.head r.events is.well h
