-- Where no reading of a reach witnesses an event, no moments do.
use Rattle.std.proofs.Common.{◌≡◌, ℕ, ◌+◌, ◌<◌, ◌≤◌, ◌%◌, ◌^◌, ◌==◌, ◌&&◌, ◌||◌, not, cond, inl, inr, min, max, true, false, List, [], ◌∷◌, ◌++◌, length, refl, ap, sym, ◌∙◌, subst, arith, Bool, Option, Some, None}
use Rattle.std.specs.List.{All}
use Rattle.std.proofs.lemmas.Bool.{cases_lt, and_parts, and_from, eqb-true, eq-eqb}
use Rattle.std.proofs.lemmas.List.Elements.{All-contains}
use Rattle.pg_entry.specs.declared.Cause.{Cause}
use Rattle.pg_entry.specs.declared.Cause.TheVariants as causes
use Rattle.pg_entry.specs.declared.Level.{Level}
use Rattle.pg_entry.specs.declared.Level.TheVariants.{Four, Three}
use Rattle.pg_entry.specs.declared.Kind.{Kind}
use Rattle.pg_entry.specs.declared.Kind.TheVariants as kinds
use Rattle.pg_entry.specs.Kinds.{kind_of}
use Rattle.pg_event.specs.declared.claim.Claim.{Claim}
use Rattle.pg_event.specs.declared.claim.Update.{Update}
use Rattle.pg_event.specs.declared.control.Control.{Control}
use Rattle.pg_event.specs.declared.event.Event.{Event}
use Rattle.pg_event.specs.declared.event.Event.TheVariants.{Write, Access, Assist, MovCr3, Invlpg, Invpcid, MovCr4Pge}
use Rattle.pg_event.specs.declared.event.Outcome.{Outcome}
use Rattle.pg_event.specs.declared.event.Outcome.TheVariants.{Page, Fault}
use Rattle.pg_event.specs.declared.event.Want.{Want}
use Rattle.pg_event.specs.declared.event.Want.TheVariants as wants
use Rattle.pg_event.specs.declared.walk.Parent.{Parent}
use Rattle.pg_event.specs.Form.{broken_rule}
use Rattle.pg_event.specs.Heads.{Head, judges_accessed}
use Rattle.pg_event.specs.Spelling.{Recorded}
use Rattle.pg_event.specs.Values.{mem_at, control_at}
use Rattle.pg_event.specs.Walk.{Reading, readings, below}
use Rattle.pg_event.specs.Wants.{want_of, is_wanted, may_dirty}
use Rattle.pg_event.specs.Invalidation.{translation_key, must_drop_translation}
use Rattle.pg_event.specs.declared.keys.TranslationKey.{TranslationKey}
use Rattle.pg_event.specs.declared.event.Reason.{Reason}
use Rattle.pg_entry.specs.Permission.{joined}
use Rattle.pg_event.specs.Witness.{last_or, failing_leaf, failing_fault, failing_end, is_updated, failing_event, failing_access, failing_assist, claim_of, update_of, translation_survives}
use Rattle.pg_run_of.specs.Plan.{root_at}
use Rattle.pg_run_of.proofs.Standing.{seen, given}
use Rattle.pg_run_of.proofs.Accesses.{guard_none, bar_none, claim_holds, update_holds}
use Rattle.pg_run_of.proofs.Kept.{survives_none}
use Rattle.pg_run_of.proofs.Chains.{next_or, Comes, Holds, Ends, IsFlagged, reading_at, pass, access_none, assist_none}
use Rattle.pg_run_of.proofs.Certified.{assist_judged}
use Rattle.pg_search.specs.ReachableTables as ways
use Rattle.pg_search.specs.ReachableTables.{first_or, IsChain, IsWayFromRoot}
use Rattle.pg_search.specs.Law.{with_moments}
use Rattle.pg_reach.specs.declared.walker.Walker.{Walker}
use Rattle.pg_reach.specs.declared.reach.Reach.{Reach}
use Rattle.pg_reach.specs.declared.since.Bounds.{Bounds}
use Rattle.pg_reach.specs.Reaching.{way_of, up_to, IsReach, IsFresher}
use Rattle.pg_search.specs.Freshness.{is_as_fresh}
use Rattle.pg_reach.proofs.Fresh.{later_fresh, fresher_on}
use Rattle.pg_reach.specs.Asking.{want_by, Asks, last_moment, pcid_of, AreUnder}
use Rattle.pg_reach.specs.Bounds.{AreBounds}
use Rattle.pg_reach.specs.Ends.{IsRefused, AreRefused}
use Rattle.pg_reach.specs.Given.{GivesBy}
use Rattle.pg_reach.proofs.Gives.{end_gives}
use Rattle.pg_reach.proofs.Coming.{AreLevels, EndsIn, begins_in, ends_in}
use Rattle.pg_reach.proofs.Later.{leaf_later}

-- a way is what one comes by

first_is : (w : ℕ) (ws : List ℕ) → first_or w ws ≡ next_or w ws
first_is w [] = refl
first_is w (x ∷ xs) = refl

chain_comes : (head : Head) (events : List Event) (v : ways.Walker) (w : ℕ) (level : Level) (from : Parent) (ws : List ℕ) (at : Level) (to : Parent) → IsChain head events v w level from ws at to →
    Comes head events v.p v.la v.pcid w level from ws at to
chain_comes head events v w level from [] at to h = h
chain_comes head events v w level from (x ∷ []) at to h =
    (record { low = h.0.low; alike = h.0.alike; table = h.0.table; cached = h.0.cached; kept = h.0.kept }, chain_comes head events v w (below level) (given head.cfg.m (mem_at events) v.la level from x) [] at to h.1)
chain_comes head events v w level from (x ∷ y ∷ ys) at to h =
    (record { low = h.0.low; alike = h.0.alike; table = h.0.table; cached = h.0.cached; kept = h.0.kept }, chain_comes head events v w (below level) (given head.cfg.m (mem_at events) v.la level from x) (y ∷ ys) at to h.1)

pub way_comes : (head : Head) (events : List Event) (v : ways.Walker) (w : ℕ) (ws : List ℕ) (at : Level) (to : Parent) → IsWayFromRoot head events v w ws at to →
    Comes head events v.p v.la v.pcid w Four (root_at head events v.p (next_or w ws)) ws at to
way_comes head events v w ws at to h =
    subst (λ first. Comes head events v.p v.la v.pcid w Four (root_at head events v.p first) ws at to) (first_is w ws) (chain_comes head events v w Four (root_at head events v.p (first_or w ws)) ws at to h.1)

-- the reaches of each level, with what is refused there
pub record AreWhole (r : Recorded) (v : Walker) (e : Event) (since : ℕ) (b : Bounds) (lists : Level → List Reach) (found : Option (List ℕ)) : Type 0 where
  pub bounds : AreBounds r v since b
  pub levels : AreLevels r v b lists
  pub each : (level : Level) → All (IsReach r v level) (lists level)
  pub refused : (level : Level) → All (λ x. AreRefused r v e level (max x.from since) (min x.to v.number + 1) x found) (lists level)
  pub small : v.number < 2 ^ 32
  pub within : v.number ≤ length r.events

-- reading the end of a walk at the latest moment at which it may be
record Latest (r : Recorded) (v : Walker) (e : Event) (want : Want) (at : Level) (to : Parent) (w : ℕ) (found : Option (List ℕ)) (all : List ℕ) : Type 0 where
  m : ℕ
  ws : List ℕ
  later : w ≤ m
  comes : Comes r.head r.events v.p v.la v.pcid m Four (root_at r.head r.events v.p (next_or m ws)) ws at to
  ends : Ends r.head r.events v.p v.la v.pcid want (max m v.number) at to m
  same : seen (mem_at r.events) v.la at to m ≡ seen (mem_at r.events) v.la at to w
  none : failing_event r.head r.events (max m v.number) (with_moments (ws ++ m ∷ []) e) ≡ None → IsFresher v.freshest found all

latest_of : (r : Recorded) (v : Walker) (e : Event) (since : ℕ) (b : Bounds) (lists : Level → List Reach) (found : Option (List ℕ)) (last : Reading) (all : List ℕ) → AreWhole r v e since b lists found → (h : EndsIn r v (want_by e) since lists last all) →
    GivesBy r.head.cfg e (kind_of r.head.cfg h.at (seen (mem_at r.events) v.la h.at h.to h.w)) → Latest r v e (want_by e) h.at h.to h.w found all
latest_of r v e since b lists found last all whole h gives =
    let x : Reach = h.there.0 in
    let table : x.table ≡ h.to = h.there.2.table in
    let seen_in : Parent → ℕ → ℕ = λ t k. seen (mem_at r.events) v.la h.at t k in
    let reach : IsReach r v h.at x = All-contains (IsReach r v h.at) (lists h.at) x (whole.each h.at) h.there.1 in
    let refused : AreRefused r v e h.at (max x.from since) (min x.to v.number + 1) x found = All-contains (λ x. AreRefused r v e h.at (max x.from since) (min x.to v.number + 1) x found) (lists h.at) x (whole.refused h.at) h.there.1 in
    let wanted : is_wanted (want_by e) (kind_of r.head.cfg h.at (seen_in x.table h.w)) ≡ true = ap (λ t. is_wanted (want_by e) (kind_of r.head.cfg h.at (seen_in t h.w))) table ∙ h.wanted in
    let same : GivesBy r.head.cfg e (kind_of r.head.cfg h.at (seen_in x.table h.w)) = subst (λ t. GivesBy r.head.cfg e (kind_of r.head.cfg h.at (seen_in t h.w))) (sym table) gives in
    let is : IsRefused r v e h.at x found h.w = refused h.w (omega (arith, h.there.2.from, h.late)) (omega (arith, h.there.2.to, h.low)) h.under wanted same in
    let by = reach.way is.m (omega (arith, h.there.2.from, is.later)) is.within is.under in
    let value : seen_in h.to is.m ≡ seen_in h.to h.w = subst (λ t. seen_in t is.m ≡ seen_in t h.w) table is.same in
    let fresh : v.freshest ≡ true → is_as_fresh (up_to is.m x.latest) all ≡ true = λ f. ap (is_as_fresh (up_to is.m x.latest)) (sym h.is) ∙ later_fresh x h.w is.m h.before reach.next is.small is.later (h.there.2.fresh f) in
    record {
      m = is.m;
      ws = by.0;
      later = is.later;
      comes = way_comes r.head r.events (way_of v) is.m by.0 h.at h.to (subst (λ (t : Parent). IsWayFromRoot r.head r.events (way_of v) is.m by.0 h.at t) table by.2);
      ends = record { low = omega arith; wanted = ap (λ n. is_wanted (want_by e) (kind_of r.head.cfg h.at n)) value ∙ h.wanted; alike = is.under };
      same = value;
      none = λ good. fresher_on v.freshest found (up_to is.m x.latest) all (is.none (ap (λ (ms : List ℕ). failing_event r.head r.events (max is.m v.number) (with_moments ms e)) by.1 ∙ good)) fresh;
    }

-- an access

-- the claim of an event that comes at a moment, or at its own number where that is later
abbrev pub moved : Claim → ℕ → Claim
moved c m = record c { number = max m c.number }

fault_later : (head : Head) (c : Claim) (cause : Cause) (w m : ℕ) (outcome : Outcome) → w ≤ m → failing_fault head.cfg c cause w outcome ≡ None → failing_fault head.cfg (moved c m) cause m outcome ≡ None
fault_later head c cause w m (Page page) low h = absurd (cc)
fault_later head c cause w m (Fault code) low h =
    let both = guard_none (w == c.number) _ _ h in
    let now : w ≡ c.number = eqb-true _ _ both.0 in
    let is : m ≡ max m c.number = omega (arith, now, low) in
    pass (m == max m c.number) _ _ (eq-eqb m (max m c.number) is) both.1

pass_own : {X : Type 0} (own global : Bool) (x : X) (o : Option X) → own ≡ true → o ≡ None → cond (not own && not global) (Some x) o ≡ None
pass_own true global x o is h = h
pass_own false global x o is h = absurd (cc)

end_later : (head : Head) (events : List Event) (c : Claim) (pcid : ℕ) (at : Level) (to : Parent) (w m : ℕ) → w ≤ m → c.number ≤ length events → (control_at head events c.p m).pcid ≡ pcid → seen (mem_at events) c.la at to m ≡ seen (mem_at events) c.la at to w →
    (k : Kind) → failing_end head events c pcid (reading_at events c.la at to w) k ≡ None → failing_end head events (moved c m) pcid (reading_at events c.la at to m) k ≡ None
end_later head events c pcid at to w m low within under same (kinds.Leaf frame shift g) h =
    elim (cases_lt c.number m) as (λ _. failing_end head events (moved c m) pcid (reading_at events c.la at to m) (kinds.Leaf frame shift g) ≡ None) [
      | inl lt ↦
          let is : m ≡ max m c.number = omega (arith, lt) in
          let global : ℕ → Bool = λ k. g && (control_at head events c.p k).pge in
          let key : ℕ → TranslationKey = λ k. translation_key pcid shift (global k) c.la in
          let kept = guard_none (translation_survives head events c.p (key w) w c.number) _ _ h in
          let used = bar_none (not ((control_at head events c.p c.number).pcid == pcid) && not (global w)) _ _ kept.1 in
          let leaf : ℕ → Option Reason = λ value. failing_leaf head.cfg c.kind (joined to.rights value) (frame + c.la % 2 ^ shift) c.outcome in
          let answer : leaf (seen (mem_at events) c.la at to m) ≡ None = ap leaf same ∙ used.1 in
          let now : failing_end head events (record c { number = m }) pcid (reading_at events c.la at to m) (kinds.Leaf frame shift g) ≡ None =
          pass (translation_survives head events c.p (key m) m m) _ _ (survives_none head events c.p (λ d e. must_drop_translation head.cfg.rules d e (key m)) m)
          (pass_own ((control_at head events c.p m).pcid == pcid) (global m) _ _ (eq-eqb _ _ under) answer) in
          subst (λ k. failing_end head events (record c { number = k }) pcid (reading_at events c.la at to m) (kinds.Leaf frame shift g) ≡ None) is now
      | inr le ↦
          let is : c.number ≡ max m c.number = omega (arith, le) in
          subst (λ k. failing_end head events (record c { number = k }) pcid (reading_at events c.la at to m) (kinds.Leaf frame shift g) ≡ None) is (leaf_later head events c pcid at to w m frame shift g low le within same h)
    ]
end_later head events c pcid at to w m low within under same kinds.Absent h = fault_later head c causes.Absent w m c.outcome low h
end_later head events c pcid at to w m low within under same kinds.Reserved h = fault_later head c causes.Reserved w m c.outcome low h
end_later head events c pcid at to w m low within under same (kinds.Table addr) h = absurd (cc)

access_refused : (r : Recorded) (v : Walker) (flags : ℕ) (outcome : Outcome) (own : List ℕ) (since : ℕ) (b : Bounds) (lists : Level → List Reach) (found : Option (List ℕ)) → AreWhole r v (Access v.p flags v.la outcome own) since b lists found →
    (ws : List ℕ) → failing_access r.head r.events (claim_of v.number v.p flags v.la outcome) ws ≡ None → pcid_of r v ws ≡ v.pcid → since ≤ last_moment ws → IsFresher v.freshest found ws
access_refused r v flags outcome own since b lists found whole [] good alike late = absurd (cc)
access_refused r v flags outcome own since b lists found whole (w ∷ ws) good alike late =
    let head : Head = r.head in
    let events : List Event = r.events in
    let c : Claim = claim_of v.number v.p flags v.la outcome in
    let e : Event = Access v.p flags v.la outcome own in
    let start : Control = control_at head events v.p w in
    let root : Parent = root_at head events v.p w in
    let gave : Parent = given head.cfg.m (mem_at events) v.la Four root w in
    let read : Reading = reading_at events v.la Four root w in
    let rest : List Reading = readings head.cfg.m (mem_at events) v.la Three gave.table gave.rights ws in
    let h = claim_holds head events c start.pcid (w ∷ ws) read rest good in
    let holds : Holds head events v.p v.la v.pcid (want_of outcome) v.number Four root (w ∷ ws) = subst (λ pcid. Holds head events v.p v.la pcid (want_of outcome) v.number Four root (w ∷ ws)) alike
    (record { order = h.walk.order; kinds = h.walk.kinds; alike = h.walk.alike; kept = h.walk.kept; cached = h.flags.tables }) in
    let end = ends_in r v since b (want_of outcome) lists whole.small whole.bounds whole.levels Four root [] w ws holds late (begins_in r v since b (want_of outcome) lists whole.small whole.bounds whole.levels w ws holds late) in
    let value : (last_or read rest).value ≡ seen (mem_at events) v.la end.at end.to end.w = ap (λ (q : Reading). q.value) end.same in
    let ends : failing_end head events c v.pcid (reading_at events v.la end.at end.to end.w) (kind_of head.cfg end.at (seen (mem_at events) v.la end.at end.to end.w)) ≡ None =
    ap (λ pcid. failing_end head events c pcid (reading_at events v.la end.at end.to end.w) (kind_of head.cfg end.at (seen (mem_at events) v.la end.at end.to end.w))) (sym alike)
    ∙ ap (λ (q : Reading). failing_end head events c start.pcid q (kind_of head.cfg q.level q.value)) (sym end.same) ∙ h.ends in
    let gives : GivesBy head.cfg e (kind_of head.cfg end.at (seen (mem_at events) v.la end.at end.to end.w)) =
    end_gives head events c v.pcid (reading_at events v.la end.at end.to end.w) (kind_of head.cfg end.at (seen (mem_at events) v.la end.at end.to end.w)) ends in
    let latest = latest_of r v e since b lists found (last_or read rest) (w ∷ ws) whole end gives in
    let later : Claim = claim_of (max latest.m v.number) v.p flags v.la outcome in
    let last : failing_end head events later v.pcid (reading_at events v.la end.at end.to latest.m) (kind_of head.cfg end.at (seen (mem_at events) v.la end.at end.to latest.m)) ≡ None =
    ap (λ n. failing_end head events later v.pcid (reading_at events v.la end.at end.to latest.m) (kind_of head.cfg end.at n)) latest.same
    ∙ end_later head events c v.pcid end.at end.to end.w latest.m latest.later whole.within latest.ends.alike latest.same (kind_of head.cfg end.at (seen (mem_at events) v.la end.at end.to end.w)) ends in
    let flags : IsFlagged head.version later (seen (mem_at events) v.la end.at end.to latest.m) = subst (IsFlagged head.version later) (value ∙ sym latest.same) (record { leaf = h.flags.leaf; write = h.flags.write }) in
    latest.none (access_none head events later v.pcid latest.m latest.ws end.at end.to latest.comes latest.ends last flags)

-- an assist

assist_refused : (r : Recorded) (v : Walker) (flags word : ℕ) (own : List ℕ) (since : ℕ) (b : Bounds) (lists : Level → List Reach) (found : Option (List ℕ)) → judges_accessed r.head.version ≡ true → AreWhole r v (Assist v.p flags v.la word own) since b lists found →
    (ws : List ℕ) → failing_assist r.head r.events (update_of v.number v.p flags v.la word) ws ≡ None → pcid_of r v ws ≡ v.pcid → since ≤ last_moment ws → IsFresher v.freshest found ws
assist_refused r v flags word own since b lists found judged whole [] good alike late = absurd (cc)
assist_refused r v flags word own since b lists found judged whole (w ∷ ws) good alike late =
    let head : Head = r.head in
    let events : List Event = r.events in
    let e : Event = Assist v.p flags v.la word own in
    let u : Update = update_of v.number v.p flags v.la word in
    let start : Control = control_at head events v.p w in
    let root : Parent = root_at head events v.p w in
    let gave : Parent = given head.cfg.m (mem_at events) v.la Four root w in
    let read : Reading = reading_at events v.la Four root w in
    let rest : List Reading = readings head.cfg.m (mem_at events) v.la Three gave.table gave.rights ws in
    let h = update_holds head events u start.pcid (w ∷ ws) read rest good in
    let holds : Holds head events v.p v.la v.pcid wants.Present v.number Four root (w ∷ ws) = subst (λ pcid. Holds head events v.p v.la pcid wants.Present v.number Four root (w ∷ ws)) alike
    (record { order = h.walk.order; kinds = h.walk.kinds; alike = h.walk.alike; kept = h.walk.kept; cached = h.tables }) in
    let end = ends_in r v since b wants.Present lists whole.small whole.bounds whole.levels Four root [] w ws holds late (begins_in r v since b wants.Present lists whole.small whole.bounds whole.levels w ws holds late) in
    let latest = latest_of r v e since b lists found (last_or read rest) (w ∷ ws) whole end tt in
    let updated : is_updated head.cfg u (reading_at events v.la end.at end.to end.w) ≡ true = ap (is_updated head.cfg u) (sym end.same) ∙ h.updated in
    let now : end.w ≡ v.number = eqb-true _ _ (and_parts _ _ (and_parts _ _ updated).0).0 in
    let is : latest.m ≡ max latest.m v.number = omega (arith, now, latest.later) in
    let later : Update = update_of (max latest.m v.number) v.p flags v.la word in
    let parts = and_parts _ _ updated in
    let rest : ℕ → Bool = λ value. not u.dirty || may_dirty head.cfg u.kind (joined end.to.rights value) (kind_of head.cfg end.at value) in
    let marks : rest (seen (mem_at events) v.la end.at end.to latest.m) ≡ true = ap rest latest.same ∙ parts.1 in
    let again : is_updated head.cfg later (reading_at events v.la end.at end.to latest.m) ≡ true = and_from _ _ (and_from _ _ (eq-eqb latest.m (max latest.m v.number) is) (and_parts _ _ parts.0).1) marks in
    latest.none (assist_none head events later v.pcid latest.m latest.ws end.at end.to judged latest.comes latest.ends again)

-- any event

pub all_under : (r : Recorded) (v : Walker) (e : Event) (since : ℕ) (b : Bounds) (lists : Level → List Reach) (found : Option (List ℕ)) → broken_rule r.head e ≡ None → Asks v e → AreWhole r v e since b lists found → AreUnder r v since e found
all_under r v (Access p flags la outcome own) since b lists found well asks whole = λ ws witness alike late.
    let mine : AreWhole r v (Access v.p flags v.la outcome own) since b lists found = subst (λ q. AreWhole r v (Access q flags v.la outcome own) since b lists found) (sym asks.0) (subst (λ a. AreWhole r v (Access p flags a outcome own) since b lists found) (sym asks.1) whole) in
    let good : failing_access r.head r.events (claim_of v.number v.p flags v.la outcome) ws ≡ None =
    ap (λ q. failing_access r.head r.events (claim_of v.number q flags v.la outcome) ws) asks.0 ∙ ap (λ a. failing_access r.head r.events (claim_of v.number p flags a outcome) ws) asks.1 ∙ witness.good in
    access_refused r v flags outcome own since b lists found mine ws good alike late
all_under r v (Assist p flags la word own) since b lists found well asks whole = λ ws witness alike late.
    let mine : AreWhole r v (Assist v.p flags v.la word own) since b lists found = subst (λ q. AreWhole r v (Assist q flags v.la word own) since b lists found) (sym asks.0) (subst (λ a. AreWhole r v (Assist p flags a word own) since b lists found) (sym asks.1) whole) in
    let good : failing_assist r.head r.events (update_of v.number v.p flags v.la word) ws ≡ None =
    ap (λ q. failing_assist r.head r.events (update_of v.number q flags v.la word) ws) asks.0 ∙ ap (λ a. failing_assist r.head r.events (update_of v.number p flags a word) ws) asks.1 ∙ witness.good in
    assist_refused r v flags word own since b lists found (assist_judged r.head p flags la word own well) mine ws good alike late
all_under r v (Write p addr value) since b lists found well asks whole = absurd asks
all_under r v (MovCr3 p operand) since b lists found well asks whole = absurd asks
all_under r v (Invlpg p la) since b lists found well asks whole = absurd asks
all_under r v (Invpcid p kind pcid la) since b lists found well asks whole = absurd asks
all_under r v (MovCr4Pge p on) since b lists found well asks whole = absurd asks
