-- Walks by moments, and what they witness.
use Rattle.std.proofs.Common.{◌≡◌, ℕ, ◌+◌, ◌<◌, ◌≤◌, ◌==◌, ◌^◌, Bool, List, [], ◌∷◌, ◌++◌, refl, ap, sym, ◌∙◌, subst, true, false, not, ◌&&◌, ◌||◌, arith, length, Option, Some, None, cond}
use Rattle.std.specs.Option.{option_or}
use Rattle.std.proofs.lemmas.Bool.{or_right, and_from, eq-eqb, eqb-true, le-leb, and_parts}
use Rattle.std.proofs.lemmas.List.{length_push}
use Rattle.std.specs.List.{list_all, AllByRecursion}
use Rattle.pg_entry.specs.declared.Level.{Level}
use Rattle.pg_entry.specs.declared.Level.TheVariants.{Four, Three, Two, One}
use Rattle.pg_entry.specs.Kinds.{accessed, dirty, kind_of}
use Rattle.pg_entry.specs.Permission.{joined}
use Rattle.pg_event.specs.declared.control.Control.{Control}
use Rattle.pg_event.specs.declared.version.Version.{Version}
use Rattle.pg_event.specs.declared.claim.Claim.{Claim}
use Rattle.pg_event.specs.declared.claim.Update.{Update}
use Rattle.pg_event.specs.declared.event.Reason.TheVariants as reasons
use Rattle.pg_event.specs.declared.event.Want.TheVariants as wants
use Rattle.pg_event.specs.Spelling.{AreMoments}
use Rattle.pg_event.specs.declared.event.Event.{Event}
use Rattle.pg_event.specs.declared.event.Want.{Want}
use Rattle.pg_event.specs.Heads.{Head, judges_accessed}
use Rattle.pg_event.specs.Values.{mem_at, control_at}
use Rattle.pg_event.specs.Invalidation.{structure_key}
use Rattle.pg_event.specs.Walk.{Reading, readings, below, entry_address}
use Rattle.pg_event.specs.Wants.{is_table, is_wanted, uses_last, want_of}
use Rattle.pg_event.specs.Witness.{Asked, asked_by, asked_of, leads_to, is_in_order, last_or, structures_survive, tables_accessed, failing_end, is_done_write, failing_flags, failing_walk, failing_claim, is_updated, failing_update, walked, failing_access, failing_assist, structure_survives}
use Rattle.pg_machine.specs.Machine.{may_cache}
use Rattle.pg_event.specs.declared.walk.Parent.{Parent}
use Rattle.pg_run_of.specs.Plan.{root_at}
use Rattle.pg_run_of.proofs.Accesses.{AreCached}
use Rattle.pg_run_of.proofs.Standing.{seen, given}
use Rattle.pg_run_of.proofs.Walks.{no_table_below}

-- the first of the moments, or where there is none the one that comes next
abbrev pub next_or : ℕ → List ℕ → ℕ
next_or w [] = w
next_or w (x ∷ xs) = x

-- the entry that is read at x is a table, and its structure entry lasts until y
pub record IsHop (head : Head) (all : List Event) (p la pcid y : ℕ) (level : Level) (from : Parent) (x : ℕ) : Type 0 where
  pub low : x ≤ y
  pub alike : (control_at head all p x).pcid ≡ pcid
  pub table : is_table (kind_of head.cfg level (seen (mem_at all) la level from x)) ≡ true
  pub cached : may_cache head.version (seen (mem_at all) la level from x) ≡ true
  pub kept : structure_survives head all p (structure_key pcid level la) x y ≡ true

-- reading by these moments, and last at w, one comes from a table at a level to another
abbrev pub Comes : Head → List Event → ℕ → ℕ → ℕ → ℕ → Level → Parent → List ℕ → Level → Parent → Type 0
Comes head all p la pcid w level from [] at to = (level ≡ at) × (from ≡ to)
Comes head all p la pcid w level from (x ∷ xs) at to =
    IsHop head all p la pcid (next_or w xs) level from x
    × Comes head all p la pcid w (below level) (given head.cfg.m (mem_at all) la level from x) xs at to

-- one more hop
pub come_on : (head : Head) (all : List Event) (p la pcid x y : ℕ) (level : Level) (from : Parent) (ws : List ℕ) (at : Level) (to : Parent) →
    Comes head all p la pcid x level from ws at to → IsHop head all p la pcid y at to x →
    Comes head all p la pcid y level from (ws ++ x ∷ []) (below at) (given head.cfg.m (mem_at all) la at to x)
come_on head all p la pcid x y level from [] at to h hop =
    subst (λ f. Comes head all p la pcid y level f (x ∷ []) (below at) (given head.cfg.m (mem_at all) la at to x)) (sym h.1)
    (subst (λ l. Comes head all p la pcid y l to (x ∷ []) (below at) (given head.cfg.m (mem_at all) la at to x)) (sym h.0) (hop, (refl, refl)))
come_on head all p la pcid x y level from (v ∷ []) at to h hop =
    (h.0, come_on head all p la pcid x y (below level) (given head.cfg.m (mem_at all) la level from v) [] at to h.1 hop)
come_on head all p la pcid x y level from (v ∷ w ∷ ws) at to h hop =
    (h.0, come_on head all p la pcid x y (below level) (given head.cfg.m (mem_at all) la level from v) (w ∷ ws) at to h.1 hop)

pub next_or-push : (w x : ℕ) (ws : List ℕ) → next_or w (ws ++ x ∷ []) ≡ next_or x ws
next_or-push w x [] = refl
next_or-push w x (v ∷ ws) = refl

-- what the moments of an access need, but for its end
pub record Holds (head : Head) (all : List Event) (p la pcid : ℕ) (want : Want) (i : ℕ) (level : Level) (from : Parent) (ws : List ℕ) : Type 0 where
  pub order : is_in_order ws i ≡ true
  pub kinds : leads_to head.cfg want (readings head.cfg.m (mem_at all) la level from.table from.rights ws) ≡ true
  pub alike : list_all (λ w. (control_at head all p w).pcid == pcid) ws ≡ true
  pub kept : structures_survive head all p pcid la (readings head.cfg.m (mem_at all) la level from.table from.rights ws) ≡ true
  pub cached : AreCached head.version (readings head.cfg.m (mem_at all) la level from.table from.rights ws)

or_both : (a b c : Bool) → (a || b) ≡ true → (a || c) ≡ true → (a || (b && c)) ≡ true
or_both true b c h k = refl
or_both false b c h k = and_from b c h k

holds_more : (head : Head) (all : List Event) (p la pcid : ℕ) (want : Want) (i : ℕ) (level : Level) (from : Parent) (x y : ℕ) (ys : List ℕ) →
    IsHop head all p la pcid y level from x → Holds head all p la pcid want i (below level) (given head.cfg.m (mem_at all) la level from x) (y ∷ ys) →
    Holds head all p la pcid want i level from (x ∷ y ∷ ys)
holds_more head all p la pcid want i level from x y ys hop h = record {
  order = and_from _ _ (le-leb x y hop.low) h.order;
  kinds = and_from _ _ hop.table h.kinds;
  alike = and_from _ _ (eq-eqb _ _ hop.alike) h.alike;
  kept = and_from _ _ hop.kept h.kept;
  cached = or_both (not (judges_accessed head.version)) (accessed (seen (mem_at all) la level from x)) _ hop.cached h.cached;
}

-- what the last reading needs
pub record Ends (head : Head) (all : List Event) (p la pcid : ℕ) (want : Want) (i : ℕ) (at : Level) (to : Parent) (w : ℕ) : Type 0 where
  pub low : w ≤ i
  pub wanted : is_wanted want (kind_of head.cfg at (seen (mem_at all) la at to w)) ≡ true
  pub alike : (control_at head all p w).pcid ≡ pcid

pub holds : (head : Head) (all : List Event) (p la pcid : ℕ) (want : Want) (i w : ℕ) (level : Level) (from : Parent) (ws : List ℕ) (at : Level) (to : Parent) →
    Comes head all p la pcid w level from ws at to → Ends head all p la pcid want i at to w →
    Holds head all p la pcid want i level from (ws ++ w ∷ [])
holds head all p la pcid want i w level from [] at to h end =
    subst (λ f. Holds head all p la pcid want i level f (w ∷ [])) (sym h.1) (subst (λ l. Holds head all p la pcid want i l to (w ∷ [])) (sym h.0) (record {
      order = le-leb w i end.low;
      kinds = end.wanted;
      alike = and_from _ _ (eq-eqb _ _ end.alike) refl;
      kept = refl;
      cached = or_right (not (judges_accessed head.version)) true refl;
    }))
holds head all p la pcid want i w level from (x ∷ []) at to h end =
    holds_more head all p la pcid want i level from x w [] h.0 (holds head all p la pcid want i w (below level) (given head.cfg.m (mem_at all) la level from x) [] at to h.1 end)
holds head all p la pcid want i w level from (x ∷ y ∷ ys) at to h end =
    holds_more head all p la pcid want i level from x y (ys ++ w ∷ []) h.0 (holds head all p la pcid want i w (below level) (given head.cfg.m (mem_at all) la level from x) (y ∷ ys) at to h.1 end)

-- the last reading
abbrev pub reading_at : List Event → ℕ → Level → Parent → ℕ → Reading
reading_at all la at to w = record { level = at; address = entry_address to.table at la; value = seen (mem_at all) la at to w; moment = w; rights = joined to.rights (seen (mem_at all) la at to w) }

pub ends_there : (head : Head) (all : List Event) (p la pcid w : ℕ) (level : Level) (from : Parent) (ws : List ℕ) (at : Level) (to : Parent) (r : Reading) →
    Comes head all p la pcid w level from ws at to →
    last_or r (readings head.cfg.m (mem_at all) la level from.table from.rights (ws ++ w ∷ [])) ≡ reading_at all la at to w
ends_there head all p la pcid w level from [] at to r h =
    ap (λ (l : Level). reading_at all la l from w) h.0 ∙ ap (λ (f : Parent). reading_at all la at f w) h.1
ends_there head all p la pcid w level from (x ∷ xs) at to r h =
    ends_there head all p la pcid w (below level) (given head.cfg.m (mem_at all) la level from x) xs at to (reading_at all la level from x) h.1

pub pass : {X : Type 0} (b : Bool) (x : X) (o : Option X) → b ≡ true → o ≡ None → cond (not b) (Some x) o ≡ None
pass true x o h k = k
pass false x o h k = absurd (cc)

pub none_or : {X : Type 0} (a b : Option X) → a ≡ None → b ≡ None → option_or a b ≡ None
none_or None b h k = k
none_or (Some x) b h k = absurd (cc)

-- no reason of the walk fails
walk_none : (head : Head) (all : List Event) (a : Asked) (pcid w : ℕ) (ws : List ℕ) → Holds head all a.p a.la pcid a.want a.number Four (root_at head all a.p w) (w ∷ ws) →
    failing_walk head all a pcid (w ∷ ws) (walked head all a.la (control_at head all a.p w) (w ∷ ws)) ≡ None
walk_none head all a pcid w ws h = pass _ _ _ h.order (pass _ _ _ h.kinds (pass _ _ _ h.alike (pass _ _ _ h.kept refl)))

-- nor one of the flags
flags_pass : (judged tables used write is_dirty : Bool) → (not judged || tables) ≡ true → (not judged || used) ≡ true → (not (judged && write) || is_dirty) ≡ true →
    cond (not judged) None (cond (not (tables && used)) (Some reasons.Accessed) (cond (write && not is_dirty) (Some reasons.Dirty) None)) ≡ None
flags_pass false tables used write is_dirty h k l = refl
flags_pass true false used write is_dirty h k l = absurd (cc)
flags_pass true true false write is_dirty h k l = absurd (cc)
flags_pass true true true true true h k l = refl
flags_pass true true true true false h k l = absurd (cc)
flags_pass true true true false is_dirty h k l = refl

-- the last value of an access has the flags that it needs
pub record IsFlagged (version : Version) (c : Claim) (value : ℕ) : Type 0 where
  pub leaf : (not (judges_accessed version) || (not (uses_last (want_of c.outcome)) || accessed value)) ≡ true
  pub write : (not (judges_accessed version && is_done_write c.kind c.outcome) || dirty value) ≡ true

flags_none : (version : Version) (c : Claim) (above : Bool) (value : ℕ) → (not (judges_accessed version) || above) ≡ true → IsFlagged version c value → failing_flags version c above value ≡ None
flags_none version c above value tables h =
    flags_pass (judges_accessed version) above (not (uses_last (want_of c.outcome)) || accessed value) (is_done_write c.kind c.outcome) (dirty value) tables h.leaf h.write

-- an access by such moments is witnessed
access_holds : (head : Head) (all : List Event) (c : Claim) (pcid : ℕ) (r : Reading) (w : ℕ) (ws : List ℕ) →
    Holds head all c.p c.la pcid (want_of c.outcome) c.number Four (root_at head all c.p w) (w ∷ ws) →
    last_or r (walked head all c.la (control_at head all c.p w) (w ∷ ws)) ≡ r →
    failing_end head all c pcid r (kind_of head.cfg r.level r.value) ≡ None → IsFlagged head.version c r.value → failing_access head all c (w ∷ ws) ≡ None
access_holds head all c pcid r w ws h last ends flags =
    let start : Control = control_at head all c.p w in
    let read : List Reading = walked head all c.la start (w ∷ ws) in
    let own : start.pcid ≡ pcid = eqb-true _ _ (and_parts _ _ h.alike).0 in
    let end : failing_end head all c pcid (last_or r read) (kind_of head.cfg (last_or r read).level (last_or r read).value) ≡ None =
    ap (λ (q : Reading). failing_end head all c pcid q (kind_of head.cfg q.level q.value)) last ∙ ends in
    let flagged : failing_flags head.version c (tables_accessed read) (last_or r read).value ≡ None =
    ap (λ (q : Reading). failing_flags head.version c (tables_accessed read) q.value) last ∙ flags_none head.version c (tables_accessed read) r.value h.cached flags in
    ap (λ v. failing_claim head all c v (w ∷ ws) read) own
    ∙ none_or _ _ (walk_none head all (asked_by c) pcid w ws h) (none_or _ _ end flagged)

pub access_none : (head : Head) (all : List Event) (c : Claim) (pcid w : ℕ) (ws : List ℕ) (at : Level) (to : Parent) →
    Comes head all c.p c.la pcid w Four (root_at head all c.p (next_or w ws)) ws at to → Ends head all c.p c.la pcid (want_of c.outcome) c.number at to w →
    failing_end head all c pcid (reading_at all c.la at to w) (kind_of head.cfg at (seen (mem_at all) c.la at to w)) ≡ None → IsFlagged head.version c (seen (mem_at all) c.la at to w) →
    failing_access head all c (ws ++ w ∷ []) ≡ None
access_none head all c pcid w [] at to come end ends flags =
    access_holds head all c pcid (reading_at all c.la at to w) w []
    (holds head all c.p c.la pcid (want_of c.outcome) c.number w Four (root_at head all c.p w) [] at to come end)
    (ends_there head all c.p c.la pcid w Four (root_at head all c.p w) [] at to (reading_at all c.la at to w) come) ends flags
access_none head all c pcid w (x ∷ xs) at to come end ends flags =
    access_holds head all c pcid (reading_at all c.la at to w) x (xs ++ w ∷ [])
    (holds head all c.p c.la pcid (want_of c.outcome) c.number w Four (root_at head all c.p x) (x ∷ xs) at to come end)
    (ends_there head all c.p c.la pcid w Four (root_at head all c.p x) (x ∷ xs) at to (reading_at all c.la at to w) come) ends flags

-- an assist by such moments is witnessed, where accessed flags are judged
judged_so : (judged b : Bool) → judged ≡ true → (not judged || b) ≡ true → b ≡ true
judged_so true b h k = k
judged_so false b h k = absurd (cc)

assist_holds : (head : Head) (all : List Event) (u : Update) (pcid : ℕ) (r : Reading) (w : ℕ) (ws : List ℕ) → judges_accessed head.version ≡ true →
    Holds head all u.p u.la pcid wants.Present u.number Four (root_at head all u.p w) (w ∷ ws) →
    last_or r (walked head all u.la (control_at head all u.p w) (w ∷ ws)) ≡ r →
    is_updated head.cfg u r ≡ true → failing_assist head all u (w ∷ ws) ≡ None
assist_holds head all u pcid r w ws judged h last updated =
    let start : Control = control_at head all u.p w in
    let read : List Reading = walked head all u.la start (w ∷ ws) in
    let own : start.pcid ≡ pcid = eqb-true _ _ (and_parts _ _ h.alike).0 in
    let tables : tables_accessed read ≡ true = judged_so (judges_accessed head.version) (tables_accessed read) judged h.cached in
    ap (λ v. failing_update head all u v (w ∷ ws) read) own
    ∙ none_or _ _ (walk_none head all (asked_of u) pcid w ws h) (pass _ _ _ tables (ap (λ b. cond b None (Some reasons.Assist)) (ap (is_updated head.cfg u) last ∙ updated)))

pub assist_none : (head : Head) (all : List Event) (u : Update) (pcid w : ℕ) (ws : List ℕ) (at : Level) (to : Parent) → judges_accessed head.version ≡ true →
    Comes head all u.p u.la pcid w Four (root_at head all u.p (next_or w ws)) ws at to → Ends head all u.p u.la pcid wants.Present u.number at to w →
    is_updated head.cfg u (reading_at all u.la at to w) ≡ true → failing_assist head all u (ws ++ w ∷ []) ≡ None
assist_none head all u pcid w [] at to judged come end updated =
    assist_holds head all u pcid (reading_at all u.la at to w) w [] judged
    (holds head all u.p u.la pcid wants.Present u.number w Four (root_at head all u.p w) [] at to come end)
    (ends_there head all u.p u.la pcid w Four (root_at head all u.p w) [] at to (reading_at all u.la at to w) come) updated
assist_none head all u pcid w (x ∷ xs) at to judged come end updated =
    assist_holds head all u pcid (reading_at all u.la at to w) x (xs ++ w ∷ []) judged
    (holds head all u.p u.la pcid wants.Present u.number w Four (root_at head all u.p x) (x ∷ xs) at to come end)
    (ends_there head all u.p u.la pcid w Four (root_at head all u.p x) (x ∷ xs) at to (reading_at all u.la at to w) come) updated

-- how many moments
abbrev depth : Level → ℕ
depth Four = 3
depth Three = 2
depth Two = 1
depth One = 0

pub short : (head : Head) (all : List Event) (p la pcid w : ℕ) (level : Level) (from : Parent) (ws : List ℕ) (at : Level) (to : Parent) →
    Comes head all p la pcid w level from ws at to → length ws ≤ depth level
short head all p la pcid w level from [] at to h = omega arith
short head all p la pcid w Four from (x ∷ xs) at to h =
    let less : length xs ≤ 2 = short head all p la pcid w Three (given head.cfg.m (mem_at all) la Four from x) xs at to h.1 in omega arith
short head all p la pcid w Three from (x ∷ xs) at to h =
    let less : length xs ≤ 1 = short head all p la pcid w Two (given head.cfg.m (mem_at all) la Three from x) xs at to h.1 in omega arith
short head all p la pcid w Two from (x ∷ xs) at to h =
    let less : length xs ≤ 0 = short head all p la pcid w One (given head.cfg.m (mem_at all) la Two from x) xs at to h.1 in omega arith
short head all p la pcid w One from (x ∷ xs) at to h = absurd (no_table_below head.cfg _ h.0.table)

-- each moment is at most the last, which is below the bound
next_low : (head : Head) (all : List Event) (p la pcid w : ℕ) (level : Level) (from : Parent) (ws : List ℕ) (at : Level) (to : Parent) →
    Comes head all p la pcid w level from ws at to → next_or w ws ≤ w
next_low head all p la pcid w level from [] at to h = omega arith
next_low head all p la pcid w level from (x ∷ xs) at to h =
    let more = next_low head all p la pcid w (below level) (given head.cfg.m (mem_at all) la level from x) xs at to h.1 in
    let low : x ≤ next_or w xs = h.0.low in
    omega (arith, more, low)

all_low : (head : Head) (all : List Event) (p la pcid w n : ℕ) → w < n → (level : Level) (from : Parent) (ws : List ℕ) (at : Level) (to : Parent) →
    Comes head all p la pcid w level from ws at to → AllByRecursion (λ x. x < n) (ws ++ w ∷ [])
all_low head all p la pcid w n lt level from [] at to h = (lt, tt)
all_low head all p la pcid w n lt level from (x ∷ xs) at to h =
    let low : x ≤ w = next_low head all p la pcid w level from (x ∷ xs) at to h in
    (omega (arith, low, lt), all_low head all p la pcid w n lt (below level) (given head.cfg.m (mem_at all) la level from x) xs at to h.1)

-- the moments of a walk fit their fields
pub moments_fit : (head : Head) (all : List Event) (p la pcid w : ℕ) → w < 2 ^ 32 → (from : Parent) (ws : List ℕ) (at : Level) (to : Parent) →
    Comes head all p la pcid w Four from ws at to → AreMoments (ws ++ w ∷ [])
moments_fit head all p la pcid w lt from ws at to h =
    let few : length ws ≤ 3 = short head all p la pcid w Four from ws at to h in
    let count : length (ws ++ w ∷ []) ≡ length ws + 1 = length_push ws w in
    record { some = omega (arith, count); few = omega (arith, count, few); fit = all_low head all p la pcid w (2 ^ 32) lt Four from ws at to h }
