-- A walk that goes on by one moment.
use Rattle.std.proofs.Common.{◌≡◌, ℕ, Bool, true, false, not, ◌&&◌, ◌==◌, cond, List, [], ◌∷◌, ◌++◌, Result, Ok, Err, refl, sym, ap, ◌∙◌}
use Rattle.std.specs.List.{list_all}
use Rattle.std.proofs.lemmas.Bool.{and_parts, false≢true}
use Rattle.pg_entry.specs.declared.Cfg.{Cfg}
use Rattle.pg_entry.specs.Bits.{has_bit}
use Rattle.pg_entry.specs.Kinds.{kind_of, is_reserved, leaf_shift, target, table_of, accessed}
use Rattle.pg_entry.specs.declared.Kind.{Kind}
use Rattle.pg_entry.specs.declared.Kind.TheVariants as kinds
use Rattle.pg_entry.specs.declared.Level.{Level}
use Rattle.pg_event.specs.declared.event.Event.{Event}
use Rattle.pg_event.specs.declared.event.Reason.{Reason}
use Rattle.pg_event.specs.declared.event.Reason.TheVariants as reasons
use Rattle.pg_event.specs.declared.event.Want.{Want}
use Rattle.pg_event.specs.declared.event.Want.TheVariants.{Present}
use Rattle.pg_event.specs.declared.control.Control.{Control}
use Rattle.pg_event.specs.Heads.{Head}
use Rattle.pg_event.specs.Values.{mem_at, control_at}
use Rattle.pg_event.specs.Invalidation.{structure_key}
use Rattle.pg_event.specs.Walk.{Reading, readings, below, root_of}
use Rattle.pg_event.specs.Wants.{is_table, is_wanted}
use Rattle.pg_event.specs.Witness.{leads_to, last_or, structures_survive, is_one_context, tables_accessed, structure_survives}
use Rattle.pg_entry.specs.declared.Level.TheVariants.{Four, Three, Two, One}
use Rattle.pg_inval.specs.Drops.{IsTableLevel}
use Rattle.pg_chain.specs.declared.steps.Chain.{Chain}
use Rattle.pg_chain.specs.Walked.{chain_of, chain_through, chain_further, ended, entry_read, parent_of, reading_of}
use Rattle.pg_chain.proofs.Walks.{and_true, and_both}

-- what is read after a reading
abbrev after : ℕ → (ℕ → ℕ → ℕ) → ℕ → Reading → List ℕ → List Reading
after m look la r ws = readings m look la (below r.level) (table_of m r.value) r.rights ws

-- the reading that follows another
abbrev next : ℕ → (ℕ → ℕ → ℕ) → ℕ → ℕ → Reading → Reading
next m look la x r = entry_read look la (below r.level) (parent_of m r) x

after-longer : (m : ℕ) (look : ℕ → ℕ → ℕ) (la : ℕ) (r : Reading) (ws : List ℕ) (x : ℕ) →
    after m look la r (ws ++ x ∷ []) ≡ after m look la r ws ++ next m look la x (last_or r (after m look la r ws)) ∷ []
after-longer m look la r [] x = refl
after-longer m look la r (w ∷ ws) x =
    let s : Reading = next m look la w r in
    ap (λ (rs : List Reading). s ∷ rs) (after-longer m look la s ws x)

leads-longer : (cfg : Cfg) (want : Want) (r : Reading) (rs : List Reading) (y : Reading) → leads_to cfg Present (r ∷ rs) ≡ true →
    leads_to cfg want (r ∷ (rs ++ y ∷ []))
    ≡ (is_table (kind_of cfg (last_or r rs).level (last_or r rs).value) && is_wanted want (kind_of cfg y.level y.value))
leads-longer cfg want r [] y h = refl
leads-longer cfg want r (s ∷ rs) y h =
    let parts = and_parts (is_table (kind_of cfg r.level r.value)) (leads_to cfg Present (s ∷ rs)) h in
    ap (λ b. b && leads_to cfg want (s ∷ (rs ++ y ∷ []))) parts.0 ∙ leads-longer cfg want s rs y parts.1

-- the structure entry that a reading gives survives up to another
abbrev outlives : Head → List Event → ℕ → ℕ → ℕ → Reading → ℕ → Bool
outlives head events p pcid la r x = structure_survives head events p (structure_key pcid r.level la) r.moment x

survive-longer : (head : Head) (events : List Event) (p pcid la : ℕ) (r : Reading) (rs : List Reading) (y : Reading) → structures_survive head events p pcid la (r ∷ rs) ≡ true →
    structures_survive head events p pcid la (r ∷ (rs ++ y ∷ [])) ≡ outlives head events p pcid la (last_or r rs) y.moment
survive-longer head events p pcid la r [] y h = and_true (outlives head events p pcid la r y.moment)
survive-longer head events p pcid la r (s ∷ rs) y h =
    let parts = and_parts (outlives head events p pcid la r s.moment) (structures_survive head events p pcid la (s ∷ rs)) h in
    ap (λ b. b && structures_survive head events p pcid la (s ∷ (rs ++ y ∷ []))) parts.0 ∙ survive-longer head events p pcid la s rs y parts.1

accessed-longer : (r : Reading) (rs : List Reading) (y : Reading) →
    tables_accessed (r ∷ (rs ++ y ∷ [])) ≡ (tables_accessed (r ∷ rs) && accessed (last_or r rs).value)
accessed-longer r [] y = and_true (accessed r.value)
accessed-longer r (s ∷ rs) y =
    ap (λ b. accessed r.value && b) (accessed-longer s rs y) ∙ sym (and_both (accessed r.value) (tables_accessed (s ∷ rs)) (accessed (last_or s rs).value))

all-longer : (test : ℕ → Bool) (ws : List ℕ) (x : ℕ) → list_all test ws ≡ true → list_all test (ws ++ x ∷ []) ≡ test x
all-longer test [] x h = and_true (test x)
all-longer test (w ∷ ws) x h =
    let parts = and_parts (test w) (list_all test ws) h in
    ap (λ b. b && list_all test (ws ++ x ∷ [])) parts.0 ∙ all-longer test ws x parts.1

last-longer : (r : Reading) (rs : List Reading) (y : Reading) → last_or r (rs ++ y ∷ []) ≡ y
last-longer r [] y = refl
last-longer r (s ∷ rs) y = last-longer s rs y

-- the three tests, one after another
abbrev tested : Bool → Bool → Bool → Chain → Result Chain Reason
tested leads context kept c =
    cond (not leads) (Err reasons.Entry) (cond (not context) (Err reasons.Context) (cond (not kept) (Err reasons.StructureDropped) (Ok c)))

record Passed (a b d : Bool) (upper c : Chain) : Type 0 where
  leads : a ≡ true
  context : b ≡ true
  kept : d ≡ true
  made : upper ≡ c

passed : (leads context kept : Bool) (made c : Chain) → tested leads context kept made ≡ Ok c → Passed leads context kept made c
passed true true true made c h = record { leads = refl; context = refl; kept = refl; made = cc }
passed true true false made c h = cc
passed true false kept made c h = cc
passed false context kept made c h = cc

-- where the readings of a walk are known, and those of it and one moment more
through-further : (head : Head) (events : List Event) (p la : ℕ) (want : Want) (pcid : ℕ) (ws : List ℕ) (r : Reading) (rs : List Reading) (c : Chain) (x : ℕ) →
    chain_through head events p la Present pcid ws (r ∷ rs) ≡ Ok c →
    chain_through head events p la want pcid (ws ++ x ∷ []) (r ∷ (rs ++ next head.cfg.m (mem_at events) la x (last_or r rs) ∷ []))
    ≡ chain_further head events p la c x want
through-further head events p la want pcid ws r rs c x h =
    let end : Reading = last_or r rs in
    let y : Reading = next head.cfg.m (mem_at events) la x end in
    let context : ℕ → Bool = λ w. (control_at head events p w).pcid == pcid in
    let upper : Chain = ended pcid (tables_accessed (r ∷ rs)) end in
    let ok = passed (leads_to head.cfg Present (r ∷ rs)) (is_one_context head events p pcid ws) (structures_survive head events p pcid la (r ∷ rs)) upper c h in
    let leads : Bool = is_table (kind_of head.cfg end.level end.value) && is_wanted want (kind_of head.cfg y.level y.value) in
    let survived : Bool = outlives head events p pcid la end x in
    ap (λ b. tested b (is_one_context head events p pcid (ws ++ x ∷ [])) (structures_survive head events p pcid la (r ∷ (rs ++ y ∷ []))) (ended pcid (tables_accessed (r ∷ (rs ++ y ∷ []))) (last_or r (rs ++ y ∷ []))))
    (leads-longer head.cfg want r rs y ok.leads)
    ∙ ap (λ b. tested leads b (structures_survive head events p pcid la (r ∷ (rs ++ y ∷ []))) (ended pcid (tables_accessed (r ∷ (rs ++ y ∷ []))) (last_or r (rs ++ y ∷ []))))
    (all-longer context ws x ok.context)
    ∙ ap (λ b. tested leads (context x) b (ended pcid (tables_accessed (r ∷ (rs ++ y ∷ []))) (last_or r (rs ++ y ∷ []))))
    (survive-longer head events p pcid la r rs y ok.kept)
    ∙ ap (λ b. tested leads (context x) survived (ended pcid b (last_or r (rs ++ y ∷ [])))) (accessed-longer r rs y)
    ∙ ap (λ (q : Reading). tested leads (context x) survived (ended pcid (tables_accessed (r ∷ rs) && accessed end.value) q)) (last-longer r rs y)
    ∙ ap (λ (d : Chain). chain_further head events p la d x want) ok.made

-- the walk of some moments to what is present goes on by one moment
pub chain_of-further : (head : Head) (events : List Event) (p la : ℕ) (want : Want) (ws : List ℕ) (c : Chain) (x : ℕ) →
    chain_of head events p la ws Present ≡ Ok c → chain_of head events p la (ws ++ x ∷ []) want ≡ chain_further head events p la c x want
chain_of-further head events p la want [] c x h = cc
chain_of-further head events p la want (w ∷ ws) c x h =
    let start : Control = control_at head events p w in
    let m : ℕ = head.cfg.m in
    let first : Reading = entry_read (mem_at events) la Four (root_of start) w in
    ap (λ (rs : List Reading). chain_through head events p la want start.pcid (w ∷ (ws ++ x ∷ [])) (first ∷ rs)) (after-longer m (mem_at events) la first ws x)
    ∙ through-further head events p la want start.pcid (w ∷ ws) first (after m (mem_at events) la first ws) c x h

-- ---- what the code finds, test by test

either-no-table : (b : Bool) (k l : Kind) → is_table k ≡ false → is_table l ≡ false → is_table (cond b k l) ≡ false
either-no-table true k l x y = x
either-no-table false k l x y = y

no-table : (cfg : Cfg) (e : ℕ) → is_table (kind_of cfg One e) ≡ false
no-table cfg e =
    either-no-table (not (has_bit e 0)) kinds.Absent (cond (is_reserved cfg One e) kinds.Reserved (target cfg.m e (leaf_shift One e))) refl
    (either-no-table (is_reserved cfg One e) kinds.Reserved (target cfg.m e (leaf_shift One e)) refl refl)

pub further-not_table : (head : Head) (events : List Event) (p la : ℕ) (want : Want) (c : Chain) (x : ℕ) → is_table (kind_of head.cfg c.end.level c.end.value) ≡ false →
    Err reasons.Entry ≡ chain_further head events p la c x want
further-not_table head events p la want c x h = go (is_table (kind_of head.cfg c.end.level c.end.value)) h _ _
  where
    go : (b : Bool) → b ≡ false → (d : Bool) (rest : Result Chain Reason) → Err reasons.Entry ≡ cond (not (b && d)) (Err reasons.Entry) rest
    go b e d rest = ap (λ a. cond (not (a && d)) (Err reasons.Entry) rest) (sym e)

-- the tests of a walk that goes on, and what it ends with
abbrev pub further_tested : Head → List Event → ℕ → ℕ → Want → Chain → ℕ → Chain → Result Chain Reason
further_tested head events p la want c x made =
    tested (is_table (kind_of head.cfg c.end.level c.end.value) && is_wanted want (kind_of head.cfg made.end.level made.end.value))
    ((control_at head events p x).pcid == c.pcid)
    (structure_survives head events p (structure_key c.pcid c.end.level la) c.end.moment x) made

pub further-made : (head : Head) (events : List Event) (p la : ℕ) (want : Want) (c : Chain) (x : ℕ) (made : Chain) (table wanted context kept : Bool) →
    is_table (kind_of head.cfg c.end.level c.end.value) ≡ table → is_wanted want (kind_of head.cfg made.end.level made.end.value) ≡ wanted →
    ((control_at head events p x).pcid == c.pcid) ≡ context →
    structure_survives head events p (structure_key c.pcid c.end.level la) c.end.moment x ≡ kept →
    made ≡ ended c.pcid (c.tables && accessed c.end.value) (entry_read (mem_at events) la (below c.end.level) (parent_of head.cfg.m (reading_of c.end)) x) →
    tested (table && wanted) context kept made ≡ chain_further head events p la c x want
further-made head events p la want c x made table wanted context kept t w k s is =
    sym (ap (λ b. tested (b && is_wanted want (kind_of head.cfg made.end.level made.end.value)) ((control_at head events p x).pcid == c.pcid)
    (structure_survives head events p (structure_key c.pcid c.end.level la) c.end.moment x) made) t
    ∙ ap (λ b. tested (table && b) ((control_at head events p x).pcid == c.pcid)
    (structure_survives head events p (structure_key c.pcid c.end.level la) c.end.moment x) made) w
    ∙ ap (λ b. tested (table && wanted) b (structure_survives head events p (structure_key c.pcid c.end.level la) c.end.moment x) made) k
    ∙ ap (λ b. tested (table && wanted) context b made) s)
    ∙ ap (λ (d : Chain). further_tested head events p la want c x d) is

-- a level that gives a table is no level of page tables
pub table-level : (cfg : Cfg) (level : Level) (e : ℕ) → is_table (kind_of cfg level e) ≡ true → IsTableLevel level
table-level cfg Four e h = tt
table-level cfg Three e h = tt
table-level cfg Two e h = tt
table-level cfg One e h = absurd (false≢true (sym (no-table cfg e) ∙ h))
