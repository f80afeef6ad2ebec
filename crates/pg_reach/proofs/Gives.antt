-- The outcome of an access that is witnessed is one that the entry gives which is read last.
use Rattle.std.proofs.Common.{◌≡◌, ℕ, ◌+◌, ◌%◌, ◌^◌, ◌==◌, ◌&&◌, not, Bool, refl, ap, sym, ◌∙◌, Some, None}
use Rattle.std.proofs.lemmas.Bool.{eqb-true}
use Rattle.pg_entry.specs.declared.Cfg.{Cfg}
use Rattle.pg_entry.specs.declared.Cause.{Cause}
use Rattle.pg_entry.specs.declared.Cause.TheVariants as causes
use Rattle.pg_entry.specs.declared.Kind.{Kind}
use Rattle.pg_entry.specs.declared.Kind.TheVariants as kinds
use Rattle.pg_entry.specs.declared.AccessKind.{AccessKind}
use Rattle.pg_entry.specs.declared.Rights.{Rights}
use Rattle.pg_entry.specs.Permission.{is_allowed, fault_code}
use Rattle.pg_event.specs.declared.claim.Claim.{Claim}
use Rattle.pg_event.specs.declared.event.Event.{Event}
use Rattle.pg_event.specs.declared.event.Outcome.{Outcome}
use Rattle.pg_event.specs.declared.event.Outcome.TheVariants.{Page, Fault}
use Rattle.pg_event.specs.Heads.{Head}
use Rattle.pg_event.specs.Invalidation.{translation_key, must_drop_translation}
use Rattle.pg_event.specs.Values.{control_at}
use Rattle.pg_event.specs.Walk.{Reading}
use Rattle.pg_event.specs.Witness.{survives, failing_leaf, failing_fault, failing_end}
use Rattle.pg_run_of.proofs.Accesses.{guard_none, bar_none, last_none}
use Rattle.pg_reach.specs.Given.{page_of, cause_of, code_by, IsGiven}
use Rattle.std.specs.Prelude.{List}

leaf_page : (cfg : Cfg) (kind : AccessKind) (rights : Rights) (address page : ℕ) (o : Outcome) → o ≡ Page page → failing_leaf cfg kind rights address o ≡ None → address ≡ page
leaf_page cfg kind rights address page (Page x) is h =
    let one : x ≡ page = cc in
    let allowed = guard_none (is_allowed cfg rights kind) _ _ h in
    sym (eqb-true x address (last_none (x == address) _ allowed.1)) ∙ one
leaf_page cfg kind rights address page (Fault code) is h = absurd (cc)

leaf_code : (cfg : Cfg) (kind : AccessKind) (rights : Rights) (address code : ℕ) (o : Outcome) → o ≡ Fault code → failing_leaf cfg kind rights address o ≡ None → fault_code cfg kind causes.Denied ≡ code
leaf_code cfg kind rights address code (Page x) is h = absurd (cc)
leaf_code cfg kind rights address code (Fault d) is h =
    let one : d ≡ code = cc in
    let denied = bar_none (is_allowed cfg rights kind) _ _ h in
    sym (eqb-true d (fault_code cfg kind causes.Denied) (last_none (d == fault_code cfg kind causes.Denied) _ denied.1)) ∙ one

fault_page : (cfg : Cfg) (c : Claim) (cause : Cause) (moment page : ℕ) (o : Outcome) → o ≡ Page page → failing_fault cfg c cause moment o ≡ None → ⊥
fault_page cfg c cause moment page (Page x) is h = cc
fault_page cfg c cause moment page (Fault code) is h = cc

fault_at_event : (cfg : Cfg) (c : Claim) (cause : Cause) (moment code : ℕ) (o : Outcome) → o ≡ Fault code → failing_fault cfg c cause moment o ≡ None → fault_code cfg c.kind cause ≡ code
fault_at_event cfg c cause moment code (Page x) is h = absurd (cc)
fault_at_event cfg c cause moment code (Fault d) is h =
    let one : d ≡ code = cc in
    let here = guard_none (moment == c.number) _ _ h in
    sym (eqb-true d (fault_code cfg c.kind cause) (last_none (d == fault_code cfg c.kind cause) _ here.1)) ∙ one

leaf_end : (head : Head) (events : List Event) (c : Claim) (pcid : ℕ) (q : Reading) (frame shift : ℕ) (g : Bool) → failing_end head events c pcid q (kinds.Leaf frame shift g) ≡ None →
    failing_leaf head.cfg c.kind q.rights (frame + c.la % 2 ^ shift) c.outcome ≡ None
leaf_end head events c pcid q frame shift g h =
    let global : Bool = g && (control_at head events c.p q.moment).pge in
    let kept = guard_none (survives head events c.p (λ d e. must_drop_translation head.cfg.rules d e (translation_key pcid shift global c.la)) q.moment c.number) _ _ h in
    (bar_none (not ((control_at head events c.p c.number).pcid == pcid) && not global) _ _ kept.1).1

-- the page of a claim is the one that the entry gives
pub page_end : (head : Head) (events : List Event) (c : Claim) (pcid : ℕ) (q : Reading) (k : Kind) (page : ℕ) → c.outcome ≡ Page page → failing_end head events c pcid q k ≡ None → page_of k c.la ≡ Some page
page_end head events c pcid q (kinds.Leaf frame shift g) page is h =
    ap Some (leaf_page head.cfg c.kind q.rights (frame + c.la % 2 ^ shift) page c.outcome is (leaf_end head events c pcid q frame shift g h))
page_end head events c pcid q kinds.Absent page is h = absurd (fault_page head.cfg c causes.Absent q.moment page c.outcome is h)
page_end head events c pcid q kinds.Reserved page is h = absurd (fault_page head.cfg c causes.Reserved q.moment page c.outcome is h)
page_end head events c pcid q (kinds.Table addr) page is h = absurd (cc)

-- and its code is that of the cause
pub code_end : (head : Head) (events : List Event) (c : Claim) (pcid : ℕ) (q : Reading) (k : Kind) (code : ℕ) → c.outcome ≡ Fault code → failing_end head events c pcid q k ≡ None → code_by head.cfg c.kind (cause_of k) ≡ Some code
code_end head events c pcid q (kinds.Leaf frame shift g) code is h =
    ap Some (leaf_code head.cfg c.kind q.rights (frame + c.la % 2 ^ shift) code c.outcome is (leaf_end head events c pcid q frame shift g h))
code_end head events c pcid q kinds.Absent code is h = ap Some (fault_at_event head.cfg c causes.Absent q.moment code c.outcome is h)
code_end head events c pcid q kinds.Reserved code is h = ap Some (fault_at_event head.cfg c causes.Reserved q.moment code c.outcome is h)
code_end head events c pcid q (kinds.Table addr) code is h = absurd (cc)

pub end_gives : (head : Head) (events : List Event) (c : Claim) (pcid : ℕ) (q : Reading) (k : Kind) → failing_end head events c pcid q k ≡ None → IsGiven head.cfg c.kind c.la k c.outcome
end_gives head events c pcid q k h = by c.outcome refl
  where
    by : (o : Outcome) → c.outcome ≡ o → IsGiven head.cfg c.kind c.la k o
    by (Page page) is = page_end head events c pcid q k page is h
    by (Fault code) is = code_end head events c pcid q k code is h
