-- Up to which number moments witness an event that read something last.
use Rattle.std.proofs.Common.{◌≡◌, ℕ, ◌<◌, ◌≤◌, ◌^◌, ◌==◌, ◌&&◌, min, not, cond, Bool, true, false, List, [], ◌∷◌, ◌++◌, refl, ap, sym, ◌∙◌, subst, inl, inr, ◌⊎◌, arith, Option, Some, None}
use Rattle.std.proofs.lemmas.Bool.{eqb-true, eq-eqb}
use Rattle.pg_entry.specs.declared.Kind.{Kind}
use Rattle.pg_entry.specs.declared.Kind.TheVariants as kinds
use Rattle.pg_entry.specs.declared.Cause.{Cause}
use Rattle.pg_entry.specs.declared.Cause.TheVariants as causes
use Rattle.pg_entry.specs.declared.Level.{Level}
use Rattle.pg_entry.specs.declared.Level.TheVariants.{Four, Three}
use Rattle.pg_entry.specs.Kinds.{kind_of}
use Rattle.pg_event.specs.declared.claim.Claim.{Claim}
use Rattle.pg_event.specs.declared.control.Control.{Control}
use Rattle.pg_event.specs.declared.event.Event.{Event}
use Rattle.pg_event.specs.declared.event.Event.TheVariants.{Access}
use Rattle.pg_event.specs.declared.event.Outcome.{Outcome}
use Rattle.pg_event.specs.declared.event.Outcome.TheVariants.{Page, Fault}
use Rattle.pg_event.specs.declared.walk.Parent.{Parent}
use Rattle.pg_event.specs.Heads.{Head}
use Rattle.pg_event.specs.Spelling.{Recorded}
use Rattle.pg_event.specs.Values.{mem_at, control_at}
use Rattle.pg_event.specs.Invalidation.{translation_key, must_drop_translation}
use Rattle.pg_event.specs.Walk.{Reading, readings}
use Rattle.pg_event.specs.Wants.{want_of, is_wanted, uses_last}
use Rattle.pg_event.specs.Witness.{last_or, survives, failing_fault, failing_end, failing_access, claim_of}
use Rattle.pg_run_of.specs.Plan.{root_at}
use Rattle.pg_run_of.proofs.Standing.{seen, given}
use Rattle.pg_run_of.proofs.Accesses.{guard_none, bar_none, wants_leaf, claim_holds}
use Rattle.pg_run_of.proofs.Chains.{next_or, Comes, IsFlagged, reading_at, ends_there, pass}
use Rattle.pg_reach.specs.declared.walker.Walker.{Walker}
use Rattle.pg_reach.specs.Stays.{IsUnder}
use Rattle.pg_reach.specs.Asking.{want_by}
use Rattle.pg_reach.specs.Reaching.{IsLastRead}
use Rattle.pg_reach.specs.WitnessedUpTo.{MayUse, IsLastUse, translation_lasts}
use Rattle.pg_search.specs.Lasts.{IsEnd}
use Rattle.pg_search.proofs.Survival.{survives_within}

-- what the last reading of moments that witness an access says
pub record EndOf (head : Head) (events : List Event) (c : Claim) (pcid : ℕ) (at : Level) (to : Parent) (m : ℕ) : Type 0 where
  pub ends : failing_end head events c pcid (reading_at events c.la at to m) (kind_of head.cfg at (seen (mem_at events) c.la at to m)) ≡ None
  pub flags : IsFlagged head.version c (seen (mem_at events) c.la at to m)

end_as : (head : Head) (events : List Event) (c : Claim) (start pcid : ℕ) (at : Level) (to : Parent) (m : ℕ) (q : Reading) → q ≡ reading_at events c.la at to m → start ≡ pcid → failing_end head events c start q (kind_of head.cfg q.level q.value) ≡ None →
    IsFlagged head.version c q.value → EndOf head events c pcid at to m
end_as head events c start pcid at to m q is own ends flags = record {
  ends = ap (λ p. failing_end head events c p (reading_at events c.la at to m) (kind_of head.cfg at (seen (mem_at events) c.la at to m))) (sym own)
      ∙ ap (λ (q : Reading). failing_end head events c start q (kind_of head.cfg q.level q.value)) (sym is) ∙ ends;
  flags = subst (λ (q : Reading). IsFlagged head.version c q.value) is flags;
}

pub access_end : (head : Head) (events : List Event) (c : Claim) (pcid m : ℕ) (ws : List ℕ) (at : Level) (to : Parent) → Comes head events c.p c.la pcid m Four (root_at head events c.p (next_or m ws)) ws at to → (control_at head events c.p m).pcid ≡ pcid →
    failing_access head events c (ws ++ m ∷ []) ≡ None → EndOf head events c pcid at to m
access_end head events c pcid m [] at to come under good =
    let root : Parent = root_at head events c.p m in
    let read : Reading = reading_at events c.la Four root m in
    let h = claim_holds head events c (control_at head events c.p m).pcid (m ∷ []) read [] good in
    end_as head events c (control_at head events c.p m).pcid pcid at to m read (ends_there head events c.p c.la pcid m Four root [] at to read come) under h.ends (record { leaf = h.flags.leaf; write = h.flags.write })
access_end head events c pcid m (x ∷ xs) at to come under good =
    let root : Parent = root_at head events c.p x in
    let gave : Parent = given head.cfg.m (mem_at events) c.la Four root x in
    let read : Reading = reading_at events c.la Four root x in
    let rest : List Reading = readings head.cfg.m (mem_at events) c.la Three gave.table gave.rights (xs ++ m ∷ []) in
    let h = claim_holds head events c (control_at head events c.p x).pcid (x ∷ xs ++ m ∷ []) read rest good in
    end_as head events c (control_at head events c.p x).pcid pcid at to m (last_or read rest) (ends_there head events c.p c.la pcid m Four root (x ∷ xs) at to read come) come.0.alike h.ends (record { leaf = h.flags.leaf; write = h.flags.write })

fault_at : (head : Head) (c : Claim) (cause : Cause) (w : ℕ) (outcome : Outcome) → failing_fault head.cfg c cause w outcome ≡ None → w ≡ c.number
fault_at head c cause w (Page page) h = absurd (cc)
fault_at head c cause w (Fault code) h = eqb-true _ _ (guard_none (w == c.number) _ _ h).0

either : (own global : Bool) → (not own && not global) ≡ false → (own ≡ true) ⊎ (global ≡ true)
either true global h = inl refl
either false true h = inr refl
either false false h = absurd (cc)

pass_either : {X : Type 0} (own global : Bool) (x : X) (o : Option X) → (own ≡ true) ⊎ (global ≡ true) → o ≡ None → cond (not own && not global) (Some x) o ≡ None
pass_either true global x o is h = h
pass_either false true x o is h = h
pass_either false false x o (inl is) h = absurd (cc)
pass_either false false x o (inr is) h = absurd (cc)

-- where it is used at a number, it is used at the last, which is no earlier
pub end_last : (r : Recorded) (v : Walker) (flags : ℕ) (outcome : Outcome) (own : List ℕ) (at : Level) (to : Parent) (m j n : ℕ) (k : Kind) → m ≤ j → j ≤ v.number → is_wanted (want_of outcome) k ≡ true → IsLastUse r v (Access v.p flags v.la outcome own) k m n →
    failing_end r.head r.events (claim_of j v.p flags v.la outcome) v.pcid (reading_at r.events v.la at to m) k ≡ None →
    (j ≤ n) × (failing_end r.head r.events (claim_of n v.p flags v.la outcome) v.pcid (reading_at r.events v.la at to m) k ≡ None)
end_last r v flags outcome own at to m j n (kinds.Leaf frame shift g) low high wanted last h =
    let global : Bool = g && (control_at r.head r.events v.p m).pge in
    let test : Control → Event → Bool = λ d e. must_drop_translation r.head.cfg.rules d e (translation_key v.pcid shift global v.la) in
    let most = last.0 (ap uses_last (wants_leaf outcome frame shift g wanted)) in
    let kept = guard_none (survives r.head r.events v.p test m j) _ _ h in
    let used = bar_none (not ((control_at r.head r.events v.p j).pcid == v.pcid) && not global) _ _ kept.1 in
    let may : MayUse r v shift global m j = (
      kept.0,
      elim (either ((control_at r.head r.events v.p j).pcid == v.pcid) global used.0) as (λ _. IsUnder r v j ⊎ (global ≡ true)) [ inl a ↦ inl (eqb-true _ _ a) | inr b ↦ inr b ],
    ) in
    let now : (((control_at r.head r.events v.p n).pcid == v.pcid) ≡ true) ⊎ (global ≡ true) =
    elim most.0.1 as (λ _. (((control_at r.head r.events v.p n).pcid == v.pcid) ≡ true) ⊎ (global ≡ true)) [ inl a ↦ inl (eq-eqb _ _ a) | inr b ↦ inr b ] in
    (most.1 j low high may, pass (survives r.head r.events v.p test m n) _ _ most.0.0 (pass_either ((control_at r.head r.events v.p n).pcid == v.pcid) global _ _ now used.1))
end_last r v flags outcome own at to m j n kinds.Absent low high wanted last h =
    let now : m ≡ j = fault_at r.head (claim_of j v.p flags v.la outcome) causes.Absent m outcome h in
    let is : j ≡ n = sym now ∙ sym last in
    (omega (arith, is), subst (λ i. failing_end r.head r.events (claim_of i v.p flags v.la outcome) v.pcid (reading_at r.events v.la at to m) kinds.Absent ≡ None) is h)
end_last r v flags outcome own at to m j n kinds.Reserved low high wanted last h =
    let now : m ≡ j = fault_at r.head (claim_of j v.p flags v.la outcome) causes.Reserved m outcome h in
    let is : j ≡ n = sym now ∙ sym last in
    (omega (arith, is), subst (λ i. failing_end r.head r.events (claim_of i v.p flags v.la outcome) v.pcid (reading_at r.events v.la at to m) kinds.Reserved ≡ None) is h)
end_last r v flags outcome own at to m j n (kinds.Table addr) low high wanted last h = absurd (cc)

-- the last number at which a translation may be used

use_leaf : (r : Recorded) (v : Walker) (e : Event) (frame shift : ℕ) (bit : Bool) (m n end : ℕ) → uses_last (want_by e) ≡ true → m ≤ n → n ≤ end →
    IsEnd (λ w. translation_lasts r v shift (bit && (control_at r.head r.events v.p m).pge) m w) m end → IsUnder r v n ⊎ ((bit && (control_at r.head r.events v.p m).pge) ≡ true) →
    ((j : ℕ) → m ≤ j → j ≤ v.number → j ≤ end → IsUnder r v j ⊎ ((bit && (control_at r.head r.events v.p m).pge) ≡ true) → j ≤ n) → v.number < 2 ^ 32 → IsLastUse r v e (kinds.Leaf frame shift bit) m n
use_leaf r v e frame shift bit m n end want order low ends may most small =
    let global : Bool = bit && (control_at r.head r.events v.p m).pge in
    let test : Control → Event → Bool = λ d e. must_drop_translation r.head.cfg.rules d e (translation_key v.pcid shift global v.la) in (
      λ on. ((survives_within r.head r.events v.p test m n end low ends.lasts, may), λ j from high used. most j from high (ends.most j (omega (arith, high, small)) used.0) used.1),
      λ off. absurd (apart want off),
    )
  where
    apart : {b : Bool} → b ≡ true → b ≡ false → ⊥
    apart h k = cc

pub use_global : (r : Recorded) (v : Walker) (e : Event) (frame shift : ℕ) (bit : Bool) (m n end : ℕ) → uses_last (want_by e) ≡ true → m ≤ v.number → n ≡ min end v.number →
    IsEnd (λ w. translation_lasts r v shift (bit && (control_at r.head r.events v.p m).pge) m w) m end → (bit && (control_at r.head r.events v.p m).pge) ≡ true → v.number < 2 ^ 32 → IsLastUse r v e (kinds.Leaf frame shift bit) m n
use_global r v e frame shift bit m n end want high is ends global small =
    use_leaf r v e frame shift bit m n end want (omega (arith, is, ends.order, high)) (omega (arith, is)) ends (inr global) (λ j from to low used. omega (arith, is, to, low)) small

pub use_own : (r : Recorded) (v : Walker) (e : Event) (frame shift : ℕ) (bit : Bool) (m n end : ℕ) → uses_last (want_by e) ≡ true →
    IsEnd (λ w. translation_lasts r v shift (bit && (control_at r.head r.events v.p m).pge) m w) m end → (bit && (control_at r.head r.events v.p m).pge) ≡ false → IsLastRead r v m (min end v.number) (Some n) → v.number < 2 ^ 32 → IsLastUse r v e (kinds.Leaf frame shift bit) m n
use_own r v e frame shift bit m n end want ends own read small =
    use_leaf r v e frame shift bit m n end want read.0 (omega (arith, read.1)) ends (inl read.2)
    (λ j from to low used. elim used as (λ _. j ≤ n) [ inl a ↦ read.3 j from (omega (arith, to, low)) a | inr b ↦ absurd (apart b own) ]) small
  where
    apart : {b : Bool} → b ≡ true → b ≡ false → ⊥
    apart h k = cc
