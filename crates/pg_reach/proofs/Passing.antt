-- Moments that witness an event at a number do so at the last at which it may use what they read.
use Rattle.std.proofs.Common.{◌≡◌, ℕ, ◌≤◌, true, List, [], ◌∷◌, ◌++◌, refl, ap, sym, ◌∙◌, subst, arith, None}
use Rattle.std.proofs.lemmas.Bool.{and_parts, eqb-true}
use Rattle.pg_entry.specs.declared.Kind.{Kind}
use Rattle.pg_entry.specs.declared.Kind.TheVariants as kinds
use Rattle.pg_entry.specs.declared.Level.{Level}
use Rattle.pg_entry.specs.declared.Level.TheVariants.{Four, Three}
use Rattle.pg_entry.specs.Kinds.{kind_of}
use Rattle.pg_event.specs.declared.claim.Update.{Update}
use Rattle.pg_event.specs.declared.event.Event.{Event}
use Rattle.pg_event.specs.declared.event.Event.TheVariants.{Write, Access, Assist, MovCr3, Invlpg, Invpcid, MovCr4Pge}
use Rattle.pg_event.specs.declared.event.Outcome.{Outcome}
use Rattle.pg_event.specs.declared.walk.Parent.{Parent}
use Rattle.pg_event.specs.Heads.{Head}
use Rattle.pg_event.specs.Spelling.{Recorded}
use Rattle.pg_event.specs.Values.{mem_at, control_at}
use Rattle.pg_event.specs.Walk.{Reading, readings}
use Rattle.pg_event.specs.Wants.{is_wanted}
use Rattle.pg_event.specs.Witness.{last_or, is_updated, failing_event, failing_access, failing_assist, claim_of, update_of}
use Rattle.pg_run_of.specs.Plan.{root_at}
use Rattle.pg_run_of.proofs.Standing.{seen, given}
use Rattle.pg_run_of.proofs.Accesses.{update_holds}
use Rattle.pg_run_of.proofs.Chains.{next_or, Comes, reading_at, ends_there, access_none}
use Rattle.pg_search.specs.Law.{with_moments}
use Rattle.pg_reach.specs.declared.walker.Walker.{Walker}
use Rattle.pg_reach.specs.declared.reach.Reach.{Reach}
use Rattle.pg_reach.specs.Stays.{IsUnder}
use Rattle.pg_reach.specs.Reaching.{way_of, entry_of, up_to, IsReach}
use Rattle.pg_reach.specs.Asking.{want_by, Asks}
use Rattle.pg_reach.specs.WitnessedUpTo.{IsLastUse}
use Rattle.pg_reach.proofs.Used.{access_end, end_last}
use Rattle.pg_reach.proofs.Whole.{way_comes}

-- a reading in the table of a reach, and the last number at which what it gives may be used
pub record IsUsed (r : Recorded) (v : Walker) (e : Event) (level : Level) (x : Reach) (m n : ℕ) : Type 0 where
  pub reach : IsReach r v level x
  pub from : x.from ≤ m
  pub to : m ≤ x.to
  pub under : IsUnder r v m
  pub order : m ≤ n
  pub wanted : is_wanted (want_by e) (kind_of r.head.cfg level (entry_of r v level x.table m)) ≡ true
  pub last : IsLastUse r v e (kind_of r.head.cfg level (entry_of r v level x.table m)) m n

-- what witnesses the event at a number up to the walker's comes no later than the last, and
-- witnesses it there
abbrev IsPassing : Recorded → Walker → Event → Level → Reach → ℕ → ℕ → Type 0
IsPassing r v e level x m n = IsUsed r v e level x m n → (j : ℕ) → m ≤ j → j ≤ v.number → failing_event r.head r.events j (with_moments (up_to m x.latest) e) ≡ None →
    (j ≤ n) × (failing_event r.head r.events n (with_moments (up_to m x.latest) e) ≡ None)

passing_access : (r : Recorded) (v : Walker) (flags : ℕ) (outcome : Outcome) (own : List ℕ) (level : Level) (x : Reach) (m n : ℕ) → IsPassing r v (Access v.p flags v.la outcome own) level x m n
passing_access r v flags outcome own level x m n h = λ j low high good.
    let by = h.reach.way m h.from h.to h.under in
    let come : Comes r.head r.events v.p v.la v.pcid m Four (root_at r.head r.events v.p (next_or m by.0)) by.0 level x.table = way_comes r.head r.events (way_of v) m by.0 level x.table by.2 in
    let now : failing_access r.head r.events (claim_of j v.p flags v.la outcome) (by.0 ++ m ∷ []) ≡ None = ap (failing_access r.head r.events (claim_of j v.p flags v.la outcome)) (sym by.1) ∙ good in
    let end = access_end r.head r.events (claim_of j v.p flags v.la outcome) v.pcid m by.0 level x.table come h.under now in
    let last = end_last r v flags outcome own level x.table m j n (kind_of r.head.cfg level (seen (mem_at r.events) v.la level x.table m)) low high h.wanted h.last end.ends in (
      last.0,
      ap (failing_access r.head r.events (claim_of n v.p flags v.la outcome)) by.1
          ∙ access_none r.head r.events (claim_of n v.p flags v.la outcome) v.pcid m by.0 level x.table come (record { low = h.order; wanted = h.wanted; alike = h.under }) last.1 (record { leaf = end.flags.leaf; write = end.flags.write }),
    )

-- an assist reads its word at its own number

updated_now : (head : Head) (events : List Event) (u : Update) (at : Level) (to : Parent) (m : ℕ) (q : Reading) → q ≡ reading_at events u.la at to m → is_updated head.cfg u q ≡ true → m ≡ u.number
updated_now head events u at to m q is h =
    let updated : is_updated head.cfg u (reading_at events u.la at to m) ≡ true = ap (is_updated head.cfg u) (sym is) ∙ h in
    eqb-true _ _ (and_parts _ _ (and_parts _ _ updated).0).0

assist_now : (head : Head) (events : List Event) (u : Update) (pcid m : ℕ) (ws : List ℕ) (at : Level) (to : Parent) → Comes head events u.p u.la pcid m Four (root_at head events u.p (next_or m ws)) ws at to →
    failing_assist head events u (ws ++ m ∷ []) ≡ None → m ≡ u.number
assist_now head events u pcid m [] at to come good =
    let root : Parent = root_at head events u.p m in
    let read : Reading = reading_at events u.la Four root m in
    let h = update_holds head events u (control_at head events u.p m).pcid (m ∷ []) read [] good in
    updated_now head events u at to m read (ends_there head events u.p u.la pcid m Four root [] at to read come) h.updated
assist_now head events u pcid m (x ∷ xs) at to come good =
    let root : Parent = root_at head events u.p x in
    let gave : Parent = given head.cfg.m (mem_at events) u.la Four root x in
    let read : Reading = reading_at events u.la Four root x in
    let rest : List Reading = readings head.cfg.m (mem_at events) u.la Three gave.table gave.rights (xs ++ m ∷ []) in
    let h = update_holds head events u (control_at head events u.p x).pcid (x ∷ xs ++ m ∷ []) read rest good in
    updated_now head events u at to m (last_or read rest) (ends_there head events u.p u.la pcid m Four root (x ∷ xs) at to read come) h.updated

used_now : (r : Recorded) (v : Walker) (flags word : ℕ) (own : List ℕ) (k : Kind) (m n : ℕ) → IsLastUse r v (Assist v.p flags v.la word own) k m n → n ≡ m
used_now r v flags word own (kinds.Leaf frame shift g) m n h = h.1 refl
used_now r v flags word own kinds.Absent m n h = h
used_now r v flags word own kinds.Reserved m n h = h
used_now r v flags word own (kinds.Table addr) m n h = h

passing_assist : (r : Recorded) (v : Walker) (flags word : ℕ) (own : List ℕ) (level : Level) (x : Reach) (m n : ℕ) → IsPassing r v (Assist v.p flags v.la word own) level x m n
passing_assist r v flags word own level x m n h = λ j low high good.
    let by = h.reach.way m h.from h.to h.under in
    let come : Comes r.head r.events v.p v.la v.pcid m Four (root_at r.head r.events v.p (next_or m by.0)) by.0 level x.table = way_comes r.head r.events (way_of v) m by.0 level x.table by.2 in
    let assist : ℕ → List ℕ → Type 0 = λ i ws. failing_assist r.head r.events (update_of i v.p flags v.la word) ws ≡ None in
    let now : assist j (by.0 ++ m ∷ []) = ap (failing_assist r.head r.events (update_of j v.p flags v.la word)) (sym by.1) ∙ good in
    let read : m ≡ j = assist_now r.head r.events (update_of j v.p flags v.la word) v.pcid m by.0 level x.table come now in
    let used : n ≡ m = used_now r v flags word own (kind_of r.head.cfg level (entry_of r v level x.table m)) m n h.last in
    let is : j ≡ n = sym read ∙ sym used in
    (omega (arith, is), subst (λ i. assist i (up_to m x.latest)) is good)

pub passing : (r : Recorded) (v : Walker) (e : Event) (level : Level) (x : Reach) (m n : ℕ) → Asks v e → IsPassing r v e level x m n
passing r v (Access p flags la outcome own) level x m n asks =
    subst (λ q. IsPassing r v (Access q flags la outcome own) level x m n) asks.0 (subst (λ a. IsPassing r v (Access v.p flags a outcome own) level x m n) asks.1 (passing_access r v flags outcome own level x m n))
passing r v (Assist p flags la word own) level x m n asks =
    subst (λ q. IsPassing r v (Assist q flags la word own) level x m n) asks.0 (subst (λ a. IsPassing r v (Assist v.p flags a word own) level x m n) asks.1 (passing_assist r v flags word own level x m n))
passing r v (Write p addr value) level x m n asks = absurd asks
passing r v (MovCr3 p operand) level x m n asks = absurd asks
passing r v (Invlpg p la) level x m n asks = absurd asks
passing r v (Invpcid p kind pcid la) level x m n asks = absurd asks
passing r v (MovCr4Pge p on) level x m n asks = absurd asks
