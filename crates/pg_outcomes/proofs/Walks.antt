-- What the moments of an access say of its outcome.
use Rattle.std.proofs.Common.{◌≡◌, ℕ, ◌+◌, ◌-◌, ◌*◌, ◌/◌, ◌<◌, ◌≤◌, ◌%◌, ◌^◌, nat_le, true, cond, List, [], ◌∷◌, refl, ap, sym, ◌∙◌, subst, inl, inr, ◌⊎◌, arith, Option, Some, None}
use Rattle.std.proofs.lemmas.Bool.{and_parts, eq-eqb, leb-true}
use Rattle.std.proofs.Math.Nat.{mod-lt}
use Rattle.std.proofs.lemmas.Nat.{mod-mul-add}
use Rattle.pg_entry.specs.declared.Cfg.{Cfg}
use Rattle.pg_entry.specs.declared.Cause.{Cause}
use Rattle.pg_entry.specs.declared.Level.{Level}
use Rattle.pg_entry.specs.declared.Level.TheVariants.{Four, Three}
use Rattle.pg_entry.specs.declared.AccessKind.{AccessKind}
use Rattle.pg_entry.specs.declared.Rights.{Rights}
use Rattle.pg_entry.specs.Kinds.{kind_of, table_of}
use Rattle.pg_entry.specs.Permission.{fault_code}
use Rattle.pg_event.specs.declared.claim.Claim.{Claim}
use Rattle.pg_event.specs.declared.control.Control.{Control}
use Rattle.pg_event.specs.declared.event.Event.{Event}
use Rattle.pg_event.specs.declared.event.Outcome.TheVariants.{Page, Fault}
use Rattle.pg_event.specs.declared.walk.Parent.{Parent}
use Rattle.pg_event.specs.Heads.{Head}
use Rattle.pg_event.specs.Invalidation.{level_shift}
use Rattle.pg_event.specs.Spelling.{Recorded}
use Rattle.pg_event.specs.Values.{mem_at, control_at}
use Rattle.pg_event.specs.Walk.{Reading, readings, below, entry_address}
use Rattle.pg_event.specs.Witness.{last_or, is_in_order, failing_access}
use Rattle.pg_run_of.specs.Plan.{root_at}
use Rattle.pg_run_of.proofs.Standing.{seen, given}
use Rattle.pg_run_of.proofs.Accesses.{claim_holds}
use Rattle.pg_run_of.proofs.Chains.{reading_at}
use Rattle.pg_reach.specs.Given.{page_by, cause_of, code_by}
use Rattle.pg_reach.proofs.Gives.{page_end, code_end}
use Rattle.pg_outcomes.specs.Pages.{page_at}
use Rattle.pg_outcomes.proofs.Words.{no_page_at_four}

-- a reading of a table of memory: its place in the table, its value and its moment
record IsRead (events : List Event) (n la : ℕ) (q : Reading) : Type 0 where
  place : q.address % 4096 ≡ entry_address 0 q.level la
  value : q.value ≡ mem_at events q.moment q.address
  low : q.moment ≤ n

-- tables are aligned
in_place : (m v la : ℕ) (level : Level) → entry_address (table_of m v) level la % 4096 ≡ entry_address 0 level la
in_place m v la level =
    let index : ℕ = la / 2 ^ level_shift level % 512 in
    let small : index < 512 = mod-lt (la / 2 ^ level_shift level) (omega arith) in
    mod-mul-add (v / 4096 % 2 ^ (m - 12)) 4096 (8 * index) (omega (arith, small)) ∙ sym (none (8 * index))
  where
    none : (k : ℕ) → 0 + k ≡ k
    none k = omega arith

low_at : (w number : ℕ) (ws : List ℕ) → is_in_order (w ∷ ws) number ≡ true → w ≤ number
low_at w number [] h = leb-true w number h
low_at w number (x ∷ xs) h =
    let parts = and_parts (nat_le w x) (is_in_order (x ∷ xs) number) h in
    omega (arith, leb-true w x parts.0, low_at x number xs parts.1)

last_read : (m : ℕ) (events : List Event) (n la v : ℕ) (level : Level) (rights : Rights) (x : ℕ) (ws : List ℕ) → is_in_order (x ∷ ws) n ≡ true →
    (let from : Parent = record { table = table_of m v; rights = rights } in
    let gave : Parent = given m (mem_at events) la level from x in
    IsRead events n la (last_or (reading_at events la level from x) (readings m (mem_at events) la (below level) gave.table gave.rights ws)))
last_read m events n la v level rights x [] h = record { place = in_place m v la level; value = refl; low = leb-true x n h }
last_read m events n la v level rights x (y ∷ ys) h =
    let from : Parent = record { table = table_of m v; rights = rights } in
    let gave : Parent = given m (mem_at events) la level from x in
    last_read m events n la (seen (mem_at events) la level from x) (below level) gave.rights y ys (and_parts (nat_le x y) (is_in_order (y ∷ ys) n) h).1

-- the last reading of a walk is of level 4, or such a one
walk_read : (m : ℕ) (events : List Event) (n la : ℕ) (root : Parent) (w : ℕ) (ws : List ℕ) → is_in_order (w ∷ ws) n ≡ true →
    (let gave : Parent = given m (mem_at events) la Four root w in
    let last : Reading = last_or (reading_at events la Four root w) (readings m (mem_at events) la Three gave.table gave.rights ws) in
    (last.level ≡ Four) ⊎ IsRead events n la last)
walk_read m events n la root w [] h = inl refl
walk_read m events n la root w (y ∷ ys) h =
    let gave : Parent = given m (mem_at events) la Four root w in
    inr (last_read m events n la (seen (mem_at events) la Four root w) Three gave.rights y ys (and_parts (nat_le w y) (is_in_order (y ∷ ys) n) h).1)

-- ---- ends

-- a code is that of a cause
caused_by : (cfg : Cfg) (kind : AccessKind) (code : ℕ) (o : Option Cause) → code_by cfg kind o ≡ Some code → (cause : Cause) × (code ≡ fault_code cfg kind cause)
caused_by cfg kind code None h = absurd (cc)
caused_by cfg kind code (Some cause) h = let is : fault_code cfg kind cause ≡ code = cc in (cause, sym is)

-- ---- accesses

-- some word gives the page, at a moment up to the event
abbrev pub IsGiven : Recorded → ℕ → ℕ → ℕ → Type 0
IsGiven r n la page =
    (w : ℕ) × (word : ℕ) × (level : Level) × (w ≤ n) × (page_at r w word level la ≡ Some page)

given_by : (r : Recorded) (n la page : ℕ) (q : Reading) → (q.level ≡ Four) ⊎ IsRead r.events n la q → page_by r.head.cfg q.level q.value la ≡ Some page → IsGiven r n la page
given_by r n la page q (inl four) h = absurd (no_page_at_four r.head.cfg q.value la page (subst (λ l. page_by r.head.cfg l q.value la ≡ Some page) four h))
given_by r n la page q (inr read) h =
    let value : page_by r.head.cfg q.level (mem_at r.events q.moment q.address) la ≡ Some page = subst (λ v. page_by r.head.cfg q.level v la ≡ Some page) read.value h in
    (q.moment, q.address, q.level, read.low, ap (λ b. cond b (page_by r.head.cfg q.level (mem_at r.events q.moment q.address) la) None) (eq-eqb _ _ read.place) ∙ value)

pub page_given : (r : Recorded) (c : Claim) (ws : List ℕ) (page : ℕ) → c.outcome ≡ Page page → failing_access r.head r.events c ws ≡ None → IsGiven r c.number c.la page
page_given r c [] page is good = absurd (cc)
page_given r c (w ∷ ws) page is good =
    let head : Head = r.head in
    let events : List Event = r.events in
    let start : Control = control_at head events c.p w in
    let root : Parent = root_at head events c.p w in
    let gave : Parent = given head.cfg.m (mem_at events) c.la Four root w in
    let read : Reading = reading_at events c.la Four root w in
    let rest : List Reading = readings head.cfg.m (mem_at events) c.la Three gave.table gave.rights ws in
    let h = claim_holds head events c start.pcid (w ∷ ws) read rest good in
    let last : Reading = last_or read rest in
    given_by r c.number c.la page last (walk_read head.cfg.m events c.number c.la root w ws h.walk.order) (page_end head events c start.pcid last (kind_of head.cfg last.level last.value) page is h.ends)

pub code_caused : (r : Recorded) (c : Claim) (ws : List ℕ) (code : ℕ) → c.outcome ≡ Fault code → failing_access r.head r.events c ws ≡ None → (cause : Cause) × (code ≡ fault_code r.head.cfg c.kind cause)
code_caused r c [] code is good = absurd (cc)
code_caused r c (w ∷ ws) code is good =
    let head : Head = r.head in
    let events : List Event = r.events in
    let start : Control = control_at head events c.p w in
    let root : Parent = root_at head events c.p w in
    let gave : Parent = given head.cfg.m (mem_at events) c.la Four root w in
    let read : Reading = reading_at events c.la Four root w in
    let rest : List Reading = readings head.cfg.m (mem_at events) c.la Three gave.table gave.rights ws in
    let h = claim_holds head events c start.pcid (w ∷ ws) read rest good in
    let last : Reading = last_or read rest in
    caused_by head.cfg c.kind code (cause_of (kind_of head.cfg last.level last.value)) (code_end head events c start.pcid last (kind_of head.cfg last.level last.value) code is h.ends)
