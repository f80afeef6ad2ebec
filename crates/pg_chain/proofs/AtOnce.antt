-- A walk whose entries are all read at one moment.
use Rattle.std.proofs.Common.{◌≡◌, ℕ, ◌-◌, Bool, true, ◌&&◌, List, [], ◌∷◌, Some, Ok, refl, sym, ap, ◌∙◌, arith}
use Rattle.std.proofs.lemmas.Bool.{eq-eqb}
use Rattle.pg_entry.specs.declared.Kind.{Kind}
use Rattle.pg_entry.specs.declared.Kind.TheVariants as kinds
use Rattle.pg_entry.specs.declared.Level.{Level}
use Rattle.pg_entry.specs.declared.Level.TheVariants.{Four, Three, Two}
use Rattle.pg_entry.specs.Kinds.{kind_of, accessed}
use Rattle.pg_event.specs.declared.event.Event.{Event}
use Rattle.pg_event.specs.declared.event.Want.TheVariants.{Present}
use Rattle.pg_event.specs.declared.control.Control.{Control}
use Rattle.pg_event.specs.Heads.{Head}
use Rattle.pg_event.specs.Values.{mem_at, control_at}
use Rattle.pg_event.specs.Walk.{Reading, below, root_of}
use Rattle.pg_event.specs.Wants.{is_table, is_wanted}
use Rattle.pg_event.specs.Witness.{is_one_context, walked}
use Rattle.pg_chain.specs.declared.steps.Chain.{Chain}
use Rattle.pg_chain.specs.declared.steps.EntryRead.{EntryRead}
use Rattle.pg_chain.specs.Walked.{chain_of, wanted_end, entry_read, parent_of, reading_of, step_of, structures_kept}
use Rattle.pg_chain.proofs.Walks.{wanted_end-start, wanted_end-next, wanted_end-last, chain_of-known}

-- a table is present
table_present : (k : Kind) → is_table k ≡ true → is_wanted Present k ≡ true
table_present (kinds.Table addr) h = refl
table_present (kinds.Leaf frame shift global_bit) h = cc
table_present kinds.Absent h = cc
table_present kinds.Reserved h = cc

-- what is read at one moment has one context, and its structure entries survive
context_at_once : (head : Head) (events : List Event) (p pcid n : ℕ) → (control_at head events p n).pcid ≡ pcid →
    true ≡ is_one_context head events p pcid (n ∷ n ∷ n ∷ [])
context_at_once head events p pcid n h =
    sym (ap (λ (b : Bool). b && (b && (b && true))) (eq-eqb (control_at head events p n).pcid pcid h))

kept_at_once : (head : Head) (events : List Event) (p pcid la n : ℕ) → true ≡ structures_kept head events p pcid la Four (n ∷ n ∷ n ∷ [])
kept_at_once head events p pcid la n =
    let none : n - n ≡ 0 = omega arith in
    sym (rw none refl)

-- the entry of a level is a table
abbrev pub IsTableAt : Head → Level → EntryRead → Type 0
IsTableAt head level step = is_table (kind_of head.cfg level step.value) ≡ true

-- through the tables of the upper three levels
pub upper_at_once : (head : Head) (events : List Event) (p la n : ℕ) (start : Control) (four three two : EntryRead) →
    start ≡ control_at head events p n →
    reading_of four ≡ entry_read (mem_at events) la Four (root_of start) n → IsTableAt head Four four →
    reading_of three ≡ entry_read (mem_at events) la Three (parent_of head.cfg.m (reading_of four)) n → IsTableAt head Three three →
    reading_of two ≡ entry_read (mem_at events) la Two (parent_of head.cfg.m (reading_of three)) n → IsTableAt head Two two →
    chain_of head events p la (n ∷ n ∷ n ∷ []) Present ≡ Ok (record { pcid = start.pcid; tables = accessed four.value && accessed three.value; end = two })
upper_at_once head events p la n start four three two known read4 is4 read3 is3 read2 is2 =
    let look = mem_at events in
    let m = head.cfg.m in
    let c4 : Chain = record { pcid = start.pcid; tables = true; end = four } in
    let c3 : Chain = record { pcid = start.pcid; tables = accessed four.value; end = three } in
    let c2 : Chain = record { pcid = start.pcid; tables = accessed four.value && accessed three.value; end = two } in
    let level4 : four.level ≡ Four = ap (λ (r : Reading). r.level) read4 in
    let level3 : three.level ≡ Three = ap (λ (r : Reading). r.level) read3 in
    let level2 : two.level ≡ Two = ap (λ (r : Reading). r.level) read2 in
    let table4 : is_table (kind_of head.cfg four.level four.value) ≡ true = ap (λ l. is_table (kind_of head.cfg l four.value)) level4 ∙ is4 in
    let table3 : is_table (kind_of head.cfg three.level three.value) ≡ true = ap (λ l. is_table (kind_of head.cfg l three.value)) level3 ∙ is3 in
    let table2 : is_table (kind_of head.cfg two.level two.value) ≡ true = ap (λ l. is_table (kind_of head.cfg l two.value)) level2 ∙ is2 in
    let to3 : c3 ≡ _ = ap (λ (r : Reading). let c : Chain = record { pcid = start.pcid; tables = accessed four.value; end = step_of r } in c)
    (read3 ∙ ap (λ l. entry_read look la l (parent_of m (reading_of four)) n) (sym (ap below level4))) in
    let to2 : c2 ≡ _ = ap (λ (r : Reading). let c : Chain = record { pcid = start.pcid; tables = accessed four.value && accessed three.value; end = step_of r } in c)
    (read2 ∙ ap (λ l. entry_read look la l (parent_of m (reading_of three)) n) (sym (ap below level3))) in
    let end : Some c2 ≡ wanted_end head.cfg Present start.pcid true (walked head events la start (n ∷ n ∷ n ∷ [])) =
    sym (wanted_end-start head events la Present start n (n ∷ n ∷ n ∷ []) (n ∷ n ∷ []) (reading_of four) refl read4
    ∙ wanted_end-next head.cfg Present look la c4 c3 n (n ∷ n ∷ []) (n ∷ []) refl table4 to3
    ∙ wanted_end-next head.cfg Present look la c3 c2 n (n ∷ []) [] refl table3 to2
    ∙ sym (wanted_end-last head.cfg Present look la c2 [] true refl (table_present (kind_of head.cfg two.level two.value) table2))) in
    sym (chain_of-known head events p la Present n (n ∷ n ∷ n ∷ []) (n ∷ n ∷ []) start (Some c2) true true refl known end
    (context_at_once head events p start.pcid n (ap (λ (x : Control). x.pcid) (sym known)))
    (kept_at_once head events p start.pcid la n))
