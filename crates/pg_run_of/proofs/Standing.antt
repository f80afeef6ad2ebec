-- Entries that stand from their reading to their next use.
use Rattle.std.proofs.Common.{◌≡◌, ℕ, zero, suc, ◌+◌, ◌<◌, ◌≤◌, ◌==◌, Bool, List, [], ◌∷◌, refl, ap, sym, ◌∙◌, subst, true, false, not, ◌||◌, ◌&&◌, inl, inr, nat_le, arith}
use Rattle.pg_event.specs.declared.control.Control.{Control}
use Rattle.pg_machine.specs.declared.step.Structure.{Structure}
use Rattle.pg_machine.specs.declared.step.Translation.{Translation}
use Rattle.std.proofs.lemmas.Bool.{and_parts, or_parts, eq-eqb, eqb-true, leb-true, cases_Bool, cases_eq}
use Rattle.std.specs.Prelude.{filter}
use Rattle.std.specs.List.{list_all}
use Rattle.pg_entry.specs.declared.Level.{Level}
use Rattle.pg_entry.specs.declared.Level.TheVariants.{Four, Three, Two, One}
use Rattle.pg_entry.specs.Kinds.{accessed, dirty, kind_of, table_of}
use Rattle.pg_entry.specs.Permission.{joined}
use Rattle.pg_event.specs.declared.event.Event.{Event}
use Rattle.pg_event.specs.declared.event.Want.{Want}
use Rattle.pg_event.specs.Heads.{Head, judges_accessed}
use Rattle.pg_event.specs.Values.{mem_at, control_at}
use Rattle.pg_entry.specs.declared.Rights.{Rights}
use Rattle.pg_event.specs.Invalidation.{structure_key, translation_key}
use Rattle.pg_event.specs.Walk.{Reading, readings, entry_address, below}
use Rattle.pg_event.specs.Wants.{is_table}
use Rattle.pg_event.specs.Witness.{leads_to, last_or, is_in_order, any_from}
use Rattle.pg_event.specs.declared.walk.Parent.{Parent}
use Rattle.pg_machine.specs.Machine.{State, IsIn, MayRead, IsWalkable, entry_now, may_cache, with_table, with_structure, structure_at, changed_at}
use Rattle.pg_run_of.specs.declared.fill.Fill.{Fill}
use Rattle.pg_run_of.specs.Plan.{fill_by, step_of, fills_at}
use Rattle.pg_run_of.proofs.Fills.{fills_here, fills_away, table_fills, last_parent}
use Rattle.pg_run_of.proofs.Paths.{Leads, leads_on}
use Rattle.pg_run_of.proofs.Accesses.{AreCached}
use Rattle.pg_run_of.proofs.Walks.{Reads, fill, next, may_go_on, no_table_below}

-- a test that holds of none of a range does not hold of one in it
pub none_from : (test : ℕ → Bool) (from n j : ℕ) → any_from test from n ≡ false → from ≤ j → j < from + n → test j ≡ false
none_from test from zero j h le lt = absurd (omega arith)
none_from test from (suc n) j h le lt =
    let parts = or_parts _ _ h in
    elim (cases_eq from j) [
      | inl e ↦ ap test (sym e) ∙ parts.0
      | inr ne ↦ none_from test (from + 1) n j parts.1 (omega (arith, ne)) (omega arith)
    ]

-- what a filter keeps
pub in-filter : {X : Type 0} (test : X → Bool) (x : X) (xs : List X) → IsIn x xs → test x ≡ true → IsIn x (filter test xs)
in-filter test x [] h e = absurd h
in-filter test x (y ∷ ys) (inl same) e = rw (ap test same ∙ e) (inl same)
in-filter test x (y ∷ ys) (inr h) e =
    elim (cases_Bool (test y)) [
      | inl t ↦ rw t (inr (in-filter test x ys h e))
      | inr f ↦ rw f (in-filter test x ys h e)
    ]

-- t has all that s has, with the same memory and control registers
pub record Grows (s t : State) : Type 0 where
  pub memory : t.memory ≡ s.memory
  pub control : t.control ≡ s.control
  pub structures : (q : ℕ) (x : Structure) → IsIn x (s.structures q) → IsIn x (t.structures q)
  pub translations : (q : ℕ) (x : Translation) → IsIn x (s.translations q) → IsIn x (t.translations q)

pub grows_refl : (s : State) → Grows s s
grows_refl s = record { memory = refl; control = refl; structures = λ q x h. h; translations = λ q x h. h }

pub grows_on : (s t u : State) → Grows s t → Grows t u → Grows s u
grows_on s t u h k = record {
  memory = k.memory ∙ h.memory;
  control = k.control ∙ h.control;
  structures = λ q x i. k.structures q x (h.structures q x i);
  translations = λ q x i. k.translations q x (h.translations q x i);
}

pub in_changed : {X : Type 0} (p q : ℕ) (x y : X) (old : ℕ → List X) → IsIn x (old q) → IsIn x (changed_at p (λ xs. y ∷ xs) old q)
in_changed p q x y old h =
    elim (cases_Bool (q == p)) as (λ _. IsIn x (changed_at p (λ xs. y ∷ xs) old q)) [
      | inl t ↦ rw t (inr h)
      | inr f ↦ rw f h
    ]

pub grows_structure : (s : State) (p : ℕ) (y : Structure) → Grows s (with_structure s p y)
grows_structure s p y = record { memory = refl; control = refl; structures = λ q x h. in_changed p q x y s.structures h; translations = λ q x h. h }

-- the reading of a level, and the parent that it gives
abbrev pub seen : (ℕ → ℕ → ℕ) → ℕ → Level → Parent → ℕ → ℕ
seen look la level from w = look w (entry_address from.table level la)

abbrev pub given : ℕ → (ℕ → ℕ → ℕ) → ℕ → Level → Parent → ℕ → Parent
given m look la level from w = record { table = table_of m (seen look la level from w); rights = joined from.rights (seen look la level from w) }

abbrev pub entry_of : ℕ → ℕ → Level → Parent → Structure
entry_of pcid la level from = record { key = structure_key pcid level la; table = from.table; rights = from.rights }

-- the translation that a leaf gives
abbrev pub translation_of : ℕ → ℕ → Bool → ℕ → ℕ → Rights → ℕ → Translation
translation_of pcid shift global la frame rights entry = record { key = translation_key pcid shift global la; frame = frame; rights = rights; dirty = dirty entry }

abbrev pub read_at : (ℕ → ℕ → ℕ) → ℕ → Level → Parent → ℕ → Reading
read_at look la level from w = record { level = level; address = entry_address from.table level la; value = seen look la level from w; moment = w; rights = joined from.rights (seen look la level from w) }

-- before the fills at w: each structure entry that was read below w and is used at w or later
-- stands
abbrev pub Stands : ℕ → (ℕ → ℕ → ℕ) → State → ℕ → ℕ → ℕ → ℕ → Level → Parent → ℕ → List ℕ → Type 0
Stands m look s p la pcid w level from x [] = Unit {0}
Stands m look s p la pcid w level from x (y ∷ ys) =
    (x < w → w ≤ y → IsIn (entry_of pcid la level (given m look la level from x)) (s.structures p))
    × Stands m look s p la pcid w (below level) (given m look la level from x) y ys

-- after them: each that was read at w or below
abbrev pub Stood : ℕ → (ℕ → ℕ → ℕ) → State → ℕ → ℕ → ℕ → ℕ → Level → Parent → ℕ → List ℕ → Type 0
Stood m look s p la pcid w level from x [] = Unit {0}
Stood m look s p la pcid w level from x (y ∷ ys) =
    (x ≤ w → w ≤ y → IsIn (entry_of pcid la level (given m look la level from x)) (s.structures p))
    × Stood m look s p la pcid w (below level) (given m look la level from x) y ys

pub stands_grow : (m : ℕ) (look : ℕ → ℕ → ℕ) (s t : State) → Grows s t → (p la pcid w : ℕ) (level : Level) (from : Parent) (x : ℕ) (ws : List ℕ) →
    Stands m look s p la pcid w level from x ws → Stands m look t p la pcid w level from x ws
stands_grow m look s t g p la pcid w level from x [] h = tt
stands_grow m look s t g p la pcid w level from x (y ∷ ys) h =
    (λ a b. g.structures p _ (h.0 a b), stands_grow m look s t g p la pcid w (below level) (given m look la level from x) y ys h.1)

pub stood_grow : (m : ℕ) (look : ℕ → ℕ → ℕ) (s t : State) → Grows s t → (p la pcid w : ℕ) (level : Level) (from : Parent) (x : ℕ) (ws : List ℕ) →
    Stood m look s p la pcid w level from x ws → Stood m look t p la pcid w level from x ws
stood_grow m look s t g p la pcid w level from x [] h = tt
stood_grow m look s t g p la pcid w level from x (y ∷ ys) h =
    (λ a b. g.structures p _ (h.0 a b), stood_grow m look s t g p la pcid w (below level) (given m look la level from x) y ys h.1)

-- the fills of the tables at w were taken
pub record Tables (m : ℕ) (look : ℕ → ℕ → ℕ) (head : Head) (s : State) (p la pcid w : ℕ) (level : Level) (from : Parent) (x : ℕ) (ws : List ℕ) (last : Parent) (r : Reading) : Type 0 where
  pub to : State
  pub leads : Leads head s (fills_at w (table_fills m p la from (readings m look la level from.table from.rights (x ∷ ws)))) to
  pub grows : Grows s to
  pub stood : Stood m look to p la pcid w level from x ws
  pub reads : r.moment ≡ w → Reads to p la last r

-- the structure entry of a parent, as the machine names it, where the PCID is the walk's
may_read_below : (s : State) (p la pcid : ℕ) (level : Level) (from : Parent) → (s.control p).pcid ≡ pcid → (level ≡ One → ⊥) →
    IsIn (entry_of pcid la level from) (s.structures p) → MayRead s p la (below level) from
may_read_below s p la pcid Four from e high h = rw e h
may_read_below s p la pcid Three from e high h = rw e h
may_read_below s p la pcid Two from e high h = rw e h
may_read_below s p la pcid One from e high h = absurd (high refl)

-- what the machine has at a moment is what the record says
pub record At (head : Head) (all : List Event) (s : State) (w : ℕ) : Type 0 where
  pub memory : (a : ℕ) → mem_at all w a ≡ s.memory a
  pub control : (q : ℕ) → control_at head all q w ≡ s.control q

pub at_grown : (head : Head) (all : List Event) (s t : State) (w : ℕ) → At head all s w → Grows s t → At head all t w
at_grown head all s t w h g = record {
  memory = λ a. h.memory a ∙ ap (λ (f : ℕ → ℕ). f a) (sym g.memory);
  control = λ q. h.control q ∙ ap (λ (f : ℕ → Control). f q) (sym g.control);
}

not_one : (head : Head) (level : Level) (e : ℕ) → is_table (kind_of head.cfg level e) ≡ true → level ≡ One → ⊥
not_one head level e h same = no_table_below head.cfg e (ap (λ l. is_table (kind_of head.cfg l e)) (sym same) ∙ h)

pub or_and : (a b c : Bool) → (a || (b && c)) ≡ true → ((a || b) ≡ true) × ((a || c) ≡ true)
or_and true b c h = (refl, refl)
or_and false true c h = (refl, h)
or_and false false c h = absurd (cc)

-- all fills of the tables of a walk at the moment w
pub tables : (head : Head) (all : List Event) (p la : ℕ) → IsWalkable head p la → (want : Want) (i pcid w : ℕ) (s : State) → At head all s w →
    (level : Level) (from : Parent) (x : ℕ) (ws : List ℕ) →
    is_in_order (x ∷ ws) i ≡ true →
    leads_to head.cfg want (readings head.cfg.m (mem_at all) la level from.table from.rights (x ∷ ws)) ≡ true →
    list_all (λ y. (control_at head all p y).pcid == pcid) (x ∷ ws) ≡ true →
    AreCached head.version (readings head.cfg.m (mem_at all) la level from.table from.rights (x ∷ ws)) →
    Stands head.cfg.m (mem_at all) s p la pcid w level from x ws →
    (x ≡ w → MayRead s p la level from) →
    Tables head.cfg.m (mem_at all) head s p la pcid w level from x ws
    (last_parent head.cfg.m from (read_at (mem_at all) la level from x) (readings head.cfg.m (mem_at all) la (below level) (given head.cfg.m (mem_at all) la level from x).table (given head.cfg.m (mem_at all) la level from x).rights ws))
    (last_or (read_at (mem_at all) la level from x)
    (readings head.cfg.m (mem_at all) la (below level) (given head.cfg.m (mem_at all) la level from x).table (given head.cfg.m (mem_at all) la level from x).rights ws))
tables head all p la inside want i pcid w s now level from x [] order kinds alike cached stands may =
    record {
      to = s;
      leads = refl;
      grows = grows_refl s;
      stood = tt;
      reads = λ e. record { may = may e; address = refl; value = sym (now.memory _) ∙ ap (λ v. mem_at all v (entry_address from.table level la)) (sym e); rights = refl };
    }
tables head all p la inside want i pcid w s now level from x (y ∷ ys) order kinds alike cached stands may =
    let m : ℕ = head.cfg.m in
    let look : ℕ → ℕ → ℕ = mem_at all in
    let gave : Parent = given m look la level from x in
    let fill_it : Fill = fill_by false p la level from x in
    let more : List Fill = table_fills m p la gave (readings m look la (below level) gave.table gave.rights (y ∷ ys)) in
    let same_pcid : ℕ → Bool = λ v. (control_at head all p v).pcid == pcid in
    let order' = and_parts (nat_le x y) (is_in_order (y ∷ ys) i) order in
    let kinds' = and_parts _ _ kinds in
    let alike' = and_parts (same_pcid x) (list_all same_pcid (y ∷ ys)) alike in
    let alike'' = and_parts (same_pcid y) (list_all same_pcid ys) alike'.1 in
    let low : x ≤ y = leb-true x y order'.0 in
    let cached' = or_and (not (judges_accessed head.version)) (accessed (seen look la level from x)) _ cached in
    let mine : Structure = entry_of pcid la level gave in
    elim (cases_eq x w) [
      | inl here ↦
          let value : entry_now s la level from ≡ seen look la level from x = sym (now.memory _) ∙ ap (λ v. look v (entry_address from.table level la)) (sym here) in
          let own : (s.control p).pcid ≡ pcid = ap (λ c. c.pcid) (sym (now.control p)) ∙ ap (λ v. (control_at head all p v).pcid) (sym here) ∙ eqb-true _ _ alike'.0 in
          let table : is_table (kind_of head.cfg level (entry_now s la level from)) ≡ true = ap (λ v. is_table (kind_of head.cfg level v)) value ∙ kinds'.0 in
          let cacheable : may_cache head.version (entry_now s la level from) ≡ true = ap (may_cache head.version) value ∙ cached'.0 in
          let first = fill head s p la inside level from (may here) cacheable table in
          let t : State = with_table head s p la level from in
          let grown : Grows s t = grows_structure s p _ in
          let same : next head s la level from ≡ gave = ap (λ v. record { table = table_of m v; rights = joined from.rights v }) value in
          let on = subst (λ f. MayRead t p la (below level) f) same (may_go_on head s p la level from table) in
          let in_t : IsIn mine (t.structures p) = rw (eq-eqb p p refl) (inl (ap (λ f. structure_at s p la level f) same ∙ ap (λ c. entry_of c la level gave) own)) in
          let others = tables head all p la inside want i pcid w t (at_grown head all s t w now grown) (below level) gave y ys order'.1 kinds'.1 alike'.1 cached'.1
          (stands_grow m look s t grown p la pcid w (below level) gave y ys stands.1) (λ _. on) in
          record {
            to = others.to;
            leads = subst (λ steps. Leads head s steps others.to) (sym (fills_here w fill_it more here))
                (leads_on head s (step_of fill_it ∷ []) t (fills_at w more) others.to first others.leads);
            grows = grows_on s t others.to grown others.grows;
            stood = (λ _ _. others.grows.structures p mine in_t, others.stood);
            reads = others.reads;
          }
      | inr away ↦
          let others = tables head all p la inside want i pcid w s now (below level) gave y ys order'.1 kinds'.1 alike'.1 cached'.1 stands.1
          (λ e.
          let own : (s.control p).pcid ≡ pcid = ap (λ c. c.pcid) (sym (now.control p)) ∙ ap (λ v. (control_at head all p v).pcid) (sym e) ∙ eqb-true _ _ alike''.0 in
          may_read_below s p la pcid level gave own (not_one head level _ kinds'.0) (stands.0 (omega (arith, away, low, e)) (omega (arith, e)))) in
          record {
            to = others.to;
            leads = subst (λ steps. Leads head s steps others.to) (sym (fills_away w fill_it more away)) others.leads;
            grows = others.grows;
            stood = (λ a b. others.grows.structures p mine (stands.0 (omega (arith, away, a)) b), others.stood);
            reads = others.reads;
          }
    ]
