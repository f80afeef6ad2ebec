-- What is kept of events leaves the same in memory, in control registers and in caches; and an
-- event that changes nothing takes no moments away.
use Rattle.std.proofs.Common.{◌≡◌, ℕ, zero, suc, ◌+◌, ◌-◌, ◌<◌, ◌≤◌, Bool, true, false, not, cond, ◌||◌, ◌==◌, List, [], ◌∷◌, length, map, take, fold, Option, Some, None, refl, ap, sym, ◌∙◌, subst, inl, inr, arith}
use Rattle.std.specs.Prelude.{slice_get, option_map}
use Rattle.std.proofs.lemmas.Bool.{cases_Bool, cases_lt, cases_eq, and_right, eq-eqb, eqb-true, false_from_ne_true}
use Rattle.std.proofs.lemmas.List.{take-map, take-take}
use Rattle.std.proofs.lemmas.List.Sums.{fold-append}
use Rattle.std.proofs.lemmas.Option.{slice_get-map}
use Rattle.pg_entry.specs.declared.Rules.{Rules}
use Rattle.pg_event.specs.declared.control.Control.{Control}
use Rattle.pg_event.specs.declared.event.Event.{Event}
use Rattle.pg_event.specs.declared.event.Event.TheVariants.{Write, Access, Assist, MovCr3, Invlpg, Invpcid, MovCr4Pge}
use Rattle.pg_event.specs.declared.event.Outcome.TheVariants.{Page, Fault}
use Rattle.pg_event.specs.declared.keys.StructureKey.{StructureKey}
use Rattle.pg_event.specs.declared.keys.TranslationKey.{TranslationKey}
use Rattle.pg_event.specs.Heads.{Head}
use Rattle.pg_event.specs.Values.{written, controlled, started, mem_at, control_at}
use Rattle.pg_event.specs.Invalidation.{must_drop_structure, must_drop_translation}
use Rattle.pg_event.specs.Witness.{any_from, takes_out, survives}
use Rattle.pg_search.specs.Law.{AreWitness}
use Rattle.pg_search.specs.Placeholders.{with_placeholder}
use Rattle.pg_event.specs.Form.{processor_of}
use Rattle.pg_search.specs.declared.last.Last.{Last}
use Rattle.pg_search.specs.Last.{NoneWitness, AreOwn, HasOwn, NoneOwn, IsLastUnder}
use Rattle.pg_search.specs.Changes.{changes_something, idle, kept_of, AreKeptOf, WitnessedAmongKept, TakenByAChange, DroppedByAChange, AreAlike}
use Rattle.pg_search.proofs.Stepping.{take_next}
use Rattle.pg_search.proofs.Carries.{Carries, carried, witnessed_alike}
use Rattle.pg_search.proofs.Writers.{any_from-last}

apart : true ≡ false → ⊥
apart e = cc

or_false : (b : Bool) → (b || false) ≡ b
or_false true = refl
or_false false = refl

-- what is kept of an event does what it does

written_kept : (a value : ℕ) (e : Event) → written a value (kept_of e) ≡ written a value e
written_kept a value (Write p addr new) = refl
written_kept a value (Access p flags la (Page page) moments) = refl
written_kept a value (Access p flags la (Fault code) moments) = refl
written_kept a value (Assist p flags la word moments) = refl
written_kept a value (MovCr3 p operand) = refl
written_kept a value (Invlpg p la) = refl
written_kept a value (Invpcid p kind pcid la) = refl
written_kept a value (MovCr4Pge p on) = refl

controlled_kept : (m p : ℕ) (c : Control) (e : Event) → controlled m p c (kept_of e) ≡ controlled m p c e
controlled_kept m p c (Write q addr value) = refl
controlled_kept m p c (Access q flags la (Page page) moments) = refl
controlled_kept m p c (Access q flags la (Fault code) moments) = refl
controlled_kept m p c (Assist q flags la word moments) = refl
controlled_kept m p c (MovCr3 q operand) = refl
controlled_kept m p c (Invlpg q la) = refl
controlled_kept m p c (Invpcid q kind pcid la) = refl
controlled_kept m p c (MovCr4Pge q on) = refl

-- a test that tells no event from what is kept of it
abbrev IsOfChanges : (Control → Event → Bool) → Type 0
IsOfChanges test = (p : ℕ) (c : Control) (e : Event) → takes_out p test c (Some (kept_of e)) ≡ takes_out p test c (Some e)

structures_of_changes : (rules : Rules) (s : StructureKey) → IsOfChanges (λ c e. must_drop_structure rules c e s)
structures_of_changes rules s p c (Write q addr value) = refl
structures_of_changes rules s p c (Access q flags la (Page page) moments) = and_right (0 == p) false refl ∙ sym (and_right (q == p) false refl)
structures_of_changes rules s p c (Access q flags la (Fault code) moments) = refl
structures_of_changes rules s p c (Assist q flags la word moments) = refl
structures_of_changes rules s p c (MovCr3 q operand) = refl
structures_of_changes rules s p c (Invlpg q la) = refl
structures_of_changes rules s p c (Invpcid q kind pcid la) = refl
structures_of_changes rules s p c (MovCr4Pge q on) = refl

translations_of_changes : (rules : Rules) (t : TranslationKey) → IsOfChanges (λ c e. must_drop_translation rules c e t)
translations_of_changes rules t p c (Write q addr value) = refl
translations_of_changes rules t p c (Access q flags la (Page page) moments) = and_right (0 == p) false refl ∙ sym (and_right (q == p) false refl)
translations_of_changes rules t p c (Access q flags la (Fault code) moments) = refl
translations_of_changes rules t p c (Assist q flags la word moments) = refl
translations_of_changes rules t p c (MovCr3 q operand) = refl
translations_of_changes rules t p c (Invlpg q la) = refl
translations_of_changes rules t p c (Invpcid q kind pcid la) = refl
translations_of_changes rules t p c (MovCr4Pge q on) = refl

-- the first events

got : (xs : List Event) (n j : ℕ) → j < n → slice_get (take n xs) j ≡ slice_get xs j
got [] zero j lt = refl
got [] (suc n) j lt = refl
got (x ∷ xs) zero j lt = absurd (omega (arith, lt))
got (x ∷ xs) (suc n) zero lt = refl
got (x ∷ xs) (suc n) (suc j) lt = got xs n j (omega (arith, lt))

front_kept : (kept events : List Event) (w : ℕ) → AreKeptOf kept events → w ≤ length kept → take w kept ≡ map kept_of (take w events)
front_kept kept events w k low =
    ap (take w) k ∙ take-map kept_of w (take (length kept) events) ∙ ap (map kept_of) (take-take w (length kept) events low)

-- what is kept of an event is there
pub kept_there : (kept events : List Event) (j : ℕ) → AreKeptOf kept events → j < length kept → slice_get kept j ≡ option_map kept_of (slice_get events j)
kept_there kept events j k lt =
    ap (λ (es : List Event). slice_get es j) k ∙ slice_get-map kept_of (take (length kept) events) j ∙ ap (option_map kept_of) (got events (length kept) j lt)

folded : {B : Type 0} (f : B → Event → B) → ((b : B) (e : Event) → f b (kept_of e) ≡ f b e) → (b : B) (es : List Event) → fold f b (map kept_of es) ≡ fold f b es
folded f same b [] = refl
folded f same b (e ∷ es) = ap (λ c. fold f c (map kept_of es)) (same b e) ∙ folded f same (f b e) es

pub any_alike : (f g : ℕ → Bool) (from n : ℕ) → ((j : ℕ) → from ≤ j → j < from + n → f j ≡ g j) → any_from f from n ≡ any_from g from n
any_alike f g from zero same = refl
any_alike f g from (suc n) same =
    ap (λ b. b || any_from f (from + 1) n) (same from (omega arith) (omega arith))
    ∙ ap (λ b. g from || b) (any_alike f g (from + 1) n (λ j low high. same j (omega (arith, low)) (omega (arith, high))))

takes_kept : (p : ℕ) (test : Control → Event → Bool) (c : Control) (o : Option Event) → IsOfChanges test → takes_out p test c (option_map kept_of o) ≡ takes_out p test c o
takes_kept p test c None h = refl
takes_kept p test c (Some e) h = h p c e

module _ (head : Head) (kept events : List Event) (k : AreKeptOf kept events) where
  memory_kept : (w a : ℕ) → w ≤ length kept → mem_at kept w a ≡ mem_at events w a
  memory_kept w a low = ap (fold (written a) 0) (front_kept kept events w k low) ∙ folded (written a) (written_kept a) 0 (take w events)

  control_kept : (p w : ℕ) → w ≤ length kept → control_at head kept p w ≡ control_at head events p w
  control_kept p w low =
      let start : Control = started head.cfg.m (slice_get head.processors p) in
      ap (fold (controlled head.cfg.m p) start) (front_kept kept events w k low) ∙ folded (controlled head.cfg.m p) (controlled_kept head.cfg.m p) start (take w events)

  survives_kept : (p : ℕ) (test : Control → Event → Bool) (from to : ℕ) → IsOfChanges test → to ≤ length kept → survives head kept p test from to ≡ survives head events p test from to
  survives_kept p test from to h low =
      ap not (any_alike (λ j. takes_out p test (control_at head kept p j) (slice_get kept j)) (λ j. takes_out p test (control_at head events p j) (slice_get events j)) from (to - from) (λ j least lt.
      let within : j < length kept = omega (arith, least, lt, low) in
      ap (λ c. takes_out p test c (slice_get kept j)) (control_kept p j (omega (arith, within)))
      ∙ ap (takes_out p test (control_at head events p j)) (kept_there kept events j k within) ∙ takes_kept p test (control_at head events p j) (slice_get events j) h))

  pub kept_alike : (i : ℕ) → i ≤ length kept → AreAlike head kept events i
  kept_alike i low = record {
    memory = λ w a le. memory_kept w a (omega (arith, le, low));
    control = λ p w le. control_kept p w (omega (arith, le, low));
    structures = λ p s from to _ le. survives_kept p (λ c e. must_drop_structure head.cfg.rules c e s) from to (structures_of_changes head.cfg.rules s) (omega (arith, le, low));
    translations = λ p t from to _ le. survives_kept p (λ c e. must_drop_translation head.cfg.rules c e t) from to (translations_of_changes head.cfg.rules t) (omega (arith, le, low));
  }

alike_back : (head : Head) (xs ys : List Event) (i : ℕ) → AreAlike head xs ys i → AreAlike head ys xs i
alike_back head xs ys i h = record {
  memory = λ w a le. sym (h.memory w a le);
  control = λ p w le. sym (h.control p w le);
  structures = λ p s from to low high. sym (h.structures p s from to low high);
  translations = λ p t from to low high. sym (h.translations p t from to low high);
}

pub witnessed_among_kept : WitnessedAmongKept
witnessed_among_kept = record {
  kept = λ head kept events i e ws k low h. witnessed_alike head events kept i e ws (alike_back head kept events i (kept_alike head kept events k i low)) h;
  all = λ head kept events i e ws k low h. witnessed_alike head kept events i e ws (kept_alike head kept events k i low) h;
}

-- past an event that changes nothing

unwritten : (a value : ℕ) (e : Event) → changes_something e ≡ false → written a value e ≡ value
unwritten a value (Write p addr new) h = absurd (apart h)
unwritten a value (Access p flags la outcome moments) h = refl
unwritten a value (Assist p flags la word moments) h = absurd (apart h)
unwritten a value (MovCr3 p operand) h = refl
unwritten a value (Invlpg p la) h = refl
unwritten a value (Invpcid p kind pcid la) h = refl
unwritten a value (MovCr4Pge p on) h = refl

unloaded : (m p : ℕ) (c : Control) (e : Event) → changes_something e ≡ false → controlled m p c e ≡ c
unloaded m p c (Write q addr value) h = refl
unloaded m p c (Access q flags la outcome moments) h = refl
unloaded m p c (Assist q flags la word moments) h = refl
unloaded m p c (MovCr3 q operand) h = absurd (apart h)
unloaded m p c (Invlpg q la) h = refl
unloaded m p c (Invpcid q kind pcid la) h = refl
unloaded m p c (MovCr4Pge q on) h = absurd (apart h)

undropped : (test : Control → Event → Bool) (p : ℕ) (c : Control) (e : Event) → IsOfChanges test → takes_out p test c (Some idle) ≡ false → changes_something e ≡ false → takes_out p test c (Some e) ≡ false
undropped test p c e h none f = sym (h p c e) ∙ ap (λ b. takes_out p test c (Some (cond b (with_placeholder e) idle))) f ∙ none

-- moments up to event n, the last of which is put after it
abbrev past : ℕ → ℕ → ℕ
past n w = cond (w == n) (suc n) w

past_here : (n w : ℕ) → w ≡ n → past n w ≡ suc n
past_here n w is = ap (λ b. cond b (suc n) w) (eq-eqb w n is)

past_other : (n w : ℕ) → (w ≡ n → ⊥) → past n w ≡ w
past_other n w other = ap (λ b. cond b (suc n) w) (false_from_ne_true (w == n) (λ t. other (eqb-true w n t)))

past_before : (n w : ℕ) → w < n → past n w ≡ w
past_before n w lt = ap (λ b. cond b (suc n) w) (false_from_ne_true (w == n) (λ t. let is : w ≡ n = eqb-true w n t in omega (arith, lt, is)))

module _ (head : Head) (events : List Event) (n : ℕ) (e : Event) (at : slice_get events n ≡ Some e) (leaves : changes_something e ≡ false) where
  -- what is the same before and after it is the same at both moments
  moved : {B : Type 0} (g : ℕ → B) → g (suc n) ≡ g n → (w : ℕ) → w ≤ n → g w ≡ g (past n w)
  moved g same w low =
      elim (cases_eq w n) as (λ _. g w ≡ g (past n w)) [
        | inl is ↦ ap g is ∙ sym same ∙ ap g (sym (past_here n w is))
        | inr apart ↦ ap g (sym (past_before n w (omega (arith, low, apart))))
      ]

  memory_past : (a : ℕ) → mem_at events (suc n) a ≡ mem_at events n a
  memory_past a = ap (fold (written a) 0) (take_next events n e at) ∙ fold-append (written a) 0 (take n events) (e ∷ []) ∙ unwritten a (mem_at events n a) e leaves

  control_past : (p : ℕ) → control_at head events p (suc n) ≡ control_at head events p n
  control_past p =
      let start : Control = started head.cfg.m (slice_get head.processors p) in
      ap (fold (controlled head.cfg.m p) start) (take_next events n e at) ∙ fold-append (controlled head.cfg.m p) start (take n events) (e ∷ []) ∙ unloaded head.cfg.m p (control_at head events p n) e leaves

  module _ (p : ℕ) (test : Control → Event → Bool) (stays : (c : Control) → takes_out p test c (Some e) ≡ false) where
    abbrev takes : ℕ → Bool
    takes j = takes_out p test (control_at head events p j) (slice_get events j)

    none : (from to : ℕ) → to ≤ from → survives head events p test from to ≡ true
    none from to le = let count : to - from ≡ 0 = omega (arith, le) in ap (λ m. not (any_from takes from m)) count

    on_end : (from : ℕ) → from ≤ n → survives head events p test from (suc n) ≡ survives head events p test from n
    on_end from low =
        let count : suc n - from ≡ suc (n - from) = omega (arith, low) in
        let here : from + (n - from) ≡ n = omega (arith, low) in
        let last : takes (from + (n - from)) ≡ false = ap takes here ∙ ap (takes_out p test (control_at head events p n)) at ∙ stays (control_at head events p n) in
        ap (λ m. not (any_from takes from m)) count ∙ ap not (any_from-last takes from (n - from)) ∙ ap (λ b. not (any_from takes from (n - from) || b)) last ∙ ap not (or_false (any_from takes from (n - from)))

    survives_past : (from to : ℕ) → from ≤ n → to ≤ n → survives head events p test from to ≡ survives head events p test (past n from) (past n to)
    survives_past from to low high =
        elim (cases_eq from n) as (λ _. survives head events p test from to ≡ survives head events p test (past n from) (past n to)) [
          | inl is ↦
              let below : past n to ≤ suc n = elim (cases_eq to n) as (λ _. past n to ≤ suc n) [ inl end ↦ omega (arith, past_here n to end) | inr apart ↦ omega (arith, past_before n to (omega (arith, high, apart)), high) ] in
              none from to (omega (arith, is, high)) ∙ sym (none (past n from) (past n to) (omega (arith, past_here n from is, below)))
          | inr apart ↦ moved (survives head events p test from) (on_end from low) to high ∙ ap (λ w. survives head events p test w (past n to)) (sym (past_before n from (omega (arith, low, apart))))
        ]

  rises : (w x : ℕ) → w ≤ x → x ≤ n → past n w ≤ past n x
  rises w x low high =
      elim (cases_eq x n) as (λ _. past n w ≤ past n x) [
        | inl end ↦ elim (cases_eq w n) as (λ _. past n w ≤ past n x) [
          | inl is ↦ omega (arith, past_here n w is, past_here n x end)
          | inr apart ↦ omega (arith, past_before n w (omega (arith, low, end, apart)), past_here n x end, low, end)
        ]
        | inr apart ↦ omega (arith, past_before n x (omega (arith, high, apart)), past_before n w (omega (arith, low, high, apart)), low)
      ]

  carries_past : Carries head events events n (past n)
  carries_past = record {
    rises = rises;
    memory = λ w a low. moved (λ v. mem_at events v a) (memory_past a) w low;
    control = λ p w low. moved (control_at head events p) (control_past p) w low;
    structures = λ p s from to low high. survives_past p (λ c e. must_drop_structure head.cfg.rules c e s) (λ c. undropped (λ c e. must_drop_structure head.cfg.rules c e s) p c e (structures_of_changes head.cfg.rules s) (and_right (0 == p) false refl) leaves) from to low high;
    translations = λ p t from to low high. survives_past p (λ c e. must_drop_translation head.cfg.rules c e t) (λ c. undropped (λ c e. must_drop_translation head.cfg.rules c e t) p c e (translations_of_changes head.cfg.rules t) (and_right (0 == p) false refl) leaves) from to low high;
  }

  witness_past : (x : Event) (ws : List ℕ) → AreWitness head events n x ws → AreWitness head events (suc n) x (map (past n) ws)
  witness_past x ws h = subst (λ k. AreWitness head events k x (map (past n) ws)) (past_here n n refl) (carried head events events n (past n) x ws carries_past h)

  -- what was read under a PCID is read under it there

  control_moved : (p w : ℕ) → control_at head events p (past n w) ≡ control_at head events p w
  control_moved p w =
      elim (cases_eq w n) as (λ _. control_at head events p (past n w) ≡ control_at head events p w) [
        | inl is ↦ ap (control_at head events p) (past_here n w is) ∙ control_past p ∙ ap (control_at head events p) (sym is)
        | inr other ↦ ap (control_at head events p) (past_other n w other)
      ]

  own_past : (i : ℕ) (x : Event) (ws : List ℕ) → AreOwn head events i x ws → AreOwn head events i x (map (past n) ws)
  own_past i x [] h = h
  own_past i x (w ∷ ws) h = ap (λ (c : Control). c.pcid) (control_moved (processor_of x) w) ∙ h

  has_own_past : (i : ℕ) (x : Event) → HasOwn head events i x n → HasOwn head events i x (suc n)
  has_own_past i x h = (map (past n) h.0, witness_past x h.0 h.1, own_past i x h.0 h.2)

  module _ (i : ℕ) (x : Event) (last : Last) (here : last.number ≡ n) (low : n < i) (never : NoneWitness head events x i (i + 1)) where
    not_own : HasOwn head events i x n → NoneOwn head events i x (n + 1) i → ⊥
    not_own has none =
        let later : HasOwn head events i x (suc n) = has_own_past i x has in
        elim (cases_lt (suc n) i) as (λ _. ⊥) [
          | inl lt ↦ none (suc n) (omega arith) lt later
          | inr ge ↦ never (suc n) ge (omega (arith, low)) later.0 later.1
        ]

    not_any : (ws : List ℕ) → AreWitness head events n x ws → NoneWitness head events x (n + 1) i → ⊥
    not_any ws witness none =
        let later : AreWitness head events (suc n) x (map (past n) ws) = witness_past x ws witness in
        elim (cases_lt (suc n) i) as (λ _. ⊥) [
          | inl lt ↦ none (suc n) (omega arith) lt (map (past n) ws) later
          | inr ge ↦ never (suc n) ge (omega (arith, low)) (map (past n) ws) later
        ]

not_last : (head : Head) (events : List Event) (i : ℕ) (e : Event) (last : Last) (taker : Event) → slice_get events last.number ≡ Some taker → changes_something taker ≡ false → last.number < i → NoneWitness head events e i (i + 1) → AreWitness head events last.number e last.moments → (other : Option ℕ) → IsLastUnder head events i e last other → ⊥
not_last head events i e last taker at leaves low never witness None under = not_own head events last.number taker at leaves i e last refl low never under.0 under.1
not_last head events i e last taker at leaves low never witness (Some pcid) under = not_any head events last.number taker at leaves i e last refl low never last.moments witness under.2

pub taken_by_a_change : TakenByAChange
taken_by_a_change head events i e last taker h none at =
    elim (cases_Bool (changes_something taker)) as (λ _. changes_something taker ≡ true) [
      | inl t ↦ t
      | inr f ↦ absurd (not_last head events i e last taker at f h.before none h.witness last.other h.under)
    ]

pub dropped_by_a_change : DroppedByAChange
dropped_by_a_change head events p from to event key taker gone at =
    elim (cases_Bool (changes_something taker)) as (λ _. changes_something taker ≡ true) [
      | inl t ↦ t
      | inr f ↦
          let test : Control → Event → Bool = λ c e. must_drop_translation head.cfg.rules c e key in
          let same : survives head events p test from (suc event) ≡ survives head events p test from event =
          on_end head events event taker at f p test (λ c. undropped test p c taker (translations_of_changes head.cfg.rules key) (and_right (0 == p) false refl) f) from gone.0 in
          let low : suc event ≤ event = gone.3 (suc event) (omega (arith, gone.1)) (same ∙ gone.2) in
          absurd (omega (arith, low))
    ]
