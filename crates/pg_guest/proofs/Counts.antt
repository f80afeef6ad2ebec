-- How many turns leave an instruction where it is.
use Rattle.std.proofs.Common.{◌≡◌, ◌≢◌, ℕ, zero, suc, ◌+◌, ◌*◌, ◌≤◌, ◌<◌, ◌==◌, Bool, true, false, cond, ◌⊎◌, inl, inr, List, [], ◌∷◌, length, refl, ap, sym, ◌∙◌, subst, arith, eq-eqb, Option, Some, None}
use Rattle.std.specs.Prelude.{filter, replicate, slice_get, slice_set}
use Rattle.std.specs.List.{AllByRecursion}
use Rattle.std.proofs.lemmas.Bool.{cases_eq, ne_eqb}
use Rattle.std.proofs.lemmas.Option.{same_Some}
use Rattle.pg_entry.specs.declared.AccessKind.{AccessKind}
use Rattle.pg_entry.specs.declared.Level.TheVariants.{Four}
use Rattle.pg_event.specs.declared.version.Version.TheVariants as versions
use Rattle.pg_event.specs.declared.walk.Parent.{Parent}
use Rattle.pg_event.specs.Form.{access_kind}
use Rattle.pg_event.specs.Heads.{Head}
use Rattle.pg_event.specs.Invalidation.{structure_key}
use Rattle.pg_event.specs.Spelling.{IsHead}
use Rattle.pg_event.specs.Walk.{below, root_of}
use Rattle.pg_guest.specs.declared.instruction.Instruction.{Instruction}
use Rattle.pg_guest.specs.declared.instruction.Instruction.TheVariants.{Write, Access, MovCr3, Invlpg, Invpcid, MovCr4Pge}
use Rattle.pg_shadow.specs.declared.entries.Found.{Found}
use Rattle.pg_shadow.specs.declared.entries.Found.TheVariants.{Hit, Partial, Miss}
use Rattle.pg_shadow.specs.declared.entries.KeptTable.{KeptTable}
use Rattle.pg_shadow.specs.Caches.{Caches}
use Rattle.pg_shadow.specs.Find.{found}
use Rattle.pg_world.specs.declared.receipt.Receipt.{Receipt}
use Rattle.pg_world.specs.declared.walk.LevelRead.{LevelRead}
use Rattle.pg_world.specs.declared.walk.LevelRead.TheVariants.{Entry, Fault, Assisted}
use Rattle.pg_world.specs.declared.walk.Walk.{Walk}
use Rattle.pg_world.specs.Recording.{Recording, receipt_of, with_event}
use Rattle.pg_world.specs.Walks.{assist_of, found_in}
use Rattle.pg_world.proofs.Assisted.{an_assist_is_enough}
use Rattle.pg_guest.specs.declared.advance.Advance.{Advance}
use Rattle.pg_guest.specs.Turn.{Processor, Turned, goes_on, begun, turned_by, turned, from_root, from_table, IsTurn}
use Rattle.pg_guest.specs.CoreRun.{IsCoreRun}
use Rattle.pg_guest.specs.Home.{IsUnderWay, HasSoundCaches}
use Rattle.pg_guest.specs.Laws.{IsQuiet}
use Rattle.pg_guest.specs.Progress.{depth, progress, ready, measure_from, measure_by, measure, is_stopped, turns_of, answers_of, NoneIsStopped, TurnsComeNearer, FiveTurnsCarryOut, NineTurnsCarryOut}
use Rattle.pg_guest.proofs.Cases.{goes_on_any}
use Rattle.pg_guest.proofs.Further.{CarriesOr, read_comes, turned_comes, under_of, not_one, deeper, depth_most, progress_most, one_goes_further}
use Rattle.pg_guest.proofs.CoreRuns.{set_here, set_other, turns_keep_quiet}
use Rattle.pg_guest.proofs.Turns.{turns_keep_home, stays_at_home}

-- ---- a measure of a walk, where no other processor comes between

ready_most : (read : LevelRead) → ready read ≤ 1
ready_most (Entry value moment) = omega arith
ready_most (Fault receipt) = omega arith
ready_most (Assisted receipt) = omega arith

-- no table is read at level 1
measure_from_most : (p : ℕ) (r : Recording) (x : Processor) (flags la : ℕ) → HasSoundCaches r.head r.events p x → (way : Found) → IsUnderWay r.head x.caches la (access_kind flags) way →
    measure_from p r x.caches flags la way ≤ 8
measure_from_most p r x flags la home (Hit frame shift rights global moments) under = omega arith
measure_from_most p r x flags la home (Partial level table rights moments) under =
    let kept : KeptTable = record { table = table; rights = rights; moments = moments } in
    let c : ℕ = x.caches.control.pcid in
    let next : depth level + 1 ≡ depth (below level) = deeper level (not_one r.head r.events p c la level kept (home.sound.tables (structure_key c level la) kept under)) in
    let most : depth (below level) ≤ 4 = depth_most (below level) in
    let few : ready (found_in r p (from_table (access_kind flags) la level table rights moments)) ≤ 1 = ready_most _ in
    eight (depth level) _ (omega (arith, next, most)) few
  where
    eight : (d a : ℕ) → d ≤ 3 → a ≤ 1 → 2 * d + a ≤ 8
    eight d a h k = omega arith
measure_from_most p r x flags la home Miss under =
    let few : ready (found_in r p (from_root x.caches.control (access_kind flags) la)) ≤ 1 = ready_most _ in one_of_eight _ few
  where
    one_of_eight : (a : ℕ) → a ≤ 1 → a ≤ 8
    one_of_eight a h = omega arith

measure_most : (p : ℕ) (r : Recording) (x : Processor) → HasSoundCaches r.head r.events p x → (o : Option Instruction) → slice_get x.instructions x.place ≡ o → measure_by p r x o ≤ 8
measure_most p r x home None at = omega arith
measure_most p r x home (Some (Write addr value)) at = omega arith
measure_most p r x home (Some (Access flags la)) at =
    measure_from_most p r x flags la home (begun r.head x.caches la (access_kind flags) x.way) (under_of p r x flags la home at)
measure_most p r x home (Some (MovCr3 operand)) at = omega arith
measure_most p r x home (Some (Invlpg la)) at = omega arith
measure_most p r x home (Some (Invpcid kind pcid la)) at = omega arith
measure_most p r x home (Some (MovCr4Pge on)) at = omega arith

-- a read more, a page, and an assist count more
table_counts : (d n a b : ℕ) → d + 1 ≡ n → a ≤ 1 → 2 * d + a < 2 * n + b
table_counts d n a b next few = omega arith

page_counts : (d n a : ℕ) → d + 1 ≡ n → n ≤ 4 → a ≤ 1 → 2 * d + a < 8
page_counts d n a next most few = omega arith

assist_counts : (d a b : ℕ) → a ≡ 0 → b ≡ 1 → d + a < d + b
assist_counts d a b none one = omega arith

found_missed : (head : Head) (s : Caches) (la : ℕ) (kind : AccessKind) (way : Found) → begun head s la kind way ≡ Miss → found s la head kind ≡ Miss
found_missed head s la kind (Hit frame shift rights global moments) h = absurd (cc)
found_missed head s la kind (Partial level table rights moments) h = absurd (cc)
found_missed head s la kind Miss h = h

abbrev Counts : ℕ → ℕ → ℕ → ℕ → Turned → Type 0
Counts p flags la m t = m < measure_by p t.world t.processor (Some (Access flags la))

access_counts : (p : ℕ) (r : Recording) (x : Processor) (flags la : ℕ) → IsHead r.head → HasSoundCaches r.head r.events p x → (way : Found) → begun r.head x.caches la (access_kind flags) x.way ≡ way →
    IsUnderWay r.head x.caches la (access_kind flags) way → CarriesOr (Counts p flags la (measure_from p r x.caches flags la way)) x (goes_on p r x flags la way)
access_counts p r x flags la head home (Hit frame shift rights global moments) is under = (refl, inl (refl, (_, refl)))
access_counts p r x flags la head home (Partial level table rights moments) is under =
    let kind : AccessKind = access_kind flags in
    let kept : KeptTable = record { table = table; rights = rights; moments = moments } in
    let c : ℕ = x.caches.control.pcid in
    let walk : Walk = from_table kind la level table rights moments in
    let next : depth level + 1 ≡ depth (below level) = deeper level (not_one r.head r.events p c la level kept (home.sound.tables (structure_key c level la) kept under)) in
    let few : ready (found_in r p walk) ≤ 1 = ready_most (found_in r p walk) in
    read_comes (Counts p flags la (2 * depth level + ready (found_in r p walk))) p r x (Partial level table rights moments) kind la (below level) table rights (Some moments) (record {
      table = λ value addr ms. table_counts (depth level) (depth (below level)) (ready (found_in r p walk)) _ next few;
      leaf = λ value frame shift g ms. page_counts (depth level) (depth (below level)) (ready (found_in r p walk)) next (depth_most (below level)) few;
      assist = λ d found judged.
          let receipt : Receipt = receipt_of r.events (assist_of r.events p walk d) in
          assist_counts (2 * depth level) (ready (found_in r p walk)) (ready (found_in (with_event r receipt.event) p walk)) (ap ready found) (ap ready (an_assist_is_enough r p walk receipt head found));
    }) _ refl
access_counts p r x flags la head home Miss is under =
    let kind : AccessKind = access_kind flags in
    let root : Parent = root_of x.caches.control in
    let walk : Walk = from_root x.caches.control kind la in
    let few : ready (found_in r p walk) ≤ 1 = ready_most (found_in r p walk) in
    let missed : found x.caches la r.head kind ≡ Miss = found_missed r.head x.caches la kind x.way is in
    read_comes (Counts p flags la (ready (found_in r p walk))) p r x Miss kind la Four root.table root.rights None (record {
      table = λ value addr ms. first_table (ready (found_in r p walk)) _ few;
      leaf = λ value frame shift g ms. first_page (ready (found_in r p walk)) few;
      assist = λ d found judged.
          let receipt : Receipt = receipt_of r.events (assist_of r.events p walk d) in
          let new : Recording = with_event r receipt.event in
          let again : measure_from p new x.caches flags la Miss ≡ 1 = ap ready (an_assist_is_enough r p walk receipt head found) in
          first_assist (ready (found_in r p walk)) _ (ap ready found) (ap (measure_from p new x.caches flags la) missed ∙ again);
    }) _ refl
  where
    first_table : (a b : ℕ) → a ≤ 1 → a < 2 * depth Four + b
    first_table a b few = omega arith

    first_page : (a : ℕ) → a ≤ 1 → a < 8
    first_page a few = omega arith

    first_assist : (a b : ℕ) → a ≡ 0 → b ≡ 1 → a < b
    first_assist a b none one = omega arith

measure_grows : (p : ℕ) (r : Recording) (x : Processor) → IsHead r.head → HasSoundCaches r.head r.events p x → (slice_get x.instructions x.place ≡ None → ⊥) →
    let o = slice_get x.instructions x.place in CarriesOr (λ t. measure_by p r x o < measure_by p t.world t.processor o) x (turned p r x)
measure_grows p r x head home due =
    let o : Option Instruction = slice_get x.instructions x.place in
    turned_comes (λ t. measure_by p r x o < measure_by p t.world t.processor o) p r x o refl due (λ flags la at.
    let way : Found = begun r.head x.caches la (access_kind flags) x.way in
    subst (λ o. CarriesOr (λ t. measure_by p r x o < measure_by p t.world t.processor o) x (goes_on p r x flags la way)) (sym at)
    (access_counts p r x flags la head home way refl (under_of p r x flags la home at)))

-- ---- places never go back

place_grows_by : (p : ℕ) (r : Recording) (x : Processor) (o : Option Instruction) → x.place ≤ (turned_by p r x o).processor.place
place_grows_by p r x None = omega arith
place_grows_by p r x (Some (Write addr value)) = omega arith
place_grows_by p r x (Some (Access flags la)) =
    goes_on_any (λ t. x.place ≤ t.processor.place) p r x flags la (record {
      hit = λ outcome moments. omega arith;
      fault = λ code moments. omega arith;
      assist = λ way bits word moments. omega arith;
      read = λ level way caches. omega arith;
    }) (begun r.head x.caches la (access_kind flags) x.way)
place_grows_by p r x (Some (MovCr3 operand)) = omega arith
place_grows_by p r x (Some (Invlpg la)) = omega arith
place_grows_by p r x (Some (Invpcid kind pcid la)) = omega arith
place_grows_by p r x (Some (MovCr4Pge on)) = omega arith

place_grows : (p : ℕ) (r : Recording) (x : Processor) (t : Turned) → IsTurn p r x t → x.place ≤ t.processor.place
place_grows p r x t (inl halt) = subst (λ (t : Turned). x.place ≤ t.processor.place) (sym halt.is) (omega arith)
place_grows p r x t (inr went) = subst (λ (t : Turned). x.place ≤ t.processor.place) (sym went.is) (place_grows_by p r x (slice_get x.instructions x.place))

places_grow : (r : Recording) (xs : List Processor) (ps : List ℕ) (answers : List Advance) (end : Recording) (ys : List Processor) → IsCoreRun r xs ps answers end ys →
    (p : ℕ) (x y : Processor) → slice_get xs p ≡ Some x → slice_get ys p ≡ Some y → x.place ≤ y.place
places_grow r xs [] answers end ys run p x y here there =
    let same : x ≡ y = same_Some x y (sym here ∙ ap (λ (zs : List Processor). slice_get zs p) (sym run.2) ∙ there) in
    subst (λ (z : Processor). x.place ≤ z.place) same (omega arith)
places_grow r xs (q ∷ ps) answers end ys run p x y here there =
    let t : Turned = run.1 in
    elim (cases_eq q p) [
      | inl same ↦
          let at : slice_get xs p ≡ Some run.0 = ap (slice_get xs) (sym same) ∙ run.3 in
          let is : run.0 ≡ x = same_Some run.0 x (sym at ∙ here) in
          let grows : x.place ≤ t.processor.place = subst (λ (z : Processor). z.place ≤ t.processor.place) is (place_grows q r run.0 t run.4) in
          let now : slice_get (slice_set xs q t.processor) p ≡ Some t.processor = ap (slice_get (slice_set xs q t.processor)) (sym same) ∙ set_here xs q run.0 t.processor run.3 in
          let rest : t.processor.place ≤ y.place = places_grow t.world (slice_set xs q t.processor) ps run.2 end ys run.6 p t.processor y now there in
          omega arith
      | inr away ↦
          let now : slice_get (slice_set xs q t.processor) p ≡ Some x = set_other xs q p t.processor (λ e. away (sym e)) ∙ here in
          places_grow t.world (slice_set xs q t.processor) ps run.2 end ys run.6 p x y now there
    ]

-- ---- runs

-- a measure that each turn of p raises as long as it carries nothing out, up to a bound, and that
-- turns of others leave as it is, where there are any
record IsMeasure (p bound : ℕ) (C : Head → Type 0) (Others : Type 0) (M : Recording → Processor → ℕ) : Type 0 where
  own : (r : Recording) (x : Processor) → C r.head → HasSoundCaches r.head r.events p x → (slice_get x.instructions x.place ≡ None → ⊥) → CarriesOr (λ t. M r x < M t.world t.processor) x (turned p r x)
  other : Others → (r s : Recording) (x : Processor) → M r x ≡ M s x
  most : (r : Recording) (x : Processor) → HasSoundCaches r.head r.events p x → M r x ≤ bound

not_stopped : (p : ℕ) (r : Recording) (x : Processor) (t : Turned) → IsTurn p r x t → is_stopped t.answer ≡ false → t ≡ turned p r x
not_stopped p r x t (inl halt) h = let contrary : true ≡ false = sym (ap (λ (t : Turned). is_stopped t.answer) halt.is) ∙ h in absurd (cc)
not_stopped p r x t (inr went) h = went.is

has_one : (xs : List Instruction) (n : ℕ) → n < length xs → slice_get xs n ≡ None → ⊥
has_one [] n lt h = absurd (omega arith)
has_one (x ∷ xs) zero lt h = cc
has_one (x ∷ xs) (suc n) lt h = has_one xs n (omega arith) h

abbrev OneOf : ℕ → Type 0 → List ℕ → Type 0
OneOf p Others ps = AllByRecursion (λ q. (q ≡ p) ⊎ Others) ps

abbrev counted : Bool → ℕ → List ℕ → ℕ
counted b q rest = length (cond b (q ∷ rest) rest)

abbrev own_answers : Bool → Advance → List Advance → List Advance
own_answers b answer rest = cond b (answer ∷ rest) rest

abbrev GoesOn : List Advance → Type 0
GoesOn answers = AllByRecursion (λ answer. is_stopped answer ≡ false) answers

carries : (p bound : ℕ) (C : Head → Type 0) (Others : Type 0) (M : Recording → Processor → ℕ) → IsMeasure p bound C Others M →
    (r : Recording) (xs : List Processor) (ps : List ℕ) (answers : List Advance) (end : Recording) (ys : List Processor) → C r.head → IsQuiet r xs → IsCoreRun r xs ps answers end ys →
    NoneIsStopped p ps answers → OneOf p Others ps → (x y : Processor) → slice_get xs p ≡ Some x → slice_get ys p ≡ Some y → x.place < length x.instructions →
    (x.place < y.place) ⊎ (turns_of p ps + M r x ≤ bound)
carries p bound C Others M m r xs [] answers end ys c quiet run none few x y here there due =
    let most : M r x ≤ bound = m.most r x (quiet.at_home p x here) in inr (omega arith)
carries p bound C Others M m r xs (q ∷ ps) answers end ys c quiet run none few x y here there due =
    let t : Turned = run.1 in
    let going : GoesOn (own_answers (q == p) t.answer (answers_of p ps run.2)) = subst (NoneIsStopped p (q ∷ ps)) run.5 none in
    let quiet2 : IsQuiet t.world (slice_set xs q t.processor) = turns_keep_quiet r xs q run.0 t quiet run.3 run.4 in
    let c2 : C t.world.head = subst C (sym (turns_keep_home q r run.0 t quiet.accepted (quiet.at_home q run.0 run.3) run.4).head) c in
    let rest = λ (none : NoneIsStopped p ps run.2). carries p bound C Others M m t.world (slice_set xs q t.processor) ps run.2 end ys c2 quiet2 run.6 none few.1 in
    elim (cases_eq q p) [
      | inl same ↦
          let own : GoesOn (t.answer ∷ answers_of p ps run.2) = subst (λ b. GoesOn (own_answers b t.answer (answers_of p ps run.2))) (eq-eqb q p same) going in
          let at : slice_get xs p ≡ Some run.0 = ap (slice_get xs) (sym same) ∙ run.3 in
          let is : run.0 ≡ x = same_Some run.0 x (sym at ∙ here) in
          let turn : IsTurn p r x t = subst (λ z. IsTurn p r z t) is (subst (λ q. IsTurn q r run.0 t) same run.4) in
          let now : slice_get (slice_set xs q t.processor) p ≡ Some t.processor = ap (slice_get (slice_set xs q t.processor)) (sym same) ∙ set_here xs q run.0 t.processor run.3 in
          let grown : t.processor.place ≤ y.place = places_grow t.world (slice_set xs q t.processor) ps run.2 end ys run.6 p t.processor y now there in
          let one : turns_of p (q ∷ ps) ≡ turns_of p ps + 1 = ap (λ b. counted b q (filter (λ q. q == p) ps)) (eq-eqb q p same) ∙ one_more (filter (λ q. q == p) ps) in
          let came : CarriesOr (λ t. M r x < M t.world t.processor) x t =
          subst (CarriesOr (λ t. M r x < M t.world t.processor) x) (sym (not_stopped p r x t turn own.0)) (m.own r x c (quiet.at_home p x here) (has_one x.instructions x.place due)) in
          elim came.1 [
            | inl carried ↦ let further : t.processor.place ≡ x.place + 1 = carried.0 in inl (omega arith)
            | inr went ↦
                let stays : t.processor.place ≡ x.place = went.0 in
                let more : M r x < M t.world t.processor = went.1 in
                let due2 : t.processor.place < length t.processor.instructions = subst (λ is. t.processor.place < length is) (sym came.0) (omega arith) in
                elim (rest own.1 t.processor y now there due2) [
                  | inl done ↦ let before : t.processor.place < y.place = done in inl (omega arith)
                  | inr left ↦ inr (total (turns_of p (q ∷ ps)) (turns_of p ps) (M r x) (M t.world t.processor) one more left)
                ]
          ]
      | inr away ↦
          let now : slice_get (slice_set xs q t.processor) p ≡ Some x = set_other xs q p t.processor (λ e. away (sym e)) ∙ here in
          let as_before : turns_of p (q ∷ ps) ≡ turns_of p ps = ap (λ b. counted b q (filter (λ q. q == p) ps)) (ne_eqb q p away) in
          let others : NoneIsStopped p ps run.2 = subst (λ b. GoesOn (own_answers b t.answer (answers_of p ps run.2))) (ne_eqb q p away) going in
          elim (rest others x y now there due) [
            | inl done ↦ inl done
            | inr left ↦ inr (alike (turns_of p (q ∷ ps)) (turns_of p ps) (M r x) (M t.world x) as_before (m.other (others_of q away few.0) r t.world x) left)
          ]
    ]
  where
    one_more : (rest : List ℕ) → suc (length rest) ≡ length rest + 1
    one_more rest = omega arith

    total : (a b m n : ℕ) → a ≡ b + 1 → m < n → b + n ≤ bound → a + m ≤ bound
    total a b m n one more left = omega arith

    alike : (a b m n : ℕ) → a ≡ b → m ≡ n → b + n ≤ bound → a + m ≤ bound
    alike a b m n same other left = omega arith

    others_of : (q : ℕ) → q ≢ p → ((q ≡ p) ⊎ Others) → Others
    others_of q away (inl same) = absurd (away same)
    others_of q away (inr others) = others

-- ---- version 1

any_others : (p : ℕ) (ps : List ℕ) → OneOf p (Unit {0}) ps
any_others p [] = tt
any_others p (q ∷ ps) = (inr tt, any_others p ps)

enough : (a b n bound : ℕ) → (a < b) ⊎ (n ≤ bound) → bound < n → a < b
enough a b n bound (inl h) lt = h
enough a b n bound (inr h) lt = absurd (omega arith)

first_part : (a b m bound : ℕ) → (a < b) ⊎ (m ≤ bound) → (n k : ℕ) → n + k ≡ m → (a < b) ⊎ (n ≤ bound)
first_part a b m bound (inl h) n k same = inl h
first_part a b m bound (inr h) n k same = inr (omega arith)

pub five_turns_carry_out : FiveTurnsCarryOut
five_turns_carry_out r xs ps answers end ys p one quiet run none five x y here there due =
    let M : Recording → Processor → ℕ = λ r x. progress x.way in
    let is : IsMeasure p 4 (λ head. head.version ≡ versions.One) (Unit {0}) M = record {
      own = λ r x one home due. one_goes_further p r x one home due;
      other = λ others r s x. refl;
      most = λ r x home. progress_most x.way;
    } in
    let few = carries p 4 (λ head. head.version ≡ versions.One) (Unit {0}) M is r xs ps answers end ys one quiet run none (any_others p ps) x y here there due in
    enough x.place y.place (turns_of p ps) 4 (first_part x.place y.place _ 4 few (turns_of p ps) (progress x.way) refl) (omega arith)

-- ---- both versions

no_others : (p n : ℕ) → OneOf p ⊥ (replicate n p)
no_others p zero = tt
no_others p (suc n) = (inl refl, no_others p n)

all_turns : (p n : ℕ) → turns_of p (replicate n p) ≡ n
all_turns p zero = refl
all_turns p (suc n) = ap (λ b. counted b p (filter (λ q. q == p) (replicate n p))) (eq-eqb p p refl) ∙ ap suc (all_turns p n)

own_measure : (p : ℕ) (r : Recording) (x : Processor) → IsHead r.head → HasSoundCaches r.head r.events p x → (slice_get x.instructions x.place ≡ None → ⊥) →
    CarriesOr (λ t. measure p r x < measure p t.world t.processor) x (turned p r x)
own_measure p r x head home due = moved (measure_grows p r x head home due)
  where
    moved : CarriesOr (λ t. measure p r x < measure_by p t.world t.processor (slice_get x.instructions x.place)) x (turned p r x) →
        CarriesOr (λ t. measure p r x < measure p t.world t.processor) x (turned p r x)
    moved (same, inl carried) = (same, inl carried)
    moved (same, inr went) =
        let t : Turned = turned p r x in
        let next : slice_get t.processor.instructions t.processor.place ≡ slice_get x.instructions x.place = λ i. slice_get (same i) (went.0 i) in
        (same, inr (went.0, subst (λ o. measure p r x < measure_by p t.world t.processor o) (sym next) went.1))

pub nine_turns_carry_out : NineTurnsCarryOut
nine_turns_carry_out r xs answers end ys p head quiet run none x y here there due =
    let M : Recording → Processor → ℕ = measure p in
    let is : IsMeasure p 8 IsHead ⊥ M = record {
      own = λ r x head home due. own_measure p r x head home due;
      other = λ others r s x. absurd others;
      most = λ r x home. measure_most p r x home (slice_get x.instructions x.place) refl;
    } in
    let few = carries p 8 IsHead ⊥ M is r xs (replicate 9 p) answers end ys head quiet run none (no_others p 9) x y here there due in
    let nine : turns_of p (replicate 9 p) ≡ 9 = all_turns p 9 in
    enough x.place y.place (turns_of p (replicate 9 p)) 8 (first_part x.place y.place _ 8 few (turns_of p (replicate 9 p)) (M r x) refl) (omega arith)

pub turns_come_nearer : TurnsComeNearer
turns_come_nearer p r x t head home turn due going =
    let came : CarriesOr (λ t. measure p r x < measure p t.world t.processor) x t =
    subst (CarriesOr (λ t. measure p r x < measure p t.world t.processor) x) (sym (not_stopped p r x t turn going)) (own_measure p r x head home (has_one x.instructions x.place due)) in
    elim came.1 [
      | inl carried ↦ inl (record { receipt = carried.1.0; answer = carried.1.1; place = carried.0 })
      | inr went ↦
          inr (record {
            place = went.0;
            nearer = went.1;
            most = measure_most p t.world t.processor (stays_at_home p r x t home turn) (slice_get t.processor.instructions t.processor.place) refl;
          })
    ]
