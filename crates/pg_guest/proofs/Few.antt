-- There are three events at most for each instruction.
use Rattle.std.proofs.Common.{◌≡◌, ℕ, zero, suc, ◌+◌, ◌*◌, ◌-◌, ◌≤◌, ◌<◌, Bool, true, false, cond, not, List, [], ◌∷◌, ◌++◌, length, sum_by, count_by, refl, sym, ap, subst, arith, inl, inr, Option, Some, None}
use Rattle.std.specs.Prelude.{slice_get, slice_set}
use Rattle.std.proofs.lemmas.List.Sums.{sum_by-cons, sum_by_push}
use Rattle.std.proofs.lemmas.Option.{same_Some, slice_get_within}
use Rattle.pg_event.specs.declared.event.Event.{Event}
use Rattle.pg_event.specs.declared.event.Event.TheVariants as events
use Rattle.pg_event.specs.declared.event.Outcome.TheVariants as outcomes
use Rattle.pg_event.specs.Form.{access_kind, flags_of}
use Rattle.pg_guest.specs.declared.instruction.Instruction.{Instruction}
use Rattle.pg_guest.specs.declared.instruction.Instruction.TheVariants.{Write, Access, MovCr3, Invlpg, Invpcid, MovCr4Pge}
use Rattle.pg_shadow.specs.declared.entries.Found.{Found}
use Rattle.pg_world.specs.Recording.{Recording, receipt_of}
use Rattle.pg_guest.specs.declared.advance.Advance.{Advance}
use Rattle.pg_guest.specs.Assists.{is_assist, is_table_write, EventsAreFew}
use Rattle.pg_guest.specs.CoreRun.{IsCoreRun, unwritten}
use Rattle.pg_guest.specs.Turn.{Processor, Turned, done, assisted, begun, turned_by, IsTurn}
use Rattle.pg_guest.proofs.Assists.{assists_are_few}
use Rattle.pg_guest.proofs.Cases.{goes_on_any}

-- ---- events that carry an instruction out

abbrev carries : Event → Bool
carries e = not (is_assist e)

one_at_most : (b : Bool) → cond b 1 0 ≤ 1
one_at_most true = omega arith
one_at_most false = omega arith

one_of_both : (b : Bool) → cond (not b) 1 0 + cond b 1 0 ≡ 1
one_of_both true = omega arith
one_of_both false = omega arith

-- each event does, or is an assist
all_counted : (es : List Event) → length es ≡ count_by carries es + count_by is_assist es
all_counted [] = omega arith
all_counted (e ∷ es) =
    more (length es) (count_by carries es) (count_by is_assist es) (count_by carries (e ∷ es)) (count_by is_assist (e ∷ es)) (cond (carries e) 1 0) (cond (is_assist e) 1 0)
    (all_counted es) (sum_by-cons (λ d. cond (carries d) 1 0) e es) (sum_by-cons (λ d. cond (is_assist d) 1 0) e es) (one_of_both (is_assist e))
  where
    more : (n c a c' a' x y : ℕ) → n ≡ c + a → c' ≡ x + c → a' ≡ y + a → x + y ≡ 1 → suc n ≡ c' + a'
    more n c a c' a' x y before first second one = omega (arith, before, first, second, one)

a_write_carries : (e : Event) → cond (is_table_write e) 1 0 ≤ cond (carries e) 1 0
a_write_carries (events.Write p addr value) = omega arith
a_write_carries (events.Access p flags la outcome moments) = omega arith
a_write_carries (events.Assist p flags la word moments) = omega arith
a_write_carries (events.MovCr3 p operand) = omega arith
a_write_carries (events.Invlpg p la) = omega arith
a_write_carries (events.Invpcid p kind pcid la) = omega arith
a_write_carries (events.MovCr4Pge p on) = omega arith

writes_carry : (es : List Event) → count_by is_table_write es ≤ count_by carries es
writes_carry [] = omega arith
writes_carry (e ∷ es) =
    more (count_by is_table_write es) (count_by carries es) (count_by is_table_write (e ∷ es)) (count_by carries (e ∷ es)) (cond (is_table_write e) 1 0) (cond (carries e) 1 0)
    (writes_carry es) (sum_by-cons (λ d. cond (is_table_write d) 1 0) e es) (sum_by-cons (λ d. cond (carries d) 1 0) e es) (a_write_carries e)
  where
    more : (w c w' c' x y : ℕ) → w ≤ c → w' ≡ x + w → c' ≡ y + c → x ≤ y → w' ≤ c'
    more w c w' c' x y before first second one = omega (arith, before, first, second, one)

-- ---- a turn

-- the instructions that a processor has before it
abbrev left : Processor → ℕ
left x = length x.instructions - x.place

-- events that carry instructions out, and instructions that are left, are no more than before
abbrev KeepsCount : Recording → Processor → Turned → Type 0
KeepsCount r x t = count_by carries t.world.events + left t.processor ≤ count_by carries r.events + left x

done_keeps : (r : Recording) (x : Processor) (e : Event) → x.place < length x.instructions → KeepsCount r x (done r x (receipt_of r.events e))
done_keeps r x e due =
    more (count_by carries r.events) (count_by carries (r.events ++ e ∷ [])) (cond (carries e) 1 0) (length x.instructions) x.place
    (sum_by_push (λ d. cond (carries d) 1 0) r.events e) (one_at_most (carries e)) due
  where
    more : (c c' x n k : ℕ) → c' ≡ c + x → x ≤ 1 → k < n → c' + (n - (k + 1)) ≤ c + (n - k)
    more c c' x n k pushed one due = omega (arith, pushed, one, due)

assist_keeps : (r : Recording) (x : Processor) (way : Found) (p bits la word : ℕ) (moments : List ℕ) → KeepsCount r x (assisted r x way (receipt_of r.events (events.Assist p bits la word moments)))
assist_keeps r x way p bits la word moments =
    more (count_by carries r.events) (count_by carries (r.events ++ events.Assist p bits la word moments ∷ [])) (left x) (sum_by_push (λ d. cond (carries d) 1 0) r.events (events.Assist p bits la word moments))
  where
    more : (c c' n : ℕ) → c' ≡ c + 0 → c' + n ≤ c + n
    more c c' n pushed = omega (arith, pushed)

same_count : (c n : ℕ) → c + n ≤ c + n
same_count c n = omega arith

step_keeps : (p : ℕ) (r : Recording) (x : Processor) (o : Option Instruction) → slice_get x.instructions x.place ≡ o → KeepsCount r x (turned_by p r x o)
step_keeps p r x None at = same_count (count_by carries r.events) (left x)
step_keeps p r x (Some (Write addr value)) at = done_keeps r x (events.Write p addr value) (slice_get_within x.instructions x.place (Write addr value) at)
step_keeps p r x (Some (Access flags la)) at =
    let due : x.place < length x.instructions = slice_get_within x.instructions x.place (Access flags la) at in
    goes_on_any (KeepsCount r x) p r x flags la (record {
      hit = λ outcome moments. done_keeps r x (events.Access p flags la outcome moments) due;
      fault = λ code moments. done_keeps r x (events.Access p (flags_of (access_kind flags)) la (outcomes.Fault code) moments) due;
      assist = λ way bits word moments. assist_keeps r x way p bits la word moments;
      read = λ level way caches. same_count (count_by carries r.events) (left x);
    }) (begun r.head x.caches la (access_kind flags) x.way)
step_keeps p r x (Some (MovCr3 operand)) at = done_keeps r x (events.MovCr3 p operand) (slice_get_within x.instructions x.place (MovCr3 operand) at)
step_keeps p r x (Some (Invlpg la)) at = done_keeps r x (events.Invlpg p la) (slice_get_within x.instructions x.place (Invlpg la) at)
step_keeps p r x (Some (Invpcid kind pcid la)) at = done_keeps r x (events.Invpcid p kind pcid la) (slice_get_within x.instructions x.place (Invpcid kind pcid la) at)
step_keeps p r x (Some (MovCr4Pge on)) at = done_keeps r x (events.MovCr4Pge p on) (slice_get_within x.instructions x.place (MovCr4Pge on) at)

turn_keeps : (p : ℕ) (r : Recording) (x : Processor) (t : Turned) → IsTurn p r x t → KeepsCount r x t
turn_keeps p r x t (inl halt) = subst (KeepsCount r x) (sym halt.is) (same_count (count_by carries r.events) (left x))
turn_keeps p r x t (inr went) = subst (KeepsCount r x) (sym went.is) (step_keeps p r x (slice_get x.instructions x.place) refl)

-- ---- a run

-- the processor that had its turn counts anew
set_counts : (xs : List Processor) (p : ℕ) (x y : Processor) → slice_get xs p ≡ Some x → sum_by left (slice_set xs p y) + left x ≡ sum_by left xs + left y
set_counts [] p x y at = absurd (cc)
set_counts (a ∷ xs) zero x y at =
    first (sum_by left xs) (sum_by left (a ∷ xs)) (sum_by left (y ∷ xs)) (left a) (left x) (left y) (sum_by-cons left a xs) (sum_by-cons left y xs) (ap left (same_Some a x at))
  where
    first : (s sa sy a x y : ℕ) → sa ≡ a + s → sy ≡ y + s → a ≡ x → sy + x ≡ sa + y
    first s sa sy a x y one other same = omega (arith, one, other, same)
set_counts (a ∷ xs) (suc p) x y at =
    later (sum_by left xs) (sum_by left (slice_set xs p y)) (sum_by left (a ∷ xs)) (sum_by left (a ∷ slice_set xs p y)) (left a) (left x) (left y)
    (sum_by-cons left a xs) (sum_by-cons left a (slice_set xs p y)) (set_counts xs p x y at)
  where
    later : (s t sa ta a x y : ℕ) → sa ≡ a + s → ta ≡ a + t → t + x ≡ s + y → ta + x ≡ sa + y
    later s t sa ta a x y one other same = omega (arith, one, other, same)

run_keeps : (r : Recording) (xs : List Processor) (ps : List ℕ) (answers : List Advance) (end : Recording) (ys : List Processor) → IsCoreRun r xs ps answers end ys →
    count_by carries end.events + sum_by left ys ≤ count_by carries r.events + sum_by left xs
run_keeps r xs [] answers end ys run =
    subst (λ (zs : List Processor). count_by carries end.events + sum_by left zs ≤ count_by carries r.events + sum_by left xs) (sym run.2)
    (subst (λ (e : Recording). count_by carries e.events + sum_by left xs ≤ count_by carries r.events + sum_by left xs) (sym run.1) (same_count (count_by carries r.events) (sum_by left xs)))
run_keeps r xs (p ∷ ps) answers end ys run =
    more (count_by carries r.events) (count_by carries run.1.world.events) (count_by carries end.events) (sum_by left xs) (sum_by left (slice_set xs p run.1.processor)) (sum_by left ys) (left run.0) (left run.1.processor)
    (run_keeps run.1.world (slice_set xs p run.1.processor) ps run.2 end ys run.6) (set_counts xs p run.0 run.1.processor run.3) (turn_keeps p r run.0 run.1 run.4)
  where
    more : (c d e s t u x y : ℕ) → e + u ≤ d + t → t + x ≡ s + y → d + y ≤ c + x → e + u ≤ c + s
    more c d e s t u x y later set turn = omega (arith, later, set, turn)

left_most : (xs : List Processor) → sum_by left xs ≤ sum_by (λ (x : Processor). length x.instructions) xs
left_most [] = omega arith
left_most (x ∷ xs) =
    more (sum_by left xs) (sum_by (λ (z : Processor). length z.instructions) xs) (sum_by left (x ∷ xs)) (sum_by (λ (z : Processor). length z.instructions) (x ∷ xs)) (length x.instructions) x.place
    (left_most xs) (sum_by-cons left x xs) (sum_by-cons (λ (z : Processor). length z.instructions) x xs)
  where
    more : (s t s' t' n k : ℕ) → s ≤ t → s' ≡ (n - k) + s → t' ≡ n + t → s' ≤ t'
    more s t s' t' n k before first second = omega (arith, before, first, second)

three_for_each : (n c a w s u t : ℕ) → n ≡ c + a → a ≤ 2 * w → w ≤ c → c + u ≤ 0 + s → s ≤ t → n ≤ 3 * t
three_for_each n c a w s u t all few own within most = omega (arith, all, few, own, within, most)

pub events_are_few : EventsAreFew
events_are_few head xs ps answers end ys run =
    three_for_each (length end.events) (count_by carries end.events) (count_by is_assist end.events) (count_by is_table_write end.events) (sum_by left xs) (sum_by left ys) (sum_by (λ (x : Processor). length x.instructions) xs)
    (all_counted end.events) (assists_are_few head xs ps answers end ys run) (writes_carry end.events) (run_keeps (unwritten head) xs ps answers end ys run) (left_most xs)
