-- The segments of a recording are its events, cut.
use Rattle.std.proofs.Common.{◌≡◌, ℕ, zero, suc, ◌+◌, ◌*◌, ◌/◌, ◌≤◌, ◌<◌, Bool, true, false, List, [], ◌∷◌, ◌++◌, length, take, drop, length-take, length-drop, cond, refl, ap, sym, ◌∙◌, arith}
use Rattle.std.proofs.lemmas.List.{take_all}
use Rattle.std.proofs.lemmas.Grind.{div_ceil_times}
use Rattle.std.proofs.Math.Nat.{div-mul-le_self, mul-le-mul_right}
use Rattle.std.proofs.Math.Seq.{take-add}
use Rattle.std.specs.Int.{div_ceil}
use Rattle.std.specs.List.{AllByRecursion}
use Rattle.pg_event.specs.declared.event.Event.{Event}
use Rattle.pg_world.specs.Kept.{IsKept, IsSegment}
use Rattle.pg_world.specs.Recording.{Recording, segment_of, sealed_count}
use Rattle.pg_world.specs.Laws.{SegmentsBeginTheEvents, FinishedSegmentsAreTheEvents}

pub segments_begin_the_events : SegmentsBeginTheEvents
segments_begin_the_events r zero =
    let none : 0 ≡ 0 * r.head.segment = omega arith in
    ap (λ (n : ℕ). take n r.events) none
segments_begin_the_events r (suc k) =
    let size : ℕ = r.head.segment in
    let more : k * size + size ≡ suc k * size = omega arith in
    ap (λ (es : List Event). es ++ segment_of r k) (segments_begin_the_events r k)
    ∙ sym (take-add (k * size) size r.events)
    ∙ ap (λ (n : ℕ). take n r.events) more

pub finished_segments_are_the_events : FinishedSegmentsAreTheEvents
finished_segments_are_the_events r head finished =
    let size : ℕ = r.head.segment in
    let count : sealed_count r ≡ div_ceil (length r.events) size = ap (λ b. cond b (div_ceil (length r.events) size) (length r.events / size)) finished in
    let enough : length r.events ≤ div_ceil (length r.events) size * size = (div_ceil_times (length r.events) size head.size).0 in
    segments_begin_the_events r (sealed_count r) ∙ ap (λ (n : ℕ). take (n * size) r.events) count ∙ take_all (div_ceil (length r.events) size * size) r.events enough

-- ---- what is given out

-- what holds of each holds of those that are taken or left
all_taken : {X : Type 0} (P : X → Type 0) (n : ℕ) (xs : List X) → AllByRecursion P xs → AllByRecursion P (take n xs)
all_taken P zero xs h = tt
all_taken P (suc n) [] h = tt
all_taken P (suc n) (x ∷ xs) h = (h.0, all_taken P n xs h.1)

all_left : {X : Type 0} (P : X → Type 0) (n : ℕ) (xs : List X) → AllByRecursion P xs → AllByRecursion P (drop n xs)
all_left P zero xs h = h
all_left P (suc n) [] h = tt
all_left P (suc n) (x ∷ xs) h = all_left P n xs h.1

-- a sealed segment ends within the events, and begins before their end where the record is finished
sealed_whole : (r : Recording) (k : ℕ) → r.finished ≡ false → k < sealed_count r → suc k * r.head.segment ≤ length r.events
sealed_whole r k unfinished below =
    let count : sealed_count r ≡ length r.events / r.head.segment = ap (λ b. cond b (div_ceil (length r.events) r.head.segment) (length r.events / r.head.segment)) unfinished in
    let within : suc k ≤ length r.events / r.head.segment = omega (arith, count, below) in
    omega (arith, mul-le-mul_right r.head.segment within, div-mul-le_self (length r.events) r.head.segment)

sealed_begun : (r : Recording) (k : ℕ) → 1 ≤ r.head.segment → (finished : Bool) → r.finished ≡ finished → k < sealed_count r → k * r.head.segment < length r.events
sealed_begun r k some false unfinished below =
    let more : suc k * r.head.segment ≡ k * r.head.segment + r.head.segment = omega arith in
    omega (arith, more, sealed_whole r k unfinished below)
sealed_begun r k some true finished below =
    let size : ℕ = r.head.segment in
    let count : sealed_count r ≡ div_ceil (length r.events) size = ap (λ b. cond b (div_ceil (length r.events) size) (length r.events / size)) finished in
    let within : suc k ≤ div_ceil (length r.events) size = omega (arith, count, below) in
    let more : suc k * size ≡ k * size + size = omega arith in
    omega (arith, more, mul-le-mul_right size within, (div_ceil_times (length r.events) size some).1)

pub IsSegment-taken : (r : Recording) (k : ℕ) → IsKept r → k < sealed_count r → IsSegment r (segment_of r k)
IsSegment-taken r k kept below =
    let size : ℕ = r.head.segment in
    let left : List Event = drop (k * size) r.events in
    let begun = sealed_begun r k kept.is_record.head.size r.finished refl below in record {
      some = omega (arith, length-take size left, length-drop (k * size) r.events, begun, kept.is_record.head.size);
      most = omega (arith, length-take size left);
      full = λ unfinished.
          let more : suc k * size ≡ k * size + size = omega arith in
          omega (arith, more, length-take size left, length-drop (k * size) r.events, sealed_whole r k unfinished below);
      fits = all_taken _ size left (all_left _ (k * size) r.events kept.is_record.fits);
      well = all_taken _ size left (all_left _ (k * size) r.events kept.is_record.well);
    }
