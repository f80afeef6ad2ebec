-- Reading a record chunk by chunk is reading it whole.
use Rattle.std.proofs.Common.{◌≡◌, ℕ, zero, suc, pred, ◌+◌, ◌<◌, ◌≤◌, Bool, true, cond, ◌==◌, List, [], ◌∷◌, ◌++◌, length, length-append, Option, Some, None, Ok, Err, refl, sym, ap, ◌∙◌, append_assoc, arith}
use Rattle.std.proofs.lemmas.List.{append-nil}
use Rattle.pg_event.specs.declared.event.Event.{Event}
use Rattle.pg_event.specs.declared.refusal.Refusal.{Refusal}
use Rattle.pg_event.specs.declared.refusal.Refusal.TheVariants as refusals
use Rattle.pg_event.specs.Heads.{Head}
use Rattle.pg_report.specs.Going.{with_front, IsRest}
use Rattle.pg_event.specs.Reading.{◌>>=◌, Part, chunk_at, chunks_at, header_at, record_at, reading}

-- what follows a chunk
goes_on : ℕ → Head → ℕ → ℕ → Option (List Event) × List ℕ → Part (List Event)
goes_on bound head number before (None, rest) = Ok ([], rest)
goes_on bound head number before (Some segment, rest) =
    chunks_at bound head (number + 1) (before + length segment) (length segment == head.segment) rest >>= λ others. Ok (segment ++ others.0, others.1)

module _ (bound : ℕ) (head : Head) (number before : ℕ) where
  by_chunk : (chunk : Part (Option (List Event))) → (chunk >>= λ c. elim c.0 [
    | None ↦ Ok ([], c.1)
    | Some segment ↦ chunks_at bound head (number + 1) (before + length segment) (length segment == head.segment) c.1 >>= λ others. Ok (segment ++ others.0, others.1)
  ]) ≡ (chunk >>= goes_on bound head number before)
  unfolding goes_on
  by_chunk (Ok (None, rest)) = refl
  by_chunk (Ok (Some segment, rest)) = refl
  by_chunk (Err e) = refl

chunks_at-suc : (bound : ℕ) (head : Head) (number before : ℕ) (full : Bool) (left : List ℕ)
    → chunks_at (suc bound) head number before full left ≡ (chunk_at head number before full left >>= goes_on bound head number before)
unfolding chunks_at goes_on
chunks_at-suc bound head number before full left = by_chunk bound head number before (chunk_at head number before full left)

unfront : (part : Part (List Event)) → with_front [] part ≡ part
unfront (Ok x) = refl
unfront (Err e) = refl

pub rest_at_start : (head : Head) (bytes left : List ℕ) → length left ≤ length bytes → IsRest head [] 0 true left (chunks_at (length bytes) head 0 0 true left)
rest_at_start head bytes left h =
    record { bound = length bytes; long = h; same = unfront (chunks_at (length bytes) head 0 0 true left) }

regroup : (front segment : List Event) (part : Part (List Event)) → with_front front (part >>= λ x. Ok (segment ++ x.0, x.1)) ≡ with_front (front ++ segment) part
regroup front segment (Ok x) = ap (λ (es : List Event). Ok (es, x.1)) (sym (append_assoc front segment x.0))
regroup front segment (Err e) = refl

-- a chunk at the end of the bytes is cut
cut_at_end : (head : Head) (number before : ℕ) (full : Bool) → chunk_at head number before full [] ≡ Err refusals.Truncated
unfolding chunk_at
cut_at_end head number before full = refl

-- with a bound that the bytes keep to, reading goes on by a chunk
by_a_chunk : (bound : ℕ) (head : Head) (number before : ℕ) (full : Bool) (left : List ℕ) → length left ≤ bound
    → chunks_at bound head number before full left ≡ (chunk_at head number before full left >>= goes_on (pred bound) head number before)
unfolding chunks_at
by_a_chunk zero head number before full [] h = ap (λ c. c >>= goes_on 0 head number before) (sym (cut_at_end head number before full))
by_a_chunk zero head number before full (b ∷ left) h = absurd (omega arith)
by_a_chunk (suc bound) head number before full left h = chunks_at-suc bound head number before full left

pub rest_after_segment : (head : Head) (front segment : List Event) (number : ℕ) (full : Bool) (left after : List ℕ) (total : Part (List Event)) → IsRest head front number full left total
    → chunk_at head number (length front) full left ≡ Ok (Some segment, after) → length after < length left
    → IsRest head (front ++ segment) (number + 1) (length segment == head.segment) after total
unfolding goes_on
rest_after_segment head front segment number full left after total rest h shorter =
    let n = rest.bound in
    let step : chunks_at n head number (length front) full left ≡
    (chunks_at (pred n) head (number + 1) (length front + length segment) (length segment == head.segment) after >>= λ others. Ok (segment ++ others.0, others.1)) =
    by_a_chunk n head number (length front) full left rest.long ∙ ap (λ c. c >>= goes_on (pred n) head number (length front)) h in
    let joined = ap (with_front front) step ∙ regroup front segment (chunks_at (pred n) head (number + 1) (length front + length segment) (length segment == head.segment) after) in
    let count : length front + length segment ≡ length (front ++ segment) = sym (length-append front segment) in
    record {
      bound = pred n;
      long = omega (arith, rest.long);
      same = ap (λ k. with_front (front ++ segment) (chunks_at (pred n) head (number + 1) k (length segment == head.segment) after)) (sym count) ∙ sym joined ∙ rest.same;
    }

pub total_at_end : (head : Head) (front : List Event) (number : ℕ) (full : Bool) (left after : List ℕ) (total : Part (List Event)) → IsRest head front number full left total
    → chunk_at head number (length front) full left ≡ Ok (None, after) → total ≡ Ok (front, after)
unfolding goes_on
total_at_end head front number full left after total rest h =
    let n = rest.bound in
    let step : chunks_at n head number (length front) full left ≡ Ok ([], after) =
    by_a_chunk n head number (length front) full left rest.long ∙ ap (λ c. c >>= goes_on (pred n) head number (length front)) h in
    sym rest.same ∙ ap (with_front front) step ∙ ap (λ (es : List Event). Ok (es, after)) (append-nil front)

pub total_at_fault : (head : Head) (front : List Event) (number : ℕ) (full : Bool) (left : List ℕ) (e : Refusal) (total : Part (List Event)) → IsRest head front number full left total
    → chunk_at head number (length front) full left ≡ Err e → total ≡ Err e
unfolding goes_on
total_at_fault head front number full left e total rest h =
    let n = rest.bound in
    let step : chunks_at n head number (length front) full left ≡ Err e =
    by_a_chunk n head number (length front) full left rest.long ∙ ap (λ c. c >>= goes_on (pred n) head number (length front)) h in
    sym rest.same ∙ ap (with_front front) step

-- a whole record, by its header and what follows it
pub reading_by_parts : (bytes : List ℕ) (head : Head) (left : List ℕ) (total : Part (List Event)) → header_at bytes ≡ Ok (head, left) → chunks_at (length bytes) head 0 0 true left ≡ total
    → reading bytes ≡ (total >>= λ events. cond (length events.1 == 0) (Ok (record { head = head; events = events.0 })) (Err refusals.Trailing))
unfolding reading record_at
reading_by_parts bytes head left (Ok x) h e = rw (h, e) refl
reading_by_parts bytes head left (Err r) h e = rw (h, e) refl

pub reading_of_bad_header : (bytes : List ℕ) (e : Refusal) → header_at bytes ≡ Err e → reading bytes ≡ Err e
unfolding reading record_at
reading_of_bad_header bytes e h = rw h refl
