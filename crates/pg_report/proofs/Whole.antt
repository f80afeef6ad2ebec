-- A record that is read part by part from the bytes that were left at the start.
use Rattle.std.proofs.Common.{◌≡◌, ℕ, ◌+◌, ◌≤◌, Bool, true, false, cond, ◌==◌, List, [], ◌++◌, length, length-append, Option, Some, None, Result, Ok, Err, refl, sym, ap, ◌∙◌, arith}
use Rattle.std.proofs.lemmas.List.{nil_from_length}
use Rattle.std.proofs.lemmas.Bool.{eqb-true}
use Rattle.pg_event.specs.declared.event.Event.{Event}
use Rattle.pg_event.specs.declared.refusal.Refusal.{Refusal}
use Rattle.pg_event.specs.declared.refusal.Refusal.TheVariants as refusals
use Rattle.pg_event.specs.Heads.{Head}
use Rattle.pg_event.specs.Spelling.{Recorded}
use Rattle.pg_event.specs.Reading.{◌>>=◌, Part, chunk_at, chunks_at, closed, header_at, reading}
use Rattle.pg_report.specs.Going.{IsReading}
use Rattle.pg_report.proofs.Chunks.{rest_at_start, rest_after_segment, total_at_end, total_at_fault, reading_by_parts}
use Rattle.pg_report.proofs.Shorter.{chunk_shortens}

pub reading_at_start : (head : Head) (bytes left text : List ℕ) → header_at bytes ≡ Ok (head, left) → bytes ≡ text ++ left → IsReading head [] 0 true bytes left
reading_at_start head bytes left text h e =
    let le : length left ≤ length bytes = omega (arith, ap length e, length-append text left) in
    record { after_header = left; header = h; rest = rest_at_start head bytes left le }

-- what a closed chunk says of the chunk
abbrev last : Bool → List ℕ → Part (Option (List Event))
last b bytes = cond b (Ok (None, bytes)) (Err refusals.Trailing)

abbrev done : Option (List Event) × List ℕ → Part (Option (List Event))
done x = Ok x

pair_is : (x y : Option (List Event) × List ℕ) → done x ≡ done y → x ≡ y
pair_is x y e = cc

none_is_no_segment : (segment : List Event) → None ≡ Some segment → ⊥
none_is_no_segment segment e = cc

no_segment : (b : Bool) (bytes : List ℕ) (segment : List Event) (rest : List ℕ) → last b bytes ≡ Ok (Some segment, rest) → ⊥
no_segment true bytes segment rest e = none_is_no_segment segment (ap (λ (p : Option (List Event) × List ℕ). p.0) (pair_is (None, bytes) (Some segment, rest) e))
no_segment false bytes segment rest e = cc

closed_some : (part : Part (Option (List Event))) (segment : List Event) (rest : List ℕ) → (part >>= closed) ≡ Ok (Some segment, rest) → part ≡ Ok (Some segment, rest)
closed_some (Ok (Some s, bytes)) segment rest e = e
closed_some (Ok (None, bytes)) segment rest e = absurd (no_segment (length bytes == 0) bytes segment rest e)
closed_some (Err d) segment rest e = absurd cc

pub reading_after_segment : (head : Head) (front segment : List Event) (number : ℕ) (full : Bool) (bytes left after : List ℕ) → IsReading head front number full bytes left
    → (chunk_at head number (length front) full left >>= closed) ≡ Ok (Some segment, after)
    → IsReading head (front ++ segment) (number + 1) (length segment == head.segment) bytes after
reading_after_segment head front segment number full bytes left after h e =
    let c = closed_some (chunk_at head number (length front) full left) segment after e in
    let shorter = chunk_shortens head number (length front) full left (Some segment, after) c in
    record { after_header = h.after_header; header = h.header; rest = rest_after_segment head front segment number full left after (chunks_at (length bytes) head 0 0 true h.after_header) h.rest c shorter }

at_end : (b : Bool) (bytes rest : List ℕ) → (length bytes == 0) ≡ b → last b bytes ≡ Ok (None, rest) → (bytes ≡ rest) × (length rest ≡ 0)
at_end true bytes rest t e =
    let same : bytes ≡ rest = ap (λ (p : Option (List Event) × List ℕ). p.1) (pair_is (None, bytes) (None, rest) e) in
    (same, ap length (sym same) ∙ eqb-true (length bytes) 0 t)
at_end false bytes rest t e = absurd cc

-- a part whose closed chunk is the end mark
pub record IsEnd (part : Part (Option (List Event))) (rest : List ℕ) : Type 0 where
  pub chunk : part ≡ Ok (None, rest)
  pub none : rest ≡ []

closed_none : (part : Part (Option (List Event))) (rest : List ℕ) → (part >>= closed) ≡ Ok (None, rest) → IsEnd part rest
closed_none (Ok (Some s, bytes)) rest e = absurd (none_is_no_segment s (sym (ap (λ (p : Option (List Event) × List ℕ). p.0) (pair_is (Some s, bytes) (None, rest) e))))
closed_none (Ok (None, bytes)) rest e =
    let h = at_end (length bytes == 0) bytes rest refl e in
    record { chunk = ap (λ (r : List ℕ). Ok (None, r)) h.0; none = nil_from_length rest h.1 }
closed_none (Err d) rest e = absurd cc

abbrev whole : Head → Part (List Event) → Result Recorded Refusal
whole head total = total >>= λ events. cond (length events.1 == 0) (Ok (record { head = head; events = events.0 })) (Err refusals.Trailing)

-- the end mark, and the end of the bytes: the record is read
pub reading_ends : (head : Head) (front : List Event) (number : ℕ) (full : Bool) (bytes left after : List ℕ) → IsReading head front number full bytes left
    → (chunk_at head number (length front) full left >>= closed) ≡ Ok (None, after) → (after ≡ []) × (reading bytes ≡ Ok (record { head = head; events = front }))
reading_ends head front number full bytes left after h e =
    let c = closed_none (chunk_at head number (length front) full left) after e in
    let total = chunks_at (length bytes) head 0 0 true h.after_header in
    let is = total_at_end head front number full left after total h.rest c.chunk in
    let parts = reading_by_parts bytes head h.after_header total h.header refl in
    (c.none, parts ∙ ap (whole head) is ∙ ap (λ (r : List ℕ). whole head (Ok (front, r))) c.none)

-- how a closed chunk is refused
pub data IsFault (part : Part (Option (List Event))) (e : Refusal) : Type 0 where
  early : part ≡ Err e → IsFault part e
  late : (rest : List ℕ) → part ≡ Ok (None, rest) → (length rest == 0) ≡ false → refusals.Trailing ≡ e → IsFault part e

late_fault : (b : Bool) (bytes : List ℕ) (e : Refusal) → (length bytes == 0) ≡ b → last b bytes ≡ Err e → IsFault (Ok (None, bytes)) e
late_fault true bytes e t h = absurd cc
late_fault false bytes e t h = late bytes refl t cc

closed_fault : (part : Part (Option (List Event))) (e : Refusal) → (part >>= closed) ≡ Err e → IsFault part e
closed_fault (Ok (Some s, bytes)) e h = absurd cc
closed_fault (Ok (None, bytes)) e h = late_fault (length bytes == 0) bytes e refl h
closed_fault (Err d) e h = early h

faulty : (head : Head) (front : List Event) (number : ℕ) (full : Bool) (bytes left : List ℕ) (e : Refusal) → IsReading head front number full bytes left
    → IsFault (chunk_at head number (length front) full left) e → reading bytes ≡ Err e
faulty head front number full bytes left e h (early f) =
    let total = chunks_at (length bytes) head 0 0 true h.after_header in
    reading_by_parts bytes head h.after_header total h.header refl ∙ ap (whole head) (total_at_fault head front number full left e total h.rest f)
faulty head front number full bytes left e h (late rest f t same) =
    let total = chunks_at (length bytes) head 0 0 true h.after_header in
    let is = total_at_end head front number full left rest total h.rest f in
    reading_by_parts bytes head h.after_header total h.header refl ∙ ap (whole head) is
    ∙ ap (λ (b : Bool). cond b (Ok (record { head = head; events = front })) (Err refusals.Trailing)) t ∙ ap (λ (d : Refusal). Err d) same

-- a refused chunk refuses the bytes
pub reading_fails : (head : Head) (front : List Event) (number : ℕ) (full : Bool) (bytes left : List ℕ) (e : Refusal) → IsReading head front number full bytes left
    → (chunk_at head number (length front) full left >>= closed) ≡ Err e → reading bytes ≡ Err e
reading_fails head front number full bytes left e h f = faulty head front number full bytes left e h (closed_fault (chunk_at head number (length front) full left) e f)
