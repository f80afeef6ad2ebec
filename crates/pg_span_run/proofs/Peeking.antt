-- What a source whose first bytes were looked at has left.
use Rattle.std.proofs.Common.{◌≡◌, ℕ, ◌+◌, ◌-◌, ◌≤◌, ◌<◌, Bool, eqb, ◌||◌, List, ◌++◌, length, take, drop, Option, Some, None, Ok, Err, refl, sym, ap, ◌∙◌, arith, append_assoc, take-append-drop}
use Rattle.std.specs.Prelude.{IfSome}
use Rattle.std.specs.List.{slice_range}
use Rattle.std.specs.Int.{w16}
use Rattle.std.specs.Io.KnownBytes.{Keeps, Consumes, IsAtEnd}
use Rattle.std.proofs.lemmas.List.{nil_from_length, length-take-le, length-drop}
use Rattle.pg_event.specs.declared.refusal.Refusal.TheVariants as refusals
use Rattle.pg_event.specs.Reading.{Part, number_at, magic_at}
use Rattle.pg_codec.specs.Reads.{left_of}
use Rattle.pg_codec.proofs.Local.{IsLocal, extended, number_local, done_local, then_local, bounded_local, near}
use Rattle.pg_codec.proofs.Widths.{magic_local}
use Rattle.pg_codec.proofs.Pulled.{last_of_range}
use Rattle.pg_span_run.specs.Reading.{spans_version_of, spans_version_at, spans_front_at}
use Rattle.pg_span_run.specs.Versions.{is_read, says_spans}

version_local : IsLocal 2 spans_version_at
unfolding spans_version_at
version_local =
    bounded_local 2 0 (λ n. eqb n 3 || eqb n 4) refusals.Version (number_at w16) (λ n bytes. Ok (spans_version_of n, bytes)) (number_local w16) (λ n _. done_local (spans_version_of n))

front_local : IsLocal 10 spans_front_at
unfolding spans_front_at
front_local = then_local 8 2 magic_at (λ magic bytes. spans_version_at bytes) magic_local (λ magic. version_local)

read_extended : {A : Type 0} (more : List ℕ) (p : Part A) → is_read (extended more p) ≡ is_read p
read_extended more (Ok x) = refl
read_extended more (Err e) = refl

-- what the first bytes say is what all that is left says
pub says_same : (before front : List ℕ) (old new : Option (List ℕ)) (is : Bool) → Keeps (left_of before old) (left_of front new) → (length front < 10 → IsAtEnd new) → is ≡ says_spans front
    → IfSome (left_of before old) (λ bytes. is ≡ says_spans bytes)
unfolding left_of
says_same before front None new is kept enough h = tt
says_same before front (Some xs) None is kept enough h = absurd kept
says_same before front (Some xs) (Some ys) is kept enough h =
    let same : spans_front_at (front ++ ys) ≡ extended ys (spans_front_at front) = near 10 spans_front_at front ys front_local (λ lt. enough lt) in
    h ∙ sym (ap is_read same ∙ read_extended ys (spans_front_at front)) ∙ ap says_spans kept

-- the first bytes that were looked at are given
pub given : (old new front : List ℕ) (left : Option (List ℕ)) → old ≡ front ++ new → Consumes (left_of old left) (left_of new left) front
unfolding left_of
given old new front None e = tt
given old new front (Some ys) e = ap (λ l. l ++ ys) e ∙ append_assoc front new ys

-- nothing was looked at that still waits
pub none_waits : (unread : List ℕ) (left : Option (List ℕ)) → length unread ≡ 0 → left_of unread left ≡ left
unfolding left_of
none_waits unread None e = refl
none_waits unread (Some ys) e = ap (λ l. Some (l ++ ys)) (nil_from_length unread e)

-- a range is its front and the rest of it
pub range_cut : (xs : List ℕ) (start end n : ℕ) → start ≤ end → end ≤ length xs → n ≤ length (slice_range xs start end) → slice_range xs start end ≡ take n (slice_range xs start end) ++ slice_range xs (start + n) end
range_cut xs start end n low high fits =
    let range : List ℕ = slice_range xs start end in
    let len : length range ≡ end - start = length-take-le (end - start) (drop start xs) (omega (arith, length-drop start xs)) in
    let rest : ℕ = end - (start + n) in
    let place : end - rest ≡ start + n = omega (arith, len, fits, low) in
    let first : length range - rest ≡ n = omega (arith, len, fits, low) in
    let last : slice_range xs (end - rest) end ≡ drop (length range - rest) range = last_of_range xs start end rest low high (omega (arith, len)) in
    sym (take-append-drop n range)
    ∙ ap (λ (l : List ℕ). take n range ++ l) (ap (λ (k : ℕ). drop k range) (sym first) ∙ sym last ∙ ap (λ (k : ℕ). slice_range xs k end) place)
