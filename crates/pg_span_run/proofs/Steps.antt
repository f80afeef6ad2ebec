-- Reading parts one after another, as the loops do.
use Rattle.std.proofs.Common.{◌≡◌, ℕ, suc, ◌+◌, ◌-◌, ◌≤◌, ◌<◌, Bool, true, false, cond, eqb, List, length, Result, Ok, Err, sym, ap, ◌∙◌, arith, inl, inr}
use Rattle.std.proofs.lemmas.Bool.{cases_Bool, eqb-true}
use Rattle.pg_event.specs.Heads.{Head}
use Rattle.pg_event.specs.declared.refusal.Refusal.{Refusal}
use Rattle.pg_event.specs.declared.refusal.Refusal.TheVariants as refusals
use Rattle.pg_event.specs.Reading.{◌>>=◌}
use Rattle.pg_span_run.specs.Orders.{Spanned}
use Rattle.pg_span_run.specs.declared.refusal.SpannedRefusal.{SpannedRefusal}
use Rattle.pg_span_run.specs.declared.refusal.SpannedRefusal.TheVariants.{Plain}
use Rattle.pg_span_run.specs.declared.error.SpannedError.{SpannedError}
use Rattle.pg_span_run.specs.declared.error.SpannedError.TheVariants.{Refused, Memory}
use Rattle.pg_span_run.specs.Answers.{Fails}
use Rattle.pg_span_run.specs.Reading.{SpannedPart, plain, next_event_at, next_events_at, next_segment_at, total_at, was_full, tag_at, next_segments_at}

-- a call whose error is another's
pub error_answers : {A B : Type 0} (e : SpannedError) (r : Result A SpannedRefusal) (q : Result B SpannedRefusal) → ((d : SpannedRefusal) → r ≡ Err d → q ≡ Err d) → Fails e r → Fails e q
error_answers (Refused d) r q goes h = goes d h
error_answers Memory r q goes h = tt

-- ---- events

module _ (n i : ℕ) (s : Spanned) (bytes : List ℕ) (lt : i < n) where
  abbrev others : Spanned × List ℕ → SpannedPart Spanned
  others more = next_events_at (n - (i + 1)) more.0 more.1

  events_step : next_events_at (n - i) s bytes ≡ (next_event_at s bytes >>= others)
  unfolding next_events_at
  events_step = let k : n - i ≡ suc (n - (i + 1)) = omega arith in ap (λ j. next_events_at j s bytes) k

  pub events_on : (t : Spanned) (rest : List ℕ) → next_event_at s bytes ≡ Ok (t, rest) → next_events_at (n - i) s bytes ≡ next_events_at (n - (i + 1)) t rest
  events_on t rest h = events_step ∙ ap (λ r. r >>= others) h

  pub events_fail : (d : SpannedRefusal) → next_event_at s bytes ≡ Err d → next_events_at (n - i) s bytes ≡ Err d
  events_fail d h = events_step ∙ ap (λ r. r >>= others) h

pub events_done : (n i : ℕ) (s : Spanned) (bytes : List ℕ) → n ≤ i → next_events_at (n - i) s bytes ≡ Ok (s, bytes)
unfolding next_events_at
events_done n i s bytes le = let k : n - i ≡ 0 = omega arith in ap (λ j. next_events_at j s bytes) k

-- ---- segments

module _ (n i : ℕ) (s : Spanned) (full : Bool) (bytes : List ℕ) (lt : i < n) where
  abbrev behind_segment : Spanned × List ℕ → SpannedPart Spanned
  behind_segment more = next_segments_at (n - (i + 1)) more.0 (i + 1) (was_full s more.0) more.1

  abbrev behind_tag : ℕ × List ℕ → SpannedPart Spanned
  behind_tag tag = cond (eqb tag.0 2) (total_at s tag.1) (cond full (next_segment_at s i tag.1 >>= behind_segment) (Err (Plain refusals.SegmentCount)))

  segments_step : next_segments_at (n - i) s i full bytes ≡ (plain (tag_at bytes) >>= behind_tag)
  unfolding next_segments_at
  segments_step = let k : n - i ≡ suc (n - (i + 1)) = omega arith in ap (λ j. next_segments_at j s i full bytes) k

  pub tag_fails : (d : Refusal) → tag_at bytes ≡ Err d → next_segments_at (n - i) s i full bytes ≡ Err (Plain d)
  tag_fails d h = segments_step ∙ ap (λ r. plain r >>= behind_tag) h

  module _ (tag : ℕ) (behind : List ℕ) (read : tag_at bytes ≡ Ok (tag, behind)) where
    tagged : next_segments_at (n - i) s i full bytes ≡ behind_tag (tag, behind)
    tagged = segments_step ∙ ap (λ r. plain r >>= behind_tag) read

    pub end_tag : tag ≡ 2 → next_segments_at (n - i) s i full bytes ≡ total_at s behind
    end_tag h = tagged ∙ ap (λ t. behind_tag (t, behind)) h

    first_tag : (tag ≡ 2 → ⊥) → next_segments_at (n - i) s i full bytes ≡ cond full (next_segment_at s i behind >>= behind_segment) (Err (Plain refusals.SegmentCount))
    first_tag h =
        elim (cases_Bool (eqb tag 2)) [
          | inl t ↦ absurd (h (eqb-true tag 2 t))
          | inr f ↦ tagged ∙ ap (λ b. cond b (total_at s behind) (cond full (next_segment_at s i behind >>= behind_segment) (Err (Plain refusals.SegmentCount)))) f
        ]

    pub after_short : (tag ≡ 2 → ⊥) → full ≡ false → next_segments_at (n - i) s i full bytes ≡ Err (Plain refusals.SegmentCount)
    after_short h short = first_tag h ∙ ap (λ b. cond b (next_segment_at s i behind >>= behind_segment) (Err (Plain refusals.SegmentCount))) short

    after_full : (tag ≡ 2 → ⊥) → full ≡ true → next_segments_at (n - i) s i full bytes ≡ (next_segment_at s i behind >>= behind_segment)
    after_full h is = first_tag h ∙ ap (λ b. cond b (next_segment_at s i behind >>= behind_segment) (Err (Plain refusals.SegmentCount))) is

    pub segments_fail : (tag ≡ 2 → ⊥) → full ≡ true → (d : SpannedRefusal) → next_segment_at s i behind ≡ Err d → next_segments_at (n - i) s i full bytes ≡ Err d
    segments_fail h is d e = after_full h is ∙ ap (λ r. r >>= behind_segment) e

    pub segments_on : (tag ≡ 2 → ⊥) → full ≡ true → (t : Spanned) (rest : List ℕ) (filled : Bool) → next_segment_at s i behind ≡ Ok (t, rest) → filled ≡ was_full s t
        → next_segments_at (n - (i + 1)) t (i + 1) filled rest ≡ next_segments_at (n - i) s i full bytes
    segments_on h is t rest filled e same =
        ap (λ b. next_segments_at (n - (i + 1)) t (i + 1) b rest) same ∙ sym (after_full h is ∙ ap (λ r. r >>= behind_segment) e)

pub segments_done : (n i : ℕ) (s : Spanned) (full : Bool) (bytes : List ℕ) → n ≤ i → next_segments_at (n - i) s i full bytes ≡ Err (Plain refusals.Truncated)
unfolding next_segments_at
segments_done n i s full bytes le = let k : n - i ≡ 0 = omega arith in ap (λ j. next_segments_at j s i full bytes) k

-- whether the segment was full that was read last
pub filled_is : (s t : Spanned) (filled : Bool) (before : ℕ) → filled ≡ eqb (length t.events) (before + t.head.segment) → before ≡ length s.events → t.head ≡ s.head → filled ≡ was_full s t
filled_is s t filled before is same head =
    is ∙ ap (λ (k : ℕ). eqb (length t.events) (k + t.head.segment)) same ∙ ap (λ (h : Head). eqb (length t.events) (length s.events + h.segment)) head
