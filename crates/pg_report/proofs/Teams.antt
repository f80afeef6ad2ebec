-- Windows that a team judges.
use Rattle.std.proofs.Common.{◌≡◌, inl, inr, ℕ, ◌+◌, ◌/◌, ◌%◌, min, List, [], ◌++◌, length, sym, ap, subst, ◌∙◌, arith}
use Rattle.std.specs.Int.{div_ceil}
use Rattle.pg_event.specs.declared.event.Event.{Event}
use Rattle.pg_event.specs.Heads.{Head}
use Rattle.pg_event.specs.Spelling.{IsHead}
use Rattle.pg_check.specs.declared.judged.Tally.{Tally}
use Rattle.pg_check.specs.declared.window.Window.{Window}
use Rattle.pg_check.specs.Judging.{Awaits, HasNoted, Noted}
use Rattle.pg_check.specs.Kept.{AreWellFormed}
use Rattle.pg_check.specs.Windows.{IsNextWindow}
use Rattle.pg_check.proofs.Judgings.{findings}
use Rattle.pg_pool.specs.declared.windows.WindowJudged.{WindowJudged}
use Rattle.pg_pool.specs.Windows.{IsWindowJudged}
use Rattle.pg_report.specs.declared.team.Team.{Team}
use Rattle.pg_report.specs.Judging.{BeginsSegment, waiting_round}
use Rattle.pg_report.specs.Teams.{HasOutcome, IsTeam, MayGoOn}

-- ---- behind a round

module _ (t : Tally) (n : Noted) (head : Head) (before : List Event) (w : Window) (j : WindowJudged) (h : HasOutcome t head before w j) where
  pub awaits_in : HasNoted n head (before ++ w.events.now) → Awaits (findings t.header n t.count t.first_bad) head before w.events.now
  awaits_in noted = record {
    settings = h.settings;
    past = noted.past;
    noted = noted.count;
    count = h.count;
    first_bad = h.first_bad;
    well = h.next.well;
    limit = h.next.limit;
  }

  size_is : t.header.segment ≡ head.segment
  size_is = ap (λ (k : Head). k.segment) h.settings

  whole_there : t.count % t.header.segment ≡ 0
  whole_there = (λ i. h.count i % size_is i) ∙ h.next.whole

  pub begins_in : BeginsSegment (findings t.header n t.count t.first_bad) w.events.now
  begins_in = inr whole_there

  pub round_there : j.round ≡ waiting_round (findings t.header n t.count t.first_bad) w.events.now
  round_there =
      let c = t.count in
      let seg = t.header.segment in
      let first : w.first ≡ c = h.next.first ∙ sym h.count in
      let size : w.segment ≡ seg = h.next.segment ∙ sym size_is in
      let quotient : div_ceil c seg ≡ c / seg = ap (λ (m : ℕ). c / seg + min 1 m) whole_there ∙ omega arith in
      h.is.round
      ∙ (λ i. record { first = first i / size i; last = div_ceil (first i + length w.events.now) (size i) })
      ∙ (λ i. record { first = (sym quotient) i; last = div_ceil (c + length w.events.now) seg })

-- ---- before a round

module _ (t : Team) (more : List Event) (tally : Tally) (heads : tally.header ≡ t.judged.head) (counts : tally.count ≡ t.judged.count) (firsts : tally.first_bad ≡ t.judged.first_bad) (may : MayGoOn t more) (head : Head) (before : List Event) (is : IsTeam t head before) where
  begins_there : BeginsSegment t.judged more → (more ≡ [] → ⊥) → length before % head.segment ≡ 0
  begins_there (inl none) some = absurd (some none)
  begins_there (inr whole) some = (λ i. sym is.judged.count i % (ap (λ (k : Head). k.segment) (sym is.judged.settings)) i) ∙ whole

  pub next_window : IsHead tally.header → (more ≡ [] → ⊥) → (w : Window) → w.segment ≡ tally.header.segment → w.first ≡ tally.count → w.events.now ≡ more → IsNextWindow head before w
  next_window valid some w size first events =
      let settings : tally.header ≡ head = heads ∙ is.judged.settings in
      record {
        valid = subst IsHead settings valid;
        segment = size ∙ ap (λ (k : Head). k.segment) settings;
        first = first ∙ counts ∙ is.judged.count;
        whole = begins_there may.whole some;
        well = subst (λ (es : List Event). AreWellFormed head es) (sym events) (subst (λ (k : Head). AreWellFormed k more) is.judged.settings may.well);
        limit =
            let same : length before ≡ length may.before = sym is.judged.count ∙ may.team.judged.count in
            let long : length w.events.now ≡ length more = ap (λ (es : List Event). length es) events in
            omega (arith, same, long, may.limit);
      }

  pub has_outcome : (w : Window) → IsNextWindow head before w → (j : WindowJudged) → IsWindowJudged head before w j → HasOutcome tally head before w j
  has_outcome w next j judged = record { settings = heads ∙ is.judged.settings; count = counts ∙ is.judged.count; first_bad = firsts ∙ is.judged.first_bad; next = next; is = judged }
