-- The outcomes of an event of a record with no one order, as JSON: those that the text has.
use Rattle.std.specs.Prelude.{◌⊎◌, ℕ, List, codes, Option}
use Rattle.pg_report.specs.Changes.{Change}
use Rattle.pg_span_run.specs.Orders.{Spanned}
use Rattle.pg_span_verdict.specs.declared.verdict.Verdict.{Verdict}
use Rattle.pg_span_verdict.specs.declared.verdict.Verdict.TheVariants.{Yes, Never}
use Rattle.pg_span_verdict.specs.declared.verdict.Verdict.TheVariants.{NoneOfAll, Undecided}
use Rattle.pg_span_verdict.specs.Verdicts.{IsVerdict}
use Rattle.pg_answers.specs.Answers.{event_outcomes_status}
use Rattle.pg_span_answers.specs.declared.outcomes.OrderedOutcomes.{OrderedOutcomes}
use Rattle.pg_span_answers.specs.Outcomes.{AreInOrder}
use Rattle.pg_show_json.specs.Tree.{Json, field, object, json_line}
use Rattle.pg_show_json.specs.Entries.{number_json}
use Rattle.pg_show_json_answers.specs.Answers.{event_outcomes_fields}
use Rattle.pg_show_json_answers.specs.SpannedRefusals.{WantsMemory}
use Rattle.pg_show_json_answers.specs.SpannedAnswers.{GivesLine, GivesVerdict}

-- the outcomes, and the place of the event in the order
abbrev pub ordered_outcomes_json : OrderedOutcomes → Json
ordered_outcomes_json x =
    object (field (codes "place") (number_json x.place) (event_outcomes_fields x.outcomes))

abbrev pub GivesTold : OrderedOutcomes → Change → Change → ℕ → Type 0
GivesTold x output errors status =
    GivesLine (json_line (ordered_outcomes_json x)) (event_outcomes_status x.outcomes)
    output errors status
    ⊎ WantsMemory output errors status

-- those in an order that has a run
abbrev pub GivesOutcomesIn : Option ℕ → ℕ → Spanned → List ℕ → Change → Change → ℕ → Type 0
GivesOutcomesIn event most s order output errors status =
    ((x : OrderedOutcomes) × AreInOrder s order event most x × GivesTold x output errors status)
    ⊎ WantsMemory output errors status

-- those of a yes in the order that was found; or another verdict
abbrev pub GivesOutcomes : Option ℕ → ℕ → Spanned → Verdict → Change → Change → ℕ → Type 0
GivesOutcomes event most s (Yes order) output errors status =
    GivesOutcomesIn event most s order.items output errors status
GivesOutcomes event most s (Never n edges) output errors status =
    GivesVerdict s (Never n edges) output errors status
GivesOutcomes event most s (NoneOfAll n) output errors status =
    GivesVerdict s (NoneOfAll n) output errors status
GivesOutcomes event most s (Undecided n) output errors status =
    GivesVerdict s (Undecided n) output errors status

abbrev pub AnswersOutcomes : Option ℕ → ℕ → Spanned → Change → Change → ℕ → Type 0
AnswersOutcomes event most s output errors status = ((verdict : Verdict) × IsVerdict s verdict
    × GivesOutcomes event most s verdict output errors status)
    ⊎ WantsMemory output errors status
