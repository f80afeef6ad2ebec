use Rattle.std.proofs.Common.{◌≡◌, map, take}
use Rattle.serde_json.specs.View.{view}
use Rattle.pg_show_json.specs.Tree.{data_of}
use Rattle.pg_show_json_answers.specs.Answers.{told_json}
use Rattle.pg_show_json_answers.proofs.outcomes.each_told.Given as goal

abbrev pub invariant-loop-outcome : goal.invariant-loop-outcome
invariant-loop-outcome l =
    map view l.values.items ≡ map (λ x. data_of (told_json x)) (take l.outcome-index l.told)
