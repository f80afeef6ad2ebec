use Rattle.std.proofs.Common.{◌≡◌, map, take}
use Rattle.serde_json.specs.View.{view}
use Rattle.pg_show_json.specs.Tree.{data_of}
use Rattle.pg_show_json_answers.specs.Answers.{allowed_json}
use Rattle.pg_show_json_answers.proofs.outcomes.each.Given as goal

abbrev pub invariant-loop-allowed : goal.invariant-loop-allowed
invariant-loop-allowed l =
    map view l.values.items ≡ map (λ x. data_of (allowed_json x)) (take l.allowed-index l.found)
