use Rattle.std.proofs.Common.{◌≡◌, map, take}
use Rattle.serde_json.specs.View.{view}
use Rattle.pg_show_json.specs.Tree.{data_of}
use Rattle.pg_show_json.specs.Causes.{explanation_json}
use Rattle.pg_show_json_answers.proofs.json.each.Given as goal

abbrev pub invariant-loop-explanation : goal.invariant-loop-explanation
invariant-loop-explanation l =
    map view l.values.items
    ≡ map (λ x. data_of (explanation_json l.events x)) (take l.explanation-index l.explanations)
