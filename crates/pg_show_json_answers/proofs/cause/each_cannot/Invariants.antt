use Rattle.std.proofs.Common.{◌≡◌, map, take}
use Rattle.serde_json.specs.View.{view}
use Rattle.pg_show_json.specs.Tree.{data_of}
use Rattle.pg_show_json_answers.specs.Causes.{cannot_json}
use Rattle.pg_show_json_answers.proofs.cause.each_cannot.Given as goal

abbrev pub invariant-loop-one : goal.invariant-loop-one
invariant-loop-one l =
    map view l.values.items ≡ map (λ x. data_of (cannot_json x)) (take l.one-index l.seen)
