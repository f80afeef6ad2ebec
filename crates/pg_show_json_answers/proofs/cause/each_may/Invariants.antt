use Rattle.std.proofs.Common.{◌≡◌, map, take}
use Rattle.serde_json.specs.View.{view}
use Rattle.pg_show_json.specs.Tree.{data_of}
use Rattle.pg_show_json_answers.specs.Causes.{may_json}
use Rattle.pg_show_json_answers.proofs.cause.each_may.Given as goal

abbrev pub invariant-loop-one : goal.invariant-loop-one
invariant-loop-one l =
    map view l.values.items ≡ map (λ x. data_of (may_json l.cfg x)) (take l.one-index l.seen)
