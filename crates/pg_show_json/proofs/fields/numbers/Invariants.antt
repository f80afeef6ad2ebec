use Rattle.std.proofs.Common.{◌≡◌, map, take}
use Rattle.serde_json.specs.View.{view}
use Rattle.pg_show_json.specs.Tree.{count, data_of}
use Rattle.pg_show_json.proofs.fields.numbers.Given as goal

abbrev pub invariant-loop-number : goal.invariant-loop-number
invariant-loop-number l =
    map view l.values.items ≡ map (λ n. data_of (count n)) (take l.number-index l.numbers)
