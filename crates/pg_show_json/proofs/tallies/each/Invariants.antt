use Rattle.std.proofs.Common.{◌≡◌, map, take}
use Rattle.serde_json.specs.View.{view}
use Rattle.pg_show_json.specs.Tree.{data_of}
use Rattle.pg_show_json.specs.Tallies.{tally_json}
use Rattle.pg_show_json.proofs.tallies.each.Given as goal

abbrev pub invariant-loop-tally : goal.invariant-loop-tally
invariant-loop-tally l =
    map view l.values.items ≡ map (λ x. data_of (tally_json x)) (take l.tally-index l.tallies)
