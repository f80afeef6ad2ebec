use Rattle.std.proofs.Common.{◌≡◌, map, take}
use Rattle.serde_json.specs.View.{view}
use Rattle.pg_show_json.specs.Tree.{data_of, hex}
use Rattle.pg_show_json.proofs.tallies.addresses.Given as goal

abbrev pub invariant-loop-address : goal.invariant-loop-address
invariant-loop-address l =
    map view l.values.items ≡ map (λ x. data_of (hex x)) (take l.address-index l.addresses)
