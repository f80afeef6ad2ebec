use Rattle.std.proofs.Common.{◌≡◌, map, take}
use Rattle.serde_json.specs.View.{view}
use Rattle.pg_show_json.specs.Tree.{data_of}
use Rattle.pg_show_json.specs.Entries.{entry_json}
use Rattle.pg_show_json.proofs.entries.entries.Given as goal

abbrev pub invariant-loop-entry : goal.invariant-loop-entry
invariant-loop-entry l =
    map view l.values.items ≡ map (λ x. data_of (entry_json x)) (take l.entry-index l.walk)
