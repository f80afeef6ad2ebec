use Rattle.std.proofs.Common.{◌∙◌, sym, map}
use Rattle.pg_show_json.proofs.Lists.{fused}
use Rattle.pg_show_json.specs.Tallies.{tally_json}
use Rattle.pg_show_json.proofs.tallies.tallies_json.Goals as goal

pub returns : goal.returns
returns c = c.list_of.ensures (map tally_json c.args.tallies.now) (c.in_ok-values.ensures ∙ sym (fused tally_json c.args.tallies.now))
