use Rattle.std.proofs.Common.{◌∙◌, sym, map}
use Rattle.pg_show_json.proofs.Lists.{fused}
use Rattle.pg_show_json.specs.Tree.{hex}
use Rattle.pg_show_json.proofs.tallies.addresses_json.Goals as goal

pub returns : goal.returns
returns c = c.list_of.ensures (map hex c.args.told.now) (c.in_ok-values.ensures ∙ sym (fused hex c.args.told.now))
