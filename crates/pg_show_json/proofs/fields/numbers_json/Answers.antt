use Rattle.std.proofs.Common.{◌∙◌, sym, map}
use Rattle.pg_show_json.specs.Tree.{count}
use Rattle.pg_show_json.proofs.Lists.{fused}
use Rattle.pg_show_json.proofs.fields.numbers_json.Goals as goal

pub returns : goal.returns
returns c = c.list_of.ensures (map count c.args.told.now) (c.in_ok-values.ensures ∙ sym (fused count c.args.told.now))
