use Rattle.std.proofs.Common.{◌∙◌, sym, map}
use Rattle.pg_show_json.proofs.Lists.{fused}
use Rattle.pg_show_json_answers.specs.Causes.{cannot_json}
use Rattle.pg_show_json_answers.proofs.cause.cannot_read.Goals as goal

pub returns : goal.returns
returns c = c.list_of.ensures (map cannot_json c.args.seen.now) (c.in_ok-values.ensures ∙ sym (fused cannot_json c.args.seen.now))
