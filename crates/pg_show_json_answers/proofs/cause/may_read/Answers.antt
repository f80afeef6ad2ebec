use Rattle.std.proofs.Common.{◌∙◌, sym, map}
use Rattle.pg_show_json.proofs.Lists.{fused}
use Rattle.pg_show_json_answers.specs.Causes.{may_json}
use Rattle.pg_show_json_answers.proofs.cause.may_read.Goals as goal

pub returns : goal.returns
returns c =
    let f = may_json c.args.cfg in
    c.list_of.ensures (map f c.args.seen.now) (c.in_ok-values.ensures ∙ sym (fused f c.args.seen.now))
