use Rattle.std.proofs.Common.{◌∙◌, sym, map}
use Rattle.pg_show_json.proofs.Lists.{fused}
use Rattle.pg_show_json_answers.specs.Verdicts.{edge_json}
use Rattle.pg_show_json_answers.proofs.edges.edges_json.Goals as goal

pub returns : goal.returns
returns c = c.list_of.ensures (map edge_json c.args.edges.now) (c.in_ok-values.ensures ∙ sym (fused edge_json c.args.edges.now))
