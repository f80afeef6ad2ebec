use Rattle.std.proofs.Common.{◌∙◌, ap, sym, map}
use Rattle.pg_show_json.specs.Tree.{data_of}
use Rattle.pg_show_json.proofs.Lists.{fused}
use Rattle.pg_explain.specs.Walk.{down_to_end}
use Rattle.pg_show_json.specs.Entries.{entry_json}
use Rattle.pg_show_json.proofs.entries.walk_json.Goals as goal

pub returns : goal.returns
returns c =
    let told = down_to_end c.args.walk.now in
    c.list_of.ensures (map entry_json told) (c.in_ok-values.ensures ∙ ap (map (λ x. data_of (entry_json x))) c.down_to_end.ensures.entries ∙ sym (fused entry_json told))
