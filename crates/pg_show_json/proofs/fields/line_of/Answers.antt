use Rattle.std.proofs.Common.{◌∙◌, ap, codes}
use Rattle.serde_json.specs.Data as json
use Rattle.serde_json.specs.Data.{put}
use Rattle.serde_json.proofs.Views.{view-Object}
use Rattle.pg_show_json.specs.Tree.{field, count, object, format, data_of}
use Rattle.pg_show_json.proofs.fields.line_of.Goals as goal

pub returns : goal.returns
returns c = λ told e.
    let put_in = c.in_ok-put_count.ensures ∙ ap (put (codes "format") (data_of (count format))) e in
    c.text_line.ensures (object (field (codes "format") (count format) told)) (view-Object c.put_count.new.fields ∙ ap json.object put_in)
