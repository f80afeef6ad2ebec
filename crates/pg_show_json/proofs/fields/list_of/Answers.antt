use Rattle.std.proofs.Common.{◌∙◌, ap, sym}
use Rattle.serde_json.specs.Data.{array}
use Rattle.serde_json.specs.View.{items_of as joined}
use Rattle.serde_json.proofs.Views.{view-Array}
use Rattle.pg_show_json.proofs.Lists.{elements_are}
use Rattle.pg_show_json.proofs.fields.list_of.Goals as goal

pub returns : goal.returns
returns c = λ told e. view-Array c.args.values ∙ ap array (ap joined e ∙ sym (elements_are told))
