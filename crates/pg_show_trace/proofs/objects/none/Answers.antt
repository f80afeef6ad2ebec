use Rattle.std.proofs.Common.{List, ap}
use Rattle.serde_json.specs.View.{members_view}
use Rattle.serde_json.proofs.Views.{Entry}
use Rattle.pg_show_trace.proofs.objects.none.Goals as goal

pub returns : goal.returns
returns c = ap (λ (es : List Entry). members_view es) c.new.ensures.empty
