use Rattle.std.proofs.Common.{◌≡◌, ◌≤◌, ◌∙◌, Option, None, length, ap, sym, arith, rules}
use Rattle.std.specs.Prelude.{slice_get}
use Rattle.std.proofs.lemmas.Option.{slice_get_past}
use Rattle.serde_json.specs.Data as json
use Rattle.serde_json.specs.View.{view}
use Rattle.serde_json.specs.declared.value.Value.{Null, the_lemmas}
use Rattle.pg_event.specs.declared.event.Event.{Event}
use Rattle.pg_span_run.specs.Orders.{Spanned}
use Rattle.pg_show_json.specs.Tree.{data_of}
use Rattle.pg_show_json_answers.specs.Causes.{cause_at}
use Rattle.pg_show_json_answers.proofs.cause.cause_json.Goals as goal

pub returns-else-number-len : goal.returns-else-number-len
returns-else-number-len c =
    let s : Spanned = c.args.run.now in
    let n = c.args.number in
    let past : length s.events ≤ n = omega arith in
    let at : slice_get s.events n ≡ None = slice_get_past s.events n past in
    let is : view Null ≡ json.null = search (rules, the_lemmas) in
    is ∙ ap (λ (o : Option Event). data_of (cause_at s n o)) (sym at)
