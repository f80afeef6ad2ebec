use Rattle.std.proofs.Common.{List, ap, ◌∙◌}
use Rattle.std.proofs.lemmas.Result.{IfOk-weaker}
use Rattle.pg_event.specs.declared.event.Event.{Event}
use Rattle.pg_show_picture.specs.Svg.{svg_text}
use Rattle.pg_show_picture.proofs.painter.picture_text.Goals as goal

pub returns : goal.returns
returns c =
    let l = c.in_ok-layout.layout in
    let all = c.events.ensures.events in
    IfOk-weaker c.svg_text.result _ _ (λ t h. (l, c.in_ok-layout.ensures, h ∙ ap (λ (es : List Event). svg_text es c.args.explanation.now c.args.note.now l) all)) c.svg_text.ensures
