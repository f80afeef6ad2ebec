use Rattle.std.proofs.Common.{◌≡◌, ◌∙◌, ℕ, List, subst}
use Rattle.std.specs.Prelude.{IfOk, string_bytes}
use Rattle.pg_answers.specs.AllowedTexts.{allowed_note}
use Rattle.pg_show_picture.specs.Svg.{IsPicture}
use Rattle.pg_tool.proofs.answers.drawn.Goals as goal

pub returns-in_ok-note-in-Cause : goal.returns-in_ok-note-in-Cause
returns-in_ok-note-in-Cause c =
    let note : c.as_str.result.now ≡ allowed_note c.in-Cause.allowed = c.as_str.ensures.value ∙ c.in_ok-note-in-Cause.ensures in
    rw c.in-Cause.is (subst (λ (bs : List ℕ). IfOk c.picture_text.result (λ t. IsPicture c.in-Cause.history.head c.in-Cause.history.events c.in-Cause.explanation bs (string_bytes t))) note c.picture_text.ensures)
