use Rattle.std.proofs.Common.{◌≡◌, Bool, true, Ok, inl, refl, ap, ◌∙◌}
use Rattle.pg_span_run.specs.Versions.{says_spans}
use Rattle.pg_tool.proofs.Looking.{finds_ok}
use Rattle.pg_tool.proofs.records.do_of_record.Goals as goal

pub returns-in-Ok-true : goal.returns-in-Ok-true
returns-in-Ok-true g c =
    let is : c.says_spans.result ≡ Ok true = c.in-Ok-true.is ∙ ap (λ (b : Bool). Ok b) c.in-Ok-true.field-0-test in
    let input = c.args.input.now in
    let looked = c.says_spans.new.self in
    let found = finds_ok g.R.Source says_spans (input.unread, input.inner) (looked.unread, looked.inner) c.says_spans.result true is c.says_spans.ensures in
    inl (found.0, _, record { bytes = found.1; failures = found.2; new = refl }, c.do_of_unordered.ensures)
