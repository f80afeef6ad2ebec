use Rattle.std.proofs.Common.{◌≡◌, ℕ, Bool, List, ◌++◌, refl, ap, ◌∙◌, append_assoc}
use Rattle.std.specs.List.{flat_map}
use Rattle.pg_event.specs.Spelling.{start_bytes}
use Rattle.pg_span_run.specs.Spelling.{spans_settings_bytes}
use Rattle.pg_span_run.proofs.spelling.add_header.Goals as goal

pub returns : goal.returns
returns c =
    let head = c.args.header.now in
    let old : List ℕ = c.args.bytes.now.items in
    let starts : List (ℕ × Bool) = c.deref.result.now in
    let seen : starts ≡ head.processors = rw (c.deref.ensures.value, ← c.header.view_is) refl in
    c.in_ok-add_starts.ensures
    ∙ ap (λ (l : List ℕ). l ++ flat_map start_bytes starts) c.in_ok-add_settings.ensures
    ∙ ap (λ (xs : List (ℕ × Bool)). (old ++ spans_settings_bytes head) ++ flat_map start_bytes xs) seen
    ∙ append_assoc old (spans_settings_bytes head) (flat_map start_bytes head.processors)
