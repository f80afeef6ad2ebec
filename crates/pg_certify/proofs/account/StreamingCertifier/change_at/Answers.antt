use Rattle.std.proofs.Common.{◌≡◌, List, Some, ap, sym, ◌∙◌}
use Rattle.std.specs.Prelude.{slice_get}
use Rattle.pg_event.specs.declared.event.Event.{Event}
use Rattle.pg_event.specs.Spelling.{Recorded}
use Rattle.pg_certify.specs.declared.named_events.Numbered.{Numbered}
use Rattle.pg_certify.specs.Windows.{Findings}
use Rattle.pg_certify.specs.Accounts.{Account, whole_of}
use Rattle.pg_certify.proofs.Accounts.{change_whole}
use Rattle.pg_certify.proofs.account.StreamingCertifier.change_at.Goals as goal

pub returns : goal.returns
returns c = λ head events e h there changes.
    let a : Account = c.args.self.now in
    let n = c.args.number in
    let findings : c.self.inside.certifying ≡ a.findings = ap (λ (b : Account). b.findings) c.self.view_is in
    let kept : c.kept.result.now.events ≡ a.findings.kept.events = ap (λ (r : Recorded). r.events) c.kept.ensures ∙ ap (λ (f : Findings). f.kept.events) findings in
    let at : slice_get a.findings.kept.events n ≡ Some c.event_at-kept.result = ap (λ (es : List Event). slice_get es n) (sym kept) ∙ c.event_at-kept.ensures in
    let named : c.as_slice.result.now ≡ a.named = c.as_slice.ensures.value ∙ ap (λ (b : Account). b.named) c.self.view_is in
    change_whole a head events n e c.event_at-kept.result c.whole_of.result h at there changes (c.whole_of.ensures ∙ ap (λ (ns : List Numbered). whole_of ns n c.event_at-kept.result) named)
