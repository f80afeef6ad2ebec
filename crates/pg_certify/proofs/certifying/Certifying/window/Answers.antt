use Rattle.std.proofs.Common.{◌≡◌, sym, ◌∙◌, Some, None}
use Rattle.std.proofs.lemmas.Result.{on_ok_weaker}
use Rattle.pg_certify.specs.Windows.{Findings}
use Rattle.pg_certify.proofs.Windows.{findings_low, window_judged, window_passed}
use Rattle.pg_certify.proofs.certifying.Certifying.window.Goals as goal

pub judge-requires-clause-kept : goal.judge-requires-clause-kept
judge-requires-clause-kept c = findings_low c.args.self.now c.args.self.now.kept.head c.requires.before c.requires.certifying

pub returns-in-Some-clause-ok : goal.returns-in-Some-clause-ok
returns-in-Some-clause-ok c = λ head before h.
    let f : Findings = c.args.self.now in
    let some : f.denied ≡ Some c.in-Some.field-0 = sym c.settle.ensures.found ∙ c.in-Some.is in
    window_passed f c.take.new.self head before c.args.events.now c.in-Some.field-0 c.requires some c.take.ensures h

pub returns-in-None-clause-ok : goal.returns-in-None-clause-ok
returns-in-None-clause-ok c = λ head before h.
    let f : Findings = c.args.self.now in
    let none : f.denied ≡ None = sym c.settle.ensures.found ∙ c.in-None.is in
    on_ok_weaker c.judge.result (λ j. window_judged c.witnessed_among_kept.ensures f c.judge.new.self head before c.args.events.now c.requires none j h) c.judge.ensures.ok
