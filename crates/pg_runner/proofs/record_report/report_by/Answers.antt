use Rattle.std.proofs.Common.{◌∙◌, IfSome, List, Option, refl, sym, ap, subst}
use Rattle.pg_check.specs.Judging.{Findings}
use Rattle.pg_event.specs.declared.event.Event.{Event}
use Rattle.pg_event.specs.Heads.{Head}
use Rattle.pg_event.specs.Spelling.{IsRecord, Recorded}
use Rattle.pg_report.specs.declared.team.Team.{Team}
use Rattle.pg_report.specs.Text.{report_of}
use Rattle.pg_runner.specs.Live.{IsBegun}
use Rattle.pg_runner.proofs.record_report.report_by.Goals as goal

abbrev of : Head → List Event → Recorded
of head events = record { head = head; events = events }

pub judge_rest-requires-clause-begun : goal.judge_rest-requires-clause-begun
judge_rest-requires-clause-begun g c = λ _ _.
    let events = c.args.trace.now.events.items in
    let begun : IsBegun c.in-Some.team events = subst (λ (o : Option Team). IfSome o (λ t. IsBegun t events)) c.in-Some.is c.requires.begun in
    subst (IsBegun c.in-Some.team) (sym c.deref.ensures.value) begun

pub judge_rest-requires-clause-record : goal.judge_rest-requires-clause-record
judge_rest-requires-clause-record g c = λ _ _.
    let head = sym (c.if-not-is_same.ensures.0 refl) ∙ c.header.ensures.header ∙ ap (λ (f : Findings). f.head) c.judged.ensures in
    subst (λ (es : List Event). IsRecord (of c.in-Some.team.judged.head es)) (sym c.deref.ensures.value) (subst (λ (h : Head). IsRecord (of h c.args.trace.now.events.items)) head c.requires.record)

pub returns-clause-ok : goal.returns-clause-ok
returns-clause-ok g c =
    let head = sym (c.if-not-is_same.ensures.0 refl) ∙ c.header.ensures.header ∙ ap (λ (f : Findings). f.head) c.judged.ensures in
    let same = ap (λ (h : Head). report_of (of h c.deref.result.now)) (sym head) ∙ ap (λ (es : List Event). report_of (of c.args.trace.now.header es)) c.deref.ensures.value in
    rw same at c.judge_rest.ensures.ok
