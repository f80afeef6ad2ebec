use Rattle.std.proofs.Common.{◌≡◌, ◌∙◌, [], List, length, ap, sym, subst, arith}
use Rattle.pg_event.specs.declared.event.Event.{Event}
use Rattle.pg_event.specs.Heads.{Head}
use Rattle.pg_event.specs.Spelling.{Recorded}
use Rattle.pg_check.specs.Judging.{IsJudged}
use Rattle.pg_check.specs.Kept.{AreWellFormed}
use Rattle.pg_report.specs.Text.{report_of}
use Rattle.pg_runner.proofs.record_report.report_of_record.Goals as goal

pub judge-requires : goal.judge-requires
judge-requires c =
    let judged = c.in_ok-judged.judged in
    let is = c.in_ok-judged.ensures in
    record {
      before = [];
      judged = subst (λ (head : Head). IsJudged judged head []) (sym is.settings) is;
      well = subst (λ (events : List Event). AreWellFormed judged.head events) (sym c.deref.ensures.value)
          (subst (λ (head : Head). AreWellFormed head c.args.trace.now.events.items) (sym (is.settings ∙ c.in_ok-clone.ensures)) c.requires.well);
      limit = omega (arith, c.requires.count, ap (λ (events : List Event). length events) c.deref.ensures.value);
    }

pub returns-clause-ok : goal.returns-clause-ok
returns-clause-ok c =
    let of : Head → List Event → Recorded = λ head events. record { head = head; events = events } in
    let head = c.in_ok-clone.field-0 in
    c.report_of_judged.ensures head c.deref.result.now (c.in_ok-judge.ensures.ok head [] c.in_ok-judged.ensures)
    ∙ ap (λ (h : Head). report_of (of h c.deref.result.now)) c.in_ok-clone.ensures
    ∙ ap (λ (events : List Event). report_of (of c.args.trace.now.header events)) c.deref.ensures.value
