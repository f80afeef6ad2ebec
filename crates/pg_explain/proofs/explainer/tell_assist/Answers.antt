use Rattle.std.proofs.Common.{◌≡◌, List, map, ap, sym, subst, ◌∙◌}
use Rattle.pg_event.specs.declared.event.Event.{Event}
use Rattle.std.specs.List.{AllByRecursion}
use Rattle.pg_event.specs.Heads.{Head}
use Rattle.pg_event.specs.Spelling.{Recorded}
use Rattle.pg_event.specs.Walk.{Reading}
use Rattle.pg_event.specs.Witness.{failing_assist}
use Rattle.pg_chain.specs.declared.steps.EntryRead.{EntryRead}
use Rattle.pg_chain.specs.Walked.{reading_of}
use Rattle.pg_explain.specs.Findings.{assist_finding, readings_by}
use Rattle.pg_explain.specs.Walk.{IsTold, reading_at}
use Rattle.pg_explain.proofs.Reasons.{assist_reasons, assist_found, told_none, told_some}
use Rattle.pg_explain.proofs.explainer.tell_assist.Goals as goal

pub returns-in-None : goal.returns-in-None
returns-in-None c =
    let head : Head = c.args.history.now.head in
    let events : List Event = c.args.history.now.events in
    let ws = c.args.moments.now in
    let x = c.args.update.now in
    let rs : List Reading = map reading_of c.deref.result.now in
    let read : rs ≡ readings_by head events x.p x.la ws = ap (λ (ys : List EntryRead). map reading_of ys) c.deref.ensures.value ∙ c.in_ok-steps.ensures.read ∙ ap (λ (r : Recorded). readings_by r.head r.events x.p x.la ws) c.of-seen.ensures in
    told_none c.mark_finding.result (assist_finding head events x ws) (failing_assist head events x ws)
    (assist_found head events x ws c.first_tag-first.result rs c.mark_finding.result c.requires.some c.first_tag-first.ensures read c.mark_finding.ensures)
    (assist_reasons head events x ws) c.in-None.is

pub returns : goal.returns
returns c =
    let head : Head = c.args.history.now.head in
    let events : List Event = c.args.history.now.events in
    let ws = c.args.moments.now in
    let x = c.args.update.now in
    let rs : List Reading = map reading_of c.deref.result.now in
    let read : rs ≡ readings_by head events x.p x.la ws = ap (λ (ys : List EntryRead). map reading_of ys) c.deref.ensures.value ∙ c.in_ok-steps.ensures.read ∙ ap (λ (r : Recorded). readings_by r.head r.events x.p x.la ws) c.of-seen.ensures in
    let found : c.mark_finding.result ≡ assist_finding head events x ws = assist_found head events x ws c.first_tag-first.result rs c.mark_finding.result c.requires.some c.first_tag-first.ensures read c.mark_finding.ensures in
    let walk : map reading_at c.in_ok-walk-in-Some.walk.items ≡ readings_by head events x.p x.la ws =
    c.in_ok-walk-in-Some.ensures.read ∙ (ap (λ (ys : List EntryRead). map reading_of ys) c.deref-in-Some.ensures.value ∙ c.in_ok-steps.ensures.read ∙ ap (λ (r : Recorded). readings_by r.head r.events x.p x.la ws) c.of-seen.ensures) in (
      told_some c.mark_finding.result (assist_finding head events x ws) (failing_assist head events x ws) c.in-Some.finding found (assist_reasons head events x ws) c.in-Some.is,
      sym found ∙ c.in-Some.is,
      record { read = walk; told = subst (λ (r : Recorded). AllByRecursion (IsTold r.head r.events x.p) c.in_ok-walk-in-Some.walk.items) c.of-seen.ensures c.in_ok-walk-in-Some.ensures.told },
    )
