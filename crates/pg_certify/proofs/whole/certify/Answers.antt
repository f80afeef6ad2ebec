use Rattle.std.proofs.Common.{ℕ, ◌+◌, ◌≡◌, ◌<◌, ◌∷◌, ◌++◌, [], List, length, arith, sym, ◌∙◌, subst}
use Rattle.pg_event.specs.declared.event.Event.{Event}
use Rattle.pg_event.specs.Heads.{Head}
use Rattle.pg_event.specs.Form.{processor_of}
use Rattle.pg_event.specs.Spelling.{Recorded}
use Rattle.pg_check.proofs.Known.{processor-known}
use Rattle.pg_run_of.specs.Converse.{HasMoments}
use Rattle.pg_search.specs.Law.{CanBeWitnessed}
use Rattle.pg_certify.specs.Certified.{IsFound}
use Rattle.pg_certify.proofs.Gathered.{UpTo, one_more}
use Rattle.pg_certify.proofs.Founds.{denied_at, found_at, found_can, found_good, each_more, all_found}
use Rattle.pg_certify.proofs.whole.certify.Goals as goal

pub returns-in-None : goal.returns-in-None
returns-in-None c =
    denied_at c.args.history.now c.loop-i.certifier c.loop-i.i c.event_at-asked.result.now c.in_ok-event.field-0 c.loop-i.invariant.same (omega (arith, c.loop-i-test.true, c.len-i-end.ensures.length)) c.event_at-asked.ensures.there c.in-None.is
    c.in_ok-event.ensures.names c.in_ok-event.ensures.none c.loop-i.invariant.before

pub see-requires : goal.see-requires
see-requires c =
    let same : c.find.new.self ≡ c.args.history.now = c.find.ensures.same ∙ c.loop-i.invariant.same in
    subst (λ (q : Recorded). processor_of c.event_at-asked.result.now < length q.head.processors) (sym same) (processor-known c.args.history.now.head c.event_at-asked.result.now c.event_at-asked.ensures.well)

pub loop-i-preserved : goal.loop-i-preserved
loop-i-preserved c =
    let head : Head = c.args.history.now.head in
    let events : List Event = c.args.history.now.events in
    let i : ℕ = c.loop-i.i in
    let x : Event = c.in-Some.event in
    let f : IsFound head events i x = found_at c.args.history.now c.loop-i.certifier i c.event_at-asked.result.now c.in_ok-event.field-0 x c.loop-i.invariant.same c.event_at-asked.ensures.there c.in-Some.is c.in_ok-event.ensures.found in
    let more : UpTo HasMoments head events (i + 1) (c.loop-i.found.items ++ x ∷ []) = one_more HasMoments head events i c.loop-i.found.items x c.loop-i.invariant.found (found_good head events i x f) in
    record {
      same = c.see.ensures ∙ (c.find.ensures.same ∙ c.loop-i.invariant.same);
      found = subst (UpTo HasMoments head events (i + 1)) (sym c.in_ok-push-in-Some.ensures.items) more;
      before = each_more (CanBeWitnessed head events) i c.loop-i.invariant.before (found_can head events i x f);
    }

pub returns : goal.returns
returns c =
    let end : c.loop-i.i ≡ length c.args.history.now.events = omega (arith, c.loop-i-test.false, c.loop-i.auto.i-end, c.len-i-end.ensures.length) in
    all_found c.args.history.now.head c.args.history.now.events c.loop-i.found.items c.loop-i.i end c.loop-i.invariant.found
