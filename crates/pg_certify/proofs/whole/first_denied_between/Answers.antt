use Rattle.std.proofs.Common.{◌≡◌, ℕ, ◌<◌, List, length, arith, ◌∙◌, sym, subst}
use Rattle.pg_event.specs.declared.event.Event.{Event}
use Rattle.pg_event.specs.Heads.{Head}
use Rattle.pg_event.specs.Form.{processor_of}
use Rattle.pg_event.specs.Spelling.{Recorded}
use Rattle.pg_check.proofs.Known.{processor-known}
use Rattle.pg_certify.specs.Segments.{IsBetween}
use Rattle.pg_certify.proofs.Founds.{found_at}
use Rattle.pg_certify.proofs.Segments.{FoundAt, denied_here, each_found, none_denied}
use Rattle.pg_certify.proofs.whole.first_denied_between.Goals as goal

pub see-requires : goal.see-requires
see-requires c =
    let same : c.find.new.self ≡ c.args.history.now = c.find.ensures.same ∙ c.loop-i.invariant.same ∙ c.requires.run in
    subst (λ (q : Recorded). processor_of c.event_at-asked.result.now < length q.head.processors) (sym same) (processor-known c.args.history.now.head c.event_at-asked.result.now c.event_at-asked.ensures.well)

pub loop-i-preserved : goal.loop-i-preserved
loop-i-preserved c =
    let head : Head = c.args.history.now.head in
    let events : List Event = c.args.history.now.events in
    let i : ℕ = c.loop-i.i in
    let was : c.loop-i.certifier ≡ c.args.history.now = c.loop-i.invariant.same ∙ c.requires.run in
    record {
      same = c.see.ensures ∙ c.find.ensures.same ∙ c.loop-i.invariant.same;
      found = each_found (IsBetween c.args.from c.args.to) (FoundAt head events) i c.loop-i.invariant.found
          (c.in-Some.field-0, found_at c.args.history.now c.loop-i.certifier i c.event_at-asked.result.now c.in_ok-find.field-0 c.in-Some.field-0 was c.event_at-asked.ensures.there c.in-Some.is c.in_ok-find.ensures.found);
    }

pub returns-in-None : goal.returns-in-None
returns-in-None c = record {
  same = c.find.ensures.same ∙ c.loop-i.invariant.same;
  denied =
      denied_here (IsBetween c.args.from c.args.to) c.args.history.now c.loop-i.certifier c.loop-i.i c.event_at-asked.result.now c.in_ok-find.field-0 (c.loop-i.invariant.same ∙ c.requires.run)
      (omega (arith, c.loop-i-test.true, c.requires.within)) (c.loop-i.auto.i, c.loop-i-test.true) c.event_at-asked.ensures.there c.in-None.is c.in_ok-find.ensures.names c.in_ok-find.ensures.none c.loop-i.invariant.found;
}

pub returns : goal.returns
returns c = record {
  same = c.loop-i.invariant.same;
  denied =
      none_denied (IsBetween c.args.from c.args.to) c.args.history.now.head c.args.history.now.events
      (λ k mine. c.loop-i.invariant.found k (omega (arith, mine.1, c.loop-i-test.false)) mine);
}
