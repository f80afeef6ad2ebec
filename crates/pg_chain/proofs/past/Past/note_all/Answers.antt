use Rattle.std.proofs.Common.{ℕ, ◌<◌, List, ◌++◌, take, sym, subst, ◌∙◌, arith}
use Rattle.std.proofs.lemmas.List.{take_all}
use Rattle.pg_event.specs.declared.event.Event.{Event}
use Rattle.pg_event.specs.Form.{processor_of}
use Rattle.pg_chain.specs.declared.past.Past.{Past}
use Rattle.pg_chain.specs.Standing.{IsPast, processor_count}
use Rattle.pg_chain.proofs.Notes.{processor_count-past, AllByRecursion-read, run_more, run_count}
use Rattle.pg_chain.proofs.past.Past.note_all.Goals as goal

pub note_later-requires-clause-next : goal.note_later-requires-clause-next
note_later-requires-clause-next c = record {
  head = c.requires.next.head;
  events = c.requires.next.events ++ take c.loop-i.i c.args.events.now;
  stands = c.loop-i.invariant.stands c.requires.next.head c.requires.next.events c.requires.next.stands c.requires.next.count;
  count = run_count c.requires.next.events c.args.events.now c.args.first c.loop-i.i c.requires.next.count (omega arith);
}

pub note_later-requires-clause-processor : goal.note_later-requires-clause-processor
note_later-requires-clause-processor c =
    let next = c.requires.next in
    let now = c.loop-i.invariant.stands next.head next.events next.stands next.count in
    subst (λ (n : ℕ). processor_of c.index-events-i.result < n)
    (processor_count-past c.args.self.now next.head next.events next.stands ∙ sym (processor_count-past c.loop-i.self next.head _ now))
    (AllByRecursion-read (λ e. processor_of e < processor_count c.args.self.now) c.args.events.now c.loop-i.i c.index-events-i.result c.requires.processors (omega arith) c.index-events-i.is)

pub returns-in-Err-clause-err : goal.returns-in-Err-clause-err
returns-in-Err-clause-err c = λ head before h count.
    c.forget_from.ensures head before (take c.loop-i.i c.args.events.now)
    (c.in-Err.ensures.err head (before ++ take c.loop-i.i c.args.events.now) (c.loop-i.invariant.stands head before h count)
    (run_count before c.args.events.now c.args.first c.loop-i.i count (omega arith)))
    count

pub loop-i-preserved : goal.loop-i-preserved
loop-i-preserved c = record {
  stands = λ head before h count.
      subst (λ (es : List Event). IsPast c.note_later.new.self head es) (run_more before c.args.events.now c.loop-i.i c.index-events-i.result (omega arith) c.index-events-i.is)
      (c.in_default.ensures.ok head (before ++ take c.loop-i.i c.args.events.now) (c.loop-i.invariant.stands head before h count)
      (run_count before c.args.events.now c.args.first c.loop-i.i count (omega arith)));
}

pub returns-clause-ok : goal.returns-clause-ok
returns-clause-ok c = λ head before h count.
    subst (λ (x : Past). IsPast x head (before ++ c.args.events.now)) (sym c.catch_up.ensures)
    (subst (λ (es : List Event). IsPast c.loop-i.self head (before ++ es)) (take_all c.loop-i.i c.args.events.now (omega arith)) (c.loop-i.invariant.stands head before h count))
