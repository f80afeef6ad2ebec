use Rattle.std.proofs.Common.{◌+◌, ℕ, List, sym, subst, take, Vec, Global}
use Rattle.pg_event.specs.declared.event.Event.{Event}
use Rattle.pg_span_refute.specs.declared.words.Written.{Written}
use Rattle.pg_span_refute.specs.Words.{AreWritesTo}
use Rattle.pg_span_refute.proofs.Listing.{write_seen, other_seen}
use Rattle.pg_span_refute.proofs.words.writes_to.Goals as goal
use Rattle.pg_span_refute.proofs.words.writes_to.Goals.{in-Some+in_ok-push, in_default}

pub loop-number-preserved : goal.loop-number-preserved
loop-number-preserved c =
    let events : List Event = c.args.events.now in
    let n : ℕ = c.loop-number.number in
    elim c.match-value_written.branch [
      | in-Some+in_ok-push w ↦
          subst (λ (v : Vec Written Global). AreWritesTo (take (n + 1) events) c.args.address v.items) (sym w.writes-is)
          (subst (AreWritesTo (take (n + 1) events) c.args.address) (sym w.in_ok-push.ensures.items)
          (write_seen events c.args.address n c.loop-number.writes.items c.index-events-number.result w.in-Some.value c.loop-number-test.true c.index-events-number.is c.loop-number.invariant w.in-Some.ensures.some))
      | in_default w ↦
          subst (λ (v : Vec Written Global). AreWritesTo (take (n + 1) events) c.args.address v.items) (sym w.writes-is)
          (other_seen events c.args.address n c.loop-number.writes.items c.index-events-number.result c.loop-number-test.true c.index-events-number.is c.loop-number.invariant w.in_default.ensures.none)
    ]
