use Rattle.std.proofs.Common.{◌+◌, ℕ, List, sym, subst, take, Vec, Global}
use Rattle.pg_event.specs.declared.event.Event.{Event}
use Rattle.pg_span_refute.specs.declared.words.Assisted.{Assisted}
use Rattle.pg_span_refute.specs.Words.{AreAssistsOf}
use Rattle.pg_span_refute.proofs.Listing.{assist_seen, no_assist_seen}
use Rattle.pg_span_refute.proofs.words.assists_of.Goals as goal
use Rattle.pg_span_refute.proofs.words.assists_of.Goals.{in-Some+in_ok-push, in_default}

pub loop-number-preserved : goal.loop-number-preserved
loop-number-preserved c =
    let events : List Event = c.args.events.now in
    let n : ℕ = c.loop-number.number in
    elim c.match-flags_set.branch [
      | in-Some+in_ok-push w ↦
          subst (λ (v : Vec Assisted Global). AreAssistsOf (take (n + 1) events) c.args.address v.items) (sym w.assists-is)
          (subst (AreAssistsOf (take (n + 1) events) c.args.address) (sym w.in_ok-push.ensures.items)
          (assist_seen events c.args.address n c.loop-number.assists.items c.index-events-number.result w.in-Some.dirty c.loop-number-test.true c.index-events-number.is c.loop-number.invariant w.in-Some.ensures.some))
      | in_default w ↦
          subst (λ (v : Vec Assisted Global). AreAssistsOf (take (n + 1) events) c.args.address v.items) (sym w.assists-is)
          (no_assist_seen events c.args.address n c.loop-number.assists.items c.index-events-number.result c.loop-number-test.true c.index-events-number.is c.loop-number.invariant w.in_default.ensures.none)
    ]
