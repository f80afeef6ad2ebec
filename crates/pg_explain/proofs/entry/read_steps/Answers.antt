use Rattle.std.proofs.Common.{◌≡◌, ◌+◌, List, ◌∷◌, ◌++◌, get_or, drop, length, map, sym, ap, subst, append_assoc, arith, add-one, drop-cons}
use Rattle.std.proofs.lemmas.List.{length_push, map_push}
use Rattle.pg_event.specs.declared.event.Event.{Event}
use Rattle.pg_event.specs.Heads.{Head}
use Rattle.pg_event.specs.Values.{mem_at}
use Rattle.pg_event.specs.Walk.{Reading, below, readings}
use Rattle.pg_chain.specs.Walked.{reading_of, parent_of}
use Rattle.pg_explain.specs.Findings.{readings_by}
use Rattle.pg_explain.proofs.entry.read_steps.Goals as goal

pub loop-moment-preserved : goal.loop-moment-preserved
loop-moment-preserved c =
    let head : Head = c.args.seen.now.head in
    let events : List Event = c.args.seen.now.events in
    let steps = c.loop-moment.steps.items in
    let i = c.loop-moment.moment-index in
    let moments = c.args.moments.now in
    let pushed = c.in_ok-push.ensures.items in
    let front : drop i moments ≡ get_or moments i 0 ∷ drop (i + 1) moments = rw add-one (drop-cons moments i 0 c.loop-moment-test.true) in
    let was = rw front at c.loop-moment.invariant.read in
    record {
      within = c.parent_after-parent.ensures.within;
      count = omega (arith, length_push steps c.read-step.result, ap length pushed, c.loop-moment.invariant.count);
      read = rw (pushed, map_push reading_of steps c.read-step.result, append_assoc, c.parent_after-parent.ensures.parent, c.below-level.ensures)
          (subst (λ (r : Reading). map reading_of steps ++ r ∷ readings head.cfg.m (mem_at events) c.args.la (below c.loop-moment.level) (parent_of head.cfg.m r).table (parent_of head.cfg.m r).rights (drop (i + 1) moments) ≡ readings_by head events c.args.p c.args.la moments) (sym c.read-step.ensures) was);
    }
