use Rattle.std.proofs.Common.{◌≡◌, ◌∙◌, length, map, get_or, ap, sym, subst, arith, ◌<◌, ◌≤◌}
use Rattle.std.proofs.lemmas.List.{length-map}
use Rattle.pg_guest.specs.Held.{seen}
use Rattle.pg_guest.specs.declared.advance.Advance.TheVariants.{Stopped}
use Rattle.pg_guest.specs.declared.advance.Stop.TheVariants as stops
use Rattle.pg_runner.proofs.AtLines.{line_in, within}
use Rattle.pg_runner.proofs.ByTurns.{Leaves, none_is_near, one_turn_leaves, one_turn_nearer, still_going, still_there}
use Rattle.pg_runner.proofs.single.carry_out.Goals as goal

pub loop-init : goal.loop-init
loop-init c = record {
  placed = c.requires.placed;
  before = c.requires.before;
  near = none_is_near (get_or c.order.result.now c.args.line 0) c.args.world.now (map seen c.args.processors.now);
}

pub turn-requires-clause-placed : goal.turn-requires-clause-placed
turn-requires-clause-placed c = c.loop.invariant.placed

pub turn-requires-clause-within : goal.turn-requires-clause-within
turn-requires-clause-within c =
    within c.args.script.now c.order.result.now c.args.line c.loop.world c.loop.processors c.order.ensures.within
    (subst (λ n. c.args.line < n) (sym (ap length c.order.ensures.order ∙ length-map c.args.script.now.tasks (λ t. t.p))) c.requires.line) c.loop.invariant.before

pub returns-in-Done-clause-after : goal.returns-in-Done-clause-after
returns-in-Done-clause-after c =
    let script = c.args.script.now in
    let line = line_in c.order.result.now script.tasks c.args.line c.order.ensures.order c.requires.line in
    subst (Leaves script c.args.line c.turn.new.world (map seen c.turn.new.processors)) c.in-Done.is
    (one_turn_leaves script c.args.line c.loop.world (map seen c.loop.processors) line.task _ c.turn.result c.turn.new.world (map seen c.turn.new.processors) c.order.ensures.kept c.loop.invariant.before line.is line.own c.turn.ensures.turned)

pub unreachable-requires : goal.unreachable-requires
unreachable-requires c =
    let script = c.args.script.now in
    let line = line_in c.order.result.now script.tasks c.args.line c.order.ensures.order c.requires.line in
    let why : stops.Full ≡ stops.Memory = subst (Leaves script c.args.line c.turn.new.world (map seen c.turn.new.processors)) (c.in-Stopped-Full.is ∙ ap Stopped c.in-Stopped-Full.field-0-is)
    (one_turn_leaves script c.args.line c.loop.world (map seen c.loop.processors) line.task _ c.turn.result c.turn.new.world (map seen c.turn.new.processors) c.order.ensures.kept c.loop.invariant.before line.is line.own c.turn.ensures.turned) in
    absurd (cc)

pub unreachable-requires-in-Stopped-Finished : goal.unreachable-requires-in-Stopped-Finished
unreachable-requires-in-Stopped-Finished c =
    let script = c.args.script.now in
    let line = line_in c.order.result.now script.tasks c.args.line c.order.ensures.order c.requires.line in
    let why : stops.Finished ≡ stops.Memory = subst (Leaves script c.args.line c.turn.new.world (map seen c.turn.new.processors)) (c.in-Stopped-Finished.is ∙ ap Stopped c.in-Stopped-Finished.field-0-is)
    (one_turn_leaves script c.args.line c.loop.world (map seen c.loop.processors) line.task _ c.turn.result c.turn.new.world (map seen c.turn.new.processors) c.order.ensures.kept c.loop.invariant.before line.is line.own c.turn.ensures.turned) in
    absurd (cc)

pub unreachable-requires-in-Ended : goal.unreachable-requires-in-Ended
unreachable-requires-in-Ended c =
    let script = c.args.script.now in
    let line = line_in c.order.result.now script.tasks c.args.line c.order.ensures.order c.requires.line in
    subst (Leaves script c.args.line c.turn.new.world (map seen c.turn.new.processors)) c.in-Ended.is
    (one_turn_leaves script c.args.line c.loop.world (map seen c.loop.processors) line.task _ c.turn.result c.turn.new.world (map seen c.turn.new.processors) c.order.ensures.kept c.loop.invariant.before line.is line.own c.turn.ensures.turned)

pub loop-preserved : goal.loop-preserved
loop-preserved c =
    let script = c.args.script.now in
    let k = c.args.line in
    let xs = map seen c.loop.processors in
    let ys = map seen c.turn.new.processors in
    let line = line_in c.order.result.now script.tasks k c.order.ensures.order c.requires.line in
    let p = get_or c.order.result.now k 0 in
    let kept = c.order.ensures.kept in
    let before = c.loop.invariant.before in
    let run = c.turn.ensures.turned in record {
      placed = c.turn.ensures.placed;
      before = still_there script k c.turn.new.world ys c.turn.result c.in-Read.is (one_turn_leaves script k c.loop.world xs line.task p c.turn.result c.turn.new.world ys kept before line.is line.own run);
      near = one_turn_nearer script k c.loop.counter c.loop.world xs line.task p c.turn.result c.turn.new.world ys kept before line.is line.own run (still_going c.turn.result c.in-Read.is) c.loop.invariant.near;
    }

pub unreachable-requires-2 : goal.unreachable-requires-2
unreachable-requires-2 c = let most : c.loop.counter ≤ 8 = c.loop.invariant.near.most in omega (arith, most)
