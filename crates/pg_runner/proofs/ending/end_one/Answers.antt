use Rattle.std.proofs.Common.{◌∙◌, map, refl}
use Rattle.pg_guest.specs.Held.{seen}
use Rattle.pg_runner.proofs.AfterTurns.{others_stay, stay_on}
use Rattle.pg_runner.proofs.Beginnings.{begins_itself, begins_on}
use Rattle.pg_runner.proofs.ending.end_one.Goals as goal

pub loop-init : goal.loop-init
loop-init c = record { script = c.requires.script; count = refl; grows = begins_itself c.args.board.now.world.events; others = λ q away. refl }

pub returns-in-Ended-clause-script : goal.returns-in-Ended-clause-script
returns-in-Ended-clause-script c = c.turn.ensures.script c.args.script.now c.loop.invariant.script

pub returns-in-Ended-clause-grows : goal.returns-in-Ended-clause-grows
returns-in-Ended-clause-grows c = begins_on c.args.board.now.world.events c.loop.board.world.events c.turn.new.self.world.events c.loop.invariant.grows c.turn.ensures.grows

pub returns-in-Ended-clause-others : goal.returns-in-Ended-clause-others
returns-in-Ended-clause-others c =
    stay_on c.args.p (map seen c.args.board.now.processors) (map seen c.loop.board.processors) (map seen c.turn.new.self.processors) c.loop.invariant.others
    (others_stay c.loop.board.world c.turn.new.self.world (map seen c.loop.board.processors) (map seen c.turn.new.self.processors) c.args.p c.turn.result c.turn.ensures.turn)

pub returns-in-Stopped-Memory-clause-script : goal.returns-in-Stopped-Memory-clause-script
returns-in-Stopped-Memory-clause-script c = c.turn.ensures.script c.args.script.now c.loop.invariant.script

pub returns-in-Stopped-Memory-clause-grows : goal.returns-in-Stopped-Memory-clause-grows
returns-in-Stopped-Memory-clause-grows c = begins_on c.args.board.now.world.events c.loop.board.world.events c.turn.new.self.world.events c.loop.invariant.grows c.turn.ensures.grows

pub returns-in-Stopped-Memory-clause-others : goal.returns-in-Stopped-Memory-clause-others
returns-in-Stopped-Memory-clause-others c =
    stay_on c.args.p (map seen c.args.board.now.processors) (map seen c.loop.board.processors) (map seen c.turn.new.self.processors) c.loop.invariant.others
    (others_stay c.loop.board.world c.turn.new.self.world (map seen c.loop.board.processors) (map seen c.turn.new.self.processors) c.args.p c.turn.result c.turn.ensures.turn)

pub returns-in-Stopped-Full-clause-script : goal.returns-in-Stopped-Full-clause-script
returns-in-Stopped-Full-clause-script c = c.turn.ensures.script c.args.script.now c.loop.invariant.script

pub returns-in-Stopped-Full-clause-grows : goal.returns-in-Stopped-Full-clause-grows
returns-in-Stopped-Full-clause-grows c = begins_on c.args.board.now.world.events c.loop.board.world.events c.turn.new.self.world.events c.loop.invariant.grows c.turn.ensures.grows

pub returns-in-Stopped-Full-clause-others : goal.returns-in-Stopped-Full-clause-others
returns-in-Stopped-Full-clause-others c =
    stay_on c.args.p (map seen c.args.board.now.processors) (map seen c.loop.board.processors) (map seen c.turn.new.self.processors) c.loop.invariant.others
    (others_stay c.loop.board.world c.turn.new.self.world (map seen c.loop.board.processors) (map seen c.turn.new.self.processors) c.args.p c.turn.result c.turn.ensures.turn)

pub loop-preserved : goal.loop-preserved
loop-preserved c = record {
  script = c.turn.ensures.script c.args.script.now c.loop.invariant.script;
  count = c.turn.ensures.count ∙ c.loop.invariant.count;
  grows = begins_on c.args.board.now.world.events c.loop.board.world.events c.turn.new.self.world.events c.loop.invariant.grows c.turn.ensures.grows;
  others =
      stay_on c.args.p (map seen c.args.board.now.processors) (map seen c.loop.board.processors) (map seen c.turn.new.self.processors) c.loop.invariant.others
      (others_stay c.loop.board.world c.turn.new.self.world (map seen c.loop.board.processors) (map seen c.turn.new.self.processors) c.args.p c.turn.result c.turn.ensures.turn);
}
