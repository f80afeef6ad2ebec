use Rattle.std.proofs.lemmas.Result.{on_ok_weaker}
use Rattle.pg_reach.proofs.Rooms.{added_covered, added_room}
use Rattle.pg_reach.proofs.reaches.Reaches.add.Goals as goal

pub returns-then-not-make_room : goal.returns-then-not-make_room
returns-then-not-make_room c =
    let covered = c.make_room.ensures.covered c.if-not-make_room.true in
    added_covered c.args.freshest c.args.self.now c.make_room.new.self c.args.reach covered.0 covered.1

pub returns : goal.returns
returns c = on_ok_weaker c.push.result (λ same. added_room c.args.freshest c.args.self.now c.make_room.new.self c.push.new.self c.args.reach (c.make_room.ensures.room c.if-not-make_room.false) same) c.push.ensures
