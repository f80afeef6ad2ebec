use Rattle.pg_check.proofs.tip.keep_walk.Goals as goal

pub returns-then-count_walk-clause-walks : goal.returns-then-count_walk-clause-walks
returns-then-count_walk-clause-walks c =
    let past = c.args.past.now in
    let number = c.args.number in
    let room = c.room_for-place.ensures.walks past number (c.make_room.ensures.walks past number c.requires.walks) in
    c.grow.ensures.walks past number (rw (c.count_walk.ensures.slots) (c.put.ensures.walks past number c.requires.slot room))

pub returns-else-count_walk-clause-walks : goal.returns-else-count_walk-clause-walks
returns-else-count_walk-clause-walks c =
    let past = c.args.past.now in
    let number = c.args.number in
    let room = c.room_for-place.ensures.walks past number (c.make_room.ensures.walks past number c.requires.walks) in
    rw (c.count_walk.ensures.slots) (c.put.ensures.walks past number c.requires.slot room)
