use Rattle.pg_check.proofs.places.WalkCache.make_room.Goals as goal

pub returns-then-len-count-clause-walks : goal.returns-then-len-count-clause-walks
returns-then-len-count-clause-walks c = λ past limit have. c.empty_slots.ensures past limit
