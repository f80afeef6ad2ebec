use Rattle.pg_check.proofs.stems.make_room.Goals as goal

pub returns-then-len-count : goal.returns-then-len-count
returns-then-len-count c = λ past limit have. c.empty_stems.ensures past limit
