use Rattle.pg_check.proofs.stems.keep_stem.Goals as goal

pub returns : goal.returns
returns c = c.put.ensures c.args.past.now c.args.number c.requires.stem (c.make_room.ensures c.args.past.now c.args.number c.requires.stems)
