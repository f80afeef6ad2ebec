use Rattle.pg_show_picture.proofs.shapes.push_arrow.Goals as goal

pub returns : goal.returns
returns c = rw (← c.pen_of-pen.ensures) c.writeln.ensures.bytes
