use Rattle.pg_explain.proofs.text.push_last.Goals as goal

pub returns-in-Some : goal.returns-in-Some
returns-in-Some c = rw (c.in-Some.is, ← c.as_slice.ensures.moments) c.push_listed.ensures

pub returns-in-None : goal.returns-in-None
returns-in-None c = rw c.in-None.is c.writeln.ensures.bytes
