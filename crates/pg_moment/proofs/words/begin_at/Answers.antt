use Rattle.pg_moment.proofs.Lines.{IsAdded-first}
use Rattle.pg_moment.proofs.words.begin_at.Goals as goal

pub returns-clause-ok : goal.returns-clause-ok
returns-clause-ok c = λ log lists.
    IsAdded-first log lists c.args.addr _ c.args.lines.now.entries c.insert.new.self.entries c.with_word.result c.requires.absent
    (rw (c.place_of.ensures.place) at c.with_word.ensures) (rw c.line_of.ensures at c.in_ok-insert.ensures.updates.0)
