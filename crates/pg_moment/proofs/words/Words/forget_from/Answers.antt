use Rattle.pg_moment.proofs.Lines.{AreWhole-cut, AreCut-lines}
use Rattle.pg_moment.proofs.words.Words.forget_from.Goals as goal

pub invariant_of-self : goal.invariant_of-self
invariant_of-self c =
    rw c.cut_all.ensures (AreWhole-cut c.self.inside.others.log.items c.args.moment c.self.inside.others.lists.entries c.cut_lists.new.lists.entries c.self.inside.lines.entries c.self.invariant c.cut_lists.ensures)

pub returns : goal.returns
returns c =
    rw (← c.self.view_is, c.cut_all.ensures) (AreCut-lines c.self.inside.others.log.items c.args.moment c.self.inside.others.lists.entries c.cut_lists.new.lists.entries c.self.inside.lines.entries c.self.invariant c.cut_lists.ensures)
