use Rattle.std.proofs.Common.{sym, ◌∙◌}
use Rattle.pg_chain.proofs.Notes.{IsPast-answered}
use Rattle.pg_chain.proofs.past.Past.note_later.Goals as goal

pub returns-then-changes_nothing-clause-ok : goal.returns-then-changes_nothing-clause-ok
returns-then-changes_nothing-clause-ok c = λ head events h count.
    IsPast-answered c.args.self.now head events c.args.event.now (sym c.changes_nothing.ensures ∙ c.if-changes_nothing.true) h
