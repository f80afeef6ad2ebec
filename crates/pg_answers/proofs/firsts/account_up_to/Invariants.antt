use Rattle.std.proofs.Common.{ℕ, List, Option}
use Rattle.pg_answers.specs.Accounts.{IsAccounting}
use Rattle.pg_answers.proofs.firsts.account_up_to.Given as goal

abbrev pub invariant-loop : goal.invariant-loop
invariant-loop g l =
    ((start : Option (List ℕ)) × (f : ℕ) × IsAccounting g.R.Source start f (l.reader.unread, l.source) l.reader.stage l.account l.counter)
    × ((start : Option (List ℕ)) (f : ℕ) → IsAccounting g.R.Source start f (l.fn.reader.unread, l.fn.source) l.fn.reader.stage l.fn.account 0
    → IsAccounting g.R.Source start f (l.reader.unread, l.source) l.reader.stage l.account l.counter)
