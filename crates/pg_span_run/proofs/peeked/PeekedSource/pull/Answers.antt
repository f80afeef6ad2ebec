use Rattle.std.proofs.Common.{◌≡◌, ◌∙◌, ◌<◌, sym, length, take, arith}
use Rattle.std.proofs.lemmas.Bool.{eqb-true, eqb-false}
use Rattle.pg_span_run.proofs.Peeking.{given, none_waits}
use Rattle.pg_span_run.proofs.peeked.PeekedSource.pull.Goals as goal

pub returns-then-is_empty-clause-bytes : goal.returns-then-is_empty-clause-bytes
returns-then-is_empty-clause-bytes g c =
    let unread = c.args.self.now.unread in
    let none : length unread ≡ 0 = eqb-true _ _ (sym (rw c.as_slice.ensures at c.is_empty.ensures) ∙ c.if-is_empty.true) in
    rw (none_waits unread (g.R.Source.left c.args.self.now.inner) none, none_waits unread (g.R.Source.left c.pull.new.self) none) c.pull.ensures.bytes

pub returns-clause-bytes : goal.returns-clause-bytes
returns-clause-bytes g c =
    let unread = c.args.self.now.unread in
    let some = eqb-false _ _ (sym (rw c.as_slice.ensures at c.is_empty.ensures) ∙ c.if-is_empty.false) in
    let waits : 0 < length unread = omega (arith, some) in
    (given unread c.give.new.self (take c.give.result c.give.new.out) (g.R.Source.left c.args.self.now.inner) c.give.ensures.bytes, λ z room. absurd (omega (arith, z, c.give.ensures.some room waits)))
