use Rattle.std.proofs.Common.{◌≡◌, true, refl, sym, subst, arith}
use Rattle.pg_machine.specs.Machine.{IsIn}
use Rattle.pg_span_refute.specs.declared.words.Written.{Written}
use Rattle.pg_span_refute.specs.Memory.{IsPast}
use Rattle.pg_span_refute.proofs.Taken.{in_get, one_more_get, take_all}
use Rattle.pg_span_refute.proofs.words.is_written.Goals as goal

pub returns-then-is_past : goal.returns-then-is_past
returns-then-is_past c = (
  λ yes. record {
    by = _;
    there = in_get c.args.writes.now c.loop-written.written-index (record { number = 0; value = 0 }) c.loop-written-test.true;
    past = c.is_past.ensures.0 c.if-is_past.true;
  },
  λ is. refl,
)

pub loop-written-preserved : goal.loop-written-preserved
loop-written-preserved c =
    one_more_get (λ (w : Written). IsPast c.args.run.now c.args.slot w.number → ⊥) c.args.writes.now c.loop-written.written-index (record { number = 0; value = 0 }) c.loop-written-test.true
    c.loop-written.invariant
    (λ past.
    let is : c.is_past.result ≡ true = c.is_past.ensures.1 past in
    let isnt = c.if-is_past.false in
    absurd (cc))

pub returns : goal.returns
returns c = (
  λ yes. absurd (cc),
  λ is. absurd (c.loop-written.invariant is.by (subst (IsIn is.by) (sym (take_all c.args.writes.now c.loop-written.written-index (omega (arith, c.loop-written-test.false)))) is.there) is.past),
)
