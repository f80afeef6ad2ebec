use Rattle.std.proofs.Common.{◌≡◌, ◌⊎◌, Bool, true, false, inl, inr}
use mathlib.Core.Bool.{beq}
use Rattle.pg_span_run.specs.Orders.{MustPrecede}
use Rattle.pg_span_refute.specs.declared.words.Assisted.{Assisted}
use Rattle.pg_span_refute.specs.Memory.{IsToCome}
use Rattle.pg_span_refute.proofs.Taken.{in_get, one_more_get}
use Rattle.pg_span_refute.proofs.words.may_be_set.Goals as goal
use Rattle.pg_span_refute.proofs.words.may_be_set.Goals.{else-assist-dirty-via-then-assist-dirty+then-not-is_to_come+else-not-must_precede, else-assist-dirty-via-then-assist-dirty+else-not-is_to_come, else-assist-dirty-via-else-assist-dirty}

not_alike : (x y : Bool) → beq x y ≡ false → x ≡ y → ⊥
not_alike true true h e = absurd (cc)
not_alike true false h e = absurd (cc)
not_alike false true h e = absurd (cc)
not_alike false false h e = absurd (cc)

pub is_to_come-requires : goal.is_to_come-requires
is_to_come-requires c = c.requires.assists _ (in_get c.args.assists.now c.loop-assist.assist-index (record { number = 0; dirty = false }) c.loop-assist-test.true)

pub loop-assist-preserved : goal.loop-assist-preserved
loop-assist-preserved c =
    one_more_get (λ (x : Assisted). x.dirty ≡ c.args.dirty → IsToCome c.args.run.now c.args.slot x.number ⊎ MustPrecede c.args.run.now x.number c.args.write)
    c.args.assists.now c.loop-assist.assist-index (record { number = 0; dirty = false }) c.loop-assist-test.true c.loop-assist.invariant
    (λ same. elim c.else-assist-dirty.branch [
      | else-assist-dirty-via-then-assist-dirty+then-not-is_to_come+else-not-must_precede w ↦ inr (w.must_precede.ensures.0 w.if-not-must_precede.false)
      | else-assist-dirty-via-then-assist-dirty+else-not-is_to_come w ↦ inl (w.is_to_come.ensures.0 w.if-not-is_to_come.false)
      | else-assist-dirty-via-else-assist-dirty w ↦ absurd (not_alike _ _ w.if-assist-dirty.false same)
    ])
