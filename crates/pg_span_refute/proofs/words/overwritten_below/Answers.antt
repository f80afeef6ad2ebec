use Rattle.std.proofs.Common.{◌≡◌, ◌<◌, max, get_or, ap, ◌∙◌, arith, inl, inr}
use Rattle.std.proofs.lemmas.Bool.{cases_lt}
use Rattle.pg_span_run.specs.Orders.{ended_before}
use Rattle.pg_span_refute.specs.declared.words.Written.{Written}
use Rattle.pg_span_refute.proofs.Taken.{in_get}
use Rattle.pg_span_refute.proofs.words.overwritten_below.Goals as goal
use Rattle.pg_span_refute.proofs.words.overwritten_below.Goals.{then-written-slot, else-written-slot}

pub ended_before-requires : goal.ended_before-requires
ended_before-requires c = c.requires _ (in_get c.args.writes.now c.loop-written.written-index (record { number = 0; value = 0 }) c.loop-written-test.true)

pub loop-written-init : goal.loop-written-init
loop-written-init c = λ j lt. absurd (omega (arith, lt))

pub loop-written-preserved : goal.loop-written-preserved
loop-written-preserved c =
    let w0 : Written = get_or c.args.writes.now c.loop-written.written-index (record { number = 0; value = 0 }) in
    elim c.if-written-slot.branch [
      | then-written-slot w ↦ λ j lt.
          let there = in_get c.args.writes.now c.loop-written.written-index (record { number = 0; value = 0 }) c.loop-written-test.true in
          elim (cases_lt j c.loop-written.bound) [
            | inl low ↦ c.loop-written.invariant j low
            | inr high ↦
                let most : w.max-bound.result ≡ max c.loop-written.bound (ended_before c.args.run.now w0.number) = w.max-bound.ensures ∙ ap (max c.loop-written.bound) w.ended_before.ensures.count in
                let low : j < ended_before c.args.run.now w0.number = omega (arith, lt, w.bound-is, most, high) in
                record { by = w0; there = there; past = inl w.if-written-slot.true; follows = record { within = c.requires w0 there; why = inl low } }
          ]
      | else-written-slot w ↦ λ j lt. c.loop-written.invariant j (omega (arith, lt, w.bound-is))
    ]
