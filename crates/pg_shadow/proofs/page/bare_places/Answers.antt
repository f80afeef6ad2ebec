use Rattle.std.proofs.Common.{◌≤◌, inl, inr, arith}
use Rattle.std.proofs.lemmas.Bool.{cases_lt}
use Rattle.pg_shadow.proofs.page.bare_places.Goals as goal

pub returns-clause-above : goal.returns-clause-above
returns-clause-above c = λ k h.
    elim (cases_lt c.args.to c.args.from) [
      | inl short ↦
          let first : c.loop-i.i ≤ c.args.from = c.loop-i.invariant.short short in
          elim (cases_lt k c.loop-i.i) [
            | inl below ↦ c.loop-i.invariant.below k (omega (arith, below, first))
            | inr above ↦ c.loop-i.invariant.rest k above
          ]
      | inr whole ↦
          let last : c.loop-i.i ≤ c.args.to = c.loop-i.auto.i-end whole in
          c.loop-i.invariant.rest k (omega (arith, last, h))
    ]
