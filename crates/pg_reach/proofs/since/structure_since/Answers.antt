use Rattle.std.proofs.Common.{◌≡◌, ℕ, ◌<◌, ◌+◌, ◌-◌, ◌/◌, Bool, false, sym, ◌∙◌, subst, arith}
use Rattle.pg_event.specs.declared.control.Control.{Control}
use Rattle.pg_event.specs.declared.event.Event.{Event}
use Rattle.pg_event.specs.Invalidation.{structure_key, must_drop_structure}
use Rattle.pg_event.specs.Witness.{survives, structure_survives}
use Rattle.pg_search.specs.declared.lookup.Lookup.{Lookup}
use Rattle.pg_reach.proofs.Lasts.{not_before}
use Rattle.pg_reach.proofs.since.structure_since.Goals as goal

pub loop-low-preserved : goal.loop-low-preserved
loop-low-preserved c =
    let middle : ℕ = c.loop-low.low + (c.loop-low.high - c.loop-low.low) / 2 in
    let drop : Control → Event → Bool = λ d e. must_drop_structure c.args.seen.now.head.cfg.rules d e (structure_key c.args.walker.now.pcid c.args.level c.args.walker.now.la) in
    let below : middle < c.loop-low.high = omega (arith, c.loop-low-test.true) in
    let dropped : survives c.args.seen.now.head c.args.seen.now.events c.args.walker.now.p drop middle c.args.to ≡ false =
    subst (λ (k : Lookup). structure_survives c.args.seen.now.head c.args.seen.now.events k.p (structure_key k.pcid c.args.level k.la) middle c.args.to ≡ false) c.lookup.ensures
    (sym c.structure_survives.ensures ∙ c.if-structure_survives.false) in
    record {
      order = omega (arith, below);
      within = c.loop-low.invariant.within;
      none = λ w lt. not_before c.args.seen.now.head c.args.seen.now.events c.args.walker.now.p drop w middle c.args.to (omega (arith, lt)) (omega (arith, below, c.loop-low.invariant.within)) dropped;
    }
