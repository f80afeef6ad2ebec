use Rattle.std.proofs.Common.{◌≡◌, ℕ, ◌<◌, ◌+◌, ◌-◌, ◌/◌, Bool, false, sym, ◌∙◌, subst, arith}
use Rattle.pg_event.specs.declared.control.Control.{Control}
use Rattle.pg_event.specs.declared.event.Event.{Event}
use Rattle.pg_event.specs.Invalidation.{translation_key, must_drop_translation}
use Rattle.pg_event.specs.Witness.{survives, translation_survives}
use Rattle.pg_search.specs.declared.lookup.Lookup.{Lookup}
use Rattle.pg_reach.proofs.Lasts.{not_before}
use Rattle.pg_reach.proofs.since.translation_since.Goals as goal

pub loop-low-preserved : goal.loop-low-preserved
loop-low-preserved c =
    let middle : ℕ = c.loop-low.low + (c.loop-low.high - c.loop-low.low) / 2 in
    let drop : Control → Event → Bool = λ d e. must_drop_translation c.args.seen.now.head.cfg.rules d e (translation_key c.args.walker.now.pcid c.args.shift c.args.global c.args.walker.now.la) in
    let below : middle < c.loop-low.high = omega (arith, c.loop-low-test.true) in
    let dropped : survives c.args.seen.now.head c.args.seen.now.events c.args.walker.now.p drop middle c.args.walker.now.number ≡ false =
    subst (λ (k : Lookup). translation_survives c.args.seen.now.head c.args.seen.now.events k.p (translation_key k.pcid c.args.shift c.args.global k.la) middle c.args.walker.now.number ≡ false) c.lookup.ensures
    (sym c.translation_survives.ensures ∙ c.if-translation_survives.false) in
    record {
      order = omega (arith, below);
      within = c.loop-low.invariant.within;
      none = λ w lt. not_before c.args.seen.now.head c.args.seen.now.events c.args.walker.now.p drop w middle c.args.walker.now.number (omega (arith, lt)) (omega (arith, below, c.loop-low.invariant.within)) dropped;
    }
