use Rattle.std.proofs.Common.{◌+◌, ℕ, List, take, sym, subst, arith}
use Rattle.pg_event.specs.declared.control.Control.{Control}
use Rattle.pg_timeline.specs.declared.timeline.Span.{Span}
use Rattle.pg_reach.specs.Parts.{part_at, ArePart}
use Rattle.pg_reach.proofs.Parted.{part_more}
use Rattle.pg_reach.proofs.parts.parts_of.Goals as goal

pub loop-span-preserved : goal.loop-span-preserved
loop-span-preserved c =
    let xs : List (Span Control) = c.args.spans.now in
    let i : ℕ = c.loop-span.span-index in
    record {
      enough = omega (arith, c.in_ok-push_at.ensures.count, c.loop-span.invariant.enough);
      all = λ k. subst (ArePart k (take (i + 1) xs)) (sym (c.in_ok-push_at.ensures.spans k)) (part_more xs i k (part_at c.loop-span.parts.items k) c.requires c.loop-span-test.true (c.loop-span.invariant.all k));
    }
