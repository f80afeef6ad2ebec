use Rattle.std.proofs.Common.{◌≡◌, ℕ, List, ◌≤◌, ap, sym, ◌∙◌, subst, arith}
use Rattle.pg_event.specs.Values.{mem_at}
use Rattle.pg_event.specs.declared.control.Control.{Control}
use Rattle.pg_timeline.specs.declared.timeline.Span.{Span}
use Rattle.pg_reach.specs.Stays.{AreInOrder, AreStays, IsLatest}
use Rattle.pg_reach.specs.Reaching.{entry_of}
use Rattle.pg_reach.specs.Views.{Viewed}
use Rattle.pg_reach.proofs.Spans.{last_read}
use Rattle.pg_reach.proofs.view.View.piece_at.Goals as goal

pub latest_of-requires-clause-order : goal.latest_of-requires-clause-order
latest_of-requires-clause-order c =
    let view : Viewed = c.args.self.now in
    let stays : AreStays view.run view.walker view.low c.self.inside.stays.items = subst (λ (v : Viewed). AreStays v.run v.walker v.low c.self.inside.stays.items) c.self.view_is c.self.invariant in
    subst AreInOrder (sym c.deref.ensures.value) stays.order

pub returns : goal.returns
returns c =
    let view : Viewed = c.args.self.now in
    let stays : AreStays view.run view.walker view.low c.self.inside.stays.items = subst (λ (v : Viewed). AreStays v.run v.walker v.low c.self.inside.stays.items) c.self.view_is c.self.invariant in
    let latest : IsLatest c.self.inside.stays.items c.args.at c.min-to.result c.latest_of.result = subst (λ (xs : List (Span Control)). IsLatest xs c.args.at c.min-to.result c.latest_of.result) c.deref.ensures.value c.latest_of.ensures in
    record {
      low = omega (arith, c.min-to.ensures, c.value_span-span.ensures.high, c.requires.order);
      high = omega (arith, c.min-to.ensures);
      same = subst (λ (v : Viewed). (w : ℕ) → c.args.at ≤ w → w ≤ c.min-to.result → entry_of v.run v.walker c.args.level c.args.table w ≡ c.value_span-span.result.value) c.self.view_is (λ w low high.
          ap (mem_at c.self.inside.seen.now.events w) (sym c.entry_address.ensures) ∙ c.value_span-span.ensures.same w (omega (arith, c.value_span-span.ensures.low, low)) (omega (arith, c.min-to.ensures, high)));
      read = last_read view.run view.walker view.low c.self.inside.stays.items c.args.at c.min-to.result c.latest_of.result stays c.requires.low (omega (arith, c.min-to.ensures, c.requires.within)) latest;
    }
