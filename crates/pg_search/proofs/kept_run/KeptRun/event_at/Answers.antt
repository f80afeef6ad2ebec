use Rattle.std.proofs.Common.{◌≡◌, ◌<◌, List, length, get_or, Some, ap, sym, subst, ◌∙◌, arith}
use Rattle.std.specs.Prelude.{slice_get}
use Rattle.pg_event.specs.Spelling.{Recorded}
use Rattle.pg_search.specs.Briefs.{event_of}
use Rattle.pg_search.specs.declared.brief.Brief.{Brief}
use Rattle.pg_search.specs.declared.brief.Pair.{Pair}
use Rattle.pg_search.proofs.Briefs.{no_brief, events_count, among, item_there, event_found, none_found}
use Rattle.pg_search.proofs.kept_run.KeptRun.event_at.Goals as goal

pub event_of-requires : goal.event_of-requires
event_of-requires c =
    let s = c.self.inside in
    let b : Brief = get_or c.deref-brief-items.result.now c.loop-brief.brief-index no_brief in
    let at : slice_get s.briefs.items c.loop-brief.brief-index ≡ Some b = item_there s.briefs.items c.deref-brief-items.result.now c.loop-brief.brief-index no_brief c.deref-brief-items.ensures.value c.loop-brief-test.true in
    let it = among (length s.pairs.items) 0 s.count s.briefs.items c.loop-brief.brief-index b c.self.invariant.0.placed at in
    omega (arith, it.high, c.self.invariant.0.seen.count, events_count s.past.versions s.pairs.items s.briefs.items 0 s.count)

pub returns-then-brief-number : goal.returns-then-brief-number
returns-then-brief-number c =
    let s = c.self.inside in
    let n = c.args.number in
    let b : Brief = get_or c.deref-brief-items.result.now c.loop-brief.brief-index no_brief in
    let low = subst (λ (r : Recorded). n < length r.events) (sym c.self.view_is) c.requires in
    let lt : n < s.count = omega (arith, low, events_count s.past.versions s.pairs.items s.briefs.items 0 s.count) in
    subst (λ (r : Recorded). slice_get r.events n ≡ Some c.event_of.result) c.self.view_is
    (event_found s.past.versions s.pairs.items s.briefs.items c.deref-brief-items.result.now s.count n c.loop-brief.brief-index no_brief c.event_of.result c.deref-brief-items.ensures.value lt c.loop-brief-test.true c.loop-brief.invariant c.if-brief-number.true
    (c.event_of.ensures ∙ ap (λ (ps : List Pair). event_of s.past.versions ps b.number b) c.as_slice.ensures.value))

pub returns : goal.returns
returns c =
    let s = c.self.inside in
    let n = c.args.number in
    let low = subst (λ (r : Recorded). n < length r.events) (sym c.self.view_is) c.requires in
    let lt : n < s.count = omega (arith, low, events_count s.past.versions s.pairs.items s.briefs.items 0 s.count) in
    let all : length s.briefs.items ≡ length c.deref-brief-items.result.now = ap (λ (bs : List Brief). length bs) (sym c.deref-brief-items.ensures.value) in
    subst (λ (r : Recorded). slice_get r.events n ≡ Some c.idle.result) c.self.view_is
    (none_found s.past.versions s.pairs.items s.briefs.items s.count n c.loop-brief.brief-index lt (omega (arith, all, c.loop-brief-test.false)) c.loop-brief.invariant ∙ ap Some (sym c.idle.ensures))
