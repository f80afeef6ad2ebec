use Rattle.std.proofs.Common.{◌≡◌, ℕ, ◌<◌, ◌≤◌, refl, Bool, List, length, ap, sym, subst, ◌∙◌, arith}
use Rattle.pg_event.specs.declared.event.Event.{Event}
use Rattle.pg_event.specs.Heads.{Head}
use Rattle.pg_show_picture.specs.Layout.{takes_part, lanes, lanes_from}
use Rattle.pg_explain.proofs.Loops.{all_written}
use Rattle.pg_show_picture.proofs.Lanes.{next_lane, no_lane}
use Rattle.pg_show_picture.proofs.placer.lanes.Goals as goal
use Rattle.pg_show_picture.proofs.placer.lanes.Goals.{then-takes_part+in_ok-push, else-takes_part}

pub loop-i-preserved : goal.loop-i-preserved
loop-i-preserved c =
    let head : Head = c.args.history.now.head in
    let events : List Event = c.args.history.now.events in
    let numbers = c.args.numbers.now in
    let i = c.loop-i.i in
    let found = c.loop-i.found.items in
    let all : c.deref-start-items.result.now ≡ head.processors = c.deref-start-items.ensures.value ∙ (ap (λ (h : Head). h.processors) c.behind-history.view_is ∙ ap (λ (h : Head). h.processors) c.header.ensures.header) in
    let within : i < length head.processors = subst (λ (ss : List (ℕ × Bool)). i < length ss) all c.loop-i-test.true in
    let part : takes_part events numbers i ≡ c.takes_part.result = ap (λ (es : List Event). takes_part es numbers i) (sym c.events.ensures.events) ∙ sym c.takes_part.ensures in
    elim c.if-takes_part.branch [
      | then-takes_part+in_ok-push w ↦
          rw (w.found-is, w.x-is, w.in_ok-push.ensures.items)
          (record {
            lanes = next_lane events numbers i c.loop-i.x head.processors found (lanes head events numbers) within (part ∙ w.if-takes_part.true) c.loop-i.invariant.lanes;
            within = omega (arith, c.loop-i.invariant.within);
          })
      | else-takes_part w ↦
          rw (w.found-is, w.x-is)
          (record {
            lanes = no_lane events numbers i c.loop-i.x head.processors found (lanes head events numbers) within (part ∙ w.if-takes_part.false) c.loop-i.invariant.lanes;
            within = omega (arith, c.loop-i.invariant.within);
          })
    ]

pub returns : goal.returns
returns c =
    let head : Head = c.args.history.now.head in
    let events : List Event = c.args.history.now.events in
    let i = c.loop-i.i in
    let all : c.deref-start-items.result.now ≡ head.processors = c.deref-start-items.ensures.value ∙ (ap (λ (h : Head). h.processors) c.behind-history.view_is ∙ ap (λ (h : Head). h.processors) c.header.ensures.header) in
    let past : length head.processors ≤ i = subst (λ (ss : List (ℕ × Bool)). length ss ≤ i) all c.loop-i-test.false in
    all_written (lanes_from events c.args.numbers.now i c.loop-i.x) head.processors i c.loop-i.found.items _ past refl c.loop-i.invariant.lanes
