use Rattle.std.proofs.Common.{◌+◌, ◌∷◌, [], ℕ, List, length, get_or, drop, refl, ap, sym, ◌∙◌, arith, append-nil, length-append}
use Rattle.pg_event.specs.declared.event.Event.{Event}
use Rattle.pg_explain.proofs.Loops.{next_written, all_written}
use Rattle.pg_show_picture.specs.Named.{named_from}
use Rattle.pg_show_picture.proofs.Kept.{named_next, unnamed_next}
use Rattle.pg_show_picture.proofs.named.named.Goals as goal
use Rattle.pg_show_picture.proofs.named.named.Goals.{then-is_named+in_ok-push, else-is_named}

pub loop-i-preserved : goal.loop-i-preserved
loop-i-preserved c =
    let x = c.args.explanation.now in
    let walk = c.args.walk.now in
    let events = c.args.events.now in
    let i = c.loop-i.i in
    let found = c.loop-i.found.items in
    let inv = c.loop-i.invariant in
    let within = c.loop-i-test.true in
    let from = named_from x walk in
    let e : Event = get_or events i c.index-events-i.result in
    let rest : List Event = drop (i + 1) events in
    elim c.if-is_named.branch [
      | then-is_named+in_ok-push w ↦
          let pushed = w.in_ok-push.ensures.items in
          let is = sym c.is_named.ensures ∙ w.if-is_named.true in
          rw w.found-is
          (record {
            numbers = next_written (from i) (from (i + 1)) (i ∷ []) events i c.index-events-i.result found w.push.new.self.items _ within (named_next x walk i e rest is) pushed inv.numbers;
            count = omega (arith, ap length pushed, length-append {A = ℕ}, inv.count);
          })
      | else-is_named w ↦
          let is = sym c.is_named.ensures ∙ w.if-is_named.false in
          rw w.found-is
          (record {
            numbers = next_written (from i) (from (i + 1)) [] events i c.index-events-i.result found found _ within (unnamed_next x walk i e rest is) (sym (append-nil found)) inv.numbers;
            count = omega (arith, inv.count);
          })
    ]

pub returns : goal.returns
returns c =
    let inv = c.loop-i.invariant in
    record {
      numbers = all_written (named_from c.args.explanation.now c.args.walk.now c.loop-i.i) c.args.events.now c.loop-i.i c.loop-i.found.items _ c.loop-i-test.false refl inv.numbers;
      count = omega (arith, inv.count, c.loop-i.auto.i-end, c.requires);
    }
