use Rattle.std.proofs.Common.{◌≡◌, ◌+◌, ◌∷◌, [], length, ◌∙◌, ap, arith, length-append}
use Rattle.pg_event.specs.Heads.{Head}
use Rattle.pg_guest.specs.Runs.{AreNew}
use Rattle.pg_guest.proofs.Placed.{one_more, new_are_quiet, new_are_told}
use Rattle.pg_guest.proofs.driver.processors.Goals as goal

pub loop-p-preserved : goal.loop-p-preserved
loop-p-preserved c =
    let made = c.loop-p.invariant in
    let hs = c.loop-p.processors.items in
    rw c.in_ok-push.ensures.items (record {
      count = length-append hs (c.processor_of.result ∷ []) ∙ ap (λ n. n + 1) made.count;
      each = one_more c.args.script.now c.loop-p.p hs c.processor_of.result made c.processor_of.ensures;
    })

pub returns : goal.returns
returns c =
    let made = c.loop-p.invariant in
    let script = c.args.script.now in
    let hs = c.loop-p.processors.items in
    let header : length c.header.inside.processors.items ≡ length script.head.processors = ap (λ (head : Head). length head.processors) (c.header.view_is ∙ c.header-header.ensures.header) in
    let new : AreNew script hs = record {
      count = omega (arith, made.count, header, c.len-count.ensures, c.header.inside.processors.ok.0);
      each = made.each;
    } in
    record { made = new; quiet = new_are_quiet script hs new; told = new_are_told script hs new }
