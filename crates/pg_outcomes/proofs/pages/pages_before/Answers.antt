use Rattle.std.proofs.Common.{◌≡◌, ◌+◌, ℕ, List, get_or, Some, sym, subst, arith}
use Rattle.std.specs.Prelude.{slice_get}
use Rattle.std.proofs.lemmas.Option.{slice_get-get_or}
use Rattle.pg_event.specs.Spelling.{Recorded}
use Rattle.pg_search.specs.Writers.{written_from, HaveWritten}
use Rattle.pg_search.specs.declared.written.Written.{Written}
use Rattle.pg_outcomes.proofs.Words.{HaveFirst, first_none, first_more, first_all}
use Rattle.pg_outcomes.proofs.pages.pages_before.Goals as goal

pub loop-left-init : goal.loop-left-init
loop-left-init c = first_none c.args.seen.now c.args.la c.deref-left-items.result.now c.new-pages.result.items

pub loop-left-preserved : goal.loop-left-preserved
loop-left-preserved c =
    let r : Recorded = c.args.seen.now in
    let ws : List Written = c.deref-left-items.result.now in
    let k : ℕ = c.loop-left.left-index in
    let x : Written = get_or ws k (written_from 0 0) in
    let at : slice_get ws k ≡ Some x = slice_get-get_or ws k (written_from 0 0) c.loop-left-test.true in
    subst (HaveFirst r c.args.la ws (k + 1)) (sym c.in_ok-add_pages.ensures) (first_more r c.args.la ws k x c.loop-left.pages.items at c.loop-left.invariant)

pub returns : goal.returns
returns c =
    let r : Recorded = c.args.seen.now in
    let ws : List Written = c.deref-left-items.result.now in
    let have : HaveWritten r.events c.args.moment ws = subst (HaveWritten r.events c.args.moment) (sym c.deref-left-items.ensures.value) c.in_ok-written.ensures in
    first_all r c.args.la c.args.moment c.loop-left.left-index ws c.loop-left.pages.items c.requires (omega (arith, c.loop-left-test.false)) have c.loop-left.invariant
