use Rattle.std.proofs.Common.{List, Option, Ok, sym, subst}
use Rattle.pg_event.specs.declared.event.Want.TheVariants as wants
use Rattle.pg_chain.specs.declared.past.Past.{Past}
use Rattle.pg_chain.specs.Standing.{IsPast}
use Rattle.pg_check.specs.declared.memo.Slot.{Slot}
use Rattle.pg_check.specs.declared.lasting.Lasting.{Lasting}
use Rattle.pg_check.specs.Lasting.{IsWalk}
use Rattle.pg_check.specs.Remembered.{HaveWalks}
use Rattle.pg_check.proofs.Memos.{walk_of_slot}
use Rattle.pg_check.proofs.memo.Memo.kept_at.Goals as goal

pub returns-in-Some : goal.returns-in-Some
returns-in-Some c = λ head events h.
    let memo = c.self.inside in
    let has = c.in-Some.ensures.walk memo.reader memo.limit (subst (λ (xs : List (Option Slot)). HaveWalks memo.reader memo.limit xs) (sym c.as_slice.ensures.value) c.self.invariant) in
    subst (λ (l : Lasting). IsWalk head events c.args.p c.args.page wants.Leaf c.args.moments.now (Ok l)) (sym c.walk_in.ensures)
    (walk_of_slot memo.reader memo.limit c.in-Some.slot c.args.p c.args.page c.args.moments.now has c.in-Some.ensures.names
    head events (subst (λ (x : Past). IsPast x head events) (sym c.self.view_is) h))
