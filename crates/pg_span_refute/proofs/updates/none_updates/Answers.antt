use Rattle.std.proofs.Common.{◌≡◌, ℕ, true, false, get_or, ap, sym, ◌∙◌}
use Rattle.pg_event.specs.Heads.{Head}
use Rattle.pg_span_refute.specs.Caches.{may_update_entry}
use Rattle.pg_span_refute.proofs.Taken.{one_more_get}
use Rattle.pg_span_refute.proofs.updates.none_updates.Goals as goal

pub loop-entry-preserved : goal.loop-entry-preserved
loop-entry-preserved c =
    let entry : ℕ = get_or c.args.entries.now c.loop-entry.entry-index 0 in
    one_more_get (λ (e : ℕ). may_update_entry c.args.header.now.cfg c.args.update.kind c.args.update.dirty c.args.table e ≡ true → ⊥) c.args.entries.now c.loop-entry.entry-index 0 c.loop-entry-test.true c.loop-entry.invariant
    (λ same.
    let both : true ≡ false = sym (c.may_update_entry.ensures ∙ (ap (λ (h : Head). may_update_entry h.cfg c.args.update.kind c.args.update.dirty c.args.table entry) c.header.view_is ∙ same)) ∙ c.if-may_update_entry.false in
    absurd (cc))
