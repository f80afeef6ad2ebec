use Rattle.std.proofs.Common.{◌≡◌, ℕ, true, get_or, ap, ◌∙◌}
use Rattle.pg_entry.specs.Kinds.{kind_of}
use Rattle.pg_event.specs.Heads.{Head}
use Rattle.pg_span_refute.specs.Caches.{kind_for}
use Rattle.pg_span_refute.proofs.Taken.{one_more_get}
use Rattle.pg_span_refute.proofs.refuter.none_faults.Goals as goal

pub loop-entry-preserved : goal.loop-entry-preserved
loop-entry-preserved c =
    let entry : ℕ = get_or c.args.entries.now c.loop-entry.entry-index 0 in
    one_more_get (λ (e : ℕ). kind_of c.args.header.now.cfg c.args.table.level e ≡ kind_for c.args.cause → ⊥) c.args.entries.now c.loop-entry.entry-index 0 c.loop-entry-test.true c.loop-entry.invariant
    (λ same.
    let is : c.is_cause.result ≡ true = c.is_cause.ensures.1 (c.classify.ensures.kind ∙ (ap (λ (h : Head). kind_of h.cfg c.args.table.level entry) c.header.view_is ∙ same)) in
    let isnt = c.if-is_cause.false in
    absurd (cc))
