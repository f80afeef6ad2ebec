use Rattle.std.proofs.Common.{◌∷◌, [], ℕ, sym, subst, inl, inr}
use Rattle.pg_entry.specs.Kinds.{marked}
use Rattle.pg_machine.specs.Machine.{IsIn}
use Rattle.pg_span_refute.proofs.Taken.{in_left, in_right}
use Rattle.pg_span_refute.proofs.words.push_flagged.Goals as goal

pub returns-in_ok-push-clause-more : goal.returns-in_ok-push-clause-more
returns-in_ok-push-clause-more c = λ x h. subst (IsIn x) (sym c.in_ok-push.ensures.items) (in_left x c.args.values.now.items (c.marked.result.0 ∷ []) h)

pub returns-in_ok-push-clause-flagged : goal.returns-in_ok-push-clause-flagged
returns-in_ok-push-clause-flagged c =
    let value : ℕ = marked c.args.dirty c.args.written.value in
    inr (subst (IsIn value) (sym c.in_ok-push.ensures.items) (in_right value c.args.values.now.items (c.marked.result.0 ∷ []) (inl c.marked.ensures)))

pub returns-else-may_be_set-clause-flagged : goal.returns-else-may_be_set-clause-flagged
returns-else-may_be_set-clause-flagged c = inl (c.may_be_set.ensures c.if-may_be_set.false)
