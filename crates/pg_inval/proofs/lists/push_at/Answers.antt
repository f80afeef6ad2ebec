use Rattle.std.proofs.Common.{◌≡◌, ◌≤◌, [], ◌∷◌, ◌++◌, Some, None, cond, ap, refl, sym, ◌∙◌, arith}
use Rattle.std.specs.Map.{lookup, set_value}
use Rattle.std.specs.Option.{IsSome, unwrap_or}
use Rattle.std.proofs.lemmas.Result.{on_err_weaker, on_ok_weaker}
use Rattle.std.proofs.lemmas.Map.Steps.{set_value_same}
use Rattle.pg_timeline.specs.Timelines.{end_of}
use Rattle.pg_timeline.proofs.Timelines.{IsPushed-found, IsPushed-first}
use Rattle.pg_inval.specs.Keys.{is_same_key}
use Rattle.pg_inval.proofs.lists.push_at.Goals as goal

pub push-requires : goal.push-requires
push-requires c =
    let found : lookup (is_same_key c.args.key) c.args.by_key.now.entries ≡ Some c.in-Some.timeline.now = sym c.in-Some.ensures.value in
    let le : end_of c.in-Some.timeline.now ≤ c.args.moment = rw (ap (λ o. end_of (unwrap_or o [])) found) at c.requires in
    (omega arith, le)

pub returns-in-Some-clause-ok : goal.returns-in-Some-clause-ok
returns-in-Some-clause-ok c =
    let found : lookup (is_same_key c.args.key) c.args.by_key.now.entries ≡ Some c.in-Some.timeline.now = sym c.in-Some.ensures.value in
    let some : IsSome (lookup (is_same_key c.args.key) c.args.by_key.now.entries) = rw found refl in
    on_ok_weaker c.push.result
    (λ more. IsPushed-found is_same_key c.args.by_key.now.entries _ c.args.key c.in-Some.timeline.now c.push.new.self (record { moment = c.args.moment; value = tt })
    found more ((c.get_mut.follows.holds c.push.new.self).3 some).0)
    c.push.ensures.ok

pub returns-in-Some-clause-err : goal.returns-in-Some-clause-err
returns-in-Some-clause-err c =
    let entries = c.args.by_key.now.entries in
    let found : lookup (is_same_key c.args.key) entries ≡ Some c.in-Some.timeline.now = sym c.in-Some.ensures.value in
    on_err_weaker c.push.result
    (λ same. (c.get_mut.follows.holds c.push.new.self).0
    ∙ ap (set_value (is_same_key c.args.key) entries) same
    ∙ set_value_same (is_same_key c.args.key) entries c.in-Some.timeline.now found)
    c.push.ensures.err

pub returns-in_ok-insert-in-None-clause-ok : goal.returns-in_ok-insert-in-None-clause-ok
returns-in_ok-insert-in-None-clause-ok c =
    let none : lookup (is_same_key c.args.key) c.args.by_key.now.entries ≡ None = sym c.in-None.ensures.value in
    IsPushed-first is_same_key c.args.by_key.now.entries c.insert.new.self.entries c.args.key c.push-in-None.new.self (record { moment = c.args.moment; value = tt })
    none (c.in_ok-push-in-None.ensures.ok ∙ ap (λ ys. ys ++ record { moment = c.args.moment; value = tt } ∷ []) c.new-timeline.ensures)
    (λ q. c.in_ok-insert-in-None.ensures.updates.0 q ∙ ap (λ m. cond (is_same_key c.args.key q) (Some c.push-in-None.new.self) (lookup (is_same_key q) m.entries)) c.get_mut.follows.holds-at-none)
