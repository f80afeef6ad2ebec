use Rattle.std.proofs.Common.{◌≡◌, ◌≤◌, [], ◌∷◌, ◌++◌, nat_eq, Some, None, cond, ap, refl, sym, ◌∙◌, arith}
use Rattle.std.specs.Map.{lookup, set_value}
use Rattle.std.specs.Option.{IsSome, unwrap_or}
use Rattle.std.proofs.lemmas.Result.{on_err_weaker, on_ok_weaker}
use Rattle.std.proofs.lemmas.Map.Steps.{set_value_same}
use Rattle.pg_timeline.specs.Timelines.{end_of}
use Rattle.pg_timeline.proofs.Timelines.{IsPushed-found, IsPushed-first}
use Rattle.pg_moment.proofs.lists.push_listed.Goals as goal

pub push-requires : goal.push-requires
push-requires c =
    let found : lookup (nat_eq c.args.addr) c.args.lists.now.entries ≡ Some c.in-Some.list.now = sym c.in-Some.ensures.value in
    let le : end_of c.in-Some.list.now ≤ c.args.moment = rw (ap (λ o. end_of (unwrap_or o [])) found) at c.requires in
    (omega arith, le)

pub returns-in-Some-clause-ok : goal.returns-in-Some-clause-ok
returns-in-Some-clause-ok c =
    let found : lookup (nat_eq c.args.addr) c.args.lists.now.entries ≡ Some c.in-Some.list.now = sym c.in-Some.ensures.value in
    let some : IsSome (lookup (nat_eq c.args.addr) c.args.lists.now.entries) = rw found refl in
    on_ok_weaker c.push.result
    (λ more. IsPushed-found nat_eq c.args.lists.now.entries _ c.args.addr c.in-Some.list.now c.push.new.self (record { moment = c.args.moment; value = c.args.value })
    found more ((c.get_mut.follows.holds c.push.new.self).3 some).0)
    c.push.ensures.ok

pub returns-in-Some-clause-err : goal.returns-in-Some-clause-err
returns-in-Some-clause-err c =
    let entries = c.args.lists.now.entries in
    let found : lookup (nat_eq c.args.addr) entries ≡ Some c.in-Some.list.now = sym c.in-Some.ensures.value in
    on_err_weaker c.push.result
    (λ same. (c.get_mut.follows.holds c.push.new.self).0
    ∙ ap (set_value (nat_eq c.args.addr) entries) same
    ∙ set_value_same (nat_eq c.args.addr) entries c.in-Some.list.now found)
    c.push.ensures.err

pub returns-in_ok-insert-in-None-clause-ok : goal.returns-in_ok-insert-in-None-clause-ok
returns-in_ok-insert-in-None-clause-ok c =
    let none : lookup (nat_eq c.args.addr) c.args.lists.now.entries ≡ None = sym c.in-None.ensures.value in
    IsPushed-first nat_eq c.args.lists.now.entries c.insert.new.self.entries c.args.addr c.push-in-None.new.self (record { moment = c.args.moment; value = c.args.value })
    none (c.in_ok-push-in-None.ensures.ok ∙ ap (λ ys. ys ++ record { moment = c.args.moment; value = c.args.value } ∷ []) c.new-list.ensures)
    (λ q. c.in_ok-insert-in-None.ensures.updates.0 q ∙ ap (λ m. cond (nat_eq c.args.addr q) (Some c.push-in-None.new.self) (lookup (nat_eq q) m.entries)) c.get_mut.follows.holds-at-none)
