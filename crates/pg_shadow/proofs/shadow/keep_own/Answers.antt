use Rattle.std.proofs.Common.{◌≡◌, nat_eq, None, ap, sym, ◌∙◌}
use Rattle.std.specs.Map.{lookup}
use Rattle.std.specs.Option.{unwrap_or}
use Rattle.pg_shadow.specs.Spaces.{nothing, slot_in}
use Rattle.pg_shadow.proofs.Results.{on_err}
use Rattle.pg_shadow.proofs.Spaces.{slot_in-nothing}
use Rattle.pg_shadow.proofs.shadow.keep_own.Goals as goal

pub returns-in_err-insert-in-None-clause-refused : goal.returns-in_err-insert-in-None-clause-refused
returns-in_err-insert-in-None-clause-refused c =
    let absent : lookup (nat_eq c.args.pcid) c.args.own.now.entries ≡ None = sym c.in-None.ensures.value in
    on_err c.from_residual-in_err-insert-in-None.result
    (ap (λ o. slot_in (unwrap_or o nothing) c.args.level c.args.number) absent ∙ slot_in-nothing c.args.level c.args.number)
