use Rattle.std.proofs.Common.{◌≡◌, nat_eq, None, ap, sym, ◌∙◌}
use Rattle.std.specs.Map.{lookup}
use Rattle.std.specs.Option.{unwrap_or}
use Rattle.pg_shadow.specs.Spaces.{nothing, path_in}
use Rattle.pg_shadow.proofs.Spaces.{path_in-nothing}
use Rattle.pg_shadow.proofs.shadow.Shadow.own_path.Goals as goal

pub returns-in-None-clause-value : goal.returns-in-None-clause-value
returns-in-None-clause-value c =
    let absent : lookup (nat_eq c.self.inside.control.pcid) c.self.inside.own.entries ≡ None = sym c.in-None.ensures.value in
    rw (← c.self.view_is) (sym (ap (λ o. path_in (unwrap_or o nothing) c.args.la) absent ∙ path_in-nothing c.args.la))
