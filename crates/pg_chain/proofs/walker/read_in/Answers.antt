use Rattle.std.proofs.Common.{ℕ, ap, ◌∙◌}
use Rattle.pg_entry.specs.declared.Rights.{Rights}
use Rattle.pg_entry.specs.Permission.{joined}
use Rattle.pg_event.specs.Values.{mem_at}
use Rattle.pg_event.specs.Walk.{Reading}
use Rattle.pg_chain.proofs.walker.read_in.Goals as goal

pub returns : goal.returns
returns c = λ head events h.
    let at : ℕ = c.entry_address-address.result in
    let made : ℕ → ℕ → Rights → Reading = λ a v rights. record { level = c.args.level; address = a; value = v; moment = c.args.moment; rights = rights } in
    ap (made at c.value_at-value.result) c.combine.ensures
    ∙ ap (λ v. made at v (joined c.args.parent.rights v)) (c.value_at-value.ensures head events h)
    ∙ ap (λ a. made a (mem_at events c.args.moment a) (joined c.args.parent.rights (mem_at events c.args.moment a))) c.entry_address-address.ensures
