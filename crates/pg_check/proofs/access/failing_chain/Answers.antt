use Rattle.std.proofs.Common.{sym, ap, ◌∙◌}
use Rattle.std.specs.Option.{option_or}
use Rattle.pg_event.specs.declared.version.Version.{Version}
use Rattle.pg_event.specs.Witness.{failing_flags}
use Rattle.pg_check.proofs.access.failing_chain.Goals as goal

pub returns-in-None : goal.returns-in-None
returns-in-None c = λ head events h lasts.
    let chain = c.args.walk.chain in
    c.failing_flags.ensures
    ∙ ap (λ (v : Version). failing_flags v c.args.claim.now chain.tables chain.end.value) (c.version.ensures head events h)
    ∙ ap (λ o. option_or o (failing_flags head.version c.args.claim.now chain.tables chain.end.value))
    (sym c.in-None.is ∙ c.failing_end.ensures head events h lasts)
