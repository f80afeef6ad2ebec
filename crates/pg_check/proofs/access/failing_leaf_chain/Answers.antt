use Rattle.std.proofs.Common.{sym, ap, subst, ◌∙◌}
use Rattle.std.specs.Option.{option_or}
use Rattle.pg_entry.specs.declared.Kind.{Kind}
use Rattle.pg_event.specs.declared.version.Version.{Version}
use Rattle.pg_event.specs.Walk.{Reading}
use Rattle.pg_event.specs.Witness.{failing_end, failing_flags}
use Rattle.pg_chain.specs.Walked.{reading_of}
use Rattle.pg_check.specs.Lasting.{LastsTo}
use Rattle.pg_check.proofs.access.failing_leaf_chain.Goals as goal

pub returns-in-Some : goal.returns-in-Some
returns-in-Some c = λ head events global_bit h kind lasts.
    let walk = c.args.walk in
    let claim = c.args.claim.now in
    let r : Reading = reading_of walk.chain.end in
    ap (λ o. option_or o (failing_flags head.version claim walk.chain.tables walk.chain.end.value))
    (sym c.in-Some.is ∙ c.failing_translation.ensures head events global_bit h (subst (λ (k : Kind). LastsTo head events claim.p claim.la walk k) kind lasts)
    ∙ ap (λ (k : Kind). failing_end head events claim walk.chain.pcid r k) (sym kind))

pub returns-in-None : goal.returns-in-None
returns-in-None c = λ head events global_bit h kind lasts.
    let walk = c.args.walk in
    let claim = c.args.claim.now in
    let chain = walk.chain in
    let r : Reading = reading_of chain.end in
    c.failing_flags.ensures
    ∙ ap (λ (v : Version). failing_flags v claim chain.tables chain.end.value) (c.version.ensures head events h)
    ∙ ap (λ o. option_or o (failing_flags head.version claim chain.tables chain.end.value))
    (sym c.in-None.is ∙ c.failing_translation.ensures head events global_bit h (subst (λ (k : Kind). LastsTo head events claim.p claim.la walk k) kind lasts)
    ∙ ap (λ (k : Kind). failing_end head events claim chain.pcid r k) (sym kind))
