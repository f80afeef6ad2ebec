use Rattle.std.proofs.Common.{ap, sym, ◌∙◌}
use Rattle.pg_event.specs.declared.event.Event.TheVariants as events
use Rattle.pg_event.specs.Invalidation.{must_drop_structure, must_drop_translation}
use Rattle.pg_event.proofs.event.Event.invalidation.Goals as goal

pub returns-in-MovCr3-clause-structures : goal.returns-in-MovCr3-clause-structures
returns-in-MovCr3-clause-structures c =
    λ key. c.by_mov_cr3.ensures.structures c.args.rules c.args.control c.in-MovCr3.p key ∙ ap (λ e. must_drop_structure c.args.rules c.args.control e key) (sym c.in-MovCr3.is)

pub returns-in-MovCr3-clause-translations : goal.returns-in-MovCr3-clause-translations
returns-in-MovCr3-clause-translations c =
    λ key. c.by_mov_cr3.ensures.translations c.args.rules c.args.control c.in-MovCr3.p key ∙ ap (λ e. must_drop_translation c.args.rules c.args.control e key) (sym c.in-MovCr3.is)

pub returns-in-Invlpg-clause-structures : goal.returns-in-Invlpg-clause-structures
returns-in-Invlpg-clause-structures c =
    λ key. c.by_invlpg.ensures.structures c.in-Invlpg.p key ∙ ap (λ e. must_drop_structure c.args.rules c.args.control e key) (sym c.in-Invlpg.is)

pub returns-in-Invlpg-clause-translations : goal.returns-in-Invlpg-clause-translations
returns-in-Invlpg-clause-translations c =
    λ key. c.by_invlpg.ensures.translations c.in-Invlpg.p key ∙ ap (λ e. must_drop_translation c.args.rules c.args.control e key) (sym c.in-Invlpg.is)

pub returns-in-Invpcid-clause-structures : goal.returns-in-Invpcid-clause-structures
returns-in-Invpcid-clause-structures c =
    λ key. c.by_invpcid.ensures.structures c.args.control c.in-Invpcid.p key ∙ ap (λ e. must_drop_structure c.args.rules c.args.control e key) (sym c.in-Invpcid.is)

pub returns-in-Invpcid-clause-translations : goal.returns-in-Invpcid-clause-translations
returns-in-Invpcid-clause-translations c =
    λ key. c.by_invpcid.ensures.translations c.args.control c.in-Invpcid.p key ∙ ap (λ e. must_drop_translation c.args.rules c.args.control e key) (sym c.in-Invpcid.is)

pub returns-in-Fault-clause-structures : goal.returns-in-Fault-clause-structures
returns-in-Fault-clause-structures c =
    let a = c.in-Access in
    λ key. c.by_page_fault.ensures.structures a.p a.flags c.in-Fault.field-0 a.moments key
    ∙ ap (λ o. must_drop_structure c.args.rules c.args.control (events.Access a.p a.flags a.la o a.moments) key) (sym c.in-Fault.is)
    ∙ ap (λ e. must_drop_structure c.args.rules c.args.control e key) (sym a.is)

pub returns-in-Fault-clause-translations : goal.returns-in-Fault-clause-translations
returns-in-Fault-clause-translations c =
    let a = c.in-Access in
    λ key. c.by_page_fault.ensures.translations a.p a.flags c.in-Fault.field-0 a.moments key
    ∙ ap (λ o. must_drop_translation c.args.rules c.args.control (events.Access a.p a.flags a.la o a.moments) key) (sym c.in-Fault.is)
    ∙ ap (λ e. must_drop_translation c.args.rules c.args.control e key) (sym a.is)
