use Rattle.std.proofs.Common.{ℕ, Bool, List}
use Rattle.pg_event.specs.declared.control.Control.{Control}
use Rattle.pg_event.specs.declared.event.Event.{Event}
use Rattle.pg_event.specs.Heads.{Head}
use Rattle.pg_event.specs.Invalidation.{must_drop_translation}
use Rattle.pg_event.specs.Witness.{survives}
use Rattle.pg_explain.proofs.Firsts.{survives-some, survives-none}
use Rattle.pg_explain.proofs.dropped.translation_end.Goals as goal

pub returns-in-Some-clause-order : goal.returns-in-Some-clause-order
returns-in-Some-clause-order c =
    let head : Head = c.args.history.now.head in
    let events : List Event = c.args.history.now.events in
    let lasts : ℕ → ℕ → Bool = survives head events c.args.p (λ (d : Control) (e : Event). must_drop_translation head.cfg.rules d e c.args.key) in
    (survives-some lasts c.args.from c.in-Some.first (c.in-Some.ensures.run head events c.stretch.ensures.stretch.past)).0

pub returns-in-Some-clause-survives : goal.returns-in-Some-clause-survives
returns-in-Some-clause-survives c =
    let head : Head = c.args.history.now.head in
    let events : List Event = c.args.history.now.events in
    let lasts : ℕ → ℕ → Bool = survives head events c.args.p (λ (d : Control) (e : Event). must_drop_translation head.cfg.rules d e c.args.key) in
    (survives-some lasts c.args.from c.in-Some.first (c.in-Some.ensures.run head events c.stretch.ensures.stretch.past)).1

pub returns-in-None-clause-survives : goal.returns-in-None-clause-survives
returns-in-None-clause-survives c =
    let head : Head = c.args.history.now.head in
    let events : List Event = c.args.history.now.events in
    let lasts : ℕ → ℕ → Bool = survives head events c.args.p (λ (d : Control) (e : Event). must_drop_translation head.cfg.rules d e c.args.key) in
    survives-none lasts c.args.from (c.in-None.ensures.run head events c.stretch.ensures.stretch.past)
