use Rattle.std.proofs.Common.{ap, ◌∙◌, subst}
use Rattle.std.proofs.lemmas.Result.{IfOk-weaker, IfErr-weaker}
use Rattle.pg_machine.specs.Listed.{IsWhole, state_of}
use Rattle.pg_machine.proofs.Taken.{may_take, leads_on}
use Rattle.pg_machine.proofs.Refusals.{lacks, refused}
use Rattle.pg_machine.proofs.machine.Machine.step.Goals as goal

pub returns-clause-taken : goal.returns-clause-taken
returns-clause-taken c =
    IfOk-weaker c.apply.result _ _ (λ _ h. may_take c.args.self.now c.args.step.now h.0) c.apply.ensures.ok

pub returns-clause-after : goal.returns-clause-after
returns-clause-after c =
    let whole : IsWhole c.args.self.now = subst IsWhole c.self.view_is c.self.invariant in
    IfOk-weaker c.apply.result _ _ (λ _ h. ap state_of h.1 ∙ leads_on c.args.self.now c.args.step.now whole h.0) c.apply.ensures.ok

pub returns-clause-refused : goal.returns-clause-refused
returns-clause-refused c =
    let whole : IsWhole c.args.self.now = subst IsWhole c.self.view_is c.self.invariant in
    IfErr-weaker c.apply.result _ _ (λ e h other. refused c.args.self.now c.args.step.now e whole (lacks c.args.self.now c.args.step.now e h.0) other) c.apply.ensures.err

pub returns-clause-reason : goal.returns-clause-reason
returns-clause-reason c =
    IfErr-weaker c.apply.result _ _ (λ e h. lacks c.args.self.now c.args.step.now e h.0) c.apply.ensures.err
