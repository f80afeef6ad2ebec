use Rattle.std.proofs.Common.{sym, subst}
use Rattle.pg_guest.proofs.Leaves.{turns_leave}
use Rattle.pg_guest.proofs.Transcripts.{turns_are_told}
use Rattle.pg_guest.proofs.Turns.{turns_keep_home}
use Rattle.pg_guest.specs.Held.{seen}
use Rattle.pg_guest.specs.Steps.{IsOfRun}
use Rattle.pg_guest.proofs.Runs.{stays_of_run}
use Rattle.pg_guest.proofs.Stopped.{stays_if_stopped}
use Rattle.pg_guest.proofs.processor.Processor.advance.Goals as goal

pub returns-clause-leaves : goal.returns-clause-leaves
returns-clause-leaves c =
    turns_leave c.args.self.now.number c.args.world.now (seen c.args.self.now) _ c.turn.ensures.turn

pub returns-clause-run : goal.returns-clause-run
returns-clause-run c =
    subst (λ n. IsOfRun c.turn.new.world.head n (seen c.turn.new.self)) (sym c.turn.ensures.number)
    (stays_of_run c.args.self.now.number c.args.world.now (seen c.args.self.now) _ c.turn.ensures.turn c.requires)

pub returns-clause-home : goal.returns-clause-home
returns-clause-home c = λ accepted home.
    turns_keep_home c.args.self.now.number c.args.world.now (seen c.args.self.now) _ accepted home c.turn.ensures.turn

pub returns-clause-told : goal.returns-clause-told
returns-clause-told c =
    turns_are_told c.args.self.now.number c.args.world.now (seen c.args.self.now) _ c.requires.well c.turn.ensures.turn

pub returns-clause-stopped : goal.returns-clause-stopped
returns-clause-stopped c = λ why is.
    stays_if_stopped c.args.self.now.number c.args.world.now (seen c.args.self.now) _ c.turn.ensures.turn why is
