use Rattle.std.proofs.Common.{map}
use Rattle.pg_guest.specs.Held.{seen}
use Rattle.pg_guest.specs.Runs.{ArePlaced}
use Rattle.pg_runner.specs.Lines.{AreCarriedOut}
use Rattle.pg_runner.proofs.ByTurns.{IsNear}
use Rattle.pg_runner.proofs.single.carry_out.Given as goal

abbrev pub invariant-loop : goal.invariant-loop
invariant-loop l = record {
  placed : ArePlaced l.world.head l.processors;
  before : AreCarriedOut l.script l.line l.world (map seen l.processors);
  near : IsNear l.counter l.p l.world (map seen l.processors);
}
