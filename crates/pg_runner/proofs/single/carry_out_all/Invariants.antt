use Rattle.std.proofs.Common.{map}
use Rattle.pg_guest.specs.Held.{seen}
use Rattle.pg_guest.specs.Runs.{ArePlaced}
use Rattle.pg_runner.specs.Lines.{AreCarriedOut}
use Rattle.pg_runner.proofs.single.carry_out_all.Given as goal

abbrev pub invariant-loop-line : goal.invariant-loop-line
invariant-loop-line l = record {
  placed : ArePlaced l.world.head l.processors;
  before : AreCarriedOut l.script l.line l.world (map seen l.processors);
}
