use Rattle.std.proofs.Common.{take}
use Rattle.std.specs.Prelude.{IfSome}
use Rattle.std.specs.List.{All}
use Rattle.pg_chain.specs.Standing.{IsPast}
use Rattle.pg_reach.specs.Asking.{under}
use Rattle.pg_reach.specs.WitnessedUpTo.{HasWitness, AreUpTo}
use Rattle.pg_reach.proofs.last.last_number.Given as goal

abbrev pub invariant-loop-pcid : goal.invariant-loop-pcid
invariant-loop-pcid l = record {
  past : IsPast l.memo l.seen.head l.seen.events;
  some : IfSome l.last (HasWitness l.seen l.event l.walker.number);
  all : All (λ pcid. AreUpTo l.seen (under l.walker pcid) l.event l.last) (take l.pcid-index l.pcid-items);
}
