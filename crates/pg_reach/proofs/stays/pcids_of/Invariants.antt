use Rattle.std.proofs.Common.{take}
use Rattle.pg_reach.specs.Stays.{ArePcids}
use Rattle.pg_reach.proofs.stays.pcids_of.Given as goal

abbrev pub invariant-loop-span : goal.invariant-loop-span
invariant-loop-span l = ArePcids (take l.span-index l.spans) l.pcids.items
