use Rattle.std.proofs.Common.{take}
use Rattle.pg_reach.specs.Stays.{AreOwn}
use Rattle.pg_reach.proofs.stays.stays_of.Given as goal

abbrev pub invariant-loop-span : goal.invariant-loop-span
invariant-loop-span l = AreOwn l.pcid (take l.span-index l.spans) l.stays.items
