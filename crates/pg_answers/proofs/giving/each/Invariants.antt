use Rattle.std.proofs.Common.{◌≡◌, map, take}
use Rattle.std.specs.List.{AllByRecursion}
use Rattle.pg_answers.specs.Giving.{IsGivenBy, allowed_of}
use Rattle.pg_answers.proofs.giving.each.Given as goal

abbrev pub invariant-loop-allowed : goal.invariant-loop-allowed
invariant-loop-allowed l = record {
  outcomes : map allowed_of l.told.items ≡ take l.allowed-index l.found;
  given : AllByRecursion (IsGivenBy l.seen l.p l.kind l.la) l.told.items;
}
