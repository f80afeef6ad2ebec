use Rattle.std.proofs.Common.{◌≡◌, drop}
use Rattle.pg_certify.specs.Accounts.{whole_of}
use Rattle.pg_certify.proofs.named_events.whole_of.Given as goal

abbrev pub invariant-loop-named : goal.invariant-loop-named
invariant-loop-named l = whole_of (drop l.named-index l.all) l.number l.kept ≡ whole_of l.all l.number l.kept
