use Rattle.pg_inval.proofs.Distinct.{keys_in-distinct}
use Rattle.pg_inval.proofs.Listings.{IsListed-ends, IsListed-pushed}
use Rattle.pg_inval.proofs.lists.Lists.catch_up.Goals as goal

pub push_moments-requires-clause-distinct : goal.push_moments-requires-clause-distinct
push_moments-requires-clause-distinct c =
    rw (c.as_slice.ensures.value, c.keys_in-keys.ensures) (keys_in-distinct c.args.class _ _)

pub push_moments-requires-clause-ends : goal.push_moments-requires-clause-ends
push_moments-requires-clause-ends c =
    IsListed-ends c.args.class c.args.log.now c.loop-self.self.known c.loop-self.self.by_key.entries _ c.loop-self.invariant c.requires.rising c.loop-self-test.true

pub loop-self-preserved : goal.loop-self-preserved
loop-self-preserved c =
    let old = c.loop-self.self.by_key.entries in
    let new = c.push_moments.new.by_key.entries in
    IsListed-pushed c.args.class c.args.log.now c.loop-self.self.known old new _ c.loop-self.invariant c.loop-self-test.true
    (rw (c.as_slice.ensures.value, c.keys_in-keys.ensures, c.invalidation_of.ensures) at c.in-Ok.ensures.ok)
