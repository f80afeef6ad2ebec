use Rattle.pg_inval.proofs.Listings.{IsListed-cut}
use Rattle.pg_inval.proofs.lists.Lists.forget_from.Goals as goal

pub returns : goal.returns
returns c = λ k log rising count listed.
    rw c.min-self.ensures
    (IsListed-cut k log c.args.self.now.known c.args.left c.args.moment c.args.self.now.by_key.entries c.cut_all.new.by_key.entries rising count listed c.cut_all.ensures)
