use Rattle.std.proofs.Common.{nat_eq, subst}
use Rattle.pg_timeline.specs.Keyed.{stamps_in}
use Rattle.pg_timeline.proofs.Timelines.{end_of-below}
use Rattle.pg_moment.specs.Stamps.{AreOthers}
use Rattle.pg_moment.proofs.superseded.Superseded.keep.Goals as goal

pub push_listed-requires : goal.push_listed-requires
push_listed-requires c =
    let log = c.args.self.now.log.items in
    let lists = c.args.self.now.lists.entries in
    end_of-below c.args.word.moment (stamps_in nat_eq lists c.args.addr) (subst (AreOthers log lists c.args.addr c.args.word.moment) c.in-Listed.is c.requires)
