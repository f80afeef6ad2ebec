use Rattle.std.proofs.Common.{List, slice_set, sym, subst}
use Rattle.pg_reach.specs.declared.reach.Reach.{Reach}
use Rattle.pg_reach.specs.Reaching.{HasRoom}
use Rattle.pg_reach.proofs.Rooms.{room_cut}
use Rattle.pg_reach.proofs.reaches.Reaches.cut_at.Goals as goal

pub returns : goal.returns
returns c =
    subst (λ (xs : List Reach). HasRoom c.args.freshest c.args.self.now (slice_set xs c.args.place c.in-Some.early) c.args.reach.now) (sym c.self.view_is)
    (room_cut c.args.freshest c.args.self.now c.args.place c.args.other.now c.args.reach.now c.in-Some.early c.requires c.in-Some.ensures)
