use Rattle.std.proofs.Common.{◌≡◌, ◌<◌, sym, subst, arith}
use Rattle.std.proofs.lemmas.Grind.{common_steps}
use Rattle.pg_world.specs.Kept.{IsKept, IsSegment}
use Rattle.pg_world.specs.Recording.{Recording, sealed_count, segment_of}
use Rattle.pg_world.proofs.Segments.{IsSegment-taken}
use Rattle.pg_world.proofs.world.World.take_sealed.Goals as goal

pub returns-clause-formed : goal.returns-clause-formed
returns-clause-formed c =
    let r : Recording = c.args.self.now in
    let segment : c.in_ok-segment.segment.items ≡ segment_of r r.taken = grind (arith, common_steps) in
    let kept : IsKept r = subst IsKept c.self.view_is c.self.invariant.kept in
    let below : r.taken < sealed_count r = grind (arith, common_steps) in
    subst (IsSegment r) (sym segment) (IsSegment-taken r r.taken kept below)
