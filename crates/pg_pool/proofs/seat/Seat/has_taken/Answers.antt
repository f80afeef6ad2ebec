use Rattle.std.proofs.Common.{◌∙◌, false, arith}
use Rattle.std.proofs.lemmas.List.{get_or_read}
use Rattle.pg_pool.specs.Rounds.{IsIn}
use Rattle.pg_pool.proofs.Seats.{mark_of}
use Rattle.pg_pool.proofs.seat.Seat.has_taken.Goals as goal

pub returns : goal.returns
returns c =
    let s = c.self.inside in
    let within : IsIn s.round c.args.number = rw (← c.self.view_is) at c.requires in
    let kept = c.self.invariant.1 in
    get_or_read s.marks.items _ _ (omega (arith, kept.count, within.0, within.1)) c.index.ensures false
    ∙ rw (← c.self.view_is) (mark_of s.round s.marks.items _ c.args.number kept within)
