use Rattle.std.proofs.Common.{◌≡◌, ◌∷◌, take, map, min, get_or}
use Rattle.pg_reach.proofs.reach.up_to.Given as goal

abbrev pub invariant-loop-later : goal.invariant-loop-later
invariant-loop-later l = l.early ≡ min l.moment (get_or l.latest 0 0) ∷ map (min l.moment) (take l.later-index l.later-items)
