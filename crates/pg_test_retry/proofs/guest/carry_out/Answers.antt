use Rattle.std.proofs.Common.{List, sym, subst}
use Rattle.pg_guest.specs.Held.{Held}
use Rattle.pg_guest.specs.Runs.{ArePlaced}
use Rattle.pg_world.specs.Recording.{Recording}
use Rattle.pg_test_retry.proofs.guest.carry_out.Goals as goal

pub turn_to_end-requires-clause-placed : goal.turn_to_end-requires-clause-placed
turn_to_end-requires-clause-placed c =
    subst (λ (hs : List Held). ArePlaced c.args.world.now.head hs) (sym c.deref_mut.ensures.value)
    (subst (λ (r : Recording). ArePlaced r.head c.in_ok-guests.guests.items) (sym c.requires) (λ p h at. (c.in_ok-guests.ensures.made.each p h at).placed))
