-- From which moment on what is cached may matter.
use Rattle.std.specs.Prelude.{◌≡◌, ℕ, ◌<◌, ◌≤◌, Bool, false}
use Rattle.pg_entry.specs.declared.Level.{Level}
use Rattle.pg_entry.specs.declared.Level.TheVariants.{Four, Three, Two, One}
use Rattle.pg_event.specs.Spelling.{Recorded}
use Rattle.pg_event.specs.Invalidation.{translation_key}
use Rattle.pg_event.specs.Witness.{translation_survives}
use Rattle.pg_reach.specs.declared.walker.Walker.{Walker}
use Rattle.pg_reach.specs.declared.since.Bounds.{Bounds}
use Rattle.pg_reach.specs.Reaching.{structure_lasts}

-- what survives up to a moment does not do so from one before this
pub record IsSince (lasts : ℕ → Bool) (to since : ℕ) : Type 0 where
  pub within : since ≤ to
  pub none : (w : ℕ) → w < since → lasts w ≡ false

-- the structure entry that a level gives survives from a moment up to this one (4.10.4.1)
abbrev pub structure_up_to : Recorded → Walker → Level → ℕ → ℕ → Bool
structure_up_to r v level to from = structure_lasts r v level from to

-- a translation of the address survives from a moment up to the number of the event (4.10.4.1)
abbrev pub translation_up_to : Recorded → Walker → ℕ → Bool → ℕ → Bool
translation_up_to r v shift global from =
    translation_survives r.head r.events v.p (translation_key v.pcid shift global v.la)
    from v.number

-- the bound of a level
abbrev pub bound_of : Bounds → Level → ℕ
bound_of b Four = b.four
bound_of b Three = b.three
bound_of b Two = b.two
bound_of b One = b.one

-- a structure entry of the level above does not survive from before its bound up to that of the
-- level
pub record AreBounds (r : Recorded) (v : Walker) (since : ℕ) (b : Bounds) : Type 0 where
  pub one : b.one ≡ since
  pub two : IsSince (structure_up_to r v Two b.one) b.one b.two
  pub three : IsSince (structure_up_to r v Three b.two) b.two b.three
  pub four : IsSince (structure_up_to r v Four b.three) b.three b.four
