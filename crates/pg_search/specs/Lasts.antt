-- What an event leaves, and up to which moment an entry lasts.
use Rattle.std.specs.Prelude.{◌≡◌, ℕ, ◌<◌, ◌≤◌, ◌^◌, Bool, true, not, List, slice_get}
use Rattle.std.specs.Prelude.{Option, Some, None}
use Rattle.pg_event.specs.declared.control.Control.{Control}
use Rattle.pg_event.specs.declared.event.Event.{Event}
use Rattle.pg_event.specs.Heads.{Head}
use Rattle.pg_event.specs.Values.{control_at}
use Rattle.pg_event.specs.Witness.{takes_out}

-- event w does not take out what the test says
abbrev pub stays : Head → List Event → ℕ → (Control → Event → Bool) → ℕ → Bool
stays head events p test w =
    not (takes_out p test (control_at head events p w) (slice_get events w))

-- something stands from one moment up to this one, and up to no later one that a moment may be
pub record IsEnd (stands : ℕ → Bool) (from end : ℕ) : Type 0 where
  pub order : from ≤ end
  pub lasts : stands end ≡ true
  pub most : (w : ℕ) → w < 2 ^ 32 → stands w ≡ true → w ≤ end

-- something that stands from one moment on still stands at the other, or up to the event that took
-- it away, and to no later one up to the other
abbrev pub IsEndedBy : (ℕ → Bool) → ℕ → ℕ → Option ℕ → Type 0
IsEndedBy stands from to None = stands to ≡ true
IsEndedBy stands from to (Some event) =
    (from ≤ event) × (event < to) × (stands event ≡ true)
    × ((w : ℕ) → w ≤ to → stands w ≡ true → w ≤ event)
