-- What taking in all bytes of a source gives.
use Rattle.std.specs.Prelude.{◌≡◌, ℕ, ◌+◌, ◌≤◌, Bool, true, false, List, ◌++◌, length, Option}
use Rattle.std.specs.Prelude.{Result, Ok, Err}
use Rattle.std.specs.Io.KnownBytes.{Consumes, IsAtEnd}
use Rattle.std.specs.Prelude.{Vec}
use Rattle.pg_codec.specs.declared.intake.IntakeError.{IntakeError}
use Rattle.pg_codec.specs.declared.intake.IntakeError.TheVariants.{TooMany, Device, Memory}

abbrev pub is_device : IntakeError → Bool
is_device TooMany = false
is_device Device = true
is_device Memory = false

-- at most so many bytes were pulled
abbrev pub Pulls : ℕ → Option (List ℕ) → Option (List ℕ) → Type 0
Pulls most old new = (bytes : List ℕ) × Consumes old new bytes × (length bytes ≤ most)

-- bytes were pulled and added, none only at the end; an error says nothing of how many
abbrev pub PullsSome : ℕ → Option (List ℕ) → Option (List ℕ) → List ℕ → List ℕ →
    Result ℕ IntakeError → Type 0
PullsSome most old new before after (Ok n) =
    (bytes : List ℕ) × Consumes old new bytes × (length bytes ≡ n) × (after ≡ before ++ bytes)
    × (n ≡ 0 → IsAtEnd new)
PullsSome most old new before after (Err TooMany) = ⊥
PullsSome most old new before after (Err Device) = Pulls most old new
PullsSome most old new before after (Err Memory) = Pulls most old new

-- These are all bytes that were left, at most so many; or there are more, of which one past the
-- most was pulled; or no more than that were, and the device failed or memory was refused.
module _ {A : Type 0} where
  abbrev pub GivesAll : ℕ → Option (List ℕ) → Option (List ℕ) → Result (Vec ℕ A) IntakeError →
      Type 0
  GivesAll most old new (Ok bytes) =
      Consumes old new bytes.items × IsAtEnd new × (length bytes.items ≤ most)
  GivesAll most old new (Err TooMany) =
      (bytes : List ℕ) × Consumes old new bytes × (length bytes ≡ most + 1)
  GivesAll most old new (Err Device) = Pulls (most + 1) old new
  GivesAll most old new (Err Memory) = Pulls (most + 1) old new
