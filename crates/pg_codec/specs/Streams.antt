-- What a call leaves of a stream whose failures are counted.
use Rattle.std.specs.Prelude.{◌≡◌, ℕ, ◌+◌, ◌-◌, ◌^◌, Bool, if◌then◌else◌, min, List, take, Option}
use Rattle.std.specs.Prelude.{Result, Ok, Err}
use Rattle.std.specs.Io.KnownBytes.{Appends}

-- a count of failures after one more, which stays at the greatest
abbrev pub raised : ℕ → ℕ
raised n = min (n + 1) (2 ^ 64 - 1)

-- a call that fails raises the count of failures, and no other changes it
abbrev pub RaisesFailures : {X E : Type 0} → ℕ → ℕ → Result X E → Type 0
RaisesFailures old new (Ok x) = new ≡ old
RaisesFailures old new (Err e) = new ≡ raised old

-- a call whose error says that the device failed raises the count, and no other changes it
abbrev pub FailsWithDevice : {X E : Type 0} → (E → Bool) → ℕ → ℕ → Result X E → Type 0
FailsWithDevice says_device old new (Ok x) = new ≡ old
FailsWithDevice says_device old new (Err e) = new ≡ (if says_device e then raised old else old)

-- a beginning of these bytes was added
abbrev pub AppendsSome : Option (List ℕ) → Option (List ℕ) → List ℕ → Type 0
AppendsSome old new bytes = (n : ℕ) × Appends old new (take n bytes)

-- a write that is done added the bytes, and one that failed a beginning of them
abbrev pub Writes : {X E : Type 0} → Option (List ℕ) → Option (List ℕ) → Result X E → List ℕ →
    Type 0
Writes old new (Ok x) bytes = Appends old new bytes
Writes old new (Err e) bytes = AppendsSome old new bytes
