-- What a failed pull leaves of an intake.
use Rattle.std.proofs.Common.{ℕ, ◌+◌, ◌≤◌, List, ◌++◌, length, Option, Err, arith, length-append}
use Rattle.std.specs.Io.KnownBytes.{Consumes}
use Rattle.std.proofs.KnownBytes.{Consumes-trans}
use Rattle.pg_codec.specs.declared.intake.IntakeError.{IntakeError}
use Rattle.pg_codec.specs.declared.intake.IntakeError.TheVariants.{TooMany, Device, Memory}
use Rattle.pg_codec.specs.Intakes.{GivesAll, Pulls, PullsSome}

more_pulled : (most room : ℕ) (old mid new : Option (List ℕ)) (before : List ℕ) → length before + room ≤ most + 1 → Consumes old mid before → Pulls room mid new → Pulls (most + 1) old new
more_pulled most room old mid new before fits first p =
    let count = length-append before p.0 in
    (before ++ p.0, Consumes-trans old mid new before p.0 first p.1, omega arith)

pub error_gives : (A : Type 0) (most room : ℕ) (old mid new : Option (List ℕ)) (before after : List ℕ) (e : IntakeError) → length before + room ≤ most + 1 → Consumes old mid before → PullsSome room mid new before after (Err e) → GivesAll {A = A} most old new (Err e)
error_gives A most room old mid new before after TooMany fits first p = absurd p
error_gives A most room old mid new before after Device fits first p = more_pulled most room old mid new before fits first p
error_gives A most room old mid new before after Memory fits first p = more_pulled most room old mid new before fits first p
