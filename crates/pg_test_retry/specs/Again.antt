-- What calls come to that are called once more where memory was refused.
use Rattle.std.specs.Prelude.{◌≡◌, ◌≢◌, ℕ, ◌+◌, ◌%◌, ◌^◌, ◌⊎◌, List, [], ◌∷◌, map}
use Rattle.pg_guest.specs.Held.{Held, seen}
use Rattle.pg_guest.specs.declared.advance.Advance.{Advance}
use Rattle.pg_guest.specs.declared.advance.Advance.TheVariants.{Stopped}
use Rattle.pg_guest.specs.declared.advance.Stop.TheVariants.{Memory}
use Rattle.pg_guest.specs.CoreRun.{IsCoreRun}
use Rattle.pg_guest.specs.Turn.{Processor}
use Rattle.pg_world.specs.Recording.{Recording}

-- a count of refused calls after one more, which begins at 0 again after the greatest
abbrev pub one_more : ℕ → ℕ
one_more refused = (refused + 1) % 2 ^ 64

-- one call was refused, or none
abbrev pub IsCounted : ℕ → ℕ → Type 0
IsCounted old new = (new ≡ old) ⊎ (new ≡ one_more old)

-- a record in the making, its processors, and how many calls were refused
pub record Stand : Type 0 where
  pub world : Recording
  pub processors : List Processor
  pub refused : ℕ

abbrev pub stand : Recording → List Held → ℕ → Stand
stand r hs refused = record { world = r; processors = map seen hs; refused = refused }

-- p took one turn, which running out of memory did not stop
pub record TookOne (p : ℕ) (answer : Advance) (old new : Stand) : Type 0 where
  pub run : IsCoreRun old.world old.processors (p ∷ []) (answer ∷ []) new.world new.processors
  pub granted : answer ≢ Stopped Memory
  pub refused : new.refused ≡ old.refused

-- p took two turns, the first of which running out of memory stopped
pub record TookTwo (p : ℕ) (answer : Advance) (old new : Stand) : Type 0 where
  pub run : IsCoreRun old.world old.processors (p ∷ p ∷ []) (Stopped Memory ∷ answer ∷ [])
      new.world new.processors
  pub refused : new.refused ≡ one_more old.refused

abbrev pub TookTurn : ℕ → Advance → Stand → Stand → Type 0
TookTurn p answer old new = TookOne p answer old new ⊎ TookTwo p answer old new
