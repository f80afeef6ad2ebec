-- What is kept of the upper parts of walks.
use Rattle.std.specs.Prelude.{◌≡◌, ◌≤◌, ℕ, true, List, length, Option, Some, None, Ok}
use Rattle.std.specs.List.{AllByRecursion}
use Rattle.pg_event.specs.declared.event.Want.TheVariants as wants
use Rattle.pg_event.specs.Witness.{is_in_order}
use Rattle.pg_chain.specs.declared.past.Past.{Past}
use Rattle.pg_chain.specs.declared.steps.Chain.{Chain}
use Rattle.pg_chain.specs.Standing.{InEachRun}
use Rattle.pg_chain.specs.Walked.{chain_of}
use Rattle.pg_check.specs.declared.stems.Stem.{Stem}

-- what these moments come to on p, of every run that the past stands for; it rests on the first so
-- many events alone
pub record IsStem (past : Past) (limit p region : ℕ) (ws : List ℕ) (chain : Chain) : Type 0 where
  pub few : length ws ≤ 4
  pub ordered : is_in_order ws limit ≡ true
  pub walk : InEachRun past (λ head events.
      chain_of head events p region ws wants.Present ≡ Ok chain)

abbrev pub HasStem : Past → ℕ → Option Stem → Type 0
HasStem past limit None = Unit {0}
HasStem past limit (Some s) = IsStem past limit s.p s.region s.moments s.chain

abbrev pub HaveStems : Past → ℕ → List (Option Stem) → Type 0
HaveStems past limit stems = AllByRecursion (HasStem past limit) stems
