-- What a processor in memory is seen as.
use Rattle.std.specs.Prelude.{ℕ, ◌≤◌, List, length}
use Rattle.pg_guest.specs.declared.instruction.Instruction.{Instruction}
use Rattle.pg_shadow.specs.declared.entries.Found.{Found}
use Rattle.pg_shadow.specs.Find.{IsInRange}
use Rattle.pg_shadow.specs.Held as shadows
use Rattle.pg_world.specs.declared.receipt.Receipt.{Receipt}
use Rattle.pg_guest.specs.Turn.{Processor}

-- its number and instructions, the number of the next one, the walk under way for it, the receipts
-- of its events, and its shadow
pub record Held : Type 0 where
  pub number : ℕ
  pub instructions : List Instruction
  pub place : ℕ
  pub way : Found
  pub transcript : List Receipt
  pub shadow : shadows.Held

-- a processor without its number, as its turns see it
abbrev pub seen : Held → Processor
seen h = record {
  instructions = h.instructions;
  place = h.place;
  way = h.way;
  transcript = h.transcript;
  caches = shadows.seen h.shadow;
}

-- the next instruction is one of its own, if there is a further one, and the walk under way has
-- come to what may be cached
pub record IsProcessor (h : Held) : Type 0 where
  pub place : h.place ≤ length h.instructions
  pub way : IsInRange (shadows.seen h.shadow).width h.way
