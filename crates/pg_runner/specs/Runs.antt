-- Runs of guest scripts.
use Rattle.std.specs.Prelude.{◌≡◌, ℕ, List, length, map, Some, slice_get}
use Rattle.pg_event.specs.declared.record.Record.{Record}
use Rattle.pg_event.specs.Spelling.{Recorded}
use Rattle.pg_guest.specs.Reading.{Scripted}
use Rattle.pg_guest.specs.Tasks.{instructions_of}
use Rattle.pg_world.specs.declared.receipt.Receipt.{Receipt}
use Rattle.pg_world.specs.Recording.{Recording, recorded}
use Rattle.pg_guest.specs.declared.advance.Advance.{Advance}
use Rattle.pg_guest.specs.Turn.{Processor, fresh}
use Rattle.pg_guest.specs.CoreRun.{IsCoreRun, unwritten}
use Rattle.pg_guest.specs.Transcripts.{AreOf, receipts_from, shapes_of}

abbrev pub record_of : Record → Recorded
record_of trace = record { head = trace.header; events = trace.events.items }

-- the processors of a script, each before its first instruction
pub record AreStarted (script : Scripted) (xs : List Processor) : Type 0 where
  pub count : length xs ≡ length script.head.processors
  pub each : (p : ℕ) (x : Processor) → slice_get xs p ≡ Some x →
      x ≡ fresh script.head p (instructions_of p script.tasks)

-- turns of the script's processors lead from an empty record to this one and these processors
pub record RunsTo (script : Scripted) (end : Recording) (ys : List Processor) : Type 0 where
  pub start : List Processor
  pub started : AreStarted script start
  pub turns : List ℕ
  pub answers : List Advance
  pub run : IsCoreRun (unwritten script.head) start turns answers end ys

-- each event is one of the script's processors; of each of them the receipts are its events with
-- their numbers, in order, and these carried out its instructions, in their order
pub record AreReceipts (script : Scripted) (r : Recorded) (receipts : List (List Receipt)) : Type 0
  where
    pub count : length receipts ≡ length script.head.processors
    pub all : AreOf (length script.head.processors) r.events
    pub events : (p : ℕ) (own : List Receipt) → slice_get receipts p ≡ Some own →
        own ≡ receipts_from p 0 r.events
    pub shapes : (p : ℕ) (own : List Receipt) → slice_get receipts p ≡ Some own →
        shapes_of own ≡ instructions_of p script.tasks

-- a record of a run of the script's processors, with the receipts of each, in which all
-- instructions were carried out
pub record IsRunOfScript (script : Scripted) (r : Recorded) (receipts : List (List Receipt)) :
    Type 0 where
  pub end : Recording
  pub ends : List Processor
  pub runs : RunsTo script end ends
  pub record_is : recorded end ≡ r
  pub head : r.head ≡ script.head
  pub receipts_are : map (λ y. y.transcript) ends ≡ receipts
  pub whole : AreReceipts script r receipts
