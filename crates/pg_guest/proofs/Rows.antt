-- Worked runs of recorded processors.
use Rattle.std.proofs.Common.{◌≡◌, ◌+◌, ℕ, true, false, List, [], ◌∷◌, ◌++◌, refl, Option, Some, None}
use Rattle.std.specs.Prelude.{slice_get, slice_set, fold, map, replicate}
use Rattle.pg_entry.specs.Rules.{all_rules}
use Rattle.pg_event.specs.declared.event.Event.{Event}
use Rattle.pg_event.specs.declared.event.Event.TheVariants as events
use Rattle.pg_event.specs.declared.event.Outcome.TheVariants.{Page, Fault}
use Rattle.pg_event.specs.declared.version.Version.{Version}
use Rattle.pg_event.specs.declared.version.Version.TheVariants as versions
use Rattle.pg_event.specs.Heads.{Head}
use Rattle.pg_event.specs.Witness.{Accepted}
use Rattle.pg_guest.specs.declared.instruction.Instruction.{Instruction}
use Rattle.pg_guest.specs.declared.instruction.Instruction.TheVariants.{Write, Access, MovCr3, Invlpg}
use Rattle.pg_world.specs.declared.receipt.Receipt.{Receipt}
use Rattle.pg_world.specs.Recording.{Recording}
use Rattle.pg_guest.specs.Turn.{Processor, turned, fresh}
use Rattle.pg_guest.specs.CoreRun.{unwritten}

record State : Type 0 where
  world : Recording
  processors : List Processor

-- a turn of p, that is not stopped
abbrev turn_of : State → ℕ → Option Processor → State
turn_of s p None = s
turn_of s p (Some x) = let t = turned p s.world x in record { world = t.world; processors = slice_set s.processors p t.processor }

abbrev run : Head → List Processor → List ℕ → State
run head xs ps = fold (λ s p. turn_of s p (slice_get s.processors p)) (record { world = unwritten head; processors = xs }) ps

abbrev recorded : Head → List Processor → List ℕ → List Event
recorded head xs ps = (run head xs ps).world.events

-- MAXPHYADDR 40, WP and NXE, and one or two processors
abbrev one : Version → Head
one version = record { version = version; cfg = record { flags = record { 0 = 3 }; m = 40; rules = all_rules }; segment = 16; processors = (0x1001, true) ∷ [] }

abbrev two : Head
two = record (one versions.One) { processors = (0x1001, true) ∷ (0x1001, true) ∷ [] }

-- the tables of 0x5123 and its page
abbrev writes : List Instruction
writes = Write 0x1000 0x2007 ∷ Write 0x2000 0x3007 ∷ Write 0x3000 0x4007 ∷ Write 0x4028 0x9007 ∷ []

abbrev written : List Event
written = events.Write 0 0x1000 0x2007 ∷ events.Write 0 0x2000 0x3007 ∷ events.Write 0 0x3000 0x4007 ∷ events.Write 0 0x4028 0x9007 ∷ []

abbrev by : ℕ → ℕ → ℕ → ℕ → List ℕ
by a b c d = a ∷ b ∷ c ∷ d ∷ []

-- a user read, and its answer
abbrev read : Instruction
read = Access 4 0x5123

abbrev answer : List ℕ → Event
answer ws = events.Access 0 4 0x5123 (Page 0x9123) ws

-- a write unmaps the page: the translation answers still, until INVLPG
abbrev unmapped : List Instruction
unmapped = writes ++ read ∷ Write 0x4028 0 ∷ read ∷ Invlpg 0x5000 ∷ read ∷ []

stale_answer_then_fault : recorded (one versions.One) (fresh (one versions.One) 0 unmapped ∷ []) (replicate 16 0)
    ≡ written ++ answer (by 4 4 4 4) ∷ events.Write 0 0x4028 0 ∷ answer (by 4 4 4 4) ∷ events.Invlpg 0 0x5000 ∷ events.Access 0 4 0x5123 (Fault 4) (by 8 8 8 8) ∷ []
stale_answer_then_fault = refl

-- a walk goes on from the table that another walk read
partial_walk : recorded (one versions.One) (fresh (one versions.One) 0 (writes ++ Write 0x4030 0xa007 ∷ read ∷ Access 4 0x6123 ∷ []) ∷ []) (replicate 12 0)
    ≡ written ++ events.Write 0 0x4030 0xa007 ∷ answer (by 5 5 5 5) ∷ events.Access 0 4 0x6123 (Page 0xa123) (by 5 5 5 6) ∷ []
partial_walk = refl

-- what is cached under a PCID is there again after another, by MOV to CR3 with bit 63
two_pcids : recorded (one versions.One) (fresh (one versions.One) 0 (writes ++ read ∷ MovCr3 0x8000000000001002 ∷ read ∷ MovCr3 0x8000000000001001 ∷ read ∷ []) ∷ []) (replicate 17 0)
    ≡ written ++ answer (by 4 4 4 4) ∷ events.MovCr3 0 0x8000000000001002 ∷ answer (by 6 6 6 6) ∷ events.MovCr3 0 0x8000000000001001 ∷ answer (by 4 4 4 4) ∷ []
two_pcids = refl

-- another processor writes in the middle of a walk
write_between : recorded two (fresh two 0 (writes ++ read ∷ []) ∷ fresh two 1 (Write 0x4028 0xa007 ∷ []) ∷ []) (0 ∷ 0 ∷ 0 ∷ 0 ∷ 0 ∷ 0 ∷ 0 ∷ 1 ∷ 0 ∷ 0 ∷ [])
    ≡ written ++ events.Write 1 0x4028 0xa007 ∷ events.Access 0 4 0x5123 (Page 0xa123) (by 4 4 4 5) ∷ []
write_between = refl

-- ---- version 2

-- an assist of the read, with the entry that it sets A in
abbrev assist : ℕ → List ℕ → Event
assist word ws = events.Assist 0 4 0x5123 word ws

assists_then_answer : recorded (one versions.Two) (fresh (one versions.Two) 0 unmapped ∷ []) (replicate 20 0)
    ≡ written ++ assist 0x1000 (4 ∷ []) ∷ assist 0x2000 (5 ∷ 5 ∷ []) ∷ assist 0x3000 (5 ∷ 6 ∷ 6 ∷ []) ∷ assist 0x4028 (by 5 6 7 7)
    ∷ answer (by 5 6 7 8) ∷ events.Write 0 0x4028 0 ∷ answer (by 5 6 7 8) ∷ events.Invlpg 0 0x5000 ∷ events.Access 0 4 0x5123 (Fault 4) (by 12 12 12 12) ∷ []
assists_then_answer = refl

-- a page that was read passes over a write, until its leaf has D: the walk reads the leaf again
written_page : recorded (one versions.Two) (fresh (one versions.Two) 0 (writes ++ read ∷ Access 5 0x5123 ∷ Access 5 0x5124 ∷ []) ∷ []) (replicate 17 0)
    ≡ written ++ assist 0x1000 (4 ∷ []) ∷ assist 0x2000 (5 ∷ 5 ∷ []) ∷ assist 0x3000 (5 ∷ 6 ∷ 6 ∷ []) ∷ assist 0x4028 (by 5 6 7 7) ∷ answer (by 5 6 7 8)
    ∷ events.Assist 0 21 0x5123 0x4028 (by 5 6 7 9) ∷ events.Access 0 5 0x5123 (Page 0x9123) (by 5 6 7 10) ∷ events.Access 0 5 0x5124 (Page 0x9124) (by 5 6 7 10) ∷ []
written_page = refl

-- the auditor accepts what is recorded
accepted_unmapped : Accepted (one versions.Two) (recorded (one versions.Two) (fresh (one versions.Two) 0 unmapped ∷ []) (replicate 20 0))
accepted_unmapped = refl

-- ---- what a wrong definition would change

-- a fault that the kept rights give lets the page go: the next access walks anew
abbrev read_only : List Instruction
read_only = Write 0x1000 0x2007 ∷ Write 0x2000 0x3007 ∷ Write 0x3000 0x4007 ∷ Write 0x4028 0x9005 ∷ read ∷ Access 5 0x5123 ∷ Write 0x4028 0x9007 ∷ Access 5 0x5123 ∷ []

denied_fault_then_new_walk : recorded (one versions.One) (fresh (one versions.One) 0 read_only ∷ []) (replicate 16 0)
    ≡ events.Write 0 0x1000 0x2007 ∷ events.Write 0 0x2000 0x3007 ∷ events.Write 0 0x3000 0x4007 ∷ events.Write 0 0x4028 0x9005 ∷ answer (by 4 4 4 4)
    ∷ events.Access 0 5 0x5123 (Fault 7) (by 4 4 4 4) ∷ events.Write 0 0x4028 0x9007 ∷ events.Access 0 5 0x5123 (Page 0x9123) (by 7 7 7 7) ∷ []
denied_fault_then_new_walk = refl

-- a leaf with bit 8 is kept for its PCID alone where CR4.PGE is 0
abbrev without_pge : Head
without_pge = record (one versions.One) { processors = (0x1001, false) ∷ [] }

abbrev with_global_bit : List Instruction
with_global_bit = Write 0x1000 0x2007 ∷ Write 0x2000 0x3007 ∷ Write 0x3000 0x4007 ∷ Write 0x4028 0x9107 ∷ read ∷ Write 0x4028 0 ∷ MovCr3 0x8000000000001002 ∷ read ∷ []

global_bit_without_pge : recorded without_pge (fresh without_pge 0 with_global_bit ∷ []) (replicate 16 0)
    ≡ events.Write 0 0x1000 0x2007 ∷ events.Write 0 0x2000 0x3007 ∷ events.Write 0 0x3000 0x4007 ∷ events.Write 0 0x4028 0x9107 ∷ answer (by 4 4 4 4)
    ∷ events.Write 0 0x4028 0 ∷ events.MovCr3 0 0x8000000000001002 ∷ events.Access 0 4 0x5123 (Fault 4) (by 7 7 7 7) ∷ []
global_bit_without_pge = refl

-- each processor begins with registers of its own: the root of the second has no entry
abbrev two_roots : Head
two_roots = record (one versions.One) { processors = (0x1001, true) ∷ (0x8001, true) ∷ [] }

own_registers : recorded two_roots (fresh two_roots 0 writes ∷ fresh two_roots 1 (read ∷ []) ∷ []) (0 ∷ 0 ∷ 0 ∷ 0 ∷ 1 ∷ [])
    ≡ written ++ events.Access 1 4 0x5123 (Fault 4) (4 ∷ []) ∷ []
own_registers = refl

-- what stands in the transcripts of two processors, and how far they have come
abbrev come_to : State → List (ℕ × List Receipt)
come_to s = map (λ x. (x.place, x.transcript)) s.processors

abbrev receipt : ℕ → Event → Receipt
receipt moment event = record { moment = moment; event = event }

transcripts_of_two : come_to (run two (fresh two 0 (Write 0x1000 0x2007 ∷ []) ∷ fresh two 1 (read ∷ Invlpg 0x5000 ∷ []) ∷ []) (0 ∷ 1 ∷ 1 ∷ 1 ∷ []))
    ≡ (1, receipt 0 (events.Write 0 0x1000 0x2007) ∷ [])
    ∷ (2, receipt 1 (events.Access 1 4 0x5123 (Fault 4) (1 ∷ 1 ∷ [])) ∷ receipt 2 (events.Invlpg 1 0x5000) ∷ []) ∷ []
transcripts_of_two = refl

-- four turns do not carry an access out that walks four levels, and five do
abbrev places_after : ℕ → List ℕ
places_after turns = map (λ x. x.place) (run (one versions.One) (fresh (one versions.One) 0 (writes ++ read ∷ []) ∷ []) (replicate (4 + turns) 0)).processors

five_turns : (places_after 4 ≡ 4 ∷ []) × (places_after 5 ≡ 5 ∷ [])
five_turns = (refl, refl)
