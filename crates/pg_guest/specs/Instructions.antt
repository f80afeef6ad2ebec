-- What a line says that is an instruction: its processor, its name and its fields, word by word.
use Rattle.std.specs.Prelude.{ℕ, ◌^◌, Bool, true, false, ◌&&◌, nat_lt, if◌then◌else◌}
use Rattle.std.specs.Prelude.{List, codes, Option, Some, None, Result, Ok, Err}
use Rattle.std.specs.Str.{bytes_eq}
use Rattle.pg_entry.specs.declared.Op.{Op}
use Rattle.pg_entry.specs.declared.Op.TheVariants as ops
use Rattle.pg_entry.specs.declared.AccessKind.{AccessKind}
use Rattle.pg_event.specs.declared.event.Malformed.{Malformed}
use Rattle.pg_event.specs.Heads.{Head}
use Rattle.pg_event.specs.Form.{flags_of, broken_rule}
use Rattle.pg_guest.specs.declared.script_refusal.ScriptRefusal.{ScriptRefusal}
use Rattle.pg_guest.specs.declared.script_refusal.ScriptRefusal.TheVariants as refusals
use Rattle.pg_guest.specs.declared.instruction.Instruction.{Instruction}
use Rattle.pg_guest.specs.declared.instruction.Instruction.TheVariants as instructions
use Rattle.pg_guest.specs.declared.instruction.Task.{Task}
use Rattle.pg_guest.specs.Numbers.{dec_of}
use Rattle.pg_guest.specs.Words.{Words, FromWords, word_at, dec_at, hex_at, bit_at}
use Rattle.pg_guest.specs.Words.{ended}
use Rattle.pg_event.specs.Reading.{◌>>=◌}
use Rattle.pg_guest.specs.Tasks.{event_of}

-- the number of a processor, which begins the line
abbrev pub processor_or_refusal : Option ℕ → Words → FromWords ℕ
processor_or_refusal None words = Err refusals.Instruction
processor_or_refusal (Some p) words = Ok (p, words)

unfoldable pub processor_at : Words → FromWords ℕ
processor_at words = do
  word ← word_at words
  processor_or_refusal (dec_of word.0) word.1

abbrev pub kind_of : Op → Bool → Bool → AccessKind
kind_of op user ac = record { op = op; user = user; ac = ac }

-- an access by the word of its mode: user mode, or supervisor mode with EFLAGS.AC clear or set
abbrev pub kind_or_refusal : Op → List ℕ → Words → FromWords AccessKind
kind_or_refusal op word words =
    if bytes_eq word (codes "user") then Ok (kind_of op true false, words) else
    if bytes_eq word (codes "super") then Ok (kind_of op false false, words) else
    if bytes_eq word (codes "super-ac") then Ok (kind_of op false true, words) else
    Err refusals.Instruction

-- the mode of an access of this operation
unfoldable pub kind_at : Op → Words → FromWords AccessKind
kind_at op words = do
  word ← word_at words
  kind_or_refusal op word.0 word.1

unfoldable pub write_in : Words → Result Instruction ScriptRefusal
write_in words = do
  addr ← hex_at words
  value ← hex_at addr.1
  ended (instructions.Write addr.0 value.0, value.1)

-- address and mode
unfoldable pub access_in : Op → Words → Result Instruction ScriptRefusal
access_in op words = do
  la ← hex_at words
  kind ← kind_at op la.1
  ended (instructions.Access (flags_of kind.0) la.0, kind.1)

unfoldable pub mov_cr3_in : Words → Result Instruction ScriptRefusal
mov_cr3_in words = do
  operand ← hex_at words
  ended (instructions.MovCr3 operand.0, operand.1)

unfoldable pub invlpg_in : Words → Result Instruction ScriptRefusal
invlpg_in words = do
  la ← hex_at words
  ended (instructions.Invlpg la.0, la.1)

-- the type has one byte in an event, and the PCID two
abbrev pub fitting_invpcid : ℕ → ℕ → ℕ → Result Instruction ScriptRefusal
fitting_invpcid kind pcid la =
    if nat_lt kind (2 ^ 8) && nat_lt pcid (2 ^ 16) then Ok (instructions.Invpcid kind pcid la) else
    Err refusals.Malformed

-- type, PCID and address
unfoldable pub invpcid_in : Words → Result Instruction ScriptRefusal
invpcid_in words = do
  kind ← dec_at words
  pcid ← hex_at kind.1
  last ← hex_at pcid.1
  la ← ended last
  fitting_invpcid kind.0 pcid.0 la

unfoldable pub mov_cr4_pge_in : Words → Result Instruction ScriptRefusal
mov_cr4_pge_in words = do
  on ← bit_at words
  ended (instructions.MovCr4Pge on.0, on.1)

-- the fields of an instruction by its name
unfoldable pub instruction_in : List ℕ → Words → Result Instruction ScriptRefusal
instruction_in name words =
    if bytes_eq name (codes "write") then write_in words else
    if bytes_eq name (codes "read") then access_in ops.Read words else
    if bytes_eq name (codes "store") then access_in ops.Write words else
    if bytes_eq name (codes "fetch") then access_in ops.Fetch words else
    if bytes_eq name (codes "cr3") then mov_cr3_in words else
    if bytes_eq name (codes "invlpg") then invlpg_in words else
    if bytes_eq name (codes "invpcid") then invpcid_in words else
    if bytes_eq name (codes "pge") then mov_cr4_pge_in words else Err refusals.Instruction

abbrev pub well_formed_or_refusal : Option Malformed → Task → Result Task ScriptRefusal
well_formed_or_refusal None task = Ok task
well_formed_or_refusal (Some rule) task = Err refusals.Malformed

-- a processor's number has two bytes in an event, and the event has to be well formed
abbrev pub fitting_task : Head → ℕ → Instruction → Result Task ScriptRefusal
fitting_task head p instruction =
    if nat_lt p (2 ^ 16) then
    well_formed_or_refusal (broken_rule head (event_of p instruction)) (record {
      p = p;
      instruction = instruction;
    })
    else Err refusals.Malformed

unfoldable pub task_in : Head → Words → Result Task ScriptRefusal
task_in head words = do
  p ← processor_at words
  name ← word_at p.1
  instruction ← instruction_in name.0 name.1
  fitting_task head p.0 instruction
