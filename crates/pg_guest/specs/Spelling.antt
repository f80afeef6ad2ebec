-- The canonical text of a script: no comments, no leading zeros, digits in lower case.
use Rattle.std.specs.Prelude.{◌≡◌, ℕ, ◌^◌, ◌<◌, Bool, false, ◌&&◌, if◌then◌else◌}
use Rattle.std.specs.Prelude.{List, [], ◌∷◌, ◌++◌, map, codes, Ok}
use Rattle.std.specs.Fmt.{digits}
use Rattle.std.specs.List.{AllByRecursion}
use Rattle.pg_entry.specs.declared.Op.{Op}
use Rattle.pg_entry.specs.declared.Op.TheVariants as ops
use Rattle.pg_entry.specs.declared.AccessKind.{AccessKind}
use Rattle.pg_entry.specs.Bits.{has_bit}
use Rattle.pg_event.specs.declared.version.Version.{Version}
use Rattle.pg_event.specs.declared.version.Version.TheVariants as versions
use Rattle.pg_event.specs.Form.{access_kind}
use Rattle.pg_guest.specs.declared.instruction.Instruction.{Instruction}
use Rattle.pg_guest.specs.declared.instruction.Instruction.TheVariants as instructions
use Rattle.pg_guest.specs.declared.instruction.Task.{Task}
use Rattle.pg_guest.specs.Words.{Words}
use Rattle.pg_guest.specs.Reading.{Scripted, IsScript, reading}

-- what std writes of a number: no leading zeros, and letters in lower case
abbrev pub dec_word : ℕ → List ℕ
dec_word n = digits 10 false n

abbrev pub hex_word : ℕ → List ℕ
hex_word n = 0x30 ∷ 0x78 ∷ digits 16 false n

abbrev pub bit_word : Bool → List ℕ
bit_word b = if b then codes "1" else codes "0"

abbrev pub version_word : Version → List ℕ
version_word versions.One = codes "1"
version_word versions.Two = codes "2"

-- the word of a setting, where its bit is 1
abbrev pub setting_words : List ℕ → ℕ → ℕ → Words
setting_words name flags bit = if has_bit flags bit then name ∷ [] else []

abbrev pub settings_words : ℕ → Words
settings_words flags =
    setting_words (codes "wp") flags 0 ++ setting_words (codes "nxe") flags 1
    ++ setting_words (codes "smep") flags 2
    ++ setting_words (codes "smap") flags 3

abbrev pub start_words : ℕ × Bool → Words
start_words start = codes "cpu" ∷ hex_word start.0 ∷ bit_word start.1 ∷ []

abbrev pub op_word : Op → List ℕ
op_word ops.Read = codes "read"
op_word ops.Write = codes "store"
op_word ops.Fetch = codes "fetch"

abbrev pub mode_word : AccessKind → List ℕ
mode_word kind =
    if kind.user then codes "user" else if kind.ac then codes "super-ac" else codes "super"

abbrev pub access_words : AccessKind → ℕ → Words
access_words kind la = op_word kind.op ∷ hex_word la ∷ mode_word kind ∷ []

abbrev pub instruction_words : Instruction → Words
instruction_words (instructions.Write addr value) =
    codes "write" ∷ hex_word addr ∷ hex_word value ∷ []
instruction_words (instructions.Access flags la) = access_words (access_kind flags) la
instruction_words (instructions.MovCr3 operand) = codes "cr3" ∷ hex_word operand ∷ []
instruction_words (instructions.Invlpg la) = codes "invlpg" ∷ hex_word la ∷ []
instruction_words (instructions.Invpcid kind pcid la) =
    codes "invpcid" ∷ dec_word kind ∷ hex_word pcid ∷ hex_word la ∷ []
instruction_words (instructions.MovCr4Pge on) = codes "pge" ∷ bit_word on ∷ []

abbrev pub task_words : Task → Words
task_words task = dec_word task.p ∷ instruction_words task.instruction

-- the lines of a script, as words
abbrev pub script_lines : Scripted → List Words
script_lines s =
    (codes "pcid-guest" ∷ version_word s.head.version ∷ [])
    ∷ (codes "machine" ∷ dec_word s.head.cfg.m ∷ settings_words s.head.cfg.flags.0)
    ∷ (codes "segment" ∷ dec_word s.head.segment ∷ [])
    ∷ map start_words s.head.processors ++ map task_words s.tasks

-- words with one space between each and the next
abbrev pub spaced : Words → List ℕ
spaced [] = []
spaced (word ∷ []) = word
spaced (word ∷ next ∷ words) = word ++ 32 ∷ spaced (next ∷ words)

-- lines, each ended by LF
abbrev pub text_of_lines : List Words → List ℕ
text_of_lines [] = []
text_of_lines (words ∷ lines) = spaced words ++ 10 ∷ text_of_lines lines

abbrev pub text_of : Scripted → List ℕ
text_of s = text_of_lines (script_lines s)

-- fields are within their widths; and EFLAGS.AC is said of supervisor accesses alone
abbrev pub FitsInstruction : Instruction → Type 0
FitsInstruction (instructions.Write addr value) = (addr < 2 ^ 64) × (value < 2 ^ 64)
FitsInstruction (instructions.Access flags la) =
    (la < 2 ^ 64) × ((has_bit flags 2 && has_bit flags 3) ≡ false)
FitsInstruction (instructions.MovCr3 operand) = operand < 2 ^ 64
FitsInstruction (instructions.Invlpg la) = la < 2 ^ 64
FitsInstruction (instructions.Invpcid kind pcid la) =
    (kind < 2 ^ 8) × (pcid < 2 ^ 16) × (la < 2 ^ 64)
FitsInstruction (instructions.MovCr4Pge on) = Unit {0}

-- a script that a text can say
pub record IsSayable (s : Scripted) : Type 0 where
  pub script : IsScript s
  pub fits : AllByRecursion (λ task. FitsInstruction task.instruction) s.tasks

-- the canonical text of a script is read as that script
abbrev pub ReadingOfText : Type 0
ReadingOfText = (s : Scripted) → IsSayable s → reading (text_of s) ≡ Ok s
