-- The line of an event, as a person reads it. Numbers are decimal; HEX is hexadecimal in lower
-- case, with `0x` and no leading zeros. What stands in < > may be left out.
--
--     LINE      NUMBER cpu PROCESSOR EVENT
--     EVENT     write [HEX] = HEX                           of a word, by its physical address
--               ACCESS -> OUTCOME moments MOMENT ..
--               ACCESS assist [HEX] accessed< dirty> moments MOMENT ..       which word it sets
--               cr3 HEX
--               invlpg HEX
--               invpcid TYPE HEX HEX                        its PCID, and its linear address
--               pge on, pge off
--     ACCESS    MODE OPERATION HEX                          to a linear address
--     MODE      user, super; with EFLAGS.AC user-ac, super-ac
--     OPERATION read, write, fetch
--     OUTCOME   HEX                                         the physical address
--               fault HEX< (BIT ..)>                        the names of the code's set bits
--     BIT       present, write, user, reserved, fetch       from bit 0 up; others have no name
use Rattle.std.specs.Prelude.{ℕ, zero, suc, ◌+◌, Bool, false, if◌then◌else◌, ◌==◌}
use Rattle.std.specs.Prelude.{List, [], ◌∷◌, ◌++◌, Option, Some, None, codes, decimal, slice_get}
use Rattle.std.specs.Fmt.{digits}
use Rattle.pg_entry.specs.declared.AccessKind.{AccessKind}
use Rattle.pg_entry.specs.declared.Op.{Op}
use Rattle.pg_entry.specs.declared.Op.TheVariants as ops
use Rattle.pg_entry.specs.Bits.{has_bit}
use Rattle.pg_event.specs.declared.event.Event.{Event}
use Rattle.pg_event.specs.declared.event.Event.TheVariants.{Write, Access, Assist, MovCr3, Invlpg}
use Rattle.pg_event.specs.declared.event.Event.TheVariants.{Invpcid, MovCr4Pge}
use Rattle.pg_event.specs.declared.event.Outcome.{Outcome}
use Rattle.pg_event.specs.declared.event.Outcome.TheVariants.{Page, Fault}
use Rattle.pg_event.specs.Form.{processor_of, access_kind, says_dirty}

abbrev pub hex : ℕ → List ℕ
hex n = codes "0x" ++ digits 16 false n

-- a word of table memory, by its physical address
abbrev pub word_text : ℕ → List ℕ
word_text address = codes "[" ++ (hex address ++ codes "]")

-- numbers, each after a space
abbrev pub numbers_text : List ℕ → List ℕ
numbers_text [] = []
numbers_text (n ∷ ns) = codes " " ++ (decimal n ++ numbers_text ns)

abbrev pub moments_text : List ℕ → List ℕ
moments_text ws = codes " moments" ++ numbers_text ws

abbrev pub mode_name : AccessKind → List ℕ
mode_name kind =
    if kind.user then (if kind.ac then codes "user-ac" else codes "user") else
    if kind.ac then codes "super-ac" else codes "super"

abbrev pub op_name : Op → List ℕ
op_name ops.Read = codes "read"
op_name ops.Write = codes "write"
op_name ops.Fetch = codes "fetch"

abbrev pub kind_text : AccessKind → List ℕ
kind_text kind = mode_name kind ++ (codes " " ++ op_name kind.op)

abbrev pub access_text : ℕ → ℕ → List ℕ
access_text flags la = kind_text (access_kind flags) ++ (codes " " ++ hex la)

-- the names of bits 0 to 4 of an error code
abbrev pub bit_name : ℕ → List ℕ
bit_name k =
    if k == 0 then codes "present" else
    if k == 1 then codes "write" else
    if k == 2 then codes "user" else
    if k == 3 then codes "reserved" else codes "fetch"

-- the names of the set ones of so many bits, from this one on
abbrev pub names_from : ℕ → ℕ → ℕ → List (List ℕ)
names_from code k zero = []
names_from code k (suc n) =
    if has_bit code k then bit_name k ∷ names_from code (k + 1) n else names_from code (k + 1) n

abbrev pub bit_names : ℕ → List (List ℕ)
bit_names code = names_from code 0 5

-- what follows the first name in brackets
abbrev pub closing : List (List ℕ) → List ℕ
closing [] = codes ")"
closing (name ∷ names) = codes " " ++ (name ++ closing names)

-- what stands before a name in brackets
abbrev pub opening : Bool → List ℕ
opening is_opened = if is_opened then codes " " else codes " ("

-- names in brackets after a space, if there are any
abbrev pub in_brackets : List (List ℕ) → List ℕ
in_brackets [] = []
in_brackets (name ∷ names) = codes " (" ++ (name ++ closing names)

abbrev pub code_text : ℕ → List ℕ
code_text code = codes "fault " ++ (hex code ++ in_brackets (bit_names code))

abbrev pub outcome_text : Outcome → List ℕ
outcome_text (Page page) = hex page
outcome_text (Fault code) = code_text code

-- what an assist with these flags sets
abbrev pub set_text : ℕ → List ℕ
set_text flags = if says_dirty flags then codes "accessed dirty" else codes "accessed"

-- an assist, after the access that it serves
abbrev pub assist_text : ℕ → ℕ → List ℕ
assist_text flags word = codes " assist " ++ (word_text word ++ (codes " " ++ set_text flags))

abbrev pub switch_text : Bool → List ℕ
switch_text on = if on then codes "on" else codes "off"

abbrev pub event_text : Event → List ℕ
event_text (Write p addr value) =
    codes "write " ++ (word_text addr ++ (codes " = " ++ hex value))
event_text (Access p flags la outcome moments) =
    access_text flags la ++ (codes " -> " ++ (outcome_text outcome ++ moments_text moments))
event_text (Assist p flags la word moments) =
    access_text flags la ++ (assist_text flags word ++ moments_text moments)
event_text (MovCr3 p operand) = codes "cr3 " ++ hex operand
event_text (Invlpg p la) = codes "invlpg " ++ hex la
event_text (Invpcid p kind pcid la) =
    codes "invpcid " ++ (decimal kind ++ (codes " " ++ (hex pcid ++ (codes " " ++ hex la))))
event_text (MovCr4Pge p on) = codes "pge " ++ switch_text on

-- an event without the moments that it names
abbrev pub claim_text : Event → List ℕ
claim_text (Write p addr value) = event_text (Write p addr value)
claim_text (Access p flags la outcome moments) =
    access_text flags la ++ (codes " -> " ++ outcome_text outcome)
claim_text (Assist p flags la word moments) = access_text flags la ++ assist_text flags word
claim_text (MovCr3 p operand) = event_text (MovCr3 p operand)
claim_text (Invlpg p la) = event_text (Invlpg p la)
claim_text (Invpcid p kind pcid la) = event_text (Invpcid p kind pcid la)
claim_text (MovCr4Pge p on) = event_text (MovCr4Pge p on)

-- the moments that an event names
abbrev pub named_text : Event → List ℕ
named_text (Write p addr value) = []
named_text (Access p flags la outcome moments) = moments_text moments
named_text (Assist p flags la word moments) = moments_text moments
named_text (MovCr3 p operand) = []
named_text (Invlpg p la) = []
named_text (Invpcid p kind pcid la) = []
named_text (MovCr4Pge p on) = []

-- the line of the event with this number, without its end
abbrev pub event_line : ℕ → Event → List ℕ
event_line number e =
    decimal number ++ (codes " cpu " ++ (decimal (processor_of e) ++ (codes " " ++ event_text e)))

-- the line of an event by its number, where there is one
abbrev pub line_at : ℕ → Option Event → List ℕ
line_at number None = []
line_at number (Some e) = event_line number e

abbrev pub numbered_text : List Event → ℕ → List ℕ
numbered_text events number = line_at number (slice_get events number)

-- the processor of the event with a number, or 0 where there is none
abbrev pub processor_or : Option Event → ℕ
processor_or None = 0
processor_or (Some e) = processor_of e

abbrev pub processor_at : List Event → ℕ → ℕ
processor_at events number = processor_or (slice_get events number)
