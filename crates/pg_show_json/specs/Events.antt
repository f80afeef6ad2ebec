-- Events as JSON. The fields of each are
--
--     event, cpu, kind     its number, its processor, and one of the words below
--     write                word (its physical address), value
--     access               user, ac, operation, address (linear), outcome
--     assist               user, ac, operation, address, word, dirty (whether it sets that flag)
--     cr3                  operand
--     invlpg               address
--     invpcid              type, pcid, address
--     pge                  on
--
-- and of an access and an assist moments, where these are told. An outcome has page, the physical
-- address, or fault, the error code, and whether each of its bits 0 to 4 is set.
use Rattle.std.specs.Prelude.{ℕ, Bool, List, codes}
use Rattle.pg_entry.specs.declared.Op.{Op}
use Rattle.pg_entry.specs.declared.Op.TheVariants as ops
use Rattle.pg_entry.specs.Bits.{has_bit}
use Rattle.pg_event.specs.declared.event.Event.{Event}
use Rattle.pg_event.specs.declared.event.Event.TheVariants.{Write, Access, Assist, MovCr3, Invlpg}
use Rattle.pg_event.specs.declared.event.Event.TheVariants.{Invpcid, MovCr4Pge}
use Rattle.pg_event.specs.declared.event.Outcome.{Outcome}
use Rattle.pg_event.specs.declared.event.Outcome.TheVariants.{Page, Fault}
use Rattle.pg_event.specs.Form.{processor_of, access_kind, says_dirty}
use Rattle.pg_show_json.specs.Tree.{Json, flag, count, text, object, Fields, no_fields, field}
use Rattle.pg_show_json.specs.Tree.{hex, counts}

abbrev pub op_name : Op → List ℕ
op_name ops.Read = codes "read"
op_name ops.Write = codes "write"
op_name ops.Fetch = codes "fetch"

-- whether a bit of an error code is set
abbrev pub bit : ℕ → ℕ → Json
bit code k = flag (has_bit code k)

abbrev pub code_fields : ℕ → Fields
code_fields code =
    field (codes "fault") (hex code) (field (codes "present") (bit code 0)
    (field (codes "write") (bit code 1) (field (codes "user") (bit code 2)
    (field (codes "reserved") (bit code 3) (field (codes "fetch") (bit code 4) no_fields)))))

abbrev pub outcome_json : Outcome → Json
outcome_json (Page page) = object (field (codes "page") (hex page) no_fields)
outcome_json (Fault code) = object (code_fields code)

-- what an access asks of the rights, by its flags, and its linear address
abbrev pub asked_fields : ℕ → ℕ → Fields
asked_fields flags la =
    field (codes "user") (flag (access_kind flags).user)
    (field (codes "ac") (flag (access_kind flags).ac)
    (field (codes "operation") (text (op_name (access_kind flags).op))
    (field (codes "address") (hex la) no_fields)))

abbrev pub write_fields : ℕ → ℕ → Fields
write_fields addr value =
    field (codes "kind") (text (codes "write"))
    (field (codes "word") (hex addr) (field (codes "value") (hex value) no_fields))

abbrev pub access_fields : ℕ → ℕ → Outcome → Fields
access_fields flags la outcome =
    field (codes "kind") (text (codes "access"))
    (field (codes "outcome") (outcome_json outcome) (asked_fields flags la))

abbrev pub assist_fields : ℕ → ℕ → ℕ → Fields
assist_fields flags la word =
    field (codes "kind") (text (codes "assist"))
    (field (codes "word") (hex word) (field (codes "dirty") (flag (says_dirty flags))
    (asked_fields flags la)))

abbrev pub root_fields : ℕ → Fields
root_fields operand =
    field (codes "kind") (text (codes "cr3")) (field (codes "operand") (hex operand) no_fields)

abbrev pub page_drop_fields : ℕ → Fields
page_drop_fields la =
    field (codes "kind") (text (codes "invlpg")) (field (codes "address") (hex la) no_fields)

abbrev pub pcid_drop_fields : ℕ → ℕ → ℕ → Fields
pcid_drop_fields kind pcid la =
    field (codes "kind") (text (codes "invpcid")) (field (codes "type") (count kind)
    (field (codes "pcid") (hex pcid) (field (codes "address") (hex la) no_fields)))

abbrev pub switch_fields : Bool → Fields
switch_fields on =
    field (codes "kind") (text (codes "pge")) (field (codes "on") (flag on) no_fields)

abbrev pub deed_fields : Event → Fields
deed_fields (Write p addr value) = write_fields addr value
deed_fields (Access p flags la outcome moments) = access_fields flags la outcome
deed_fields (Assist p flags la word moments) = assist_fields flags la word
deed_fields (MovCr3 p operand) = root_fields operand
deed_fields (Invlpg p la) = page_drop_fields la
deed_fields (Invpcid p kind pcid la) = pcid_drop_fields kind pcid la
deed_fields (MovCr4Pge p on) = switch_fields on

-- an event without the moments that it names
abbrev pub claim_fields : ℕ → Event → Fields
claim_fields number e =
    field (codes "event") (count number)
    (field (codes "cpu") (count (processor_of e)) (deed_fields e))

abbrev pub claim_json : ℕ → Event → Json
claim_json number e = object (claim_fields number e)

-- with the moments that it names
abbrev pub with_moments : Event → Fields → Fields
with_moments (Write p addr value) others = others
with_moments (Access p flags la outcome moments) others =
    field (codes "moments") (counts moments) others
with_moments (Assist p flags la word moments) others =
    field (codes "moments") (counts moments) others
with_moments (MovCr3 p operand) others = others
with_moments (Invlpg p la) others = others
with_moments (Invpcid p kind pcid la) others = others
with_moments (MovCr4Pge p on) others = others

abbrev pub event_fields : ℕ → Event → Fields
event_fields number e = with_moments e (claim_fields number e)

abbrev pub event_json : ℕ → Event → Json
event_json number e = object (event_fields number e)

-- an event that began when so many had ended
abbrev pub began_fields : ℕ → ℕ → Event → Fields
began_fields began number e = field (codes "began") (count began) (claim_fields number e)
