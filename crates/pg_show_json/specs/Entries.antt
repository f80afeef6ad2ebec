-- Entries of a walk as JSON. The fields of each are
--
--     level, moment, pcid  where the walk reads it, when, and under which PCID
--     word, value, is      its physical address, what it holds, and what that is
--     written_by           the event that wrote the value, or null
use Rattle.std.specs.Prelude.{ℕ, List, map, Option, Some, None, codes}
use Rattle.pg_entry.specs.declared.Kind.{Kind}
use Rattle.pg_explain.specs.declared.entry.WalkEntry.{WalkEntry}
use Rattle.pg_explain.specs.Names.{level_number}
use Rattle.pg_explain.specs.Text.{kind_name}
use Rattle.pg_explain.specs.Walk.{down_to_end}
use Rattle.pg_show_json.specs.Tree.{Json, nothing, count, text, list, object, elements, hex}
use Rattle.pg_show_json.specs.Tree.{Fields, no_fields, field}

-- the number of an event, if there is one
abbrev pub number_json : Option ℕ → Json
number_json None = nothing
number_json (Some number) = count number

-- a word, what it holds, and what that is
abbrev pub with_held : ℕ → ℕ → Kind → Fields → Fields
with_held address value kind others =
    field (codes "word") (hex address) (field (codes "value") (hex value)
    (field (codes "is") (text (kind_name kind)) others))

abbrev pub entry_json : WalkEntry → Json
entry_json x = object (
    field (codes "level") (count (level_number x.step.level))
    (field (codes "moment") (count x.step.moment) (field (codes "pcid") (hex x.pcid)
    (with_held x.step.address x.step.value x.kind
    (field (codes "written_by") (number_json x.writer) no_fields)))))

abbrev pub walk_json : List WalkEntry → Json
walk_json walk = list (elements (map entry_json (down_to_end walk)))
