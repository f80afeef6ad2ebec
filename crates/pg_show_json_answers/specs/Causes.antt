-- Why in every order an event does not come to pass, as JSON. It has the parts of which the lines
-- of the text are written (`Parts` of `pg_span_text`). The fields are
--
--     event                the event, with its span
--     no_memory_gives      whether no memory gives the event
--     read_after           the event behind which its walk reads in every order, with its span, or
--                          null
--     if_not_global        whether global translations may stay there
--     may_read             the entries that the walk may read since: level, word, value, is (what
--                          it is), page (of a leaf, the address of its page), written_by
--     cannot_read          those of these words that it can't: word, value, written_by,
--                          overwritten_by, and before: the event that this one comes before
--     as_written           whether assists may have set accessed and dirty flags in these values,
--                          as in version 4
--
-- An event that names no walk has the first alone. Both lists are whole, where the text cuts them.
use Rattle.std.specs.Prelude.{ℕ, Bool, true, false, List, map, Option, Some, None, codes}
use Rattle.std.specs.Prelude.{not, slice_get}
use Rattle.pg_entry.specs.declared.Cfg.{Cfg}
use Rattle.pg_entry.specs.declared.Kind.{Kind}
use Rattle.pg_entry.specs.declared.Kind.TheVariants as kinds
use Rattle.pg_entry.specs.Kinds.{kind_of}
use Rattle.pg_event.specs.declared.event.Event.{Event}
use Rattle.pg_event.specs.declared.version.Version.{Version}
use Rattle.pg_event.specs.declared.version.Version.TheVariants as versions
use Rattle.pg_explain.specs.Names.{level_number}
use Rattle.pg_span_refute.specs.Impossible.{may_be_given}
use Rattle.pg_span_run.specs.Orders.{Spanned}
use Rattle.pg_span_text.specs.declared.parts.ReadAfter.{ReadAfter}
use Rattle.pg_span_text.specs.declared.seen.Gone.{Gone}
use Rattle.pg_span_text.specs.declared.seen.Seen.{Seen}
use Rattle.pg_span_text.specs.Parts.{walked_address, Parts, parts_of}
use Rattle.pg_span_run.specs.Spans.{span_of}
use Rattle.pg_show_json.specs.Tree.{Json, nothing, flag, count, list, object, elements, hex}
use Rattle.pg_show_json.specs.Tree.{Fields, no_fields, field}
use Rattle.pg_show_json.specs.Entries.{number_json, with_held}
use Rattle.pg_show_json_answers.specs.SpannedLines.{event_json}

-- ---- behind which event

abbrev pub event_at : Spanned → ℕ → Option Event → Json
event_at s number None = nothing
event_at s number (Some e) = event_json s number e

abbrev pub after_json : Spanned → Option ReadAfter → Json
after_json s None = nothing
after_json s (Some after) = event_at s after.number (slice_get s.events after.number)

abbrev pub is_not_global : Option ReadAfter → Bool
is_not_global None = false
is_not_global (Some after) = after.keeps_global

-- ---- which entries

abbrev pub with_page : Kind → Fields → Fields
with_page kinds.Absent others = others
with_page kinds.Reserved others = others
with_page (kinds.Table addr) others = others
with_page (kinds.Leaf frame shift global_bit) others = field (codes "page") (hex frame) others

-- an entry of this kind
abbrev pub entry_json : Seen → Kind → Json
entry_json x kind = object (
    field (codes "level") (count (level_number x.level))
    (with_held x.address x.value kind (with_page kind
    (field (codes "written_by") (number_json x.writer) no_fields))))

abbrev pub may_json : Cfg → Seen → Json
may_json cfg x = entry_json x (kind_of cfg x.level x.value)

abbrev pub may_read : Cfg → List Seen → Json
may_read cfg xs = list (elements (map (may_json cfg) xs))

abbrev pub with_gone : Option Gone → Fields → Fields
with_gone None others = others
with_gone (Some gone) others =
    field (codes "overwritten_by") (count gone.by)
    (field (codes "before") (count gone.before) others)

abbrev pub cannot_json : Seen → Json
cannot_json x = object (
    field (codes "word") (hex x.address) (field (codes "value") (hex x.value)
    (with_gone x.gone (field (codes "written_by") (number_json x.writer) no_fields))))

abbrev pub cannot_read : List Seen → Json
cannot_read xs = list (elements (map cannot_json xs))

abbrev pub is_as_written : Version → Bool
is_as_written versions.One = false
is_as_written versions.Two = true

-- ---- the whole

abbrev pub parts_fields : Spanned → Parts → Fields
parts_fields s parts =
    field (codes "read_after") (after_json s parts.after)
    (field (codes "if_not_global") (flag (is_not_global parts.after))
    (field (codes "may_read") (may_read s.head.cfg parts.may_read)
    (field (codes "cannot_read") (cannot_read parts.cannot_read)
    (field (codes "as_written") (flag (is_as_written s.head.version)) no_fields))))

abbrev pub walk_fields : Spanned → ℕ → Event → Option ℕ → Fields
walk_fields s number e None = no_fields
walk_fields s number e (Some la) =
    field (codes "no_memory_gives") (flag (not (may_be_given s.head.cfg e)))
    (parts_fields s (parts_of s (span_of s number e) la))

abbrev pub event_cause : Spanned → ℕ → Event → Json
event_cause s number e = object (
    field (codes "event") (event_json s number e) (walk_fields s number e (walked_address e)))

abbrev pub cause_at : Spanned → ℕ → Option Event → Json
cause_at s number None = nothing
cause_at s number (Some e) = event_cause s number e

-- why in every order the event with this number does not come to pass, if there is one
abbrev pub cause_json : Spanned → ℕ → Json
cause_json s number = cause_at s number (slice_get s.events number)
