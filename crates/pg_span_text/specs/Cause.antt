-- Why in every order an event does not come to pass, a fact a line.
--
--     event: LINE                            the event, as it is shown with its span
--     no memory gives it: ..                 why no memory gives the event, where none does
--     read after: LINE                       the last event of its processor that drops each
--                                            translation of its page under its PCID: what it uses
--                                            was read after that. Without one, no such line
--     read after, if not global: LINE        the same, where global ones may stay
--     may read: ..                           which entries a walk under its PCID may read since
--                                            (`Text`), whatever the order
--     values are as written: ..              in version 4 other flags may stand in them
--     can't read: ..                         which entries of these words it can't, and why
--
-- An event that names no walk has its own line alone.
use Rattle.std.specs.Prelude.{ℕ, Bool, if◌then◌else◌, List, [], ◌++◌, Option, Some, None, codes}
use Rattle.std.specs.Prelude.{slice_get}
use Rattle.pg_entry.specs.declared.Cfg.{Cfg}
use Rattle.pg_event.specs.declared.event.Event.{Event}
use Rattle.pg_event.specs.declared.event.Event.TheVariants.{Write, Access, Assist, MovCr3, Invlpg}
use Rattle.pg_event.specs.declared.event.Event.TheVariants.{Invpcid, MovCr4Pge}
use Rattle.pg_event.specs.declared.event.Outcome.{Outcome}
use Rattle.pg_event.specs.declared.event.Outcome.TheVariants.{Page, Fault}
use Rattle.pg_event.specs.declared.version.Version.{Version}
use Rattle.pg_event.specs.declared.version.Version.TheVariants as versions
use Rattle.pg_event.specs.Heads.{Head}
use Rattle.pg_span_refute.specs.Impossible.{may_be_given}
use Rattle.pg_span_run.specs.Orders.{Spanned, ended_before}
use Rattle.pg_span_text.specs.declared.parts.ReadAfter.{ReadAfter}
use Rattle.pg_span_text.specs.declared.seen.Seen.{Seen}
use Rattle.pg_span_run.specs.declared.span.Span.{Span}
use Rattle.pg_span_text.specs.Lines.{began_line}
use Rattle.pg_span_text.specs.Parts.{walked_address, Parts, parts_of}
use Rattle.pg_span_run.specs.Spans.{span_of}
use Rattle.pg_span_text.specs.Text.{may_lines, cannot_lines}

-- the line of an event with this number
abbrev pub numbered_line : Spanned → ℕ → Event → List ℕ
numbered_line s number e = began_line (ended_before s number) number e ++ codes "\n"

-- ---- after which event

abbrev pub after_name : Bool → List ℕ
after_name keeps = if keeps then codes "read after, if not global: " else codes "read after: "

abbrev pub after_event : Spanned → ReadAfter → Option Event → List ℕ
after_event s after None = []
after_event s after (Some e) =
    after_name after.keeps_global ++ numbered_line s after.number e

abbrev pub after_text : Spanned → Option ReadAfter → List ℕ
after_text s None = []
after_text s (Some after) = after_event s after (slice_get s.events after.number)

-- ---- which entries

abbrev pub version_text : Version → List ℕ
version_text versions.One = []
version_text versions.Two =
    codes "values are as written: assists may have set accessed and dirty\n"

abbrev pub entries_text : Head → List Seen → List Seen → List ℕ
entries_text head may cannot =
    may_lines head.cfg 0 may ++ (version_text head.version ++ cannot_lines 0 cannot)

-- ---- what no memory gives

abbrev pub refused_outcome : Outcome → List ℕ
refused_outcome (Page page) =
    codes "no memory gives it: the address has another offset in its page\n"
refused_outcome (Fault code) =
    codes "no memory gives it: no cause of a page fault gives such an access this code\n"

-- why no memory gives an event, where none does
abbrev pub refused_text : Event → List ℕ
refused_text (Write p addr value) = []
refused_text (Access p flags la outcome moments) = refused_outcome outcome
refused_text (Assist p flags la word moments) =
    codes "no memory gives it: no walk for this address sets these flags in this word\n"
refused_text (MovCr3 p operand) = []
refused_text (Invlpg p la) = []
refused_text (Invpcid p kind pcid la) = []
refused_text (MovCr4Pge p on) = []

abbrev pub given_text : Cfg → Event → List ℕ
given_text cfg e = if may_be_given cfg e then [] else refused_text e

-- ---- the whole

-- the event, and why no memory gives it
abbrev pub head_text : Spanned → ℕ → Event → List ℕ
head_text s number e =
    codes "event: " ++ (numbered_line s number e ++ given_text s.head.cfg e)

abbrev pub parts_text : Spanned → Parts → List ℕ
parts_text s parts =
    after_text s parts.after ++ entries_text s.head parts.may_read parts.cannot_read

abbrev pub walk_text : Spanned → Span → Option ℕ → List ℕ
walk_text s event None = []
walk_text s event (Some la) = parts_text s (parts_of s event la)

abbrev pub event_text : Spanned → ℕ → Event → List ℕ
event_text s number e =
    head_text s number e ++ walk_text s (span_of s number e) (walked_address e)

abbrev pub event_text_of : Spanned → ℕ → Option Event → List ℕ
event_text_of s number None = []
event_text_of s number (Some e) = event_text s number e

-- why in every order the event with this number does not come to pass, if there is one
abbrev pub cause_text : Spanned → ℕ → List ℕ
cause_text s number = event_text_of s number (slice_get s.events number)
