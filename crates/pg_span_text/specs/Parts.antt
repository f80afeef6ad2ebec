-- What the cause of an event says of its walk, whatever the order: after which event of its
-- processor it reads, which entries it may read since, and which it can't. The lines of a cause
-- (`Cause`) are written of these parts.
use Rattle.std.specs.Prelude.{ℕ, ◌+◌, not, filter, reverse, List, Option, Some, None, is_none}
use Rattle.std.specs.Prelude.{slice_get}
use Rattle.pg_event.specs.declared.event.Event.{Event}
use Rattle.pg_event.specs.declared.event.Event.TheVariants.{Write, Access, Assist, MovCr3, Invlpg}
use Rattle.pg_event.specs.declared.event.Event.TheVariants.{Invpcid, MovCr4Pge}
use Rattle.pg_event.specs.Values.{control_at}
use Rattle.pg_span_run.specs.Orders.{Spanned}
use Rattle.pg_span_text.specs.declared.parts.ReadAfter.{ReadAfter}
use Rattle.pg_span_text.specs.declared.parts.WalkCause.{WalkCause}
use Rattle.pg_span_text.specs.declared.seen.Seen.{Seen}
use Rattle.pg_span_text.specs.declared.seen.Walk.{Walk}
use Rattle.pg_span_run.specs.declared.span.Span.{Span}
use Rattle.pg_span_text.specs.Drops.{keeps_global, last_drop, roots}
use Rattle.pg_span_text.specs.Seen.{seen_of}
use Rattle.pg_span_run.specs.Spans.{span_at}

-- the linear address whose walk an event names
abbrev pub walked_address : Event → Option ℕ
walked_address (Write p addr value) = None
walked_address (Access p flags la outcome moments) = Some la
walked_address (Assist p flags la word moments) = Some la
walked_address (MovCr3 p operand) = None
walked_address (Invlpg p la) = None
walked_address (Invpcid p kind pcid la) = None
walked_address (MovCr4Pge p on) = None

-- ---- after which event

-- after this one, and whether global translations of the page may stay there
abbrev pub read_after_at : Spanned → ℕ → ℕ → ℕ → ℕ → Option Event → Option ReadAfter
read_after_at s p pcid la d None = None
read_after_at s p pcid la d (Some e) = Some (record {
  number = d;
  keeps_global = keeps_global s.head.cfg.rules (control_at s.head s.events p d) pcid la e;
})

-- after the one that drops what processor p had of the page, if there is one
abbrev pub read_after : Spanned → ℕ → ℕ → ℕ → Option ℕ → Option ReadAfter
read_after s p pcid la None = None
read_after s p pcid la (Some d) = read_after_at s p pcid la d (slice_get s.events d)

-- ---- which entries

-- the span of an event by its number, where there is one
abbrev pub span_of_some : Spanned → Option ℕ → Option Span
span_of_some s None = None
span_of_some s (Some d) = span_at s d

-- the first event after one, or after none
abbrev pub start_of : Option ℕ → ℕ
start_of None = 0
start_of (Some d) = d + 1

abbrev pub walk_of : Spanned → Span → ℕ → Option ℕ → Walk
walk_of s event la d = record { la = la; event = event; drop = span_of_some s d }

-- what the words hold that the walk of the asked event may read after an event
abbrev pub seen_behind : Spanned → Span → ℕ → ℕ → Option ℕ → List Seen
seen_behind s event la pcid d =
    seen_of s (walk_of s event la d) (roots s event.p pcid (start_of d) event.number)

-- those that may be read
abbrev pub open_ones : List Seen → List Seen
open_ones xs = filter (λ (x : Seen). is_none x.gone) xs

-- those that can't
abbrev pub gone_ones : List Seen → List Seen
gone_ones xs = filter (λ (x : Seen). not (is_none x.gone)) xs

-- ---- the whole

-- what is said of a walk: after which event it is, if there is one; which entries may be read,
-- from level 4 down; and which can't, from the last level up, and of a word the last written first
pub record Parts : Type 0 where
  pub after : Option ReadAfter
  pub may_read : List Seen
  pub cannot_read : List Seen

abbrev pub parts_by : Option ReadAfter → List Seen → Parts
parts_by after xs = record {
  after = after;
  may_read = open_ones xs;
  cannot_read = reverse (gone_ones xs);
}

-- after an event, under a PCID
abbrev pub parts_behind : Spanned → Span → ℕ → ℕ → Option ℕ → Parts
parts_behind s event la pcid d =
    parts_by (read_after s event.p pcid la d) (seen_behind s event la pcid d)

-- after the last one that drops what the processor had under the PCID
abbrev pub parts_under : Spanned → Span → ℕ → ℕ → Parts
parts_under s event la pcid =
    parts_behind s event la pcid (last_drop s event.p pcid la event.number)

-- of the walk of a linear address at the asked event
abbrev pub parts_of : Spanned → Span → ℕ → Parts
parts_of s event la =
    parts_under s event la (control_at s.head s.events event.p event.number).pcid

-- what a value of the code has
abbrev pub parts_in : WalkCause → Parts
parts_in c = record {
  after = c.after;
  may_read = c.may_read.items;
  cannot_read = c.cannot_read.items;
}
