-- When events came, as far as it is known.
use Rattle.std.specs.Prelude.{ℕ, Bool, ◌&&◌, ◌||◌, ◌==◌, nat_lt, Option, slice_get}
use Rattle.std.specs.Option.{option_map}
use Rattle.pg_event.specs.declared.event.Event.{Event}
use Rattle.pg_event.specs.Form.{processor_of}
use Rattle.pg_span_run.specs.Orders.{Spanned, ended_before}
use Rattle.pg_span_run.specs.declared.span.Span.{Span}

-- when an event with this number came
abbrev pub span_of : Spanned → ℕ → Event → Span
span_of s number e =
    record { number = number; p = processor_of e; began = ended_before s number }

abbrev pub span_at : Spanned → ℕ → Option Span
span_at s number = option_map (span_of s number) (slice_get s.events number)

-- whether an event comes before another in every order: it had ended when that began, or it is an
-- earlier one of the same processor
abbrev pub precedes : Span → Span → Bool
precedes j i = nat_lt j.number i.began || (nat_lt j.number i.number && j.p == i.p)
