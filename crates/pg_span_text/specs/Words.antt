-- The writes to a word, and which of them are overwritten.
use Rattle.std.specs.Prelude.{ℕ, ◌+◌, Bool, not, ◌&&◌, ◌==◌, if◌then◌else◌}
use Rattle.std.specs.Prelude.{List, [], ◌∷◌, ◌++◌, Option, Some, None}
use Rattle.std.specs.List.{list_any}
use Rattle.pg_event.specs.declared.event.Event.{Event}
use Rattle.pg_event.specs.declared.event.Event.TheVariants.{Write, Access, Assist, MovCr3, Invlpg}
use Rattle.pg_event.specs.declared.event.Event.TheVariants.{Invpcid, MovCr4Pge}
use Rattle.pg_span_run.specs.Orders.{Spanned}
use Rattle.pg_span_run.specs.declared.span.Span.{Span}
use Rattle.pg_span_text.specs.declared.words.Written.{Written}
use Rattle.pg_span_run.specs.Spans.{precedes, span_of}

-- the write of an event to a word, where it need not come after the asked event
abbrev pub write_of : Spanned → Span → ℕ → ℕ → Event → List Written
write_of s asked a number (Write p addr value) =
    if addr == a && not (precedes asked (span_of s number (Write p addr value)))
    then record { span = span_of s number (Write p addr value); value = value } ∷ [] else []
write_of s asked a number (Access p flags la outcome moments) = []
write_of s asked a number (Assist p flags la word moments) = []
write_of s asked a number (MovCr3 p operand) = []
write_of s asked a number (Invlpg p la) = []
write_of s asked a number (Invpcid p kind pcid la) = []
write_of s asked a number (MovCr4Pge p on) = []

-- those of events, where the first has this number
abbrev pub writes_from : Spanned → Span → ℕ → ℕ → List Event → List Written
writes_from s asked a number [] = []
writes_from s asked a number (e ∷ events) =
    write_of s asked a number e ++ writes_from s asked a (number + 1) events

-- the writes to a word that need not come after the asked event, as they ended
abbrev pub writes_of : Spanned → Span → ℕ → List Written
writes_of s asked a = writes_from s asked a 0 s.events

-- whether a write in every order comes after another and before an event
abbrev pub overwrites : Span → Span → Span → Bool
overwrites first span bound = precedes first span && precedes span bound

-- the first of these writes that in every order comes after a write and before an event
abbrev pub overwriter : List Written → Span → Span → Option ℕ
overwriter [] first bound = None
overwriter (w ∷ ws) first bound =
    if overwrites first w.span bound then Some w.span.number else overwriter ws first bound

-- whether one of these writes in every order comes before an event
abbrev pub is_any_before : List Written → Span → Bool
is_any_before ws bound = list_any (λ w. precedes w.span bound) ws
