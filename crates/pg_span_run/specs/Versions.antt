-- Which bytes begin as a record of version 3 or 4 does.
use Rattle.std.specs.Prelude.{ℕ, Bool, true, false, List, Ok, Err}
use Rattle.pg_event.specs.Reading.{Part}
use Rattle.pg_span_run.specs.Reading.{spans_front_at}

abbrev pub is_read : {A : Type 0} → Part A → Bool
is_read (Ok x) = true
is_read (Err e) = false

-- the magic, and then version 3 or 4
abbrev pub says_spans : List ℕ → Bool
says_spans bytes = is_read (spans_front_at bytes)
