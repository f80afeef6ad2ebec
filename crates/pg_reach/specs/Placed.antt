-- Events with another outcome in the place of their own.
use Rattle.std.specs.Prelude.{Bool, true, false}
use Rattle.pg_event.specs.declared.event.Event.{Event}
use Rattle.pg_event.specs.declared.event.Event.TheVariants.{Write, Access, Assist, MovCr3, Invlpg}
use Rattle.pg_event.specs.declared.event.Event.TheVariants.{Invpcid, MovCr4Pge}
use Rattle.pg_event.specs.declared.event.Outcome.{Outcome}

-- the event is an access, which has an outcome
abbrev pub is_access : Event → Bool
is_access (Write p addr value) = false
is_access (Access p flags la outcome moments) = true
is_access (Assist p flags la word moments) = false
is_access (MovCr3 p operand) = false
is_access (Invlpg p la) = false
is_access (Invpcid p kind pcid la) = false
is_access (MovCr4Pge p on) = false

-- the access with this outcome in the place of its own
abbrev pub with_outcome : Outcome → Event → Event
with_outcome o (Write p addr value) = Write p addr value
with_outcome o (Access p flags la outcome moments) = Access p flags la o moments
with_outcome o (Assist p flags la word moments) = Assist p flags la word moments
with_outcome o (MovCr3 p operand) = MovCr3 p operand
with_outcome o (Invlpg p la) = Invlpg p la
with_outcome o (Invpcid p kind pcid la) = Invpcid p kind pcid la
with_outcome o (MovCr4Pge p on) = MovCr4Pge p on
