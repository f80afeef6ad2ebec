-- The events of a run that are bad: their moments do not prove them. Each is judged by the events
-- before it, as they are recorded, also after the first bad one, where no run has that past.
use Rattle.std.specs.Prelude.{◌≡◌, ◌↔◌, ℕ, ◌+◌, ◌-◌, ◌%◌, ◌^◌, List, [], ◌∷◌}
use Rattle.std.specs.Prelude.{Option, Some, None}
use Rattle.std.specs.List.{Contains}
use Rattle.pg_event.specs.declared.event.Event.{Event}
use Rattle.pg_event.specs.declared.event.Event.TheVariants.{Write, Access, Assist, MovCr3, Invlpg}
use Rattle.pg_event.specs.declared.event.Event.TheVariants.{Invpcid, MovCr4Pge}
use Rattle.pg_event.specs.declared.event.Reason.{Reason}
use Rattle.pg_event.specs.Form.{processor_of}
use Rattle.pg_event.specs.Heads.{Head}
use Rattle.pg_event.specs.Witness.{failing, failing_event}
use Rattle.pg_explain.specs.declared.bad_events.Bad.{Bad}

-- the linear address that an access or an assist is for
abbrev pub address_of : Event → ℕ
address_of (Write p addr value) = 0
address_of (Access p flags la outcome moments) = la
address_of (Assist p flags la word moments) = la
address_of (MovCr3 p operand) = 0
address_of (Invlpg p la) = 0
address_of (Invpcid p kind pcid la) = 0
address_of (MovCr4Pge p on) = 0

-- what is told of a bad event: its page is the first address of 4 KB
abbrev pub bad_of : ℕ → Event → Reason → Bad
bad_of number e reason = record {
  number = number;
  reason = reason;
  p = processor_of e;
  page = address_of e - address_of e % 2 ^ 12;
}

-- the event first, if a reason fails for it, and then others
abbrev pub with_bad : ℕ → Event → Option Reason → List Bad → List Bad
with_bad number e None others = others
with_bad number e (Some reason) others = bad_of number e reason ∷ others

-- the bad ones of events of a run, of which the first has this number
abbrev pub bads_from : Head → List Event → ℕ → List Event → List Bad
bads_from head events number [] = []
bads_from head events number (e ∷ rest) =
    with_bad number e (failing_event head events number e)
    (bads_from head events (number + 1) rest)

-- the bad events of a run, in their order
abbrev pub bads : Head → List Event → List Bad
bads head events = bads_from head events 0 events

-- this event is bad, for this reason
abbrev pub IsBad : Head → List Event → Bad → Type 0
IsBad head events x = failing head events x.number ≡ Some x.reason

-- the bad events are just those for which a reason fails
abbrev pub BadsAreExact : Type 0
BadsAreExact = (head : Head) (events : List Event) (i : ℕ) (reason : Reason) →
    (failing head events i ≡ Some reason)
    ↔ ((x : Bad) × Contains (bads head events) x × (x.number ≡ i) × (x.reason ≡ reason))
