-- What is known of a run that is certified as it is read, and which of its events are kept whole.
use Rattle.std.specs.Prelude.{◌≡◌, ℕ, ◌+◌, ◌==◌, Bool, false, not, if◌then◌else◌}
use Rattle.std.specs.Prelude.{List, [], ◌∷◌, ◌++◌, Option, Some, None, IfSome, slice_get}
use Rattle.pg_event.specs.declared.event.Event.{Event}
use Rattle.pg_event.specs.declared.event.Event.TheVariants.{Write, Access, Assist, MovCr3, Invlpg}
use Rattle.pg_event.specs.declared.event.Event.TheVariants.{Invpcid, MovCr4Pge}
use Rattle.pg_event.specs.declared.event.Outcome.TheVariants.{Page, Fault}
use Rattle.pg_event.specs.Heads.{Head}
use Rattle.pg_certify.specs.declared.named_events.Numbered.{Numbered}
use Rattle.pg_certify.specs.Windows.{Findings, IsCertifying, MayCome}

-- of a list's second and first number: it is the placeholder, one moment 0
abbrev pub is_zero_alone : Option ℕ → Option ℕ → Bool
is_zero_alone (Some x) first = false
is_zero_alone None None = false
is_zero_alone None (Some w) = w == 0

abbrev pub is_placeholder : List ℕ → Bool
is_placeholder ws = is_zero_alone (slice_get ws 1) (slice_get ws 0)

-- it changes something and names moments other than the placeholder
abbrev pub is_named : Event → Bool
is_named (Write p addr value) = false
is_named (Access p flags la (Page page) moments) = false
is_named (Access p flags la (Fault code) moments) = not (is_placeholder moments)
is_named (Assist p flags la word moments) = not (is_placeholder moments)
is_named (MovCr3 p operand) = false
is_named (Invlpg p la) = false
is_named (Invpcid p kind pcid la) = false
is_named (MovCr4Pge p on) = false

-- those of them that do, the first of which has this number
abbrev pub named_from : ℕ → List Event → List Numbered
named_from i [] = []
named_from i (e ∷ es) =
    if is_named e then record { number = i; event = e } ∷ named_from (i + 1) es
    else named_from (i + 1) es

-- the event with this number that is kept whole, or else what is kept of it
abbrev pub whole_of : List Numbered → ℕ → Event → Event
whole_of [] number kept = kept
whole_of (x ∷ xs) number kept =
    if x.number == number then x.event else whole_of xs number kept

abbrev pub with_named : List Numbered → ℕ → Event → List Numbered
with_named named number e =
    if is_named e then named ++ record { number = number; event = e } ∷ [] else named

-- what is known of a run that is certified as it is read, and the event that is denied
pub record Account : Type 0 where
  pub findings : Findings
  pub named : List Numbered
  pub event : Option Event

pub record IsAccount (a : Account) (head : Head) (events : List Event) : Type 0 where
  pub certifying : IsCertifying a.findings head events
  pub named : a.named ≡ named_from 0 events
  pub event : IfSome a.findings.denied (λ n. slice_get events n ≡ a.event)

-- these events may come next
pub record MayComeNext (a : Account) (more : List Event) : Type 0 where
  pub before : List Event
  pub account : IsAccount a a.findings.kept.head before
  pub next : MayCome a.findings more
