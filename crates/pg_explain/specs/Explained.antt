-- What an explanation says of an event.
use Rattle.std.specs.Prelude.{◌≡◌, ℕ, List, [], Option, Some, None, slice_get, IfSome}
use Rattle.std.specs.Prelude.{IfNone, MatchOption}
use Rattle.pg_event.specs.declared.event.Event.{Event}
use Rattle.pg_event.specs.declared.event.Event.TheVariants.{Write, Access, Assist, MovCr3, Invlpg}
use Rattle.pg_event.specs.declared.event.Event.TheVariants.{Invpcid, MovCr4Pge}
use Rattle.pg_event.specs.declared.event.Reason.{Reason}
use Rattle.pg_event.specs.Heads.{Head}
use Rattle.pg_event.specs.Witness.{failing}
use Rattle.pg_search.specs.Last.{IsLast, HasNoLast}
use Rattle.pg_search.specs.Law.{WitnessedBy, AreFreshest, CanBeWitnessed, RunBeginsWith}
use Rattle.pg_explain.specs.declared.entry.WalkEntry.{WalkEntry}
use Rattle.pg_explain.specs.declared.explainer.Explanation.{Explanation}
use Rattle.pg_explain.specs.declared.explainer.Told.{Told}
use Rattle.pg_explain.specs.declared.finding.Finding.{Finding}
use Rattle.pg_explain.specs.Findings.{reason_of, finding}
use Rattle.pg_explain.specs.Walk.{IsWalk}

-- these are the entries that an event names
abbrev pub IsWalkOf : Head → List Event → Event → List WalkEntry → Type 0
IsWalkOf head events (Write p addr value) walk = walk ≡ []
IsWalkOf head events (Access p flags la outcome moments) walk =
    IsWalk head events p la moments walk
IsWalkOf head events (Assist p flags la word moments) walk =
    IsWalk head events p la moments walk
IsWalkOf head events (MovCr3 p operand) walk = walk ≡ []
IsWalkOf head events (Invlpg p la) walk = walk ≡ []
IsWalkOf head events (Invpcid p kind pcid la) walk = walk ≡ []
IsWalkOf head events (MovCr4Pge p on) walk = walk ≡ []

-- what is told of an event: its walk, and the finding of the reason that fails
abbrev pub TellsEvent : Option Reason → Option Finding → (List WalkEntry → Type 0) →
    Option Told → Type 0
TellsEvent failing found IsRight told =
    MatchOption told (failing ≡ None)
    (λ x. (failing ≡ Some (reason_of x.finding)) × (found ≡ Some x.finding)
    × IsRight x.walk.items)

-- event i is not witnessed, and this explains why. Other moments that are told are the freshest
-- that prove it. Where none are, no moments prove it, no run of the machine begins with the events
-- up to it, and it is told when it would last have been witnessed
pub record IsExplained (head : Head) (events : List Event) (i : ℕ) (x : Explanation) :
    Type 0 where
  pub number : x.number ≡ i
  pub reason : failing head events i ≡ Some (reason_of x.finding)
  pub finding : finding head events i ≡ Some x.finding
  pub walk : IfSome (slice_get events i) (λ e. IsWalkOf head events e x.walk.items)
  pub other : IfSome x.other (WitnessedBy head events i)
  pub freshest : IfSome x.other (AreFreshest head events i)
  pub none : IfNone x.other (CanBeWitnessed head events i → ⊥)
  pub final : IfNone x.other (RunBeginsWith head events i → ⊥)
  pub last : IfNone x.other (IfSome x.last (IsLast head events i))
  pub never : IfNone x.other (IfNone x.last (HasNoLast head events i))
