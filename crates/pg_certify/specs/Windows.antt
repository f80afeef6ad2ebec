-- What is known of a run that is certified as it is read, where of the events that were read those
-- alone are kept that change something.
use Rattle.std.specs.Prelude.{◌≡◌, ℕ, ◌+◌, ◌^◌, ◌<◌, ◌≤◌, true, List, ◌++◌, length, map, take}
use Rattle.std.specs.Prelude.{Option, Some, None, IfSome, IfNone, slice_get}
use Rattle.pg_event.specs.declared.event.Event.{Event}
use Rattle.pg_event.specs.Heads.{Head}
use Rattle.pg_event.specs.Spelling.{Recorded}
use Rattle.pg_check.specs.Kept.{AreWellFormed}
use Rattle.pg_search.specs.Law.{names_moments, AreWitness, CanBeWitnessed}
use Rattle.pg_search.specs.Changes.{kept_of, AreKeptOf}
use Rattle.pg_certify.specs.Certified.{IsUnwitnessed, IsDenied}
use Rattle.pg_certify.specs.Segments.{end_of}

-- its settings with the events that are kept, how many were read, and the least that no moments
-- witness
pub record Findings : Type 0 where
  pub kept : Recorded
  pub count : ℕ
  pub denied : Option ℕ

-- they are those of a run with these events under this header. All that come before an event that
-- is denied are kept
pub record IsCertifying (f : Findings) (head : Head) (events : List Event) : Type 0 where
  pub settings : f.kept.head ≡ head
  pub well : AreWellFormed head events
  pub few : length events < 2 ^ 32
  pub kept : AreKeptOf f.kept.events events
  pub reach : end_of events f.denied ≤ length f.kept.events
  pub count : f.count ≡ length events
  pub each : IfNone f.denied ((n : ℕ) → n < length events → CanBeWitnessed head events n)
  pub denied : IfSome f.denied (IsDenied head events)

-- these events may come next: they are well formed, and not too many
pub record MayCome (f : Findings) (more : List Event) : Type 0 where
  pub before : List Event
  pub certifying : IsCertifying f f.kept.head before
  pub well : AreWellFormed f.kept.head more
  pub limit : length before + length more < 2 ^ 32

-- some moments among what is kept witness event k of a window, whose first event has this number
pub record CanBeAmong (head : Head) (kept : List Event) (first : ℕ) (window : List Event)
    (k : ℕ) : Type 0 where
  pub event : Event
  pub there : slice_get window k ≡ Some event
  pub moments : List ℕ
  pub witness : AreWitness head kept (first + k) event moments

-- event k is the first of a window that none witness
pub record IsDeniedAmong (head : Head) (kept : List Event) (first : ℕ) (window : List Event)
    (k : ℕ) : Type 0 where
  pub event : Event
  pub there : slice_get window k ≡ Some event
  pub names : names_moments event ≡ true
  pub denied : IsUnwitnessed head kept (first + k) event
  pub before : (j : ℕ) → j < k → CanBeAmong head kept first window j

-- the first event of a window that none witness, or some witness each
abbrev pub IsFirstDenied : Head → List Event → ℕ → List Event → Option ℕ → Type 0
IsFirstDenied head kept first window None =
    (k : ℕ) → k < length window → CanBeAmong head kept first window k
IsFirstDenied head kept first window (Some k) = IsDeniedAmong head kept first window k

-- with what is kept of a window
abbrev pub with_window : Recorded → List Event → Recorded
with_window kept window =
    record { head = kept.head; events = kept.events ++ map kept_of window }

-- a run whose first events are those that were kept before
pub record BeginsWith (old new : Recorded) : Type 0 where
  pub settings : new.head ≡ old.head
  pub within : length old.events ≤ length new.events
  pub events : take (length old.events) new.events ≡ old.events

-- what judging so many events leaves
abbrev pub after_window : Findings → Option ℕ → ℕ → Findings
after_window f None count = record { kept = f.kept; count = f.count + count; denied = f.denied }
after_window f (Some k) count =
    record { kept = f.kept; count = f.count + count; denied = Some (f.count + k) }

-- what judging the events of a window leaves, by what it found
pub record IsJudgedWindow (old : Findings) (window : List Event) (new : Findings) : Type 0 where
  pub found : Option ℕ
  pub first : IsFirstDenied old.kept.head (old.kept.events ++ map kept_of window)
      (length old.kept.events) window found
  pub after : new ≡ after_window
      (record { kept = with_window old.kept window; count = old.count; denied = old.denied })
      found (length window)
