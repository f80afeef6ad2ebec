-- What is known of a run that was judged as it was read.
use Rattle.std.specs.Prelude.{◌≡◌, ℕ, ◌+◌, ◌<◌, ◌^◌, List, ◌++◌, length, Option, None}
use Rattle.pg_event.specs.declared.event.Event.{Event}
use Rattle.pg_event.specs.declared.event.Reason.{Reason}
use Rattle.pg_event.specs.Heads.{Head}
use Rattle.pg_event.specs.Spelling.{IsHead}
use Rattle.pg_event.specs.Witness.{first_bad, first_bad_from}
use Rattle.pg_chain.specs.declared.past.Past.{Past}
use Rattle.pg_chain.specs.Standing.{IsPast}
use Rattle.pg_check.specs.Kept.{AreWellFormed}

-- a judge is seen as what it noted of a run, and of how many events
pub record Noted : Type 0 where
  pub past : Past
  pub count : ℕ

-- it noted these events of a run under this header
pub record HasNoted (n : Noted) (head : Head) (events : List Event) : Type 0 where
  pub past : IsPast n.past head events
  pub count : n.count ≡ length events

-- these events may come next: they are well formed, and not too many
pub record MayNote (n : Noted) (more : List Event) : Type 0 where
  pub head : Head
  pub before : List Event
  pub noted : HasNoted n head before
  pub well : AreWellFormed head more
  pub limit : length before + length more < 2 ^ 32

-- its settings, its past and how many events that has noted, how many were judged, and the first
-- bad one
pub record Findings : Type 0 where
  pub head : Head
  pub past : Past
  pub noted : ℕ
  pub count : ℕ
  pub first_bad : Option (ℕ × Reason)

-- they are those of a run with these events under this header
pub record IsJudged (f : Findings) (head : Head) (events : List Event) : Type 0 where
  pub settings : f.head ≡ head
  pub past : IsPast f.past head events
  pub noted : f.noted ≡ length events
  pub count : f.count ≡ length events
  pub first_bad : f.first_bad ≡ first_bad head events

-- they are those of a run with these events under this header, to which more were added that wait
-- to be judged
pub record Awaits (f : Findings) (head : Head) (before more : List Event) : Type 0 where
  pub settings : f.head ≡ head
  pub past : IsPast f.past head (before ++ more)
  pub noted : f.noted ≡ length (before ++ more)
  pub count : f.count ≡ length before
  pub first_bad : f.first_bad ≡ first_bad head before
  pub well : AreWellFormed head more
  pub limit : length before + length more < 2 ^ 32

-- this is what judging the events that wait finds, where no event before them is bad
abbrev pub IsFound : Option (ℕ × Reason) → Head → List Event → List Event → Type 0
IsFound found head before more =
    first_bad head before ≡ None → found ≡ first_bad_from head (before ++ more) (length before) more

-- these events may come next: they are well formed, and not too many
pub record MayFollow (f : Findings) (more : List Event) : Type 0 where
  pub before : List Event
  pub judged : IsJudged f f.head before
  pub well : AreWellFormed f.head more
  pub limit : length before + length more < 2 ^ 32

-- a history was judged, and its events are well formed and not too many
pub record IsHistory (f : Findings) (events : List Event) : Type 0 where
  pub head : IsHead f.head
  pub count : length events < 2 ^ 32
  pub well : AreWellFormed f.head events
  pub judged : IsJudged f f.head events
