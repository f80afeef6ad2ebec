-- What a call leaves of the streams that it is given.
use Rattle.std.specs.Prelude.{◌≡◌, ℕ, List, Option}
use Rattle.std.specs.Io.KnownBytes.{Appends, Keeps}
use Rattle.pg_codec.specs.declared.stream.Source as sources
use Rattle.pg_codec.specs.declared.stream.Sink as sinks
use Rattle.pg_codec.specs.Streams.{raised, AppendsSome}

-- what is known of a stream: its bytes, those that a source has left or that a sink holds, where it
-- tells them, and how often its device has failed
pub record Stream : Type 0 where
  pub bytes : Option (List ℕ)
  pub failures : ℕ

-- a stream before a call and after it
pub record Change : Type 0 where
  pub old : Stream
  pub new : Stream

abbrev pub drawn : {R : Type 0} → sources.Ghosts R → R → R → Change
drawn g old new = record {
  old = record { bytes = g.left old; failures = g.failed old };
  new = record { bytes = g.left new; failures = g.failed new };
}

abbrev pub filled : {W : Type 0} → sinks.Ghosts W → W → W → Change
filled g old new = record {
  old = record { bytes = g.held old; failures = g.failed old };
  new = record { bytes = g.held new; failures = g.failed new };
}

-- its device failed in the call
abbrev pub Fails : Change → Type 0
Fails c = c.new.failures ≡ raised c.old.failures

-- its device did not fail
abbrev pub Works : Change → Type 0
Works c = c.new.failures ≡ c.old.failures

-- this text was added, a beginning of it was, or nothing
abbrev pub Adds : Change → List ℕ → Type 0
Adds c text = Appends c.old.bytes c.new.bytes text

abbrev pub AddsSome : Change → List ℕ → Type 0
AddsSome c text = AppendsSome c.old.bytes c.new.bytes text

abbrev pub AddsNothing : Change → Type 0
AddsNothing c = Keeps c.old.bytes c.new.bytes
