-- What a call that writes leaves, and the spelling of records in parts, as they are written.
use Rattle.std.specs.Prelude.{◌≡◌, ◌<◌, ℕ, List, ◌∷◌, [], ◌++◌, length, codes, Option, Result, Ok}
use Rattle.std.specs.Prelude.{Err}
use Rattle.std.specs.Io.KnownBytes.{Appends}
use Rattle.std.specs.Int.{w16, w32, to_le_bytes}
use Rattle.std.specs.List.{AllByRecursion}
use Rattle.pg_event.specs.declared.event.Event.{Event}
use Rattle.pg_event.specs.declared.version.Version.{Version}
use Rattle.pg_event.specs.Heads.{Head, most_processors}
use Rattle.pg_event.specs.Form.{processor_of}
use Rattle.pg_event.specs.Spelling.{version_number, processor_bytes}
use Rattle.pg_codec.specs.declared.stream.Sink.{Ghosts}
use Rattle.pg_codec.specs.Streams.{RaisesFailures, AppendsSome, Writes}

-- a call puts these bytes into a sink, or where it fails a beginning of them
pub record Puts {W X E : Type 0} (g : Ghosts W) (text : List ℕ) (old new : W) (result : Result X E)
    : Type 0 where
  pub bytes : Writes (g.held old) (g.held new) result text
  pub failures : RaisesFailures (g.failed old) (g.failed new) result

-- bytes that a block held went on to the sink, or stay in the block
abbrev pub Passes : {X E : Type 0} → Option (List ℕ) → List ℕ → Option (List ℕ) → List ℕ →
    Result X E → Type 0
Passes old waiting new left (Ok x) =
    (bytes : List ℕ) × Appends old new bytes × (waiting ≡ bytes ++ left)
Passes old waiting new left (Err e) = AppendsSome old new waiting

-- the numbers of the processors have a place in a record of this version
abbrev pub FitVersion : Version → List Event → Type 0
FitVersion version events = AllByRecursion (λ e. processor_of e < most_processors version) events

-- a header without its processors, with this number of its version
abbrev pub numbered_bytes : ℕ → Head → List ℕ
numbered_bytes number head =
    codes "PGRECORD" ++ to_le_bytes w16 number ++ (head.cfg.m ∷ head.cfg.flags.0 ∷ [])
    ++ processor_bytes head.version (length head.processors) ++ to_le_bytes w32 head.segment

-- a header without its processors
abbrev pub settings_bytes : Head → List ℕ
settings_bytes head = numbered_bytes (version_number head.version) head

-- a segment without its events
abbrev pub segment_head_bytes : ℕ → ℕ → List ℕ
segment_head_bytes number count = 1 ∷ to_le_bytes w32 number ++ to_le_bytes w32 count
