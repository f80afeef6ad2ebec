-- Events whose bytes name moments, or none: their fields, and how those are read.
use Rattle.std.specs.Prelude.{◌≡◌, ℕ, ◌==◌, if◌then◌else◌, List, [], ◌∷◌, ◌++◌, Ok}
use Rattle.std.specs.Int.{w64, to_le_bytes}
use Rattle.pg_event.specs.declared.event.Event.{Event}
use Rattle.pg_event.specs.declared.event.Event.TheVariants.{Write, Access, Assist, MovCr3, Invlpg}
use Rattle.pg_event.specs.declared.event.Event.TheVariants.{Invpcid, MovCr4Pge}
use Rattle.pg_event.specs.declared.refusal.Refusal.TheVariants as refusals
use Rattle.pg_event.specs.Heads.{Head}
use Rattle.pg_event.specs.Form.{broken_rule}
use Rattle.pg_event.specs.Spelling.{outcome_bytes, moments_bytes, field_bytes}
use Rattle.pg_event.specs.Reading.{◌>>=◌, Part, byte_at, number_at, passing, is_between}
use Rattle.pg_event.specs.Reading.{processor_at, outcome_at, moments_at, fields_at, last_tag}
use Rattle.pg_event.specs.Reading.{well_formed_at}
use Rattle.pg_codec.specs.declared.naming.Naming.{Naming}
use Rattle.pg_codec.specs.declared.naming.Naming.TheVariants.{Named, Bare}

-- the moments of an access or an assist that names none
abbrev pub no_moments : List ℕ
no_moments = 0 ∷ []

-- an event that names no moments
abbrev pub IsBare : Event → Type 0
IsBare (Access p flags la outcome moments) = moments ≡ no_moments
IsBare (Assist p flags la word moments) = moments ≡ no_moments
IsBare (Write p addr value) = Unit {0}
IsBare (MovCr3 p operand) = Unit {0}
IsBare (Invlpg p la) = Unit {0}
IsBare (Invpcid p kind pcid la) = Unit {0}
IsBare (MovCr4Pge p on) = Unit {0}

-- the fields of an event without its moments
abbrev pub bare_bytes : Event → List ℕ
bare_bytes (Access p flags la outcome moments) =
    flags ∷ (to_le_bytes w64 la ++ outcome_bytes outcome)
bare_bytes (Assist p flags la word moments) =
    flags ∷ (to_le_bytes w64 la ++ to_le_bytes w64 word)
bare_bytes (Write p addr value) = field_bytes (Write p addr value)
bare_bytes (MovCr3 p operand) = field_bytes (MovCr3 p operand)
bare_bytes (Invlpg p la) = field_bytes (Invlpg p la)
bare_bytes (Invpcid p kind pcid la) = field_bytes (Invpcid p kind pcid la)
bare_bytes (MovCr4Pge p on) = field_bytes (MovCr4Pge p on)

-- the moments of an event, after its other fields
abbrev pub named_bytes : Event → List ℕ
named_bytes (Access p flags la outcome moments) = moments_bytes moments
named_bytes (Assist p flags la word moments) = moments_bytes moments
named_bytes (Write p addr value) = []
named_bytes (MovCr3 p operand) = []
named_bytes (Invlpg p la) = []
named_bytes (Invpcid p kind pcid la) = []
named_bytes (MovCr4Pge p on) = []

-- the moments after the other fields, where they are named
abbrev pub moments_in : Naming → List ℕ → Part (List ℕ)
moments_in Named bytes = moments_at bytes
moments_in Bare bytes = Ok (no_moments, bytes)

-- the fields of an access and of an assist
unfoldable pub access_in : Naming → ℕ → List ℕ → Part Event
access_in naming p bytes = do
  flags ← byte_at bytes
  la ← number_at w64 flags.1
  outcome ← outcome_at la.1
  moments ← moments_in naming outcome.1
  Ok (Access p flags.0 la.0 outcome.0 moments.0, moments.1)

unfoldable pub assist_in : Naming → ℕ → List ℕ → Part Event
assist_in naming p bytes = do
  flags ← byte_at bytes
  la ← number_at w64 flags.1
  word ← number_at w64 la.1
  moments ← moments_in naming word.1
  Ok (Assist p flags.0 la.0 word.0 moments.0, moments.1)

-- the fields of an event after its tag and processor
unfoldable pub fields_in : Naming → ℕ → ℕ → List ℕ → Part Event
fields_in naming tag p bytes =
    if tag == 0x11 then access_in naming p bytes else
    if tag == 0x16 then assist_in naming p bytes else fields_at tag p bytes

-- event number i
unfoldable pub event_in : Naming → Head → ℕ → List ℕ → Part Event
event_in naming head i bytes = do
  tag ← passing (is_between 0x10 (last_tag head.version)) refusals.Tag (byte_at bytes)
  p ← processor_at head.version tag.1
  e ← fields_in naming tag.0 p.0 p.1
  well_formed_at i (broken_rule head e.0) e
