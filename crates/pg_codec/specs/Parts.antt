-- Parts of a record in the pieces in which they are read.
use Rattle.std.specs.Prelude.{◌≡◌, ℕ, ◌≤◌, ◌<◌, Bool, nat_lt, if◌then◌else◌, List, ◌++◌, Option}
use Rattle.std.specs.Prelude.{Ok, Err, true, false}
use Rattle.std.specs.Int.{w32}
use Rattle.pg_entry.specs.declared.Cfg.{Cfg}
use Rattle.pg_entry.specs.Rules.{all_rules}
use Rattle.pg_event.specs.declared.refusal.Refusal.TheVariants as refusals
use Rattle.pg_event.specs.declared.event.Event.{Event}
use Rattle.pg_event.specs.declared.version.Version.{Version}
use Rattle.pg_event.specs.declared.version.Version.TheVariants as versions
use Rattle.pg_event.specs.Heads.{Head, most_processors, least_maxphyaddr, most_maxphyaddr}
use Rattle.pg_event.specs.Heads.{most_segment}
use Rattle.pg_event.specs.Reading.{◌>>=◌, Part, byte_at, number_at, passing, is_between}
use Rattle.pg_event.specs.Reading.{magic_at, version_at, processor_at, header_at, chunk_at, closed}
use Rattle.pg_codec.specs.declared.settings.Settings.{Settings}

-- what was read before, and what is still read
abbrev pub with_front : {A : Type 0} → List A → Part (List A) → Part (List A)
with_front front part = part >>= λ x. Ok (front ++ x.0, x.1)

-- the settings of the processors
unfoldable pub cfg_at : List ℕ → Part Cfg
cfg_at bytes = do
  m ← passing (is_between least_maxphyaddr most_maxphyaddr) refusals.HeaderField (byte_at bytes)
  flags ← passing (λ n. nat_lt n 16) refusals.HeaderField (byte_at m.1)
  Ok (record { flags = record { 0 = flags.0 }; m = m.0; rules = all_rules }, flags.1)

-- a header after its version, up to its processors
unfoldable pub settings_behind : Version → List ℕ → Part Settings
settings_behind version bytes = do
  cfg ← cfg_at bytes
  count ←
      passing (is_between 1 (most_processors version)) refusals.HeaderField
      (processor_at version cfg.1)
  size ← passing (is_between 1 most_segment) refusals.HeaderField (number_at w32 count.1)
  Ok (
    record {
      version = version;
      cfg = cfg.0;
      count = count.0;
      segment = size.0;
    },
    size.1,
  )

-- a header up to its processors
unfoldable pub settings_at : List ℕ → Part Settings
settings_at bytes = do
  magic ← magic_at bytes
  version ← version_at magic.1
  settings_behind version.0 version.1

-- the version that the bytes of a record say
abbrev pub version_said : List ℕ → Part Version
version_said bytes = magic_at bytes >>= λ magic. version_at magic.1

abbrev pub is_two : Part Version → Bool
is_two (Ok (versions.Two, rest)) = true
is_two (Ok (versions.One, rest)) = false
is_two (Err e) = false

-- the header of a version 1 record: version 2 is refused at its field, whatever follows
abbrev pub old_header_at : List ℕ → Part Head
old_header_at bytes =
    if is_two (version_said bytes) then Err refusals.Version else header_at bytes

-- MAXPHYADDR and the flags are within their ranges, and the processors are held to all rules
pub record IsCfg (cfg : Cfg) : Type 0 where
  pub low : least_maxphyaddr ≤ cfg.m
  pub high : cfg.m ≤ most_maxphyaddr
  pub flags : cfg.flags.0 < 16
  pub rules : cfg.rules ≡ all_rules

-- each field is within its range
pub record AreSettings (s : Settings) : Type 0 where
  pub low : least_maxphyaddr ≤ s.cfg.m
  pub high : s.cfg.m ≤ most_maxphyaddr
  pub flags : s.cfg.flags.0 < 16
  pub some : 1 ≤ s.count
  pub few : s.count ≤ most_processors s.version
  pub size : 1 ≤ s.segment
  pub limit : s.segment ≤ most_segment

-- the header that settings and the processors make
abbrev pub head_of : Settings → List (ℕ × Bool) → Head
head_of settings starts = record {
  version = settings.version;
  cfg = settings.cfg;
  segment = settings.segment;
  processors = starts;
}

-- a segment, or none at the end mark and the end of the bytes
abbrev pub closed_chunk_at : Head → ℕ → ℕ → Bool → List ℕ → Part (Option (List Event))
closed_chunk_at head number before full bytes = chunk_at head number before full bytes >>= closed
