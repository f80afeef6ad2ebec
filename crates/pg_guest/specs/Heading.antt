-- What the lines before the instructions say by their words.
use Rattle.std.specs.Prelude.{◌≡◌, ℕ, ◌<◌, ◌≤◌, ◌+◌, ◌^◌, Bool, false, nat_lt}
use Rattle.std.specs.Prelude.{if◌then◌else◌}
use Rattle.std.specs.Prelude.{List, [], ◌∷◌, codes, Result, Ok, Err}
use Rattle.std.specs.Str.{bytes_eq}
use Rattle.pg_entry.specs.declared.Cfg.{Cfg}
use Rattle.pg_entry.specs.Rules.{all_rules}
use Rattle.pg_event.specs.declared.version.Version.{Version}
use Rattle.pg_event.specs.declared.version.Version.TheVariants as versions
use Rattle.pg_event.specs.Heads.{least_maxphyaddr, most_maxphyaddr, most_segment}
use Rattle.pg_guest.specs.declared.script_refusal.ScriptRefusal.{ScriptRefusal}
use Rattle.pg_guest.specs.declared.script_refusal.ScriptRefusal.TheVariants as refusals
use Rattle.pg_event.specs.Reading.{is_between}
use Rattle.pg_guest.specs.Words.{Words, word_at, dec_at, hex_at, bit_at, keyword_at}
use Rattle.pg_guest.specs.Words.{ended}
use Rattle.pg_event.specs.Reading.{◌>>=◌}

abbrev pub version_or_refusal : List ℕ → Result Version ScriptRefusal
version_or_refusal word =
    if bytes_eq word (codes "1") then Ok versions.One else
    if bytes_eq word (codes "2") then Ok versions.Two else Err refusals.Instruction

-- `pcid-guest 1` or `pcid-guest 2`
unfoldable pub version_in : Words → Result Version ScriptRefusal
version_in words = do
  numbers ← keyword_at (codes "pcid-guest") words
  last ← word_at numbers
  word ← ended last
  version_or_refusal word

-- a setting of the processors that may stand here, by its word and its bit
abbrev pub setting_at : List ℕ → ℕ → Words → ℕ × Words
setting_at name bit [] = (0, [])
setting_at name bit (word ∷ words) =
    if bytes_eq word name then (bit, words) else (0, word ∷ words)

-- any of the settings, in this order
unfoldable pub settings_at : Words → ℕ × Words
settings_at words =
    let wp = setting_at (codes "wp") 1 words in
    let nxe = setting_at (codes "nxe") 2 wp.1 in
    let smep = setting_at (codes "smep") 4 nxe.1 in
    let smap = setting_at (codes "smap") 8 smep.1 in
    (wp.0 + nxe.0 + smep.0 + smap.0, smap.1)

-- settings in their ranges, of a processor that is held to all rules
pub record IsCfg (cfg : Cfg) : Type 0 where
  pub low : least_maxphyaddr ≤ cfg.m
  pub high : cfg.m ≤ most_maxphyaddr
  pub flags : cfg.flags.0 < 16
  pub rules : cfg.rules ≡ all_rules

abbrev pub cfg_of : ℕ → ℕ × Words → Result Cfg ScriptRefusal
cfg_of m settings =
    ended (record { flags = record { 0 = settings.0 }; m = m; rules = all_rules }, settings.1)

-- `machine` and MAXPHYADDR, and any of `wp nxe smep smap` in this order
unfoldable pub machine_in : Words → Result Cfg ScriptRefusal
machine_in words = do
  numbers ← keyword_at (codes "machine") words
  m ← dec_at numbers
  if is_between least_maxphyaddr most_maxphyaddr m.0 then cfg_of m.0 (settings_at m.1) else
      Err refusals.Instruction

-- `segment` and the events of a full segment
unfoldable pub segment_in : Words → Result ℕ ScriptRefusal
segment_in words = do
  numbers ← keyword_at (codes "segment") words
  size ← dec_at numbers
  if is_between 1 most_segment size.0 then ended size else Err refusals.Instruction

-- `cpu`, the processor's CR3 at the start, and whether it has global pages
unfoldable pub start_in : ℕ → Words → Result (ℕ × Bool) ScriptRefusal
start_in m words = do
  numbers ← keyword_at (codes "cpu") words
  cr3 ← hex_at numbers
  pge ← bit_at cr3.1
  if nat_lt cr3.0 (2 ^ m) then ended ((cr3.0, pge.0), pge.1) else Err refusals.Instruction

abbrev pub names_processor : Words → Bool
names_processor [] = false
names_processor (word ∷ words) = bytes_eq word (codes "cpu")
