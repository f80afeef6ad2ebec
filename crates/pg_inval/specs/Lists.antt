-- The log of what events dropped, and the moments at which each key was dropped.
use Rattle.std.specs.Prelude.{◌≡◌, ℕ, ◌+◌, ◌-◌, ◌<◌, ◌≤◌, Bool, true, false, if◌then◌else◌}
use Rattle.std.specs.Prelude.{◌&&◌, nat_eq, nat_lt, length, take}
use Rattle.std.specs.Prelude.{List, [], ◌∷◌, ◌++◌, Option}
use Rattle.std.specs.Option.{MatchOption}
use Rattle.std.specs.List.{filter, list_any}
use Rattle.pg_event.specs.Witness.{any_from}
use Rattle.pg_timeline.specs.declared.timeline.Stamp.{Stamp}
use Rattle.pg_timeline.specs.Keyed.{stamps_in}
use Rattle.pg_inval.specs.declared.class.Class.{Class}
use Rattle.pg_inval.specs.declared.key.DropKey.{DropKey}
use Rattle.pg_inval.specs.declared.log.LogEntry.{LogEntry}
use Rattle.pg_inval.specs.Keys.{is_same_key, has_key, dropped_keys}
use Rattle.pg_inval.specs.Classes.{keys_in}
use Rattle.pg_inval.specs.Packed.{invalidation_of}

-- ---- the log

-- what is noted: an entry for each event that drops something, and the least moment that a further
-- event may have
pub record Log : Type 0 where
  pub entries : List LogEntry
  pub next : ℕ

-- whether a key was dropped at a moment
abbrev pub has_drop : List LogEntry → DropKey → ℕ → Bool
has_drop log k j =
    list_any (λ e. nat_eq e.moment j && has_key (dropped_keys e.p (invalidation_of e.packed)) k) log

-- whether one of some keys was dropped at a moment
abbrev pub has_among : List LogEntry → List DropKey → ℕ → Bool
has_among log keys j = list_any (λ k. has_drop log k j) keys

-- whether one of some keys was dropped from one moment up to, not with, another
abbrev pub has_between : List LogEntry → List DropKey → ℕ → ℕ → Bool
has_between log keys from to = any_from (has_among log keys) from (to - from)

-- the least moment of a window of which something holds, if there is one
abbrev pub IsFirstDrop : (ℕ → ℕ → Bool) → ℕ → ℕ → Option ℕ → Type 0
IsFirstDrop holds from to found =
    MatchOption found (holds from to ≡ false)
    (λ m. (from ≤ m) × (m < to) × (holds from m ≡ false) × (holds m (m + 1) ≡ true))

-- the least number from one up to, not with, another that passes a test, if any does
abbrev pub IsLeastBetween : (ℕ → Bool) → ℕ → ℕ → Option ℕ → Type 0
IsLeastBetween test from to found =
    MatchOption found ((j : ℕ) → from ≤ j → j < to → test j ≡ false)
    (λ m. (from ≤ m) × (m < to) × (test m ≡ true)
    × ((j : ℕ) → from ≤ j → j < m → test j ≡ false))

-- the entries below a moment
abbrev pub cut_log : ℕ → List LogEntry → List LogEntry
cut_log w log = filter (λ e. nat_lt e.moment w) log

-- the moments rise, from one that is at least this
abbrev pub IsRisingFrom : ℕ → List LogEntry → Type 0
IsRisingFrom n [] = Unit {0}
IsRisingFrom n (e ∷ es) = (n ≤ e.moment) × IsRisingFrom (e.moment + 1) es

-- every moment is below this one
abbrev pub AreBefore : ℕ → List LogEntry → Type 0
AreBefore n [] = Unit {0}
AreBefore n (e ∷ es) = (e.moment < n) × AreBefore n es

-- ---- lists

-- the moments of each key
abbrev pub Moments : Type 0
Moments = List (DropKey × List (Stamp Unit))

-- no key stands twice
abbrev pub AreDistinct : List DropKey → Type 0
AreDistinct [] = Unit {0}
AreDistinct (k ∷ ks) = (list_any (is_same_key k) ks ≡ false) × AreDistinct ks

-- each of some keys has one more moment
pub record ArePushed (old new : Moments) (keys : List DropKey) (moment : ℕ) : Type 0 where
  pub at : (k : DropKey) → let stamps = stamps_in is_same_key old k in
      stamps_in is_same_key new k
      ≡ (if has_key keys k then stamps ++ record { moment = moment; value = tt } ∷ [] else stamps)

-- each key has its moments still
pub record AreSame (old new : Moments) : Type 0 where
  pub at : (k : DropKey) → stamps_in is_same_key new k ≡ stamps_in is_same_key old k

-- the moments that a log has of a key of a class
abbrev pub stamps_of : Class → DropKey → List LogEntry → List (Stamp Unit)
stamps_of c k [] = []
stamps_of c k (e ∷ es) =
    if has_key (keys_in c e.p (invalidation_of e.packed)) k
    then record { moment = e.moment; value = tt } ∷ stamps_of c k es
    else stamps_of c k es

-- the lists of a class have so many entries of a log
pub record IsListed (c : Class) (log : List LogEntry) (known : ℕ) (lists : Moments) : Type 0 where
  pub within : known ≤ length log
  pub at : (k : DropKey) → stamps_in is_same_key lists k ≡ stamps_of c k (take known log)
