-- Up to which moment keys may have been dropped.
use Rattle.std.specs.Prelude.{◌≡◌, ℕ, ◌+◌, ◌*◌, ◌%◌, ◌/◌, ◌^◌, ◌<◌, ◌≤◌, true, List, cond}
use Rattle.std.specs.Prelude.{length, get_or}
use Rattle.pg_inval.specs.declared.key.DropKey.{DropKey}
use Rattle.pg_inval.specs.declared.log.LogEntry.{LogEntry}
use Rattle.pg_inval.specs.Hashed.{owner_of, number_of}
use Rattle.pg_inval.specs.Classes.{is_wide}
use Rattle.pg_inval.specs.Keys.{has_key}
use Rattle.pg_inval.specs.Lists.{has_drop}

-- the place of a key, which others may have too
abbrev pub place_of : DropKey → ℕ
place_of k =
    (number_of k * 11400714819323198485 % 2 ^ 64 + owner_of k * 14029467366897019727 % 2 ^ 64)
    % 2 ^ 64 / 2 ^ 48

-- its other place, among as many others
abbrev pub other_place_of : DropKey → ℕ
other_place_of k =
    65536
    + (number_of k * 18397679294719823053 % 2 ^ 64 + owner_of k * 15485907386658061715 % 2 ^ 64)
    % 2 ^ 64 / 2 ^ 48

-- a key of a place may have a moment, as far as the place tells
abbrev pub MayBeAt : List ℕ → ℕ → ℕ → Type 0
MayBeAt lasts place m = place < length lasts → m ≤ get_or lasts place 0

-- the last moments of places, and from which moment on they bound keys of large and global pages
pub record Bounds : Type 0 where
  pub moments : List ℕ
  pub wide_from : ℕ

-- from which moment on its places bound a key
abbrev pub bounded_from : Bounds → DropKey → ℕ
bounded_from b k = cond (is_wide k) b.wide_from 0

-- a key may have a moment, as far as both of its places tell
pub record MayHave (b : Bounds) (k : DropKey) (m : ℕ) : Type 0 where
  pub place : bounded_from b k ≤ m → MayBeAt b.moments (place_of k) m
  pub other_place : bounded_from b k ≤ m → MayBeAt b.moments (other_place_of k) m

-- whatever a key may have had it may still have, and each of some keys a moment more
pub record AreRaised (old new : Bounds) (keys : List DropKey) (moment : ℕ) : Type 0 where
  pub kept : (k : DropKey) (m : ℕ) → MayHave old k m → MayHave new k m
  pub raised : (k : DropKey) → has_key keys k ≡ true → MayHave new k moment

-- each key may have the moments that a log has of it
abbrev pub AreBounded : Bounds → List LogEntry → Type 0
AreBounded lasts log = (k : DropKey) (m : ℕ) → has_drop log k m ≡ true → MayHave lasts k m
