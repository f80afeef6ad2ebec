-- Worked rows: what reads come to (Intel SDM, vol. 3, 4.5 to 4.8).
use Rattle.std.proofs.Common.{◌≡◌, ℕ, Bool, true, false, List, [], ◌∷◌, Option, Some, None, refl}
use Rattle.pg_entry.specs.Rules.{all_rules}
use Rattle.pg_entry.specs.declared.Op.{Op}
use Rattle.pg_entry.specs.declared.Op.TheVariants as ops
use Rattle.pg_entry.specs.declared.Level.{Level}
use Rattle.pg_entry.specs.declared.Level.TheVariants.{Four, One}
use Rattle.pg_event.specs.declared.version.Version.{Version}
use Rattle.pg_event.specs.declared.version.Version.TheVariants as versions
use Rattle.pg_event.specs.declared.event.Event.{Event}
use Rattle.pg_event.specs.declared.event.Event.TheVariants.{Write, Access, Assist}
use Rattle.pg_event.specs.declared.event.Outcome.TheVariants as outcomes
use Rattle.pg_event.specs.Heads.{Head}
use Rattle.pg_world.specs.declared.walk.Walk.{Walk}
use Rattle.pg_world.specs.declared.walk.LevelRead.TheVariants.{Entry, Fault, Assisted}
use Rattle.pg_world.specs.Walks.{found_by}

-- MAXPHYADDR 40, WP and NXE, and one processor
abbrev head_of : Version → Head
head_of version = record {
  version = version;
  cfg = record { flags = record { 0 = 3 }; m = 40; rules = all_rules };
  segment = 16;
  processors = (0x1001, true) ∷ [];
}

-- the tables of 0x5123, whose last has this entry
abbrev written : ℕ → List Event
written page = Write 0 0x1000 0x2007 ∷ Write 0 0x2000 0x3027 ∷ Write 0 0x3000 0x4027 ∷ Write 0 0x4028 page ∷ []

-- a user access to 0x5123 that reads a level, through entries that are writable or not
abbrev walk_of : Op → Bool → Level → ℕ → Option (List ℕ) → Walk
walk_of op write level table moments = record {
  la = 0x5123;
  kind = record { op = op; user = true; ac = false };
  level = level;
  table = table;
  rights = record { write = write; user = true; xd = false };
  moments = moments;
}

abbrev at_root : Walk
at_root = walk_of ops.Read true Four 0x1000 None

-- a write that reads its page's entry
abbrev at_page : Bool → Walk
at_page write = walk_of ops.Write write One 0x4000 (Some (4 ∷ 4 ∷ 4 ∷ []))

absent_entry_faults : found_by (head_of versions.One) [] 0 at_root
    ≡ Fault (record { moment = 0; event = Access 0 4 0x5123 (outcomes.Fault 0x4) (0 ∷ []) })
absent_entry_faults = refl

-- bit 40 is reserved where MAXPHYADDR is 40
reserved_entry_faults : found_by (head_of versions.One) (written 0x10000009007) 0 (at_page true)
    ≡ Fault (record { moment = 4; event = Access 0 5 0x5123 (outcomes.Fault 0xf) (4 ∷ 4 ∷ 4 ∷ 4 ∷ []) })
reserved_entry_faults = refl

version_one_uses_any_entry : found_by (head_of versions.One) (written 0x9027) 0 at_root ≡ Entry 0x2007 4
version_one_uses_any_entry = refl

accessed_is_set_first : found_by (head_of versions.Two) (written 0x9027) 0 at_root
    ≡ Assisted (record { moment = 4; event = Assist 0 0x4 0x5123 0x1000 (4 ∷ []) })
accessed_is_set_first = refl

dirty_is_set_first : found_by (head_of versions.Two) (written 0x9027) 0 (at_page true)
    ≡ Assisted (record { moment = 4; event = Assist 0 0x15 0x5123 0x4028 (4 ∷ 4 ∷ 4 ∷ 4 ∷ []) })
dirty_is_set_first = refl

-- a page that is dirty and was not accessed
accessed_alone_is_set : found_by (head_of versions.Two) (written 0x9047) 0 (at_page true)
    ≡ Assisted (record { moment = 4; event = Assist 0 0x5 0x5123 0x4028 (4 ∷ 4 ∷ 4 ∷ 4 ∷ []) })
accessed_alone_is_set = refl

-- a write that an entry above denies
denied_write_sets_nothing : found_by (head_of versions.Two) (written 0x9027) 0 (at_page false) ≡ Entry 0x9027 4
denied_write_sets_nothing = refl
