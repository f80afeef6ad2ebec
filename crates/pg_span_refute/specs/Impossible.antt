-- What an access or an assist comes to in no run, whatever stands in memory and in the caches
-- (Intel SDM, vol. 3, 4.5 to 4.8).
use Rattle.std.specs.Prelude.{◌≡◌, ℕ, ◌%◌, ◌<◌, Bool, true, false, not, ◌&&◌, ◌||◌, ◌==◌}
use Rattle.std.specs.Prelude.{length, Some, slice_get}
use Rattle.pg_entry.specs.declared.AccessKind.{AccessKind}
use Rattle.pg_entry.specs.declared.Cause.{Cause}
use Rattle.pg_entry.specs.declared.Cause.TheVariants.{Absent, Reserved, Denied}
use Rattle.pg_entry.specs.declared.Cfg.{Cfg}
use Rattle.pg_entry.specs.declared.Level.{Level}
use Rattle.pg_entry.specs.declared.Level.TheVariants.{Four, Three, Two, One}
use Rattle.pg_entry.specs.declared.Rights.{Rights}
use Rattle.pg_entry.specs.Permission.{is_allowed, fault_code}
use Rattle.pg_event.specs.declared.event.Event.{Event}
use Rattle.pg_event.specs.declared.event.Event.TheVariants.{Write, Access, Assist, MovCr3, Invlpg}
use Rattle.pg_event.specs.declared.event.Event.TheVariants.{Invpcid, MovCr4Pge}
use Rattle.pg_event.specs.declared.event.Outcome.{Outcome}
use Rattle.pg_event.specs.declared.event.Outcome.TheVariants.{Page, Fault}
use Rattle.pg_event.specs.Form.{access_kind, says_dirty}
use Rattle.pg_event.specs.Walk.{entry_address}
use Rattle.pg_span_run.specs.Orders.{Spanned}
use Rattle.pg_span_refute.specs.Orders.{NeverComes}

-- the rights that allow least, of an address that is user-mode or not
abbrev pub least_rights : Bool → Rights
least_rights user = record { write = false; user = user; xd = true }

-- some rights deny an access (4.6.1)
abbrev pub is_ever_denied : Cfg → AccessKind → Bool
is_ever_denied cfg access =
    not (is_allowed cfg (least_rights false) access)
    || not (is_allowed cfg (least_rights true) access)

-- an access may fault by this cause, and the code says so (4.7)
abbrev pub is_code_of : Cfg → AccessKind → ℕ → Cause → Bool
is_code_of cfg access code Absent = code == fault_code cfg access Absent
is_code_of cfg access code Reserved = code == fault_code cfg access Reserved
is_code_of cfg access code Denied =
    code == fault_code cfg access Denied && is_ever_denied cfg access

-- an access may come to an outcome: an address with its offset in a page of 4 KBytes, since a page
-- lies at a multiple of its size, or a fault with the code of one of the causes
abbrev pub may_come_to : Cfg → AccessKind → ℕ → Outcome → Bool
may_come_to cfg access la (Page page) = page % 4096 == la % 4096
may_come_to cfg access la (Fault code) =
    is_code_of cfg access code Absent || is_code_of cfg access code Reserved
    || is_code_of cfg access code Denied

-- a walk for the address reads the word at this level in some table, since a table lies at a
-- multiple of 4 KBytes (4.5)
abbrev pub may_read_at : ℕ → ℕ → Level → Bool
may_read_at la word level = word % 4096 == entry_address 0 level la

-- a walk for the address reads the word at some level, and where D is set not at level 4, where no
-- entry refers to a page
abbrev pub may_update : ℕ → ℕ → Bool → Bool
may_update la word with_dirty =
    (not with_dirty && may_read_at la word Four) || may_read_at la word Three
    || may_read_at la word Two || may_read_at la word One

-- some memory gives an event
abbrev pub may_be_given : Cfg → Event → Bool
may_be_given cfg (Write p addr value) = true
may_be_given cfg (Access p flags la outcome moments) =
    may_come_to cfg (access_kind flags) la outcome
may_be_given cfg (Assist p flags la word moments) = may_update la word (says_dirty flags)
may_be_given cfg (MovCr3 p operand) = true
may_be_given cfg (Invlpg p la) = true
may_be_given cfg (Invpcid p kind pcid la) = true
may_be_given cfg (MovCr4Pge p on) = true

-- no memory gives event i
pub record NoMemoryGives (s : Spanned) (i : ℕ) : Type 0 where
  pub event : Event
  pub there : slice_get s.events i ≡ Some event
  pub never : may_be_given s.head.cfg event ≡ false

-- no memory gives event i, so in no order a run comes to it, and it is the least such event
pub record IsFirstNotGiven (s : Spanned) (i : ℕ) : Type 0 where
  pub within : i < length s.events
  pub gives : NoMemoryGives s i
  pub never : NeverComes s i
  pub least : (j : ℕ) → j < i → NoMemoryGives s j → ⊥
