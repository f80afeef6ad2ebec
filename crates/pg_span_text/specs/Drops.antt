-- After which of its events a processor must read the entries of a page anew, and from which roots
-- (Intel SDM, vol. 3, 4.10.2.4, 4.10.4.1).
use Rattle.std.specs.Prelude.{ℕ, zero, suc, ◌+◌, ◌-◌, Bool, true, false, not, ◌&&◌, ◌==◌}
use Rattle.std.specs.Prelude.{nat_lt, if◌then◌else◌, List, [], ◌∷◌, ◌++◌, Option, Some, None}
use Rattle.std.specs.Prelude.{length, slice_get}
use Rattle.std.specs.List.{list_any}
use Rattle.pg_entry.specs.declared.Rules.{Rules}
use Rattle.pg_entry.specs.declared.Level.TheVariants.{Two}
use Rattle.pg_event.specs.declared.control.Control.{Control}
use Rattle.pg_event.specs.declared.event.Event.{Event}
use Rattle.pg_event.specs.Form.{processor_of}
use Rattle.pg_event.specs.Invalidation.{structure_key, translation_key, must_drop_structure}
use Rattle.pg_event.specs.Invalidation.{must_drop_translation}
use Rattle.pg_event.specs.Values.{control_at}
use Rattle.pg_span_run.specs.Orders.{Spanned}

-- whether an event, with these control registers before it, must drop each translation of a linear
-- address under a PCID that is not global, and each paging-structure-cache entry of the address
-- under the PCID. A translation by a page of 4 KB and the entry of level 2 say it of all: what must
-- drop the one must also drop those by larger pages, and what must drop the other those of each
-- level
abbrev pub drops_page : Rules → Control → ℕ → ℕ → Event → Bool
drops_page rules c pcid la e =
    must_drop_translation rules c e (translation_key pcid 12 false la)
    && must_drop_structure rules c e (structure_key pcid Two la)

-- whether it may leave global ones: there are some only where CR4.PGE is 1, since a change of it
-- drops all
abbrev pub keeps_global : Rules → Control → ℕ → ℕ → Event → Bool
keeps_global rules c pcid la e =
    c.pge && not (must_drop_translation rules c e (translation_key pcid 12 true la))

abbrev pub drops_by : Rules → Control → ℕ → ℕ → ℕ → Event → Bool
drops_by rules c p pcid la e = processor_of e == p && drops_page rules c pcid la e

abbrev pub drops_by_some : Rules → Control → ℕ → ℕ → ℕ → Option Event → Bool
drops_by_some rules c p pcid la None = false
drops_by_some rules c p pcid la (Some e) = drops_by rules c p pcid la e

-- whether event i is one of processor p that does
abbrev pub drops_at : Spanned → ℕ → ℕ → ℕ → ℕ → Bool
drops_at s p pcid la i =
    drops_by_some s.head.cfg.rules (control_at s.head s.events p i) p pcid la
    (slice_get s.events i)

-- the last number below a bound of which a test holds
abbrev pub last_below : (ℕ → Bool) → ℕ → Option ℕ
last_below test zero = None
last_below test (suc n) = if test n then Some n else last_below test n

-- the last event of p before event i that must drop each translation of the address under the PCID
-- that is not global
abbrev pub last_drop : Spanned → ℕ → ℕ → ℕ → ℕ → Option ℕ
last_drop s p pcid la i = last_below (drops_at s p pcid la) i

-- ---- roots

-- a table after others, unless it is there, or they are 65 already
abbrev pub put_once : List ℕ → ℕ → List ℕ
put_once tables table =
    if nat_lt (length tables) 65 && not (list_any (λ t. t == table) tables)
    then tables ++ table ∷ [] else tables

-- the table of CR3 where it is under this PCID
abbrev pub put_root : ℕ → List ℕ → Control → List ℕ
put_root pcid tables c = if c.pcid == pcid then put_once tables c.root else tables

-- the tables that CR3 of p had under a PCID just before event `from`, and just before each of so
-- many events after it
abbrev pub roots_from : Spanned → ℕ → ℕ → ℕ → ℕ → List ℕ
roots_from s p pcid from zero = put_root pcid [] (control_at s.head s.events p from)
roots_from s p pcid from (suc n) =
    put_root pcid (roots_from s p pcid from n) (control_at s.head s.events p (from + suc n))

-- the tables that CR3 of p had under a PCID from just before event `from` to just before event `to`
abbrev pub roots : Spanned → ℕ → ℕ → ℕ → ℕ → List ℕ
roots s p pcid from to = roots_from s p pcid from (to - from)
