-- What an event says, as values: what it asks of a walk, what it does to memory and to control
-- registers, and what it invalidates.
use Rattle.std.specs.Prelude.{ℕ, Bool, true, false, not, ◌&&◌, ◌||◌, ◌==◌, if◌then◌else◌}
use Rattle.pg_entry.specs.Kinds.{marked}
use Rattle.pg_event.specs.declared.event.Event.{Event}
use Rattle.pg_event.specs.declared.event.Event.TheVariants as events
use Rattle.pg_event.specs.declared.keys.StructureKey.{StructureKey}
use Rattle.pg_event.specs.declared.keys.TranslationKey.{TranslationKey}
use Rattle.pg_event.specs.declared.control.Control.{Control}
use Rattle.pg_event.specs.declared.control.ControlChange.{ControlChange}
use Rattle.pg_event.specs.declared.control.ControlChange.TheVariants as registers
use Rattle.pg_event.specs.declared.meaning.Request.{Request}
use Rattle.pg_event.specs.declared.meaning.Request.TheVariants as requests
use Rattle.pg_event.specs.declared.meaning.MemoryChange.{MemoryChange}
use Rattle.pg_event.specs.declared.meaning.MemoryChange.TheVariants as changes
use Rattle.pg_event.specs.declared.invalidation.Invalidation.{Invalidation}
use Rattle.pg_event.specs.declared.invalidation.Invalidation.TheVariants.{Nothing, Address, Page}
use Rattle.pg_event.specs.declared.invalidation.Invalidation.TheVariants.{Pcid, Everything}
use Rattle.pg_event.specs.Form.{access_kind, says_dirty}
use Rattle.pg_event.specs.Invalidation.{structure_matches, translation_matches}
use Rattle.pg_event.specs.Values.{loaded}

-- what an event asks of a walk
abbrev pub request_of : Event → Request
request_of (events.Write p addr value) = requests.Nothing
request_of (events.Access p flags la outcome moments) =
    requests.Access (access_kind flags) la outcome moments
request_of (events.Assist p flags la word moments) =
    requests.Update (access_kind flags) la word (says_dirty flags) moments
request_of (events.MovCr3 p operand) = requests.Nothing
request_of (events.Invlpg p la) = requests.Nothing
request_of (events.Invpcid p kind pcid la) = requests.Nothing
request_of (events.MovCr4Pge p on) = requests.Nothing

-- what an event does to memory
abbrev pub change_of : Event → MemoryChange
change_of (events.Write p addr value) = changes.Value addr value
change_of (events.Access p flags la outcome moments) = changes.Nothing
change_of (events.Assist p flags la word moments) = changes.Flags word (says_dirty flags)
change_of (events.MovCr3 p operand) = changes.Nothing
change_of (events.Invlpg p la) = changes.Nothing
change_of (events.Invpcid p kind pcid la) = changes.Nothing
change_of (events.MovCr4Pge p on) = changes.Nothing

-- what an event does to the control registers of its processor
abbrev pub control_change_of : Event → ControlChange
control_change_of (events.Write p addr value) = registers.Nothing
control_change_of (events.Access p flags la outcome moments) = registers.Nothing
control_change_of (events.Assist p flags la word moments) = registers.Nothing
control_change_of (events.MovCr3 p operand) = registers.Cr3 operand
control_change_of (events.Invlpg p la) = registers.Nothing
control_change_of (events.Invpcid p kind pcid la) = registers.Nothing
control_change_of (events.MovCr4Pge p on) = registers.Pge on

-- the control registers after a change of them
abbrev pub with_change : ℕ → Control → ControlChange → Control
with_change m c registers.Nothing = c
with_change m c (registers.Cr3 operand) = loaded m operand c.pge
with_change m c (registers.Pge on) = record c { pge = on }

-- whether it may change them
abbrev pub changes_some : ControlChange → Bool
changes_some registers.Nothing = false
changes_some (registers.Cr3 operand) = true
changes_some (registers.Pge on) = true

-- the value at an address after a change
abbrev pub changed : ℕ → ℕ → MemoryChange → ℕ
changed a value changes.Nothing = value
changed a value (changes.Value addr new) = if addr == a then new else value
changed a value (changes.Flags addr dirty) = if addr == a then marked dirty value else value

-- whether an invalidation takes out a paging-structure-cache entry
abbrev pub takes_structure : Invalidation → StructureKey → Bool
takes_structure Nothing s = false
takes_structure (Address pcid la structures translations globals) s =
    structures && s.pcid == pcid && structure_matches s la
takes_structure (Page pcid la) s = s.pcid == pcid
takes_structure (Pcid pcid) s = s.pcid == pcid
takes_structure (Everything globals) s = true

-- whether a translation goes: one of a PCID that is not global where those go, or a global one
-- where these go
abbrev pub goes : TranslationKey → ℕ → Bool → Bool → Bool
goes t pcid translations globals =
    if t.global then globals else translations && t.pcid == pcid

-- whether an invalidation takes out a translation
abbrev pub takes_translation : Invalidation → TranslationKey → Bool
takes_translation Nothing t = false
takes_translation (Address pcid la structures translations globals) t =
    translation_matches t la && goes t pcid translations globals
takes_translation (Page pcid la) t = translation_matches t la && goes t pcid true true
takes_translation (Pcid pcid) t = goes t pcid true false
takes_translation (Everything globals) t = globals || not t.global

-- whether an invalidation of an address says that something goes
abbrev pub names_some : Invalidation → Bool
names_some Nothing = true
names_some (Address pcid la structures translations globals) =
    structures || translations || globals
names_some (Page pcid la) = true
names_some (Pcid pcid) = true
names_some (Everything globals) = true

-- whether an invalidation of an address says that structure entries go, and translations too
abbrev pub is_whole : Invalidation → Bool
is_whole Nothing = true
is_whole (Address pcid la structures translations globals) = structures && translations
is_whole (Page pcid la) = true
is_whole (Pcid pcid) = true
is_whole (Everything globals) = true
