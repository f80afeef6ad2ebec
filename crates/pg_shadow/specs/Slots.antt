-- What stands at a level for one number.
use Rattle.std.specs.Prelude.{ℕ, Bool, if◌then◌else◌, Some, None}
use Rattle.pg_entry.specs.declared.Level.{Level}
use Rattle.pg_entry.specs.Rules.{all_rules}
use Rattle.pg_event.specs.declared.event.Event.{Event}
use Rattle.pg_event.specs.declared.control.Control.{Control}
use Rattle.pg_event.specs.Invalidation.{level_shift}
use Rattle.pg_event.specs.Invalidation.{must_drop_structure, must_drop_translation}
use Rattle.pg_shadow.specs.declared.slot.Slot.{Slot}
use Rattle.pg_shadow.specs.declared.slot.KeptEntry.{KeptEntry}
use Rattle.pg_shadow.specs.declared.slot.KeptEntry.TheVariants.{Table, Leaf, Neither}

abbrev pub no_slot : Slot
no_slot = record { structure = None; translation = None }

-- a slot with one entry more, in place of what it had; or with none
abbrev pub with_kept : KeptEntry → Slot → Slot
with_kept (Table t) s = record s { structure = Some t }
with_kept (Leaf l) s = record s { translation = Some l }
with_kept Neither s = no_slot

-- a slot without its table
abbrev pub bare : Slot → Slot
bare s = record s { structure = None }

-- what an event of a processor that is held to all rules leaves of a slot
abbrev pub left_in : Control → Event → ℕ → Bool → Level → ℕ → Slot → Slot
left_in c e pcid global level number s = record {
  structure =
      if must_drop_structure all_rules c e
      (record { pcid = pcid; level = level; prefix = number })
      then None else s.structure;
  translation =
      if must_drop_translation all_rules c e (record {
        pcid = pcid;
        shift = level_shift level;
        number = number;
        global = global;
      })
      then None else s.translation;
}
