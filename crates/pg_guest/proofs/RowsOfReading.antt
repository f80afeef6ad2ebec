-- Worked scripts, and what they are read as.
use Rattle.std.proofs.Common.{◌≡◌, true, [], ◌∷◌, refl}
use Rattle.std.specs.Prelude.{codes, Ok}
use Rattle.std.specs.Fmt.{digits}
use Rattle.pg_entry.specs.Rules.{all_rules}
use Rattle.pg_event.specs.declared.version.Version.TheVariants as versions
use Rattle.pg_guest.specs.declared.instruction.Instruction.TheVariants.{Write, Access, Invlpg}
use Rattle.pg_guest.specs.Numbers.{dec_of, hex_of}
use Rattle.pg_guest.specs.Words.{dec_at, hex_at, bit_at, keyword_at}
use Rattle.pg_guest.specs.Heading.{version_in, settings_at, machine_in, segment_in, start_in}
use Rattle.pg_guest.specs.Instructions.{processor_at, kind_at, write_in, access_in, invlpg_in, instruction_in, task_in}
use Rattle.pg_guest.specs.Reading.{Scripted, heading_at, next_start_at, starts_at, processors_at, head_at, next_task_at, tasks_at, reading}
use Rattle.pg_guest.specs.Spelling.{text_of}

stale_leaf : Scripted
stale_leaf = record {
  head = record {
    version = versions.One;
    cfg = record { flags = record { 0 = 3 }; m = 40; rules = all_rules };
    segment = 16;
    processors = (0x1001, true) ∷ [];
  };
  tasks =
      record { p = 0; instruction = Write 0x1000 0x2007 }
      ∷ record { p = 0; instruction = Write 0x2000 0x3007 }
      ∷ record { p = 0; instruction = Write 0x3000 0x4007 }
      ∷ record { p = 0; instruction = Write 0x4028 0x9007 }
      ∷ record { p = 0; instruction = Access 4 0x5123 }
      ∷ record { p = 0; instruction = Write 0x4028 0 }
      ∷ record { p = 0; instruction = Access 4 0x5123 }
      ∷ record { p = 0; instruction = Invlpg 0x5000 }
      ∷ record { p = 0; instruction = Access 4 0x5123 }
      ∷ [];
}

stale_leaf_is_read : reading (codes "pcid-guest 1\nmachine 40 wp nxe\nsegment 16\ncpu 0x1001 1\n0 write 0x1000 0x2007\n0 write 0x2000 0x3007\n0 write 0x3000 0x4007\n0 write 0x4028 0x9007\n0 read 0x5123 user\n0 write 0x4028 0x0\n0 read 0x5123 user\n0 invlpg 0x5000\n0 read 0x5123 user\n")
    ≡ Ok stale_leaf
unfolding stale_leaf reading head_at heading_at version_in machine_in settings_at segment_in processors_at starts_at next_start_at start_in tasks_at next_task_at task_in processor_at instruction_in write_in access_in kind_at invlpg_in dec_at hex_at bit_at keyword_at dec_of hex_of
stale_leaf_is_read = refl

stale_leaf_is_said : text_of stale_leaf
    ≡ codes "pcid-guest 1\nmachine 40 wp nxe\nsegment 16\ncpu 0x1001 1\n0 write 0x1000 0x2007\n0 write 0x2000 0x3007\n0 write 0x3000 0x4007\n0 write 0x4028 0x9007\n0 read 0x5123 user\n0 write 0x4028 0x0\n0 read 0x5123 user\n0 invlpg 0x5000\n0 read 0x5123 user\n"
unfolding stale_leaf digits
stale_leaf_is_said = refl
