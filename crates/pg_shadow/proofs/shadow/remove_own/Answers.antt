use Rattle.std.proofs.Common.{nat_eq, cond, ap, ◌∙◌}
use Rattle.std.specs.Map.{lookup}
use Rattle.std.specs.Option.{unwrap_or}
use Rattle.pg_shadow.specs.Slots.{no_slot}
use Rattle.pg_shadow.specs.Spaces.{nothing, slot_in}
use Rattle.pg_shadow.specs.Held.{space_of}
use Rattle.pg_shadow.proofs.Levels.{nat_eq-comm}
use Rattle.pg_shadow.proofs.Spaces.{removed_either}
use Rattle.pg_shadow.proofs.shadow.remove_own.Goals as goal

pub returns : goal.returns
returns c = record {
  at = λ q l n.
      ap (λ o. slot_in (unwrap_or o nothing) l n) (c.remove.ensures.updates.0 q)
      ∙ removed_either (nat_eq c.args.pcid q) (lookup (nat_eq q) c.args.own.now.entries) l n
      ∙ ap (λ b. cond b no_slot (slot_in (space_of c.args.own.now.entries q) l n)) (nat_eq-comm c.args.pcid q);
}
