use Rattle.std.proofs.Common.{◌≡◌, length, ap, ◌∙◌}
use Rattle.pg_inval.specs.Lists.{Log, cut_log}
use Rattle.pg_inval.proofs.Bounded.{AreBounded-cut}
use Rattle.pg_inval.proofs.Kept.{IsCutAt-cut}
use Rattle.pg_inval.proofs.Logs.{IsRisingFrom-cut, AreBefore-cut}
use Rattle.pg_inval.proofs.drops.Drops.forget_from.Goals as goal

pub invariant_of-self : goal.invariant_of-self
invariant_of-self c =
    let log = c.self.inside.log.items in
    let count : length c.as_slice.result.now ≡ length (cut_log c.args.moment log) = ap length (c.as_slice.ensures.value ∙ c.forget_entries.ensures) in (
      rw c.forget_entries.ensures (IsRisingFrom-cut 0 c.args.moment log c.self.invariant.0),
      rw (c.forget_entries.ensures, c.min-self-inside.ensures) (AreBefore-cut c.self.inside.next c.args.moment log c.self.invariant.1),
      rw c.forget_entries.ensures (c.forget_from.ensures log c.self.invariant.0 count c.self.invariant.2),
      rw c.forget_entries.ensures (AreBounded-cut c.self.inside.lasts log c.args.moment c.self.invariant.3),
    )

pub returns : goal.returns
returns c =
    let old : Log = record { entries = c.self.inside.log.items; next = c.self.inside.next } in
    rw (← c.self.view_is) (IsCutAt-cut old _ c.args.moment c.min-self-inside.ensures c.forget_entries.ensures)
