use Rattle.pg_show_trace.specs.Objects.{slice_fields}
use Rattle.pg_show_trace.proofs.objects.push_slice.Goals as goal

pub returns : goal.returns
returns c = λ told e.
    c.push_next.ensures (slice_fields c.args.slot.from c.args.slot.length c.args.number c.args.event.now told) (c.in_ok-fields.ensures told e)
