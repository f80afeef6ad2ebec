use Rattle.pg_event.specs.Reading.{access_at, assist_at, fields_at}
use Rattle.pg_codec.specs.Bare.{access_in, assist_in}
use Rattle.pg_codec.proofs.Adding.{adds_by}
use Rattle.pg_codec.proofs.decoder.add_fields.Goals as goal

pub returns-in-16-clause-added : goal.returns-in-16-clause-added
unfolding fields_at
returns-in-16-clause-added c = rw c.in-16.is (adds_by c.args.header.now _ c.write_of.result _ _ _ _ c.write_of.ensures c.add.ensures.added)

pub returns-in-17-clause-added : goal.returns-in-17-clause-added
unfolding fields_at access_at access_in
returns-in-17-clause-added c = rw c.in-17.is (adds_by c.args.header.now _ c.access_of.result _ _ _ _ c.access_of.ensures c.add-in-17.ensures.added)

pub returns-in-22-clause-added : goal.returns-in-22-clause-added
unfolding fields_at assist_at assist_in
returns-in-22-clause-added c = rw c.in-22.is (adds_by c.args.header.now _ c.assist_of.result _ _ _ _ c.assist_of.ensures c.add-in-22.ensures.added)
