use Rattle.pg_codec.proofs.Named.{gives_fields}
use Rattle.pg_codec.proofs.Adding.{adds_by}
use Rattle.pg_codec.proofs.decoder.add_any.Goals as goal

pub returns-clause-added : goal.returns-clause-added
returns-clause-added c =
    adds_by c.args.header.now _ c.fields_of.result _ _ _ _ (gives_fields _ c.fields_of.result c.args.tag c.args.p c.args.bytes.now c.fields_of.ensures) c.add.ensures.added
