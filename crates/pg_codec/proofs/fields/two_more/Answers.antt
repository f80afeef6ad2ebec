use Rattle.std.proofs.Common.{◌∙◌}
use Rattle.pg_codec.proofs.Many.{then_others}
use Rattle.pg_codec.proofs.fields.two_more.Goals as goal

pub returns : goal.returns
returns c =
    let e = rw c.unwrap.ensures at c.with.ensures in
    then_others c.args.front 1 c.args.bytes.now c.u32_front-moment.result.0 c.u32_front-moment.result.1.now c.u32_front-moment.ensures.value ∙ (rw e at c.one_more.ensures)
