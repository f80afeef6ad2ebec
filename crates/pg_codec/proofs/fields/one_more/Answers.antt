use Rattle.std.proofs.Common.{◌++◌, ◌∷◌, [], ◌∙◌}
use Rattle.pg_codec.proofs.Many.{then_others, no_more}
use Rattle.pg_codec.proofs.fields.one_more.Goals as goal

pub returns : goal.returns
returns c =
    let e = rw c.unwrap.ensures at c.with.ensures in
    let moment = c.u32_front-moment.result.0 in
    let rest = c.u32_front-moment.result.1.now in
    rw e (then_others c.args.front 0 c.args.bytes.now moment rest c.u32_front-moment.ensures.value ∙ no_more (c.args.front ++ moment ∷ []) rest)
