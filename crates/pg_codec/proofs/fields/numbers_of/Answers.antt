use Rattle.std.proofs.Common.{◌≡◌, ◌-◌, [], List, ℕ, ap, sym, ◌∙◌, arith}
use Rattle.pg_event.specs.Reading.{numbers_at}
use Rattle.pg_codec.specs.Parts.{with_front}
use Rattle.pg_codec.proofs.Many.{begins, goes_on, numbers_are_many}
use Rattle.pg_codec.proofs.fields.numbers_of.Goals as goal

pub returns : goal.returns
returns c =
    let bytes = c.args.bytes.now in
    let count = c.args.count in
    let moment = c.u32_front-first.result.0 in
    let rest = c.u32_front-first.result.1.now in
    let whole : with_front c.first.result (numbers_at (count - 1) rest) ≡ numbers_at count bytes =
    ap (λ (front : List ℕ). with_front front (numbers_at (count - 1) rest)) c.first.ensures
    ∙ goes_on _ _ numbers_are_many [] 0 count 0 bytes moment rest _ (omega arith) c.u32_front-first.ensures.value (begins _ _ numbers_are_many 0 count bytes) in
    sym whole ∙ c.more_moments.ensures
