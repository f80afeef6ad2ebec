use Rattle.std.proofs.Common.{◌-◌, drop, arith}
use Rattle.pg_event.proofs.Fields.{IsBytes, IsBytes-drop, IsBytes-take}
use Rattle.pg_codec.proofs.Next.{all_bytes}
use Rattle.pg_codec.proofs.buffer.range_of.Goals as goal

pub returns-clause-bytes : goal.returns-clause-bytes
returns-clause-bytes c =
    let xs = c.args.bytes.now in
    let fits : IsBytes xs = λ i. omega (arith, c.type_inv.bytes i) in
    all_bytes _ (IsBytes-take (c.args.end - c.args.start) (drop c.args.start xs) (IsBytes-drop c.args.start xs fits))
