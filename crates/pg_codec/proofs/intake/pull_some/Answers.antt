use Rattle.std.proofs.Common.{◌≡◌, ◌≤◌, [], length, arith, rules}
use Rattle.std.proofs.KnownBytes.{Consumes-nil, Consumes-kept}
use Rattle.std.proofs.lemmas.List.{take-append-le, length-take-le}
use Rattle.pg_codec.proofs.intake.pull_some.Goals as goal

pub returns-in-Ok-extend_from_slice-clause-pulled : goal.returns-in-Ok-extend_from_slice-clause-pulled
returns-in-Ok-extend_from_slice-clause-pulled g c =
    let bound : c.in-Ok.n ≤ length c.pull.new.out = c.in-Ok.ensures.bound in
    let room : length c.pull.new.out ≡ c.min-room.result = search rules in (
      _,
      c.in-Ok.ensures.bytes.0,
      length-take-le _ _ bound,
      rw take-append-le at c.in-Ok-extend_from_slice.ensures.items,
      λ z. c.in-Ok.ensures.bytes.1 z (omega (arith, room, c.requires, c.min-room.ensures)),
    )

pub returns-in-Err-clause-pulled : goal.returns-in-Err-clause-pulled
returns-in-Err-clause-pulled g c =
    let bound : c.in-Ok.n ≤ length c.pull.new.out = c.in-Ok.ensures.bound in
    let room : length c.pull.new.out ≡ c.min-room.result = search rules in
    (_, c.in-Ok.ensures.bytes.0, rw (length-take-le _ _ bound) (omega (arith, bound, room, c.min-room.ensures)))

pub returns-in_default-clause-pulled : goal.returns-in_default-clause-pulled
returns-in_default-clause-pulled g c =
    let before = g.R.Source.left c.args.source.now in
    ([], Consumes-kept before before _ [] (Consumes-nil before) c.in_default.ensures.bytes, omega arith)
