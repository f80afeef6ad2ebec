use Rattle.std.proofs.Common.{◌≡◌, drop}
use Rattle.pg_show_picture.specs.Layout.{takes_part}
use Rattle.pg_show_picture.proofs.placer.takes_part.Given as goal

abbrev pub invariant-loop-number : goal.invariant-loop-number
invariant-loop-number l =
    takes_part l.events (drop l.number-index l.numbers) l.processor ≡ takes_part l.events l.numbers l.processor
