use Rattle.std.proofs.Common.{◌≡◌, drop}
use Rattle.pg_show_picture.specs.Named.{is_writer}
use Rattle.pg_show_picture.proofs.named.is_writer.Given as goal

abbrev pub invariant-loop-entry : goal.invariant-loop-entry
invariant-loop-entry l =
    is_writer (drop l.entry-index l.walk) l.number ≡ is_writer l.walk l.number
