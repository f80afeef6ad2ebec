use Rattle.std.proofs.Common.{◌≡◌, take}
use Rattle.pg_span_text.specs.Picture.{lanes_of}
use Rattle.pg_span_text.proofs.picture.lanes_of.Given as goal

abbrev pub invariant-loop-name : goal.invariant-loop-name
invariant-loop-name l = l.lanes.items ≡ lanes_of l.run (take l.name-index l.names)
