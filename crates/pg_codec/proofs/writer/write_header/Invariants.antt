use Rattle.pg_event.specs.Spelling.{start_bytes}
use Rattle.pg_codec.specs.Writing.{settings_bytes}
use Rattle.pg_codec.proofs.Written.{IsWriting}
use Rattle.pg_codec.proofs.writer.write_header.Given as goal

abbrev pub invariant-loop-cr3 : goal.invariant-loop-cr3
invariant-loop-cr3 g l = IsWriting g.W.Sink start_bytes (settings_bytes l.header) l.cr3-items l.fn.sink l.sink l.block l.cr3-index
