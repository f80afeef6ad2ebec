-- What a call of the program leaves of its three streams.
use Rattle.pg_codec.specs.declared.stream.Source as sources
use Rattle.pg_codec.specs.declared.stream.Sink as sinks
use Rattle.pg_report.specs.Changes.{Change, drawn, filled}

pub record Streams : Type 0 where
  pub input : Change
  pub output : Change
  pub errors : Change

abbrev pub streams : {R O E : Type 0} → sources.Ghosts R → sinks.Ghosts O → sinks.Ghosts E →
    R × O × E → R × O × E → Streams
streams input output errors old new = record {
  input = drawn input old.0 new.0;
  output = filled output old.1 new.1;
  errors = filled errors old.2 new.2;
}
