use Rattle.std.proofs.Common.{codes, string_bytes}
use Rattle.pg_explain.proofs.Lines.{call_written}
use Rattle.pg_explain.proofs.walk_text.push_writer.Goals as goal

pub returns-in-Some : goal.returns-in-Some
returns-in-Some c = rw c.in-Some.is c.writeln.ensures.bytes

pub returns-in-None : goal.returns-in-None
returns-in-None c =
    rw c.in-None.is (call_written c.push_str.result (string_bytes c.push_str.new.self) (string_bytes c.args.text.now) (codes ", never written\n") c.push_str.ensures.bytes)
