use Rattle.pg_show_trace.proofs.Parts.{part_written}
use Rattle.pg_show_trace.proofs.writer.write_part.Goals as goal

pub returns : goal.returns
returns g c = part_written g.O.Sink c.args.output.now c.write_text.new.writer c.args.text.now c.write_text.result c.write_text.ensures.text c.write_text.ensures.only c.write_text.ensures.device
