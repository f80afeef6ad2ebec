use Rattle.pg_tool.proofs.traces.certify_trace.Goals as goal

pub returns : goal.returns
returns g c = (c.write_certified-answer.result, c.traced_status.ensures, c.write_certified-answer.ensures, c.tell_error.ensures)
