use Rattle.pg_tool.proofs.traces.explain_trace.Goals as goal

pub returns : goal.returns
returns g c = (c.write_explained-answer.result, c.traced_status.ensures, c.write_explained-answer.ensures, c.tell_error.ensures)
