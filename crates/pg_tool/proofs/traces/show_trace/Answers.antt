use Rattle.pg_tool.proofs.traces.show_trace.Goals as goal

pub returns : goal.returns
returns g c = (c.trace_shown-answer.result, c.shown_status.ensures, c.trace_shown-answer.ensures, c.tell_error.ensures)
