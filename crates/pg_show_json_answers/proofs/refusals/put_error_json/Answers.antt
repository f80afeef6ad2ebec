use Rattle.std.proofs.Common.{ap, sym}
use Rattle.pg_codec.proofs.Written.{puts_same}
use Rattle.pg_show_json.specs.Tree.{json_line}
use Rattle.pg_show_json_answers.specs.Refusals.{error_json}
use Rattle.pg_show_json_answers.proofs.OnLiterals.{objects_on_literals}
use Rattle.pg_report.specs.declared.error.AuditError.{AuditError}
use Rattle.pg_show_json_answers.proofs.refusals.put_error_json.Goals as goal

pub returns-in-Device : goal.returns-in-Device
unfolding objects_on_literals
returns-in-Device g c = puts_same g.W.Sink _ _ _ _ _ (ap (λ (e : AuditError). json_line (error_json e)) (sym c.in-Device.is)) c.put_all.ensures

pub returns-in-Memory : goal.returns-in-Memory
unfolding objects_on_literals
returns-in-Memory g c = puts_same g.W.Sink _ _ _ _ _ (ap (λ (e : AuditError). json_line (error_json e)) (sym c.in-Memory.is)) c.put_all-in-Memory.ensures

pub returns-in-Thread : goal.returns-in-Thread
unfolding objects_on_literals
returns-in-Thread g c = puts_same g.W.Sink _ _ _ _ _ (ap (λ (e : AuditError). json_line (error_json e)) (sym c.in-Thread.is)) c.put_all-in-Thread.ensures

pub returns-in-Checkers : goal.returns-in-Checkers
unfolding objects_on_literals
returns-in-Checkers g c = puts_same g.W.Sink _ _ _ _ _ (ap (λ (e : AuditError). json_line (error_json e)) (sym c.in-Checkers.is)) c.put_all-in-Checkers.ensures
