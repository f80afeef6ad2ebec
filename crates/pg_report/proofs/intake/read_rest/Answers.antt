use Rattle.std.proofs.Common.{◌+◌, List, ℕ, Option}
use Rattle.std.proofs.lemmas.Result.{err_from_is_err_and}
use Rattle.pg_event.specs.declared.version.Version.{Version}
use Rattle.pg_report.specs.Going.{IsGoing}
use Rattle.pg_report.proofs.Continuing.{going_on, going_ends, going_fails, end_counts, failure_counts, memory_reads}
use Rattle.pg_report.proofs.intake.read_rest.Goals as goal

pub returns-in_err-extend-in-Ok-Some-clause-refused : goal.returns-in_err-extend-in-Ok-Some-clause-refused
returns-in_err-extend-in-Ok-Some-clause-refused g c = λ newest start f h.
    let p = err_from_is_err_and c.from_residual.result c.from_residual.ensures.1 in
    rw (p.1, p.2) (memory_reads newest start)

pub returns-in_err-extend-in-Ok-Some-clause-device : goal.returns-in_err-extend-in-Ok-Some-clause-device
returns-in_err-extend-in-Ok-Some-clause-device g c = λ newest start f h.
    let read = c.in-Ok-Some.ensures in
    let on = going_on g.R.Source newest start f _ _ c.loop.reader.stage c.loop.history c.loop.counter (c.loop.invariant.1 newest start f h) c.in-Ok-Some.events.items _
    (rw c.in-Ok-Some.field-0-is at read.pulls) (rw c.in-Ok-Some.field-0-is at read.next) (rw c.in-Ok-Some.field-0-is at read.stage) in
    let p = err_from_is_err_and c.from_residual.result c.from_residual.ensures.1 in
    rw (p.1, p.2) on.failed

pub returns-in-Ok-None-clause-whole : goal.returns-in-Ok-None-clause-whole
returns-in-Ok-None-clause-whole g c = λ newest start f h.
    going_ends g.R.Source newest start f _ _ c.loop.reader.stage c.loop.history c.loop.counter (c.loop.invariant.1 newest start f h) (rw c.in-Ok-None.field-0-is at c.in-Ok-None.ensures.pulls)

pub returns-in-Ok-None-clause-device : goal.returns-in-Ok-None-clause-device
returns-in-Ok-None-clause-device g c = λ newest start f h.
    end_counts g.R.Source newest start f _ _ c.loop.reader.stage c.loop.history c.loop.counter (c.loop.invariant.1 newest start f h) (rw c.in-Ok-None.field-0-is at c.in-Ok-None.ensures.pulls)

pub returns-in-Err-clause-refused : goal.returns-in-Err-clause-refused
returns-in-Err-clause-refused g c = λ newest start f h.
    going_fails g.R.Source newest start f _ _ c.loop.reader.stage c.loop.history c.loop.counter (c.loop.invariant.1 newest start f h) c.in-Err.error c.audit_error.result c.audit_error.ensures c.in-Err.ensures.pulls

pub returns-in-Err-clause-device : goal.returns-in-Err-clause-device
returns-in-Err-clause-device g c = λ newest start f h.
    failure_counts g.R.Source newest start f _ _ c.loop.reader.stage c.loop.history c.loop.counter (c.loop.invariant.1 newest start f h) c.in-Err.error c.audit_error.result c.audit_error.ensures c.in-Err.ensures.pulls

pub loop-preserved : goal.loop-preserved
loop-preserved g c =
    let read = c.in-Ok-Some.ensures in
    let step : (newest : Version) (start : Option (List ℕ)) (f : ℕ) → IsGoing g.R.Source newest start f (c.loop.reader.unread, c.loop.source) c.loop.reader.stage c.loop.history c.loop.counter
    → IsGoing g.R.Source newest start f (c.read_segment.new.self.unread, c.read_segment.new.source) c.read_segment.new.self.stage c.extend.new.self (c.loop.counter + 1) =
    (λ newest start f was.
    let on = going_on g.R.Source newest start f _ _ c.loop.reader.stage c.loop.history c.loop.counter was c.in-Ok-Some.events.items _
    (rw c.in-Ok-Some.field-0-is at read.pulls) (rw c.in-Ok-Some.field-0-is at read.next) (rw c.in-Ok-Some.field-0-is at read.stage) in
    rw (c.in_ok-extend-in-Ok-Some.ensures.ok, c.deref.ensures.value) on) in
    let was = c.loop.invariant in
    ((was.0.0, was.0.1, was.0.2, step was.0.0 was.0.1 was.0.2 was.0.3), λ newest start f h. step newest start f (was.1 newest start f h))
