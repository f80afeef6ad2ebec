use Rattle.std.proofs.Common.{◌+◌, ◌++◌, ◌∙◌, List, ℕ, Option, sym}
use Rattle.std.proofs.lemmas.Result.{err_from_is_err_and}
use Rattle.pg_event.specs.declared.version.Version.TheVariants.{Two}
use Rattle.pg_event.specs.Spelling.{Recorded}
use Rattle.pg_certify.specs.Accounts.{IsAccount}
use Rattle.pg_report.proofs.Continuing.{going_ends, going_fails, end_counts, failure_counts, memory_reads}
use Rattle.pg_answers.specs.Accounts.{IsAccounting}
use Rattle.pg_answers.proofs.Accounted.{may_come, going_further, accounted}
use Rattle.pg_answers.proofs.GivenFirsts.{begins, up_to_end, up_to_denied}
use Rattle.pg_answers.proofs.firsts.account_up_to.Goals as goal

pub window-requires : goal.window-requires
window-requires g c =
    let read = c.in-Ok-Some.ensures in
    rw c.deref.ensures.value (may_come g.R.Source _ _ _ _ c.loop.reader.stage _ c.loop.account c.loop.counter c.loop.invariant.0.2 c.in-Ok-Some.events.items
    (rw c.in-Ok-Some.field-0-is at read.pulls) (rw c.in-Ok-Some.field-0-is at read.next) (rw c.in-Ok-Some.field-0-is at read.stage))

pub returns-in_err-window-in-Ok-Some-clause-refused : goal.returns-in_err-window-in-Ok-Some-clause-refused
returns-in_err-window-in-Ok-Some-clause-refused g c = λ start f h.
    let p = err_from_is_err_and c.from_residual.result c.from_residual.ensures.1 in
    rw (p.1, p.2) (memory_reads Two start)

pub returns-in_err-window-in-Ok-Some-clause-device : goal.returns-in_err-window-in-Ok-Some-clause-device
returns-in_err-window-in-Ok-Some-clause-device g c = λ start f h.
    let read = c.in-Ok-Some.ensures in
    let on = going_further g.R.Source start f _ _ c.loop.reader.stage _ c.loop.account c.loop.counter (c.loop.invariant.1 start f h) c.in-Ok-Some.events.items
    (rw c.in-Ok-Some.field-0-is at read.pulls) (rw c.in-Ok-Some.field-0-is at read.next) (rw c.in-Ok-Some.field-0-is at read.stage) in
    let p = err_from_is_err_and c.from_residual.result c.from_residual.ensures.1 in
    rw (p.1, p.2) on.failed

pub returns-in-Ok-None-clause-front : goal.returns-in-Ok-None-clause-front
returns-in-Ok-None-clause-front g c = λ start f h.
    let was = c.loop.invariant.1 start f h in
    let r : Recorded = record { head = c.loop.account.findings.kept.head; events = was.events } in
    let reads = going_ends g.R.Source Two _ _ _ _ c.loop.reader.stage r c.loop.counter was.going (rw c.in-Ok-None.field-0-is at c.in-Ok-None.ensures.pulls) in
    (r, was.known, up_to_end c.loop.account.findings.denied start r reads (begins g.R.Source start f _ _ r _ was.going))

pub returns-in-Ok-None-clause-device : goal.returns-in-Ok-None-clause-device
returns-in-Ok-None-clause-device g c = λ start f h.
    end_counts g.R.Source Two _ _ _ _ _ _ _ (c.loop.invariant.1 start f h).going (rw c.in-Ok-None.field-0-is at c.in-Ok-None.ensures.pulls)

pub returns-in-Err-clause-refused : goal.returns-in-Err-clause-refused
returns-in-Err-clause-refused g c = λ start f h.
    let was = c.loop.invariant.1 start f h in
    let r : Recorded = record { head = c.loop.account.findings.kept.head; events = was.events } in
    going_fails g.R.Source Two _ _ _ _ c.loop.reader.stage r c.loop.counter was.going c.in-Err.error c.audit_error.result c.audit_error.ensures c.in-Err.ensures.pulls

pub returns-in-Err-clause-device : goal.returns-in-Err-clause-device
returns-in-Err-clause-device g c = λ start f h.
    let was = c.loop.invariant.1 start f h in
    let r : Recorded = record { head = c.loop.account.findings.kept.head; events = was.events } in
    failure_counts g.R.Source Two _ _ _ _ c.loop.reader.stage r c.loop.counter was.going c.in-Err.error c.audit_error.result c.audit_error.ensures c.in-Err.ensures.pulls

pub loop-preserved : goal.loop-preserved
loop-preserved g c =
    let read = c.in-Ok-Some.ensures in
    let step : (start : Option (List ℕ)) (f : ℕ) → IsAccounting g.R.Source start f (c.loop.reader.unread, c.loop.source) c.loop.reader.stage c.loop.account c.loop.counter
    → IsAccounting g.R.Source start f (c.read_segment_in.new.self.unread, c.read_segment_in.new.source) c.read_segment_in.new.self.stage c.window.new.self (c.loop.counter + 1) =
    (λ start f was.
    let certified : IsAccount c.window.new.self c.loop.account.findings.kept.head (was.events ++ c.in-Ok-Some.events.items) = rw (← c.deref.ensures.value) (c.in_ok-window-in-Ok-Some.ensures c.loop.account.findings.kept.head was.events was.known) in
    accounted g.R.Source start f _ _ c.loop.reader.stage _ c.loop.account c.loop.counter was c.in-Ok-Some.events.items
    (rw c.in-Ok-Some.field-0-is at read.pulls) (rw c.in-Ok-Some.field-0-is at read.next) (rw c.in-Ok-Some.field-0-is at read.stage) c.window.new.self certified) in
    let was = c.loop.invariant in
    ((was.0.0, was.0.1, step was.0.0 was.0.1 was.0.2), λ start f h. step start f (was.1 start f h))

pub returns-then-has_denied-clause-front : goal.returns-then-has_denied-clause-front
returns-then-has_denied-clause-front g c = λ start f h.
    let read = c.in-Ok-Some.ensures in
    let was = c.loop.invariant.1 start f h in
    let certified : IsAccount c.window.new.self c.loop.account.findings.kept.head (was.events ++ c.in-Ok-Some.events.items) = rw (← c.deref.ensures.value) (c.in_ok-window-in-Ok-Some.ensures c.loop.account.findings.kept.head was.events was.known) in
    let on = accounted g.R.Source start f _ _ c.loop.reader.stage _ c.loop.account c.loop.counter was c.in-Ok-Some.events.items
    (rw c.in-Ok-Some.field-0-is at read.pulls) (rw c.in-Ok-Some.field-0-is at read.next) (rw c.in-Ok-Some.field-0-is at read.stage) c.window.new.self certified in
    let r : Recorded = record { head = c.window.new.self.findings.kept.head; events = on.events } in
    (r, on.known, up_to_denied c.window.new.self.findings.denied start r (sym c.has_denied.ensures ∙ c.if-has_denied.true) (begins g.R.Source start f _ _ r _ on.going))

pub returns-then-has_denied-clause-device : goal.returns-then-has_denied-clause-device
returns-then-has_denied-clause-device g c = λ start f h.
    let read = c.in-Ok-Some.ensures in
    (going_further g.R.Source start f _ _ c.loop.reader.stage _ c.loop.account c.loop.counter (c.loop.invariant.1 start f h) c.in-Ok-Some.events.items
    (rw c.in-Ok-Some.field-0-is at read.pulls) (rw c.in-Ok-Some.field-0-is at read.next) (rw c.in-Ok-Some.field-0-is at read.stage)).failed
