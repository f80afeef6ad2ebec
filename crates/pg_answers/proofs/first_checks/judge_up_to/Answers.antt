use Rattle.std.proofs.Common.{◌+◌, [], ◌++◌, ◌∙◌, append-nil, List, ℕ, Option, inl, refl, sym}
use Rattle.std.proofs.lemmas.Result.{err_from_is_err_and}
use Rattle.pg_event.specs.declared.version.Version.TheVariants.{Two}
use Rattle.pg_event.specs.Spelling.{Recorded}
use Rattle.pg_report.specs.Going.{IsJudging}
use Rattle.pg_report.proofs.Continuing.{going_ends, going_fails, end_counts, failure_counts, memory_reads}
use Rattle.pg_report.proofs.Windows.{may_follow, longer, moved_on}
use Rattle.pg_answers.proofs.FirstChecks.{judged_to_end, judged_to_bad}
use Rattle.pg_answers.proofs.first_checks.judge_up_to.Goals as goal

pub judge-requires : goal.judge-requires
judge-requires g c =
    let read = c.in-Ok-Some.ensures in
    let on = longer g.R.Source _ _ _ c.loop.reader.stage c.loop.judged [] c.loop.counter c.loop.invariant.0.2 _ c.in-Ok-Some.events.items _
    (rw c.in-Ok-Some.field-0-is at read.pulls) (rw c.in-Ok-Some.field-0-is at read.next) (rw c.in-Ok-Some.field-0-is at read.stage) in
    rw c.deref.ensures.value (may_follow g.R.Source _ _ _ _ c.loop.judged _ _ on)

pub returns-in_err-judge-in-Ok-Some-clause-refused : goal.returns-in_err-judge-in-Ok-Some-clause-refused
returns-in_err-judge-in-Ok-Some-clause-refused g c = λ start f h.
    let p = err_from_is_err_and c.from_residual.result c.from_residual.ensures.1 in
    rw (p.1, p.2) (memory_reads Two start)

pub returns-in_err-judge-in-Ok-Some-clause-device : goal.returns-in_err-judge-in-Ok-Some-clause-device
returns-in_err-judge-in-Ok-Some-clause-device g c = λ start f h.
    let read = c.in-Ok-Some.ensures in
    let on = longer g.R.Source start f _ c.loop.reader.stage c.loop.judged [] c.loop.counter (c.loop.invariant.1 start f h) _ c.in-Ok-Some.events.items _
    (rw c.in-Ok-Some.field-0-is at read.pulls) (rw c.in-Ok-Some.field-0-is at read.next) (rw c.in-Ok-Some.field-0-is at read.stage) in
    let p = err_from_is_err_and c.from_residual.result c.from_residual.ensures.1 in
    rw (p.1, p.2) on.going.failed

pub returns-in-Ok-None-clause-front : goal.returns-in-Ok-None-clause-front
returns-in-Ok-None-clause-front g c = λ start f h.
    let was = c.loop.invariant.1 start f h in
    let r : Recorded = record { head = c.loop.judged.head; events = was.before ++ [] } in
    let reads = going_ends g.R.Source Two _ _ _ _ c.loop.reader.stage r c.loop.counter was.going (rw c.in-Ok-None.field-0-is at c.in-Ok-None.ensures.pulls) in
    judged_to_end g.R.Source start f _ _ c.loop.judged c.loop.counter was reads

pub returns-in-Ok-None-clause-device : goal.returns-in-Ok-None-clause-device
returns-in-Ok-None-clause-device g c = λ start f h.
    end_counts g.R.Source Two _ _ _ _ _ _ _ (c.loop.invariant.1 start f h).going (rw c.in-Ok-None.field-0-is at c.in-Ok-None.ensures.pulls)

pub returns-in-Err-clause-refused : goal.returns-in-Err-clause-refused
returns-in-Err-clause-refused g c = λ start f h.
    let was = c.loop.invariant.1 start f h in
    let r : Recorded = record { head = c.loop.judged.head; events = was.before ++ [] } in
    going_fails g.R.Source Two _ _ _ _ c.loop.reader.stage r c.loop.counter was.going c.in-Err.error c.audit_error.result c.audit_error.ensures c.in-Err.ensures.pulls

pub returns-in-Err-clause-device : goal.returns-in-Err-clause-device
returns-in-Err-clause-device g c = λ start f h.
    let was = c.loop.invariant.1 start f h in
    let r : Recorded = record { head = c.loop.judged.head; events = was.before ++ [] } in
    failure_counts g.R.Source Two _ _ _ _ c.loop.reader.stage r c.loop.counter was.going c.in-Err.error c.audit_error.result c.audit_error.ensures c.in-Err.ensures.pulls

pub loop-preserved : goal.loop-preserved
loop-preserved g c =
    let read = c.in-Ok-Some.ensures in
    let step : (start : Option (List ℕ)) (f : ℕ) → IsJudging g.R.Source start f (c.loop.reader.unread, c.loop.source) c.loop.reader.stage c.loop.judged [] c.loop.counter
    → IsJudging g.R.Source start f (c.read_segment_in.new.self.unread, c.read_segment_in.new.source) c.read_segment_in.new.self.stage c.judge.new.self [] (c.loop.counter + 1) =
    (λ start f was.
    let on = longer g.R.Source start f _ c.loop.reader.stage c.loop.judged [] c.loop.counter was _ c.in-Ok-Some.events.items _
    (rw c.in-Ok-Some.field-0-is at read.pulls) (rw c.in-Ok-Some.field-0-is at read.next) (rw c.in-Ok-Some.field-0-is at read.stage) in
    let segment : IsJudging g.R.Source start f (c.read_segment_in.new.self.unread, c.read_segment_in.new.source) c.read_segment_in.new.self.stage c.loop.judged c.deref.result.now (c.loop.counter + 1) = rw c.deref.ensures.value on in
    moved_on g.R.Source start f _ _ c.loop.judged c.deref.result.now _ segment c.judge.new.self []
    (record {
      before = segment.before ++ c.deref.result.now;
      judged = c.in_ok-judge-in-Ok-Some.ensures.ok c.loop.judged.head segment.before segment.judges;
      all = sym (append-nil (segment.before ++ c.deref.result.now));
      well = tt;
    }) (inl refl)) in
    let was = c.loop.invariant in
    ((was.0.0, was.0.1, step was.0.0 was.0.1 was.0.2), λ start f h. step start f (was.1 start f h))

pub returns-then-has_bad-clause-front : goal.returns-then-has_bad-clause-front
returns-then-has_bad-clause-front g c = λ start f h.
    let read = c.in-Ok-Some.ensures in
    let on = longer g.R.Source start f _ c.loop.reader.stage c.loop.judged [] c.loop.counter (c.loop.invariant.1 start f h) _ c.in-Ok-Some.events.items _
    (rw c.in-Ok-Some.field-0-is at read.pulls) (rw c.in-Ok-Some.field-0-is at read.next) (rw c.in-Ok-Some.field-0-is at read.stage) in
    let segment : IsJudging g.R.Source start f (c.read_segment_in.new.self.unread, c.read_segment_in.new.source) c.read_segment_in.new.self.stage c.loop.judged c.deref.result.now (c.loop.counter + 1) = rw c.deref.ensures.value on in
    let moved = moved_on g.R.Source start f _ _ c.loop.judged c.deref.result.now _ segment c.judge.new.self []
    (record {
      before = segment.before ++ c.deref.result.now;
      judged = c.in_ok-judge-in-Ok-Some.ensures.ok c.loop.judged.head segment.before segment.judges;
      all = sym (append-nil (segment.before ++ c.deref.result.now));
      well = tt;
    }) (inl refl) in
    judged_to_bad g.R.Source start f _ _ c.judge.new.self _ moved (sym c.has_bad.ensures ∙ c.if-has_bad.true)

pub returns-then-has_bad-clause-device : goal.returns-then-has_bad-clause-device
returns-then-has_bad-clause-device g c = λ start f h.
    let read = c.in-Ok-Some.ensures in
    let on = longer g.R.Source start f _ c.loop.reader.stage c.loop.judged [] c.loop.counter (c.loop.invariant.1 start f h) _ c.in-Ok-Some.events.items _
    (rw c.in-Ok-Some.field-0-is at read.pulls) (rw c.in-Ok-Some.field-0-is at read.next) (rw c.in-Ok-Some.field-0-is at read.stage) in
    on.going.failed
