use Rattle.std.proofs.Common.{◌≡◌, ◌∙◌, ◌+◌, ◌++◌, List, ℕ, Option, length, length-append, ap, arith}
use Rattle.pg_event.specs.declared.event.Event.{Event}
use Rattle.pg_event.specs.Spelling.{Recorded}
use Rattle.pg_report.proofs.Ahead.{HasRead, read_on, read_further, segment_fits, window_read, window_refused, window_ends, window_fails}
use Rattle.pg_report.proofs.judging_by.read_window.Goals as goal
use Rattle.pg_report.proofs.judging_by.read_window.Goals.{Else-len-size}

pub returns-in-Ok-None-clause-reads : goal.returns-in-Ok-None-clause-reads
returns-in-Ok-None-clause-reads g c = λ start f r windows h.
    window_ends g.R.Source start f r _ _ (windows + c.loop.counter) c.loop.window.items (c.loop.invariant.reads start f r windows h) windows _ _ (rw c.in-Ok-None.field-0-is at c.in-Ok-None.ensures.pulls)

pub returns-in-Err-clause-reads : goal.returns-in-Err-clause-reads
returns-in-Err-clause-reads g c = λ start f r windows h.
    window_fails g.R.Source start f r _ _ (windows + c.loop.counter) c.loop.window.items (c.loop.invariant.reads start f r windows h) windows _ _ _ c.in-Err.error c.audit_error.result c.audit_error.ensures c.in-Err.ensures.pulls

pub returns-clause-reads : goal.returns-clause-reads
returns-clause-reads g c = λ start f r windows h.
    window_read g.R.Source start f r _ _ (windows + c.loop.counter) c.loop.window.items (c.loop.invariant.reads start f r windows h) windows (omega (arith, c.loop-test.false, c.requires.some))

-- what was read once a segment was added
module _ (g : _) (c : Else-len-size g) where
  added : c.extend_from_slice.new.self.items ≡ c.loop.window.items ++ c.in-Ok-Some.events.items
  added = c.in_default.ensures.items ∙ ap (λ (es : List Event). c.loop.window.items ++ es) c.deref.ensures.value

  step : (start : Option (List ℕ)) (f : ℕ) (r : Recorded) (windows : ℕ) → HasRead g.R.Source start f r (windows + c.loop.counter) (c.loop.reader.unread, c.loop.source) c.loop.reader.stage c.loop.window.items
      → HasRead g.R.Source start f r (windows + (c.loop.counter + 1)) (c.read_segment_in.new.self.unread, c.read_segment_in.new.source) c.read_segment_in.new.self.stage c.extend_from_slice.new.self.items
  step start f r windows was =
      let read = c.in-Ok-Some.ensures in
      read_further g.R.Source start f r _ c.loop.reader.stage (windows + c.loop.counter) c.loop.window.items was _ c.in-Ok-Some.events.items _
      (rw c.in-Ok-Some.field-0-is at read.pulls) (rw c.in-Ok-Some.field-0-is at read.next) (rw c.in-Ok-Some.field-0-is at read.stage)
      c.extend_from_slice.new.self.items added (windows + (c.loop.counter + 1)) (omega arith)

pub loop-preserved : goal.loop-preserved
loop-preserved g c =
    let was = c.loop.invariant in
    let some = was.some in
    record {
      some = (some.0, some.1, some.2, some.3, step g c some.0 some.1 some.2 some.3 some.4);
      reads = λ start f r windows h. step g c start f r windows (was.reads start f r windows h);
      few = omega (arith, c.if-len-size.false);
    }

pub returns-then-len-size-clause-reads : goal.returns-then-len-size-clause-reads
returns-then-len-size-clause-reads g c = λ start f r windows h.
    let read = c.in-Ok-Some.ensures in
    let items : c.extend_from_slice.new.self.items ≡ c.loop.window.items ++ c.in-Ok-Some.events.items = c.in_default.ensures.items ∙ ap (λ (es : List Event). c.loop.window.items ++ es) c.deref.ensures.value in
    let on = read_further g.R.Source start f r _ c.loop.reader.stage (windows + c.loop.counter) c.loop.window.items (c.loop.invariant.reads start f r windows h) _ c.in-Ok-Some.events.items _
    (rw c.in-Ok-Some.field-0-is at read.pulls) (rw c.in-Ok-Some.field-0-is at read.next) (rw c.in-Ok-Some.field-0-is at read.stage)
    c.extend_from_slice.new.self.items items (windows + (c.loop.counter + 1)) (omega arith) in
    window_read g.R.Source start f r _ _ (windows + (c.loop.counter + 1)) c.extend_from_slice.new.self.items on windows (omega arith)

-- the last segment brings no more than a segment holds
pub returns-then-len-size-clause-few : goal.returns-then-len-size-clause-few
returns-then-len-size-clause-few g c = λ start f r windows h.
    let read = c.in-Ok-Some.ensures in
    let items : c.extend_from_slice.new.self.items ≡ c.loop.window.items ++ c.in-Ok-Some.events.items = c.in_default.ensures.items ∙ ap (λ (es : List Event). c.loop.window.items ++ es) c.deref.ensures.value in
    let fits = segment_fits g.R.Source start f r _ c.loop.reader.stage (windows + c.loop.counter) c.loop.window.items (c.loop.invariant.reads start f r windows h) c.in-Ok-Some.events.items (rw c.in-Ok-Some.field-0-is at read.next) in
    omega (arith, fits, c.loop.invariant.few, ap length items, length-append c.loop.window.items c.in-Ok-Some.events.items)

pub returns-in-Err-extend_from_slice-clause-reads : goal.returns-in-Err-extend_from_slice-clause-reads
returns-in-Err-extend_from_slice-clause-reads g c = λ start f r windows h.
    let read = c.in-Ok-Some.ensures in
    let on = read_on g.R.Source start f r _ c.loop.reader.stage (windows + c.loop.counter) c.loop.window.items (c.loop.invariant.reads start f r windows h) _ c.in-Ok-Some.events.items _
    (rw c.in-Ok-Some.field-0-is at read.pulls) (rw c.in-Ok-Some.field-0-is at read.next) (rw c.in-Ok-Some.field-0-is at read.stage) in
    window_refused g.R.Source start f r _ _ (windows + c.loop.counter + 1) _ on windows _
