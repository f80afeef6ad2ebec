use Rattle.std.proofs.Common.{◌≡◌, ◌<◌, ◌^◌, ◌++◌, drop, length, map}
use Rattle.pg_event.specs.Values.{mem_at}
use Rattle.pg_event.specs.Walk.{readings}
use Rattle.pg_chain.specs.Walked.{reading_of}
use Rattle.pg_explain.specs.Findings.{readings_by}
use Rattle.pg_explain.proofs.entry.read_steps.Given as goal

abbrev pub invariant-loop-moment : goal.invariant-loop-moment
invariant-loop-moment l = record {
  within : l.parent.table < 2 ^ 52;
  count : length l.steps.items ≡ l.moment-index;
  read : map reading_of l.steps.items
      ++ readings l.seen.head.cfg.m (mem_at l.seen.events) l.la l.level l.parent.table l.parent.rights (drop l.moment-index l.moments)
      ≡ readings_by l.seen.head l.seen.events l.p l.la l.moments;
}
