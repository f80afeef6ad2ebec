use Rattle.std.proofs.Common.{◌<◌, ◌^◌}
use Rattle.pg_span_refute.specs.Caches.{known_of}
use Rattle.pg_span_refute.specs.Witness.{MayHaveCached}
use Rattle.pg_span_refute.specs.Words.{AreWordsOf}
use Rattle.pg_span_refute.proofs.refuter.refute_walk.Given as goal

abbrev pub invariant-loop-next : goal.invariant-loop-next
invariant-loop-next l = record {
  words : AreWordsOf l.run.events l.words.words.items;
  root : l.caches.control.root < 2 ^ 52;
  may : MayHaveCached l.fn.run l.fn.edges l.fn.walk.p l.fn.walk.la l.next l.ended (known_of l.caches);
}
