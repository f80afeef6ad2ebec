use Rattle.std.proofs.Common.{ℕ, []}
use Rattle.pg_span_refute.specs.Supposed.{AreSure, IsUpTo, AreDeduced, AddsEdgesOf, FollowInTurn}
use Rattle.pg_span_refute.specs.Words.{AreWordsOf}
use Rattle.pg_span_refute.proofs.deduced.deduce_around.Given as goal

abbrev pub invariant-loop-write : goal.invariant-loop-write
invariant-loop-write l = record {
  words : AreWordsOf l.run.events l.words.words.items;
  sure : (i : ℕ) → IsUpTo l.run l.asked i → AreSure l.run l.fn.edges.items i → AreSure l.run l.edges.items i;
  deduced : AreSure l.run l.fn.edges.items l.asked → AreDeduced l.run l.fn.edges.items → AreDeduced l.run l.edges.items;
  follow : FollowInTurn l.run [] l.fn.edges.items → FollowInTurn l.run [] l.edges.items;
  more : AddsEdgesOf l.asked l.fn.edges.items l.edges.items;
}
