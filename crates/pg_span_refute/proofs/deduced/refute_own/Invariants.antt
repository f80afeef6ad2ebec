use Rattle.std.proofs.Common.{ℕ, [], ◌<◌, ◌≤◌, length}
use Rattle.pg_machine.specs.Machine.{IsIn}
use Rattle.pg_span_refute.specs.declared.edge.Edge.{Edge}
use Rattle.pg_span_refute.specs.Memory.{IsOwn}
use Rattle.pg_span_refute.specs.Supposed.{AreSure, AreDeduced, FollowInTurn}
use Rattle.pg_span_refute.specs.Words.{AreWordsOf}
use Rattle.pg_span_refute.proofs.deduced.refute_own.Given as goal

abbrev pub invariant-loop-number : goal.invariant-loop-number
invariant-loop-number l = record {
  words : AreWordsOf l.run.events l.words.words.items;
  sure : (i : ℕ) → l.number ≤ i → i < length l.run.events → IsOwn l.run.events l.p i → AreSure l.run l.edges.items i;
  deduced : AreDeduced l.run l.edges.items;
  follow : FollowInTurn l.run [] l.edges.items;
  earlier : (edge : Edge) → IsIn edge l.edges.items → (edge.second < l.number) × IsOwn l.run.events l.p edge.second;
}
