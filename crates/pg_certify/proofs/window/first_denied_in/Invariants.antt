use Rattle.std.proofs.Common.{◌≡◌, ℕ, ◌<◌, ◌++◌, length, map, take}
use Rattle.pg_search.specs.Changes.{kept_of}
use Rattle.pg_certify.specs.Windows.{CanBeAmong, with_window}
use Rattle.pg_certify.proofs.window.first_denied_in.Given as goal

abbrev pub invariant-loop-i : goal.invariant-loop-i
invariant-loop-i l = record {
  same : l.certifier ≡ with_window l.fn.certifier (take l.i l.window);
  before : (k : ℕ) → k < l.i → CanBeAmong l.fn.certifier.head (l.fn.certifier.events ++ map kept_of l.window) (length l.fn.certifier.events) l.window k;
}
