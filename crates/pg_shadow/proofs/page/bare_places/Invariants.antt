use Rattle.std.proofs.Common.{◌≡◌, ℕ, ◌<◌, ◌≤◌, get_or}
use Rattle.pg_shadow.specs.Pages.{no_place, bare_place}
use Rattle.pg_shadow.proofs.page.bare_places.Given as goal

abbrev pub invariant-loop-i : goal.invariant-loop-i
invariant-loop-i l = record {
  short : l.to < l.from → l.i ≤ l.from;
  done : (k : ℕ) → l.from ≤ k → k < l.i → get_or l.places k no_place ≡ bare_place (get_or l.initial.places k no_place);
  below : (k : ℕ) → k < l.from → get_or l.places k no_place ≡ get_or l.initial.places k no_place;
  rest : (k : ℕ) → l.i ≤ k → get_or l.places k no_place ≡ get_or l.initial.places k no_place;
}
