use Rattle.std.proofs.Common.{◌≡◌, ℕ, ◌<◌, ◌≤◌, get_or}
use Rattle.pg_shadow.specs.Pages.{no_page, IsBarePage}
use Rattle.pg_shadow.proofs.space.bare_pages.Given as goal

abbrev pub invariant-loop-j : goal.invariant-loop-j
invariant-loop-j l = record {
  done : (k : ℕ) → k < l.j → IsBarePage (get_or l.initial.pages k no_page) (get_or l.pages k no_page);
  rest : (k : ℕ) → l.j ≤ k → get_or l.pages k no_page ≡ get_or l.initial.pages k no_page;
}
