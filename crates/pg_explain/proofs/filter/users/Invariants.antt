use Rattle.std.proofs.Common.{◌≡◌, ℕ, vec_len, false, take, get_or, Some}
use Rattle.pg_explain.specs.Filters.{is_user}
use Rattle.pg_explain.proofs.filter.users.Given as goal

abbrev pub invariant-loop-event : goal.invariant-loop-event
invariant-loop-event l = record {
  count : vec_len l.marks ≡ 65536;
  marks : (p : ℕ) → get_or l.marks.items p false ≡ is_user (take l.event-index l.events) (Some l.page) p;
}
