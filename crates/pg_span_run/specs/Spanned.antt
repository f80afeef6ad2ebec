-- What is kept true of a record with no one order.
use Rattle.std.specs.Prelude.{◌≡◌, ℕ, ◌^◌, ◌<◌, ◌≤◌, length, None, slice_index}
use Rattle.std.specs.List.{AllByRecursion}
use Rattle.pg_event.specs.Form.{broken_rule}
use Rattle.pg_event.specs.Spelling.{IsHead}
use Rattle.pg_span_run.specs.Orders.{Spanned}

-- its events are well formed, and none began before the first
pub record IsSpanned (s : Spanned) : Type 0 where
  pub head : IsHead s.head
  pub count : length s.events < 2 ^ 32
  pub well : AllByRecursion (λ e. broken_rule s.head e ≡ None) s.events
  pub backs : length s.backs ≡ length s.events
  pub spans : (i : ℕ) → slice_index s.backs i ≤ i
