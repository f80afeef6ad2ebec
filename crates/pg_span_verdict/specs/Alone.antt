-- When events have one order alone.
use Rattle.std.specs.Prelude.{◌≡◌, ℕ, ◌↔◌, List}
use Rattle.pg_span_run.specs.Orders.{Spanned, IsOrder}
use Rattle.pg_span_run.specs.OrderLaws.{ends, EachPrecedesNext}

-- the order in which events ended is their only one exactly where each comes before the next in
-- every order
abbrev pub OneOrderAlone : Type 0
OneOrderAlone = (s : Spanned) →
    EachPrecedesNext s ↔ ((order : List ℕ) → IsOrder s order → order ≡ ends s)
