-- A run whose processors are held to other rules.
use Rattle.pg_entry.specs.declared.Rules.{Rules}
use Rattle.pg_event.specs.Heads.{with_rules}
use Rattle.pg_event.proofs.FewerRules.{head_held, well_held}
use Rattle.pg_span_run.specs.Orders.{Spanned}
use Rattle.pg_span_run.specs.Spanned.{IsSpanned}

pub held_is_spanned : (s : Spanned) (rules : Rules) → IsSpanned s → IsSpanned (record s { head = with_rules s.head rules })
held_is_spanned s rules is = record {
  head = head_held s.head rules is.head;
  count = is.count;
  well = well_held s.head rules s.events is.well;
  backs = is.backs;
  spans = is.spans;
}
