-- The planned steps of an accepted record.
use Rattle.std.proofs.Common.{◌≡◌, ◌≤◌, ◌+◌, ◌*◌, List, length, arith, ap, None, refl}
use Rattle.std.specs.List.{AllByRecursion}
use Rattle.pg_event.specs.declared.event.Event.{Event}
use Rattle.pg_event.specs.Heads.{Head}
use Rattle.pg_event.specs.Form.{broken_rule}
use Rattle.pg_event.specs.Witness.{Accepted}
use Rattle.pg_run_of.specs.declared.fill.Fill.{Fill}
use Rattle.pg_run_of.specs.Plan.{fills_of, steps_of}
use Rattle.pg_run_of.specs.Build.{BuildsRun}
use Rattle.pg_run_of.proofs.Fills.{plan_visible, plan_keeps, steps_few}
use Rattle.pg_run_of.proofs.Whole.{plan_runs}

-- they are a run, if at most four fills an event were made
pub built : (head : Head) (events : List Event) → AllByRecursion (λ e. broken_rule head e ≡ None) events → Accepted head events →
    (made : List Fill) → made ≡ fills_of head events → length made ≤ 4 * length events → BuildsRun head events (steps_of head events)
built head events well accepted made is few = record {
  accepted = accepted;
  planned = refl;
  run = plan_runs head events well accepted;
  all = plan_visible head events;
  keeps = plan_keeps head events;
  few =
      let count : length made ≡ length (fills_of head events) = ap length is in
      let most : length (steps_of head events) ≤ length (fills_of head events) + length events = steps_few (fills_of head events) 0 events in
      omega (arith, few, count, most);
}
