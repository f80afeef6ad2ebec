use Rattle.std.proofs.Common.{List, sym, subst}
use Rattle.std.specs.List.{AllByRecursion}
use Rattle.pg_event.specs.declared.event.Event.{Event}
use Rattle.pg_event.specs.Heads.{Head}
use Rattle.pg_explain.specs.declared.bad_events.Bad.{Bad}
use Rattle.pg_explain.specs.Bads.{IsBad}
use Rattle.pg_explain.proofs.Judged.{all_are_bad, first_are_bad}
use Rattle.pg_answers.proofs.summaries.causes_of.Goals as goal

pub each-requires : goal.each-requires
each-requires c =
    let head : Head = c.args.history.now.head in
    let events : List Event = c.args.history.now.events in
    let all : AllByRecursion (IsBad head events) c.args.found.now = subst (λ (xs : List Bad). AllByRecursion (IsBad head events) xs) (sym c.requires) (all_are_bad head events) in
    first_are_bad head events c.args.found.now c.min.result all
