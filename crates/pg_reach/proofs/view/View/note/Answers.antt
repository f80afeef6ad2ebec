use Rattle.std.proofs.Common.{◌≡◌, true, ap, ◌∙◌, subst}
use Rattle.std.specs.Prelude.{IfSome}
use Rattle.std.proofs.lemmas.Result.{on_ok_weaker}
use Rattle.pg_event.specs.declared.event.Event.{Event}
use Rattle.pg_event.specs.Spelling.{Recorded}
use Rattle.pg_search.specs.Freshness.{is_as_fresh}
use Rattle.pg_search.specs.Law.{AreWitness}
use Rattle.pg_reach.specs.declared.walker.Walker.{Walker}
use Rattle.pg_reach.specs.Views.{Viewed}
use Rattle.pg_reach.specs.Placed.{with_outcome}
use Rattle.pg_reach.specs.ByOutcome.{found_at}
use Rattle.pg_reach.proofs.Fresh.{newer_fresher}
use Rattle.pg_reach.proofs.EveryOutcome.{grown_put, noted_put}
use Rattle.pg_reach.proofs.view.View.note.Goals as goal

pub returns-then-is_witness-clause-grown : goal.returns-then-is_witness-clause-grown
returns-then-is_witness-clause-grown c = on_ok_weaker c.put.result (λ put.
    let r : Recorded = c.args.self.now.run in
    let v : Walker = c.args.self.now.walker in
    let e : Event = c.args.self.now.event in
    let freshest : c.self.inside.walker.freshest ≡ v.freshest = ap (λ (v : Viewed). v.walker.freshest) c.self.view_is in
    let witness : AreWitness r.head r.events v.number (with_outcome c.args.outcome e) c.args.moments =
    subst (λ (w : Viewed). AreWitness w.run.head w.run.events w.walker.number (with_outcome c.args.outcome w.event) c.args.moments) c.self.view_is
    (subst (λ x. AreWitness c.self.inside.seen.now.head c.self.inside.seen.now.events c.self.inside.walker.number x c.args.moments) c.with_outcome-placed.ensures (c.is_witness.ensures.some c.if-is_witness.true)) in
    let newer : v.freshest ≡ true → IfSome (found_at c.args.found.now c.args.outcome) (λ ms. is_as_fresh c.args.moments ms ≡ true) = λ f.
    subst (λ found. IfSome found (λ ms. is_as_fresh c.args.moments ms ≡ true)) c.get.ensures (c.is_enough.ensures.fresher c.if-is_enough.false (freshest ∙ f)) in
    grown_put r v.number v.freshest e c.args.outcome c.args.moments (found_at c.args.found.now) (found_at c.put.new.self) put witness
    (newer_fresher v.freshest (found_at c.args.found.now c.args.outcome) c.args.moments newer)) c.put.ensures

pub returns-then-is_witness-clause-noted : goal.returns-then-is_witness-clause-noted
returns-then-is_witness-clause-noted c = on_ok_weaker c.put.result (λ put. noted_put c.args.self.now.run c.args.self.now.walker c.args.self.now.event c.args.outcome c.args.moments (found_at c.args.found.now) (found_at c.put.new.self) put) c.put.ensures
