use Rattle.std.proofs.Common.{◌∙◌, ◌++◌, IfSome, List, Option, sym, ap, subst}
use Rattle.std.specs.declared.alloc.Global.{Global}
use Rattle.std.specs.declared.vec.Vec.{Vec}
use Rattle.pg_check.specs.Judging.{Findings}
use Rattle.pg_event.specs.declared.event.Event.{Event}
use Rattle.pg_event.specs.Heads.{Head}
use Rattle.pg_report.specs.declared.team.Team.{Team}
use Rattle.pg_runner.specs.Given.{joined}
use Rattle.pg_runner.specs.Live.{AreSegments, IsGivenNext, IsWatched}
use Rattle.pg_runner.proofs.GivenOut.{watched_given}
use Rattle.pg_runner.proofs.live_judging.LiveJudging.judge_round.Goals as goal

pub judge_more-requires-clause-watched : goal.judge_more-requires-clause-watched
judge_more-requires-clause-watched g c = λ _ _.
    (joined c.self.inside.given, subst (λ (o : Option Team). IfSome o (λ t. IsWatched t (joined c.self.inside.given))) (sym c.take.ensures.value ∙ c.in-Some.is) c.self.invariant)

pub judge_more-requires-clause-segments : goal.judge_more-requires-clause-segments
judge_more-requires-clause-segments g c = λ _ _.
    let head = c.header-header.ensures.header ∙ ap (λ (f : Findings). f.head) c.judged.ensures in
    let next : IsGivenNext c.header-header.result.now c.in-Some-2.events.items c.self.inside.given c.take_segments.new.known =
    subst (λ (o : Option (Vec Event Global)). IfSome o (λ events. IsGivenNext c.header-header.result.now events.items c.self.inside.given c.take_segments.new.known)) c.in-Some-2.is c.in_ok-events.ensures in
    subst (λ (es : List Event). AreSegments c.in-Some.team.judged.head es) (sym c.deref.ensures.value) (subst (λ (h : Head). AreSegments h c.in-Some-2.events.items) head next.segments)

pub invariant_of-self-in-Some-2 : goal.invariant_of-self-in-Some-2
invariant_of-self-in-Some-2 g c =
    let old = c.self.inside.given in
    let watched : IsWatched c.in-Some.team (joined old) = subst (λ (o : Option Team). IfSome o (λ t. IsWatched t (joined old))) (sym c.take.ensures.value ∙ c.in-Some.is) c.self.invariant in
    let next : IsGivenNext c.header-header.result.now c.in-Some-2.events.items old c.take_segments.new.known =
    subst (λ (o : Option (Vec Event Global)). IfSome o (λ events. IsGivenNext c.header-header.result.now events.items old c.take_segments.new.known)) c.in-Some-2.is c.in_ok-events.ensures in
    let after = c.in_ok-self-inside-in-Some-2 in
    let all : IfSome after.field-0 (λ t. IsWatched t (joined old ++ c.in-Some-2.events.items)) = subst (λ (es : List Event). IfSome after.field-0 (λ t. IsWatched t (joined old ++ es))) c.deref.ensures.value (after.ensures.ok (joined old) watched) in
    watched_given after.field-0 old c.take_segments.new.known c.in-Some-2.events.items next.known all
