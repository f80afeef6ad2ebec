use Rattle.std.proofs.Common.{ℕ, List, subst, Option}
use Rattle.std.specs.Prelude.{IfSome}
use Rattle.pg_certify.specs.Certified.{IsDenied}
use Rattle.pg_span_run.specs.Orders.{Spanned, ordered}
use Rattle.pg_span_verdict.proofs.Fronts.{none_begins_denied}
use Rattle.pg_span_verdict.proofs.trying.are_denied.Goals as goal

pub returns-in-Some : goal.returns-in-Some
returns-in-Some c =
    let s : Spanned = c.args.run.now in
    let front : List ℕ = c.args.numbers.now in
    let n : ℕ = c.in-Some.field-0 in
    let denied : IsDenied s.head (ordered s.events front) n = subst (λ (o : Option ℕ). IfSome o (IsDenied s.head (ordered s.events front))) c.in-Some.is c.in_ok-first_denied_in.ensures.denied in
    λ yes. none_begins_denied c.denied_events_have_no_run.ensures s front n c.events-events.ensures.spanned c.requires denied
