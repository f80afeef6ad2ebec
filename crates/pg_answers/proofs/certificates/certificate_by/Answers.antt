use Rattle.std.proofs.Common.{◌≡◌, ◌<◌, ◌^◌, ℕ, length, Option, Some, IfSome, arith, ap, sym, subst, ◌∙◌}
use Rattle.pg_event.specs.declared.event.Event.{Event}
use Rattle.pg_certify.specs.Certified.{IsDenied}
use Rattle.pg_certify.specs.Windows.{Findings, IsCertifying}
use Rattle.pg_certify.specs.Accounts.{Account}
use Rattle.pg_answers.proofs.Told.{denied_account}
use Rattle.pg_answers.proofs.certificates.certificate_by.Goals as goal

pub returns-in_ok-rejection-in-Some-Some-clause-told : goal.returns-in_ok-rejection-in-Some-Some-clause-told
returns-in_ok-rejection-in-Some-Some-clause-told c = λ r known.
    let a : Account = c.args.account.now in
    let n : ℕ = c.in-Some-Some.number in
    let e : Event = c.in-Some-Some.event in
    let certifying : IsCertifying c.certifying-certifying.result.now r.head r.events = rw c.certifying-certifying.ensures known.certifying in
    let found : a.findings.denied ≡ Some n = sym (c.settle.ensures.found ∙ ap (λ (f : Findings). f.denied) c.certifying-certifying.ensures) ∙ c.in-Some-Some.is-0 in
    let denied : IsDenied r.head r.events n = subst (λ (o : Option ℕ). IfSome o (IsDenied r.head r.events)) c.in-Some-Some.is-0 (c.settle.ensures.denied r.head r.events certifying) in
    let event : a.event ≡ Some e = sym c.event.ensures ∙ c.in-Some-Some.is-1 in
    let few : length r.events < 2 ^ 32 = known.certifying.few in
    let runs = c.denied_events_have_no_run.ensures r.head r.events n known.certifying.well (omega (arith, few)) denied in
    (n, record { denied = denied; none = runs.0; before = runs.1 }, c.in_ok-rejection-in-Some-Some.ensures r (denied_account a r n e known found event))

pub returns-in_ok-rejection-in-Some-Some-clause-denied : goal.returns-in_ok-rejection-in-Some-Some-clause-denied
returns-in_ok-rejection-in-Some-Some-clause-denied c =
    let a : Account = c.args.account.now in
    let n : ℕ = c.in-Some-Some.number in
    let e : Event = c.in-Some-Some.event in
    let found : a.findings.denied ≡ Some n = sym (c.settle.ensures.found ∙ ap (λ (f : Findings). f.denied) c.certifying-certifying.ensures) ∙ c.in-Some-Some.is-0 in
    let event : a.event ≡ Some e = sym c.event.ensures ∙ c.in-Some-Some.is-1 in
    let told = c.in_ok-rejection-in-Some-Some.ensures c.requires.0 (denied_account a c.requires.0 n e c.requires.1 found event) in
    ap Some told.number ∙ sym found
