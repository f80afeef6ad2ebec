use Rattle.std.proofs.Common.{sym, subst}
use Rattle.pg_certify.specs.Windows.{Findings, IsCertifying}
use Rattle.pg_certify.proofs.Windows.{settled_certified}
use Rattle.pg_certify.proofs.certifying.Certifying.settle.Goals as goal

pub returns-clause-certified : goal.returns-clause-certified
returns-clause-certified c = λ head events is.
    let f : Findings = record { kept = c.self.inside.certifier; count = c.self.inside.count; denied = c.self.inside.denied } in
    settled_certified f head events (subst (λ (q : Findings). IsCertifying q head events) (sym c.self.view_is) is)
