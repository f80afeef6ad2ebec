use Rattle.std.proofs.Common.{sym, subst}
use Rattle.pg_check.specs.Judging.{Findings, Awaits}
use Rattle.pg_check.proofs.Judgings.{findings, settled}
use Rattle.pg_check.proofs.judged.Judged.settle.Goals as goal

pub returns : goal.returns
returns c = λ head before waits is.
    let s = c.self.inside in
    let f : Findings = findings s.header s.judge s.count s.first_bad in
    let was : Awaits f head before c.args.events.now = subst (λ (x : Findings). Awaits x head before c.args.events.now) (sym c.self.view_is) waits in
    rw c.or-self-inside.ensures (settled f head before c.args.events.now c.args.found was is)
