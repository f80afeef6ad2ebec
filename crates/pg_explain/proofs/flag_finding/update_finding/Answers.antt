use Rattle.std.proofs.Common.{refl}
use Rattle.std.proofs.lemmas.Bool.{ne_eqb, eq-eqb}
use Rattle.pg_explain.proofs.flag_finding.update_finding.Goals as goal

pub returns-then-end-update : goal.returns-then-end-update
returns-then-end-update c = rw (ne_eqb c.args.end.moment c.args.update.now.number c.if-end-update.true) refl

pub returns-then-update-end : goal.returns-then-update-end
returns-then-update-end c =
    rw (eq-eqb c.args.end.moment c.args.update.now.number c.if-end-update.false, ne_eqb c.args.update.now.word c.args.end.address c.if-update-end.true) refl

pub returns-then-update : goal.returns-then-update
returns-then-update c =
    rw (eq-eqb c.args.end.moment c.args.update.now.number c.if-end-update.false, eq-eqb c.args.update.now.word c.args.end.address c.if-update-end.false, c.if-update.true, ← c.classify-kind.ensures.kind)
    c.misfit_of.ensures

pub returns-else-update : goal.returns-else-update
returns-else-update c =
    rw (eq-eqb c.args.end.moment c.args.update.now.number c.if-end-update.false, eq-eqb c.args.update.now.word c.args.end.address c.if-update-end.false, c.if-update.false) refl
