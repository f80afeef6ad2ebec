use Rattle.std.proofs.Common.{subst}
use Rattle.pg_span_run.specs.declared.log.LogHeader.{LogHeader}
use Rattle.pg_span_run.specs.Runs.{AreAlike, AgreesOn}
use Rattle.pg_span_run.specs.Parts.{IsLike}
use Rattle.pg_span_run.proofs.Elements.{found, one_more}
use Rattle.pg_span_run.proofs.united.unlike.Goals as goal

pub returns-in-Some : goal.returns-in-Some
returns-in-Some c = (
  c.index-logs-i.result,
  found c.args.logs.now c.loop-i.i c.index-logs-i.result c.loop-i-test.true c.index-logs-i.is,
  subst (λ (h : LogHeader). AgreesOn c.in-Some.setting c.args.header.now h → ⊥) c.header.ensures.header c.in-Some.ensures,
)

pub loop-i-preserved : goal.loop-i-preserved
loop-i-preserved c =
    one_more (IsLike c.args.header.now) c.args.logs.now c.loop-i.i c.index-logs-i.result c.loop-i-test.true c.index-logs-i.is c.loop-i.invariant
    (record { alike = subst (AreAlike c.args.header.now) c.header.ensures.header c.in_default.ensures; is = c.header.ensures.log })
