use Rattle.std.proofs.Common.{◌≡◌, ap, sym, ◌∙◌}
use Rattle.pg_span_run.specs.declared.log.LogHeader.{LogHeader}
use Rattle.pg_span_run.specs.Logs.{Logged}
use Rattle.pg_span_run.proofs.Elements.{found, one_more}
use Rattle.pg_span_run.proofs.united.place_of.Goals as goal

pub returns-then-header-processor : goal.returns-then-header-processor
returns-then-header-processor c = record {
  log = c.index-logs-i.result;
  within = c.loop-i-test.true;
  there = found c.args.logs.now c.loop-i.i c.index-logs-i.result c.loop-i-test.true c.index-logs-i.is;
  own = ap (λ (h : LogHeader). h.own) (sym c.header.ensures.header) ∙ c.if-header-processor.true;
  before = c.loop-i.invariant;
}

pub loop-i-preserved : goal.loop-i-preserved
loop-i-preserved c =
    one_more (λ (log : Logged). log.head.own ≡ c.args.processor → ⊥) c.args.logs.now c.loop-i.i c.index-logs-i.result c.loop-i-test.true c.index-logs-i.is c.loop-i.invariant
    (λ own. c.if-header-processor.false (ap (λ (h : LogHeader). h.own) c.header.ensures.header ∙ own))
