use Rattle.std.proofs.Common.{◌≡◌, ap, sym, ◌∙◌}
use Rattle.pg_span_run.specs.declared.log.LogHeader.{LogHeader}
use Rattle.pg_span_run.specs.Logs.{Logged}
use Rattle.pg_span_run.proofs.Elements.{found, pairs_more}
use Rattle.pg_span_run.proofs.united.twice.Goals as goal

pub returns-in-Some : goal.returns-in-Some
returns-in-Some c =
    let one = c.in-Some.ensures.1 in (
      c.in-Some.ensures.0,
      one.log,
      c.index-logs-second.result,
      one.there,
      found c.args.logs.now c.loop-second.second c.index-logs-second.result c.loop-second-test.true c.index-logs-second.is,
      one.own ∙ ap (λ (h : LogHeader). h.own) c.header.ensures.header,
    )

pub loop-second-preserved : goal.loop-second-preserved
loop-second-preserved c =
    let own : c.header.result.now.own ≡ c.index-logs-second.result.head.own = ap (λ (h : LogHeader). h.own) c.header.ensures.header in
    pairs_more (λ (a b : Logged). a.head.own ≡ b.head.own → ⊥) c.args.logs.now c.loop-second.second c.index-logs-second.result c.loop-second-test.true c.index-logs-second.is c.loop-second.invariant
    (λ j d lt same. c.in_default.ensures j d lt (same ∙ sym own))
