use Rattle.std.proofs.Common.{◌≡◌, ◌∙◌, sym, length, true, false, rules}
use Rattle.std.proofs.lemmas.Result.{err_from_is_err_and}
use Rattle.pg_span_run.proofs.Steps.{error_answers, tag_fails, end_tag, after_short, segments_fail, segments_on, filled_is}
use Rattle.pg_span_run.proofs.reader.read_segments.Goals as goal

pub returns-in_err-tag : goal.returns-in_err-tag
returns-in_err-tag c =
    let p = err_from_is_err_and c.from_residual.result c.from_residual.ensures.1 in
    rw (p.1, p.2) (sym c.loop-number.invariant.same ∙ tag_fails _ _ _ _ _ c.loop-number-test.true _ c.in_err-tag.ensures)

pub returns-then-tag-eq2 : goal.returns-then-tag-eq2
returns-then-tag-eq2 c =
    let same = sym c.loop-number.invariant.same ∙ end_tag (length c.args.bytes.now) c.loop-number.number c.loop-number.run c.loop-number.full c.loop-number.rest.now c.loop-number-test.true c.in_ok-tag.tag c.in_ok-tag.behind.now c.in_ok-tag.ensures c.if-tag-eq2.true in
    rw same c.read_total.ensures

pub returns-then-not-full : goal.returns-then-not-full
returns-then-not-full c =
    let short : c.loop-number.full ≡ false = search rules in
    sym c.loop-number.invariant.same
    ∙ after_short (length c.args.bytes.now) c.loop-number.number c.loop-number.run c.loop-number.full c.loop-number.rest.now c.loop-number-test.true c.in_ok-tag.tag c.in_ok-tag.behind.now c.in_ok-tag.ensures c.if-tag-eq2.false short

pub returns-in_err-rest : goal.returns-in_err-rest
returns-in_err-rest c =
    let p = err_from_is_err_and c.from_residual-in_err-rest.result c.from_residual-in_err-rest.ensures.1 in
    let is : c.loop-number.full ≡ true = search rules in
    rw (p.1, p.2) (error_answers c.in_err-rest.field-0.0 _ _
    (λ d h. sym c.loop-number.invariant.same
    ∙ segments_fail (length c.args.bytes.now) c.loop-number.number c.loop-number.run c.loop-number.full c.loop-number.rest.now c.loop-number-test.true c.in_ok-tag.tag c.in_ok-tag.behind.now c.in_ok-tag.ensures c.if-tag-eq2.false is d h)
    c.in_err-rest.ensures.answers)

pub loop-number-preserved : goal.loop-number-preserved
loop-number-preserved c =
    let is : c.loop-number.full ≡ true = search rules in
    let step = c.in_ok-rest.ensures in
    let filled = filled_is c.loop-number.run c.read_segment.new.run c.is_full-full.result c.len-before.result c.is_full-full.ensures c.len-before.ensures.length step.head in
    record {
      same = segments_on (length c.args.bytes.now) c.loop-number.number c.loop-number.run c.loop-number.full c.loop-number.rest.now c.loop-number-test.true c.in_ok-tag.tag c.in_ok-tag.behind.now c.in_ok-tag.ensures c.if-tag-eq2.false is
          c.read_segment.new.run c.in_ok-rest.rest.now c.is_full-full.result step.answers filled
          ∙ c.loop-number.invariant.same;
    }
