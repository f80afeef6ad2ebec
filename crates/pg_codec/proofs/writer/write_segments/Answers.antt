use Rattle.std.proofs.Common.{◌<◌, length, ap, rules}
use Rattle.std.proofs.lemmas.Result.{err_from_is_err_and}
use Rattle.pg_event.specs.Heads.{Head}
use Rattle.pg_codec.proofs.Segments.{cut_on, cut_fails, cut_shorter, cut_fit}
use Rattle.pg_codec.proofs.writer.write_segments.Goals as goal

pub returns-in_err-write_segment : goal.returns-in_err-write_segment
returns-in_err-write_segment g c =
    let p = err_from_is_err_and c.from_residual.result c.from_residual.ensures.1 in
    let more : 0 < length c.loop-rest.rest.now = search rules in
    rw (p.1, p.2) (cut_fails g.W.Sink c.args.header.now c.args.events.now _ _ c.loop-rest.rest.now _ c.cut_segment.result.1.now (ap (λ (h : Head). h.version) c.header.view_is) (ap (λ (h : Head). h.segment) c.header.view_is)
    c.cut_segment.ensures.front c.cut_segment.ensures.others c.requires.size more _ _ _ c.loop-rest.number c.in_err-write_segment.field-0.0 c.loop-rest.invariant.writing c.in_err-write_segment.ensures)

pub loop-rest-preserved : goal.loop-rest-preserved
loop-rest-preserved g c =
    let more : 0 < length c.loop-rest.rest.now = search rules in
    let version = ap (λ (h : Head). h.version) c.header.view_is in
    let size = ap (λ (h : Head). h.segment) c.header.view_is in
    record {
      writing = cut_on g.W.Sink c.args.header.now c.args.events.now _ _ c.loop-rest.rest.now _ c.cut_segment.result.1.now version size c.cut_segment.ensures.front c.cut_segment.ensures.others c.requires.size more
          _ _ _ c.loop-rest.number _ c.loop-rest.invariant.writing c.in_ok-write_segment.ensures;
      below = cut_shorter g.W.Sink c.args.header.now c.args.events.now _ _ c.loop-rest.rest.now _ c.cut_segment.result.1.now version size c.cut_segment.ensures.front c.cut_segment.ensures.others c.requires.size more
          c.loop-rest.number c.loop-rest.invariant.below;
      fit = cut_fit g.W.Sink c.args.header.now c.args.events.now _ _ c.loop-rest.rest.now _ c.cut_segment.result.1.now version size c.cut_segment.ensures.front c.cut_segment.ensures.others c.requires.size more
          c.loop-rest.invariant.fit;
    }
