use Rattle.std.proofs.Common.{◌≡◌, List, length, get_or, ap, sym, subst, ◌∙◌, arith}
use Rattle.pg_event.specs.Spelling.{Recorded}
use Rattle.pg_search.specs.Briefs.{event_by, pair_at}
use Rattle.pg_search.specs.Writers.{writes, IsWriter}
use Rattle.pg_search.specs.declared.brief.Brief.{Brief}
use Rattle.pg_search.specs.declared.brief.Pair.{Pair}
use Rattle.pg_search.proofs.Briefs.{no_brief, item_there, writer_next, writer_passed, writer_is}
use Rattle.pg_search.proofs.kept_run.KeptRun.writer.Goals as goal
use Rattle.pg_search.proofs.kept_run.KeptRun.writer.Goals.{then-brief-moment+then-brief_writes, else-brief-moment, else-brief-moment-via-then-brief-moment+else-brief_writes, else-brief-moment-via-else-brief-moment}

pub loop-brief-preserved : goal.loop-brief-preserved
loop-brief-preserved c =
    let s = c.self.inside in
    let bs : List Brief = s.briefs.items in
    let k = c.loop-brief.brief-index in
    let b : Brief = get_or c.deref-brief-items.result.now k no_brief in
    let at = item_there bs c.deref-brief-items.result.now k no_brief c.deref-brief-items.ensures.value c.loop-brief-test.true in
    let next = writer_next s.past.versions s.pairs.items bs s.count c.args.address c.args.moment k c.loop-brief.last c.if-brief-moment.last b c.self.invariant.0.placed at in
    let passed = writer_passed s.past.versions s.pairs.items bs s.count c.args.address c.args.moment k c.loop-brief.last c.if-brief-moment.last b c.self.invariant.0.placed at in
    elim c.if-brief-moment.branch [
      | then-brief-moment+then-brief_writes w ↦
          next w.last-is w.if-brief-moment.true
          (λ left. ap (λ (ps : List Pair). writes c.args.address (event_by left b (pair_at ps b.place))) (sym w.as_slice.ensures.value) ∙ sym (w.brief_writes.ensures left) ∙ w.if-brief_writes.true) c.loop-brief.invariant
      | else-brief-moment w ↦ elim w.else-brief-moment.branch [
        | else-brief-moment-via-then-brief-moment+else-brief_writes w' ↦
            passed w.last-is
            (λ under left. ap (λ (ps : List Pair). writes c.args.address (event_by left b (pair_at ps b.place))) (sym w'.as_slice.ensures.value) ∙ sym (w'.brief_writes.ensures left) ∙ w'.if-brief_writes.false) c.loop-brief.invariant
        | else-brief-moment-via-else-brief-moment w' ↦ passed w.last-is (λ under. absurd (omega (arith, under, w'.if-brief-moment.false))) c.loop-brief.invariant
      ]
    ]

pub returns : goal.returns
returns c =
    let s = c.self.inside in
    let all : length s.briefs.items ≡ length c.deref-brief-items.result.now = ap (λ (bs : List Brief). length bs) (sym c.deref-brief-items.ensures.value) in
    subst (λ (r : Recorded). IsWriter r.events c.args.address c.args.moment c.loop-brief.last) c.self.view_is
    (writer_is s.past.versions s.pairs.items s.briefs.items s.count c.args.address c.args.moment c.loop-brief.brief-index c.loop-brief.last (omega (arith, all, c.loop-brief-test.false)) c.loop-brief.invariant)
