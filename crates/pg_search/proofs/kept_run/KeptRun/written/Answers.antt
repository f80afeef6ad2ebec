use Rattle.std.proofs.Common.{◌≡◌, ◌+◌, ◌++◌, ℕ, List, length, get_or, ap, sym, subst, ◌∙◌, arith}
use Rattle.pg_event.specs.Spelling.{Recorded}
use Rattle.pg_search.specs.Briefs.{event_by, events_from, pair_at}
use Rattle.pg_search.specs.Writers.{word_of, HaveWritten}
use Rattle.pg_search.specs.declared.brief.Brief.{Brief}
use Rattle.pg_search.specs.declared.brief.Pair.{Pair}
use Rattle.pg_search.proofs.Briefs.{no_brief, item_there}
use Rattle.pg_search.proofs.Listed.{HaveOfFirst, none_of_first, one_of_first, all_of_first}
use Rattle.pg_search.proofs.kept_run.KeptRun.written.Goals as goal

pub loop-brief-init : goal.loop-brief-init
loop-brief-init c =
    let s = c.self.inside in
    none_of_first (events_from s.past.versions s.pairs.items s.briefs.items 0 s.count) s.briefs.items c.args.moment c.new-found.result.items

pub loop-brief-preserved : goal.loop-brief-preserved
loop-brief-preserved c =
    let s = c.self.inside in
    let bs : List Brief = s.briefs.items in
    let k = c.loop-brief.brief-index in
    let b : Brief = get_or c.deref-brief-items.result.now k no_brief in
    let at = item_there bs c.deref-brief-items.result.now k no_brief c.deref-brief-items.ensures.value c.loop-brief-test.true in
    let own : (left : ℕ) → c.brief_word-word.result ≡ word_of (event_by left b (pair_at s.pairs.items b.place)) = λ left. c.brief_word-word.ensures left ∙ ap (λ (ps : List Pair). word_of (event_by left b (pair_at ps b.place))) c.as_slice.ensures.value in
    subst (HaveOfFirst (events_from s.past.versions s.pairs.items bs 0 s.count) bs c.args.moment (k + 1)) (sym c.in_ok-list_written.ensures)
    (one_of_first s.past.versions s.pairs.items bs s.count c.args.moment k b c.brief_word-word.result c.loop-brief.found.items c.self.invariant.0.placed at own c.loop-brief.invariant)

pub returns : goal.returns
returns c =
    let s = c.self.inside in
    let all : length s.briefs.items ≡ length c.deref-brief-items.result.now = ap (λ (bs : List Brief). length bs) (sym c.deref-brief-items.ensures.value) in
    subst (λ (r : Recorded). HaveWritten r.events c.args.moment c.loop-brief.found.items) c.self.view_is
    (all_of_first s.past.versions s.pairs.items s.briefs.items s.count c.args.moment c.loop-brief.brief-index c.loop-brief.found.items (omega (arith, all, c.loop-brief-test.false)) c.loop-brief.invariant)
