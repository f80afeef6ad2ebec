use Rattle.std.proofs.Common.{◌≡◌, List, ◌+◌, drop, map, refl, ap, sym, ◌∙◌}
use Rattle.std.proofs.lemmas.List.{take_rest}
use Rattle.pg_chain.specs.declared.steps.EntryRead.{EntryRead}
use Rattle.pg_chain.specs.Walked.{reading_of}
use Rattle.pg_explain.specs.Findings.{is_last, wish_at, entry_finding}
use Rattle.pg_explain.proofs.Loops.{next_passed, next_found, all_passed}
use Rattle.pg_explain.proofs.walk_finding.entry_finding.Goals as goal

pub loop-i-preserved : goal.loop-i-preserved
loop-i-preserved c =
    let cfg = c.args.cfg in
    let want = c.args.want in
    let steps = c.args.steps.now in
    let rest = λ (s : List EntryRead). entry_finding cfg want (map reading_of s) in
    let last : c.is_last.result ≡ is_last (map reading_of (drop (c.loop-i.i + 1) steps)) = c.is_last.ensures ∙ ap (λ (s : List EntryRead). is_last (map reading_of s)) (take_rest steps (c.loop-i.i + 1)) in
    let wish : c.wish_at-wish.result ≡ wish_at want (is_last (map reading_of (drop (c.loop-i.i + 1) steps))) = c.wish_at-wish.ensures ∙ ap (wish_at want) last in
    let found = rw wish at c.entry_at.ensures in
    next_passed rest rest _ steps c.loop-i.i _ _ c.loop-i-test.true refl (sym found ∙ c.in_default.is) c.loop-i.invariant

pub returns-in-Some : goal.returns-in-Some
returns-in-Some c =
    let cfg = c.args.cfg in
    let want = c.args.want in
    let steps = c.args.steps.now in
    let rest = λ (s : List EntryRead). entry_finding cfg want (map reading_of s) in
    let last : c.is_last.result ≡ is_last (map reading_of (drop (c.loop-i.i + 1) steps)) = c.is_last.ensures ∙ ap (λ (s : List EntryRead). is_last (map reading_of s)) (take_rest steps (c.loop-i.i + 1)) in
    let wish : c.wish_at-wish.result ≡ wish_at want (is_last (map reading_of (drop (c.loop-i.i + 1) steps))) = c.wish_at-wish.ensures ∙ ap (wish_at want) last in
    let found = rw wish at c.entry_at.ensures in
    next_found rest _ _ steps c.loop-i.i _ c.in-Some.found _ c.loop-i-test.true refl (sym found ∙ c.in-Some.is) c.loop-i.invariant

pub returns : goal.returns
returns c = all_passed (λ (s : List EntryRead). entry_finding c.args.cfg c.args.want (map reading_of s)) c.args.steps.now c.loop-i.i _ c.loop-i-test.false refl c.loop-i.invariant
