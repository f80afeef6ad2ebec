use Rattle.std.proofs.Common.{◌≡◌, ℕ, ◌*◌, ◌<◌, ◌≤◌, ◌+◌, IfOk, length, ap, sym, ◌∙◌, subst, arith}
use Rattle.pg_event.specs.Heads.{Head}
use Rattle.pg_event.specs.Spelling.{Recorded}
use Rattle.pg_certify.specs.Segments.{IsAnswer}
use Rattle.pg_certify.proofs.Segments.{of_segment_if_ok}
use Rattle.pg_certify.proofs.segment_checkers.OfHistorySegments.judge.Goals as goal

pub returns-clause-verdict : goal.returns-clause-verdict
returns-clause-verdict c = λ run at.
    let r : Recorded = c.args.self.now.history.now in
    let n : ℕ = c.args.number in
    let inner : ℕ = c.behind-self.inside.segment in
    let size : inner ≡ r.head.segment = ap (λ (h : Head). h.segment) (c.behind-self.view_is ∙ c.header.ensures.header) in
    let from : ℕ = n * inner in
    let to : ℕ = c.min-to.result in
    let start : from ≡ n * r.head.segment = ap (λ (m : ℕ). n * m) size in
    let end : to ≤ from + r.head.segment = omega (arith, size, c.min-to.ensures) in
    let whole : (k : ℕ) → k < from + r.head.segment → k < length r.events → k < to = λ k below inside. omega (arith, size, below, inside, c.min-to.ensures, c.len.ensures.length) in
    subst (λ (q : Recorded). IfOk c.first_denied_between.result (IsAnswer q.head q.events n)) (sym at.0)
    (of_segment_if_ok r.head r.events r.head.segment n from to c.first_denied_between.result start end whole c.first_denied_between.ensures.denied)
