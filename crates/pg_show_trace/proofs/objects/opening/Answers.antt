use Rattle.std.proofs.Common.{◌≡◌, ◌<◌, ◌+◌, ◌-◌, ◌++◌, ℕ, zero, suc, List, ap, sym, ◌∙◌, append_assoc, append-nil, arith, string_bytes}
use Rattle.pg_show_trace.specs.Objects.{next_text, thread_json, threads_text}
use Rattle.pg_show_trace.proofs.objects.opening.Goals as goal

threads_more : (p n : ℕ) → p < n → threads_text p (n - p) ≡ next_text (thread_json p) ++ threads_text (p + 1) (n - (p + 1))
threads_more p n lt =
    let left : n - p ≡ suc (n - (p + 1)) = omega (arith, lt) in
    ap (λ k. threads_text p k) left

pub loop-p-preserved : goal.loop-p-preserved
loop-p-preserved c =
    let p = c.loop-p.p in
    let n = c.args.processors in
    let text = string_bytes c.loop-p.text in
    let rest : List ℕ = threads_text (p + 1) (n - (p + 1)) in
    let more = threads_more p n c.loop-p-test.true in
    ap (λ (t : List ℕ). t ++ rest) c.in_ok-push_thread.ensures
    ∙ append_assoc text (next_text (thread_json p)) rest
    ∙ ap (λ (t : List ℕ). text ++ t) (sym more)
    ∙ c.loop-p.invariant

pub returns : goal.returns
returns c =
    let p = c.loop-p.p in
    let n = c.args.processors in
    let text = string_bytes c.loop-p.text in
    let none : n - p ≡ zero = omega (arith, c.loop-p-test.false) in
    sym (append-nil text) ∙ ap (λ k. text ++ threads_text p k) (sym none) ∙ c.loop-p.invariant
