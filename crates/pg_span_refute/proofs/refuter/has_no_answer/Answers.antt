use Rattle.std.proofs.Common.{◌≡◌, ◌<◌, true, List, length, get_or, ap, subst, ◌∙◌}
use Rattle.pg_machine.specs.declared.step.Translation.{Translation}
use Rattle.pg_machine.specs.Machine.{Answers, is_usable}
use Rattle.pg_span_refute.proofs.Taken.{one_more}
use Rattle.pg_span_refute.proofs.refuter.has_no_answer.Goals as goal

pub loop-held-preserved : goal.loop-held-preserved
loop-held-preserved c =
    let xs : List Translation = c.args.caches.now.translations.items in
    let same : c.deref-held-items.result.now ≡ xs = c.deref-held-items.ensures.value in
    let lt : c.loop-held.held-index < length xs = subst (λ (ys : List Translation). c.loop-held.held-index < length ys) same c.loop-held-test.true in
    let is : c.held-item.result ≡ get_or xs c.loop-held.held-index c.held-item.result = c.held-item.is ∙ ap (λ (ys : List Translation). get_or ys c.loop-held.held-index c.held-item.result) same in
    let here : is_usable c.args.caches.now.control c.args.asked.la c.get.result ≡ true → Answers c.args.header.now c.args.asked.kind c.args.asked.la c.get.result c.args.asked.outcome → ⊥ =
    λ usable answers.
    let is : c.gives.result ≡ true = c.gives.ensures.meaning.1 (usable, answers) in
    let isnt = c.if-gives.false in
    absurd (cc) in
    one_more (λ (x : Translation). is_usable c.args.caches.now.control c.args.asked.la x ≡ true → Answers c.args.header.now c.args.asked.kind c.args.asked.la x c.args.asked.outcome → ⊥)
    xs c.loop-held.held-index c.held-item.result lt is c.loop-held.invariant
    (subst (λ (x : Translation). is_usable c.args.caches.now.control c.args.asked.la x ≡ true → Answers c.args.header.now c.args.asked.kind c.args.asked.la x c.args.asked.outcome → ⊥)
    c.get.ensures.value here)
