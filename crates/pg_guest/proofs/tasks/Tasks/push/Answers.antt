use Rattle.std.proofs.Common.{◌≡◌, ◌++◌, ◌∷◌, [], ℕ, List, ap, ◌∙◌}
use Rattle.pg_guest.specs.declared.instruction.Instruction.{Instruction}
use Rattle.pg_guest.specs.Dealt.{AreDealt, dealt, list_at, own_of}
use Rattle.pg_guest.proofs.Deals.{dealt_is, deals_more}
use Rattle.pg_guest.proofs.tasks.Tasks.push.Goals as goal

pub invariant_of-self-2 : goal.invariant_of-self-2
invariant_of-self-2 c =
    let was = c.self.inside in
    let old : ℕ → List Instruction = list_at was.lists.items in
    let new : ℕ → List Instruction = list_at c.push_at.new.lists.items in
    let task = c.args.task.now in
    let order = c.push_reserved.new.self.items in
    let tasks = dealt was.order.items old in
    let grown : (p : ℕ) → new p ≡ old p ++ own_of task.p p task.instruction =
    λ p. c.in_ok-push_at.ensures.ok p ∙ ap (λ is. is ++ own_of task.p p task.instruction) (c.in_ok-grow_to.ensures.same p) in
    let more = deals_more was.order.items old new tasks task c.self.invariant grown in
    let order_is = c.push_reserved.ensures.items ∙ ap (λ ps. ps ++ task.p ∷ []) c.in_ok-reserve.ensures.items in
    let now : AreDealt order new (tasks ++ task ∷ []) = rw order_is more in
    rw (dealt_is order new (tasks ++ task ∷ []) now) now

pub returns-clause-ok : goal.returns-clause-ok
returns-clause-ok c =
    let was = c.self.inside in
    let old : ℕ → List Instruction = list_at was.lists.items in
    let new : ℕ → List Instruction = list_at c.push_at.new.lists.items in
    let task = c.args.task.now in
    let order = c.push_reserved.new.self.items in
    let tasks = dealt was.order.items old in
    let grown : (p : ℕ) → new p ≡ old p ++ own_of task.p p task.instruction =
    λ p. c.in_ok-push_at.ensures.ok p ∙ ap (λ is. is ++ own_of task.p p task.instruction) (c.in_ok-grow_to.ensures.same p) in
    let more = deals_more was.order.items old new tasks task c.self.invariant grown in
    let order_is = c.push_reserved.ensures.items ∙ ap (λ ps. ps ++ task.p ∷ []) c.in_ok-reserve.ensures.items in
    let now : AreDealt order new (tasks ++ task ∷ []) = rw order_is more in
    dealt_is order new (tasks ++ task ∷ []) now ∙ ap (λ ts. ts ++ task ∷ []) c.self.view_is
