use Rattle.std.proofs.Common.{◌≡◌, ℕ, ◌+◌, ◌-◌, ◌≤◌, [], ◌∷◌, ◌++◌, List, length, take, false, refl, sym, ap, subst, ◌∙◌, arith, Vec, Global}
use Rattle.std.proofs.lemmas.List.{length-append}
use Rattle.std.specs.Vec.{vec_len}
use Rattle.pg_span_run.specs.Orders.{Spanned}
use Rattle.pg_span_verdict.specs.Steps.{is_one, HasRoom, left}
use Rattle.pg_span_verdict.specs.Trying.{AreNumbers, NoneBegins, AreTried}
use Rattle.pg_span_verdict.specs.Verdicts.{IsOrderedRun}
use Rattle.pg_span_verdict.proofs.Fronts.{tried_past, tried_on, numbers_on, nothing_below}
use Rattle.pg_span_verdict.proofs.Steps.{none_of_lacking, room_on, left_past, left_on}
use Rattle.pg_span_verdict.proofs.trying.Trying.go_on.Goals as goal

start : (front : List ℕ) (i : ℕ) → take (length front) (front ++ i ∷ []) ≡ front
start [] i = refl
start (x ∷ xs) i = ap (λ ys. x ∷ ys) (start xs i)

-- what is pushed and popped again leaves what was there
back : (longer after front : List ℕ) (i : ℕ) → longer ≡ front ++ i ∷ [] → after ≡ take (length longer - 1) longer → after ≡ front
back longer after front i pushed popped =
    let count : length longer - 1 ≡ length front = omega (arith, ap length pushed, length-append front (i ∷ [])) in
    popped ∙ (ap (λ n. take n longer) count ∙ (ap (take (length front)) pushed ∙ start front i))

counted : (v : Vec ℕ Global) (after : List ℕ) → after ≡ take (vec_len v - 1) v.items → after ≡ take (length v.items - 1) v.items
counted v after h = cc

pub returns-then-branch-clause-trying : goal.returns-then-branch-clause-trying
returns-then-branch-clause-trying c =
    let s : Spanned = c.args.run.now in
    let front : List ℕ = c.args.self.now.front.items in
    let i : ℕ = c.args.self.now.next in
    let pushed : c.push.new.self.items ≡ front ++ i ∷ [] = c.in_ok-push.ensures.items in
    let same : c.pop.new.self.items ≡ front = back c.push.new.self.items c.pop.new.self.items front i pushed (counted c.push.new.self c.pop.new.self.items c.pop.ensures.rest) in
    let none : NoneBegins s (front ++ i ∷ []) = subst (NoneBegins s) (c.deref.ensures.value ∙ pushed) (c.in_ok-leads_nowhere.ensures.none c.if-branch.true) in
    record {
      numbers = subst (AreNumbers s) (sym same) c.requires.trying.numbers;
      next = omega (arith, c.requires.next);
      tried = subst (λ (xs : List ℕ). AreTried s [] xs (i + 1)) (sym same) (tried_past s [] front i c.requires.trying.tried none);
      whole = λ long. absurd (omega (arith, long, ap length same, c.requires.short));
      room = subst (HasRoom (length s.events)) (sym same) c.requires.trying.room;
    }

pub returns-then-branch-clause-fewer : goal.returns-then-branch-clause-fewer
returns-then-branch-clause-fewer c =
    let n : ℕ = length c.args.run.now.events in
    let front : List ℕ = c.args.self.now.front.items in
    let i : ℕ = c.args.self.now.next in
    let same : c.pop.new.self.items ≡ front = back c.push.new.self.items c.pop.new.self.items front i c.in_ok-push.ensures.items (counted c.push.new.self c.pop.new.self.items c.pop.ensures.rest) in
    subst (λ (xs : List ℕ). left n [] xs (i + 1) + 1 ≤ left n [] front i) (sym same) (left_past n [] front i (omega (arith, c.requires.short)) c.requires.next)

pub returns-else-branch-clause-trying : goal.returns-else-branch-clause-trying
returns-else-branch-clause-trying c =
    let s : Spanned = c.args.run.now in
    let front : List ℕ = c.args.self.now.front.items in
    let i : ℕ = c.args.self.now.next in
    let pushed : c.push.new.self.items ≡ front ++ i ∷ [] = c.in_ok-push.ensures.items in
    let none : is_one front i ≡ false = none_of_lacking front i (c.may_follow.ensures.lacks c.if-may_follow.true) in
    record {
      numbers = subst (AreNumbers s) (sym pushed) (numbers_on s front i c.requires.short c.requires.next c.requires.trying.numbers);
      next = omega arith;
      tried = subst (λ (xs : List ℕ). AreTried s [] xs 0) (sym pushed) (tried_on s [] front i 0 c.requires.trying.tried (nothing_below s (front ++ i ∷ [])));
      whole = λ long. subst (IsOrderedRun s) c.deref.ensures.value (c.in_ok-leads_nowhere.ensures.whole c.if-branch.false (ap length c.deref.ensures.value ∙ long));
      room = subst (HasRoom (length s.events)) (sym pushed) (room_on (length s.events) front i c.requires.next none c.requires.trying.room);
    }

pub returns-else-branch-clause-fewer : goal.returns-else-branch-clause-fewer
returns-else-branch-clause-fewer c =
    let n : ℕ = length c.args.run.now.events in
    let front : List ℕ = c.args.self.now.front.items in
    let i : ℕ = c.args.self.now.next in
    let none : is_one front i ≡ false = none_of_lacking front i (c.may_follow.ensures.lacks c.if-may_follow.true) in
    subst (λ (xs : List ℕ). left n [] xs 0 + 1 ≤ left n [] front i) (sym c.in_ok-push.ensures.items)
    (left_on n [] front i (omega (arith, c.requires.short)) c.requires.next none c.requires.trying.room)

pub returns-else-may_follow-clause-trying : goal.returns-else-may_follow-clause-trying
returns-else-may_follow-clause-trying c =
    let s : Spanned = c.args.run.now in
    let front : List ℕ = c.args.self.now.front.items in
    let i : ℕ = c.args.self.now.next in
    record {
      numbers = c.requires.trying.numbers;
      next = omega (arith, c.requires.next);
      tried = tried_past s [] front i c.requires.trying.tried (c.may_follow.ensures.none c.if-may_follow.false);
      whole = c.requires.trying.whole;
      room = c.requires.trying.room;
    }

pub returns-else-may_follow-clause-fewer : goal.returns-else-may_follow-clause-fewer
returns-else-may_follow-clause-fewer c = left_past (length c.args.run.now.events) [] c.args.self.now.front.items c.args.self.now.next (omega (arith, c.requires.short)) c.requires.next
