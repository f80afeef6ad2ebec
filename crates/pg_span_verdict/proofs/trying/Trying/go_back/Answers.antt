use Rattle.std.proofs.Common.{◌≡◌, ℕ, ◌+◌, ◌<◌, ◌≤◌, [], ◌∷◌, ◌++◌, List, length, ap, sym, subst, arith, refl, Vec, Global}
use Rattle.std.proofs.lemmas.List.{length-append}
use Rattle.std.specs.Vec.{vec_len}
use Rattle.pg_span_run.specs.Orders.{Spanned}
use Rattle.pg_span_verdict.specs.Steps.{HasRoom, left}
use Rattle.pg_span_verdict.specs.Trying.{AreNumbers, AreTried}
use Rattle.pg_span_verdict.proofs.Fronts.{none_left, tried_back, numbers_back, last_within}
use Rattle.pg_span_verdict.proofs.Steps.{room_back, left_back}
use Rattle.pg_span_verdict.proofs.trying.Trying.go_back.Goals as goal

empty : (xs : List ℕ) → length xs ≡ 0 → xs ≡ []
empty [] h = refl
empty (x ∷ xs) h = absurd (omega (arith, h))

no_len : (v : Vec ℕ Global) → vec_len v ≡ 0 → length v.items ≡ 0
no_len v h = cc

pub overflow_add-self : goal.overflow_add-self
overflow_add-self c =
    let s : Spanned = c.args.run.now in
    let numbers : AreNumbers s (c.pop.new.self.items ++ c.in-Some.last ∷ []) = subst (AreNumbers s) c.in-Some.ensures.items c.requires.trying.numbers in
    let low : c.in-Some.last < length s.events = last_within s c.pop.new.self.items c.in-Some.last numbers in
    omega (arith, low, c.requires.count)

pub returns-in-Some-clause-back : goal.returns-in-Some-clause-back
returns-in-Some-clause-back c =
    let s : Spanned = c.args.run.now in
    let front : List ℕ = c.pop.new.self.items in
    let last : ℕ = c.in-Some.last in
    let is : c.args.self.now.front.items ≡ front ++ last ∷ [] = c.in-Some.ensures.items in
    let numbers : AreNumbers s (front ++ last ∷ []) = subst (AreNumbers s) is c.requires.trying.numbers in
    let low : last < length s.events = last_within s front last numbers in
    λ yes. record {
      numbers = numbers_back s front last numbers;
      next = omega (arith, low);
      tried = tried_back s [] front last c.args.self.now.next (omega (arith, ap length is, length-append front (last ∷ []), c.requires.short)) c.requires.all
          (subst (λ (xs : List ℕ). AreTried s [] xs c.args.self.now.next) is c.requires.trying.tried);
      whole = λ long. absurd (omega (arith, long, ap length is, length-append front (last ∷ []), c.requires.short));
      room = room_back (length s.events) front last (subst (HasRoom (length s.events)) is c.requires.trying.room);
    }

pub returns-in-Some-clause-fewer : goal.returns-in-Some-clause-fewer
returns-in-Some-clause-fewer c =
    let n : ℕ = length c.args.run.now.events in
    let front : List ℕ = c.pop.new.self.items in
    let last : ℕ = c.in-Some.last in
    let is : c.args.self.now.front.items ≡ front ++ last ∷ [] = c.in-Some.ensures.items in
    λ yes. subst (λ (xs : List ℕ). left n [] front (last + 1) + 1 ≤ left n [] xs c.args.self.now.next) (sym is)
    (left_back n [] front last c.args.self.now.next (omega (arith, ap length is, length-append front (last ∷ []), c.requires.short)) c.requires.all)

pub returns-in-None-clause-none : goal.returns-in-None-clause-none
returns-in-None-clause-none c =
    let s : Spanned = c.args.run.now in
    let is : c.args.self.now.front.items ≡ [] = empty c.args.self.now.front.items (no_len c.args.self.now.front c.in-None.ensures.cases.0) in
    λ no. none_left s c.args.self.now.next (omega (arith, c.requires.short)) c.requires.all (subst (λ (xs : List ℕ). AreTried s [] xs c.args.self.now.next) is c.requires.trying.tried)
