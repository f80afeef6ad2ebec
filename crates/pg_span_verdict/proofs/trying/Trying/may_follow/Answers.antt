use Rattle.std.proofs.Common.{◌≡◌, ℕ, List, Bool, true, false, sym, subst, ◌∙◌, refl}
use Rattle.std.specs.Prelude.{not}
use Rattle.pg_span_run.specs.Orders.{Spanned}
use Rattle.pg_span_verdict.specs.Trying.{Lacks, LacksEarlier}
use Rattle.pg_span_verdict.proofs.Fronts.{none_begins_twice, none_begins_early}
use Rattle.pg_span_verdict.proofs.trying.Trying.may_follow.Goals as goal

not_false : (b : Bool) → not b ≡ false → b ≡ true
not_false true h = refl
not_false false h = absurd (cc)

both : (b : Bool) → b ≡ true → b ≡ false → ⊥
both b t f = let no : true ≡ false = sym t ∙ f in absurd (cc)

pub returns-then-lacks-clause-none : goal.returns-then-lacks-clause-none
returns-then-lacks-clause-none c =
    let s : Spanned = c.args.run.now in
    let front : List ℕ = c.args.self.now.front.items in
    let i : ℕ = c.args.self.now.next in
    λ no. none_begins_early s front i
    (subst (λ (xs : List ℕ). LacksEarlier s xs i) c.deref-then-lacks.ensures.value (c.lacks_earlier.ensures (not_false c.lacks_earlier.result no)))

pub returns-else-lacks-clause-none : goal.returns-else-lacks-clause-none
returns-else-lacks-clause-none c =
    let s : Spanned = c.args.run.now in
    let front : List ℕ = c.args.self.now.front.items in
    let i : ℕ = c.args.self.now.next in
    λ no. none_begins_twice s front i
    (λ l. both c.lacks.result (c.lacks.ensures.1 (subst (λ (xs : List ℕ). Lacks xs i) (sym c.deref.ensures.value) l)) c.if-lacks.false)
