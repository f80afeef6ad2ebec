use Rattle.std.proofs.Common.{◌≡◌, ◌-◌, ℕ, inl, List, [], ◌∷◌, ◌++◌, take, length, refl, ap, sym, subst, ◌∙◌, arith, Vec, Global}
use Rattle.std.specs.Vec.{vec_len}
use Rattle.std.proofs.lemmas.List.{length-append}
use Rattle.pg_span_run.specs.Orders.{Spanned}
use Rattle.pg_span_refute.specs.declared.edge.Edge.{Edge}
use Rattle.pg_span_refute.specs.Supposed.{AreSure, NeverComesSo, IsUpTo, IsRace, AreDeduced, AddsEdgesOf, FollowInTurn}
use Rattle.pg_span_refute.specs.Witness.{HasNoWitness}
use Rattle.pg_span_refute.proofs.Deducing.{deduced, more_deduced, adds_one, adds_none}
use Rattle.pg_span_refute.proofs.Witness.{follows}
use Rattle.pg_span_refute.proofs.deduced.deduce.Goals as goal

start : (xs : List Edge) (x : Edge) → take (length xs) (xs ++ x ∷ []) ≡ xs
start [] x = refl
start (y ∷ ys) x = ap (λ zs. y ∷ zs) (start ys x)

-- what is pushed and popped again leaves what was there
back : (longer after front : List Edge) (x : Edge) → longer ≡ front ++ x ∷ [] → after ≡ take (length longer - 1) longer → after ≡ front
back longer after front x pushed popped =
    let count : length longer - 1 ≡ length front = omega (arith, ap length pushed, length-append front (x ∷ [])) in
    popped ∙ (ap (λ n. take n longer) count ∙ (ap (take (length front)) pushed ∙ start front x))

counted : (v : Vec Edge Global) (after : List Edge) → after ≡ take (vec_len v - 1) v.items → after ≡ take (length v.items - 1) v.items
counted v after h = cc

grown : (s : Spanned) (old : List Edge) (edge : Edge) (longer popped last : List Edge) → longer ≡ old ++ record { first = edge.second; second = edge.first } ∷ [] → popped ≡ take (length longer - 1) longer →
    last ≡ popped ++ edge ∷ [] → last ≡ old ++ edge ∷ []
grown s old edge longer popped last pushed rest added = added ∙ ap (λ es. es ++ edge ∷ []) (back longer popped old (record { first = edge.second; second = edge.first }) pushed rest)

-- where it is sure, it was added
surely : (s : Spanned) (old : List Edge) (edge : Edge) (supposed : List Edge) → supposed ≡ old ++ record { first = edge.second; second = edge.first } ∷ [] → NeverComesSo s supposed edge.second → IsRace s edge →
    (i : ℕ) → IsUpTo s edge.second i → AreSure s old i → AreSure s (old ++ edge ∷ []) i
surely s old edge supposed is never race i up sure =
    deduced s old edge (record { first = edge.second; second = edge.first }) refl refl race edge.second (subst (λ es. NeverComesSo s es edge.second) is never) i up sure

pub returns-in_ok-push-2-clause-sure : goal.returns-in_ok-push-2-clause-sure
returns-in_ok-push-2-clause-sure c =
    let s : Spanned = c.args.run.now in
    let old : List Edge = c.args.edges.now.items in
    let pushed = c.in_ok-push.ensures.items in
    let items = grown s old c.args.edge c.push.new.self.items c.pop.new.self.items c.push-then-is_sure.new.self.items pushed
    (counted c.push.new.self c.pop.new.self.items c.pop.ensures.rest) c.in_ok-push-2.ensures.items in
    λ i up sure. subst (λ es. AreSure s es i) (sym items)
    (surely s old c.args.edge c.deref.result.now (c.deref.ensures.value ∙ pushed) (c.in_ok-is_sure.ensures.never c.if-is_sure.true) c.requires.race i up sure)

pub returns-in_ok-push-2-clause-deduced : goal.returns-in_ok-push-2-clause-deduced
returns-in_ok-push-2-clause-deduced c =
    let s : Spanned = c.args.run.now in
    let old : List Edge = c.args.edges.now.items in
    let edge : Edge = c.args.edge in
    let pushed = c.in_ok-push.ensures.items in
    let items = grown s old edge c.push.new.self.items c.pop.new.self.items c.push-then-is_sure.new.self.items pushed
    (counted c.push.new.self c.pop.new.self.items c.pop.ensures.rest) c.in_ok-push-2.ensures.items in
    λ sure are. subst (AreDeduced s) (sym items) (more_deduced s old edge c.requires.race
    (surely s old edge c.deref.result.now (c.deref.ensures.value ∙ pushed) (c.in_ok-is_sure.ensures.never c.if-is_sure.true) c.requires.race edge.second (inl refl) sure) are)

pub returns-else-is_sure-clause-deduced : goal.returns-else-is_sure-clause-deduced
returns-else-is_sure-clause-deduced c =
    let old : List Edge = c.args.edges.now.items in
    let other : Edge = record { first = c.args.edge.second; second = c.args.edge.first } in
    let same : c.pop.new.self.items ≡ old =
    back c.push.new.self.items c.pop.new.self.items old other c.in_ok-push.ensures.items (counted c.push.new.self c.pop.new.self.items c.pop.ensures.rest) in
    λ sure are. subst (AreDeduced c.args.run.now) (sym same) are

pub returns-in_ok-push-2-clause-more : goal.returns-in_ok-push-2-clause-more
returns-in_ok-push-2-clause-more c =
    let old : List Edge = c.args.edges.now.items in
    let pushed = c.in_ok-push.ensures.items in
    let items = grown c.args.run.now old c.args.edge c.push.new.self.items c.pop.new.self.items c.push-then-is_sure.new.self.items pushed
    (counted c.push.new.self c.pop.new.self.items c.pop.ensures.rest) c.in_ok-push-2.ensures.items in
    subst (AddsEdgesOf c.args.edge.second old) (sym items) (adds_one old c.args.edge)

pub returns-else-is_sure-clause-more : goal.returns-else-is_sure-clause-more
returns-else-is_sure-clause-more c =
    let old : List Edge = c.args.edges.now.items in
    let other : Edge = record { first = c.args.edge.second; second = c.args.edge.first } in
    let same : c.pop.new.self.items ≡ old =
    back c.push.new.self.items c.pop.new.self.items old other c.in_ok-push.ensures.items (counted c.push.new.self c.pop.new.self.items c.pop.ensures.rest) in
    subst (AddsEdgesOf c.args.edge.second old) (sym same) (adds_none old c.args.edge.second)

pub returns-in_ok-push-2-clause-follow : goal.returns-in_ok-push-2-clause-follow
returns-in_ok-push-2-clause-follow c =
    let s : Spanned = c.args.run.now in
    let old : List Edge = c.args.edges.now.items in
    let edge : Edge = c.args.edge in
    let pushed = c.in_ok-push.ensures.items in
    let items = grown s old edge c.push.new.self.items c.pop.new.self.items c.push-then-is_sure.new.self.items pushed
    (counted c.push.new.self c.pop.new.self.items c.pop.ensures.rest) c.in_ok-push-2.ensures.items in
    λ all. subst (FollowInTurn s []) (sym items) (follows s [] old edge all
    (subst (λ es. HasNoWitness s es edge.second) (c.deref.ensures.value ∙ pushed) (c.in_ok-is_sure.ensures.none c.if-is_sure.true)))

pub returns-else-is_sure-clause-follow : goal.returns-else-is_sure-clause-follow
returns-else-is_sure-clause-follow c =
    let old : List Edge = c.args.edges.now.items in
    let other : Edge = record { first = c.args.edge.second; second = c.args.edge.first } in
    let same : c.pop.new.self.items ≡ old =
    back c.push.new.self.items c.pop.new.self.items old other c.in_ok-push.ensures.items (counted c.push.new.self c.pop.new.self.items c.pop.ensures.rest) in
    λ all. subst (FollowInTurn c.args.run.now []) (sym same) all
