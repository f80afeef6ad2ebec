use Rattle.std.proofs.Common.{◌≡◌, ℕ, ◌++◌, ◌∷◌, [], Vec, Global, List, take, get_or, nat_eq, sym, ap, ◌∙◌, subst}
use Rattle.std.specs.List.{list_any}
use Rattle.std.proofs.lemmas.List.{take_more, take_all}
use Rattle.pg_event.specs.declared.control.Control.{Control}
use Rattle.pg_timeline.specs.declared.timeline.Span.{Span}
use Rattle.pg_reach.specs.Stays.{ArePcids}
use Rattle.pg_reach.proofs.Spans.{no_span, pcids_more, pcids_there, has_pcid}
use Rattle.pg_reach.proofs.stays.pcids_of.Goals as goal
use Rattle.pg_reach.proofs.stays.pcids_of.Goals.{then-not-contains+in_ok-push, else-not-contains}

pub loop-span-preserved : goal.loop-span-preserved
loop-span-preserved c =
    let xs : List (Span Control) = c.args.spans.now in
    let i : ℕ = c.loop-span.span-index in
    let s : Span Control = get_or xs i no_span in
    let olds : List ℕ = c.loop-span.pcids.items in
    let tells : c.contains.result ≡ list_any (λ y. nat_eq y s.value.pcid) olds = c.contains.ensures.value ∙ ap (λ (ys : List ℕ). list_any (λ y. nat_eq y s.value.pcid) ys) c.deref.ensures.value in
    subst (λ (ys : List (Span Control)). ArePcids ys c.if-not-contains.pcids.items) (sym (take_more xs i no_span c.loop-span-test.true))
    (elim c.if-not-contains.branch as (λ _. ArePcids (take i xs ++ s ∷ []) c.if-not-contains.pcids.items) [
      | then-not-contains+in_ok-push b ↦
          let now : c.if-not-contains.pcids.items ≡ olds ++ s.value.pcid ∷ [] = ap (λ (x : Vec ℕ Global). x.items) b.pcids-is ∙ b.in_ok-push.ensures.items in
          subst (ArePcids (take i xs ++ s ∷ [])) (sym now) (pcids_more (take i xs) s olds c.loop-span.invariant)
      | else-not-contains b ↦
          let now : c.if-not-contains.pcids.items ≡ olds = ap (λ (x : Vec ℕ Global). x.items) b.pcids-is in
          subst (ArePcids (take i xs ++ s ∷ [])) (sym now) (pcids_there (take i xs) s olds c.loop-span.invariant (has_pcid olds s.value.pcid (sym tells ∙ b.if-not-contains.false)))
    ])

pub returns : goal.returns
returns c = subst (λ (xs : List (Span Control)). ArePcids xs c.loop-span.pcids.items) (take_all c.loop-span.span-index c.args.spans.now c.loop-span-test.false) c.loop-span.invariant
