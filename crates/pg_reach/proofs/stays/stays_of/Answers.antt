use Rattle.std.proofs.Common.{Vec, Global, ◌≡◌, ℕ, ◌+◌, ◌++◌, ◌∷◌, [], List, take, get_or, sym, ap, ◌∙◌, subst}
use Rattle.std.proofs.lemmas.List.{take_more}
use Rattle.pg_event.specs.declared.control.Control.{Control}
use Rattle.pg_timeline.specs.declared.timeline.Span.{Span}
use Rattle.pg_reach.specs.Stays.{AreOwn}
use Rattle.pg_reach.proofs.Spans.{no_span, those_more, those_other}
use Rattle.pg_reach.proofs.stays.stays_of.Goals as goal
use Rattle.pg_reach.proofs.stays.stays_of.Goals.{then-span-pcid+in_ok-push, else-span-pcid}

pub loop-span-preserved : goal.loop-span-preserved
loop-span-preserved c =
    let xs : List (Span Control) = c.args.spans.now in
    let i : ℕ = c.loop-span.span-index in
    let s : Span Control = get_or xs i no_span in
    let olds : List (Span Control) = c.loop-span.stays.items in
    let more : take (i + 1) xs ≡ take i xs ++ s ∷ [] = take_more xs i no_span c.loop-span-test.true in
    subst (λ (ys : List (Span Control)). AreOwn c.args.pcid ys c.if-span-pcid.stays.items) (sym more)
    (elim c.if-span-pcid.branch as (λ _. AreOwn c.args.pcid (take i xs ++ s ∷ []) c.if-span-pcid.stays.items) [
      | then-span-pcid+in_ok-push b ↦
          let now : c.if-span-pcid.stays.items ≡ olds ++ s ∷ [] = ap (λ (x : Vec (Span Control) Global). x.items) b.stays-is ∙ b.in_ok-push.ensures.items in
          subst (AreOwn c.args.pcid (take i xs ++ s ∷ [])) (sym now) (those_more (λ q. q) c.args.pcid xs i olds c.requires c.loop-span-test.true c.loop-span.invariant b.if-span-pcid.true)
      | else-span-pcid b ↦
          let now : c.if-span-pcid.stays.items ≡ olds = ap (λ (x : Vec (Span Control) Global). x.items) b.stays-is in
          subst (AreOwn c.args.pcid (take i xs ++ s ∷ [])) (sym now) (those_other (λ q. q) c.args.pcid (take i xs) olds s c.loop-span.invariant b.if-span-pcid.false)
    ])
