use Rattle.std.proofs.Common.{◌≡◌, ℕ, ◌++◌, take, drop, length, List, arith, ap, ◌∙◌}
use Rattle.std.proofs.lemmas.Grind.{common_steps}
use Rattle.pg_shadow.specs.Pages.{Sheet, page_in, IsBarePage}
use Rattle.pg_shadow.proofs.Pages.{IsTree-bare, IsBared-pages}
use Rattle.pg_shadow.proofs.space.Space.bare.Goals as goal

pub invariant_of-self : goal.invariant_of-self
invariant_of-self c =
    let old : List Sheet = c.self.inside.pages.items in
    let new : List Sheet = c.bare_pages.new.pages in
    let lent : c.deref_mut.result.now ≡ old = c.deref_mut.ensures.value in
    let whole : take c.self.inside.pages.len (new ++ drop (length new) old) ≡ new = grind (arith, common_steps) in
    let left : (j : ℕ) → IsBarePage (page_in old j) (page_in new j) = λ j. rw (← lent) (c.bare_pages.ensures j) in
    rw whole
    (IsTree-bare old new left (c.bare_pages.auto.pages ∙ ap (λ (ps : List Sheet). length ps) lent) c.self.invariant)

pub returns : goal.returns
returns c =
    let old : List Sheet = c.self.inside.pages.items in
    let new : List Sheet = c.bare_pages.new.pages in
    let lent : c.deref_mut.result.now ≡ old = c.deref_mut.ensures.value in
    let whole : take c.self.inside.pages.len (new ++ drop (length new) old) ≡ new = grind (arith, common_steps) in
    let left : (j : ℕ) → IsBarePage (page_in old j) (page_in new j) = λ j. rw (← lent) (c.bare_pages.ensures j) in
    rw (whole, ← c.self.view_is)
    (IsBared-pages old new left (c.bare_pages.auto.pages ∙ ap (λ (ps : List Sheet). length ps) lent) c.self.invariant)
