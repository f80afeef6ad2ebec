use Rattle.std.proofs.Common.{◌≡◌, ◌<◌, ◌%◌, length, length-append, List, [], ◌∷◌, ◌++◌, Some, None, refl, arith, sym, ap, ◌∙◌}
use Rattle.pg_shadow.specs.declared.page.Place.{Place}
use Rattle.pg_shadow.specs.Pages.{Sheet, empty_page, place_in, IsTree}
use Rattle.pg_shadow.specs.Spaces.{IsAbove}
use Rattle.pg_shadow.proofs.Pages.{IsRead, below_found, within-above, IsTree-linked, HasPage-linked}
use Rattle.pg_shadow.proofs.space.Space.page_below.Goals as goal

pub returns-in-Some : goal.returns-in-Some
returns-in-Some c =
    let pages : List Sheet = c.args.self.now in
    let tree : IsTree pages = rw (← c.self.view_is) c.self.invariant in
    let below : (place_in pages c.args.above (c.args.prefix % 512)).below ≡ Some c.in-Some.j = sym (ap (λ (p : Place). p.below) c.read.ensures.value) ∙ c.in-Some.is in
    record { here = below_found pages c.args.level c.args.prefix c.args.above c.in-Some.j tree c.requires.parent below; same = record { at = λ l n. refl } }

pub invariant_of-self-in-None : goal.invariant_of-self-in-None
invariant_of-self-in-None c =
    let pages : List Sheet = c.self.inside.pages.items in
    let page : Sheet = c.index_mut-parent.result.now in
    let more : List Sheet = pages ++ empty_page c.args.level c.args.prefix ∷ [] in
    let count : c.len-j.result ≡ length pages = omega (arith, c.len-j.ensures, c.self.inside.pages.ok.0) in
    let pushed : c.push.new.self.items ≡ more = c.in_ok-push-in-None.ensures.items ∙ ap (λ p. pages ++ p ∷ []) c.in_ok-new-in-None.ensures in
    let above : IsAbove pages c.args.level c.args.prefix c.args.above = rw c.self.view_is c.requires.parent in
    let within : c.args.above < length pages = within-above pages c.args.level c.args.prefix c.args.above above in
    let read : IsRead more c.args.above (c.args.prefix % 512) page = record {
      within = omega (arith, length-append pages (empty_page c.args.level c.args.prefix ∷ []), within);
      read = rw (← pushed) c.index_mut-parent.ensures.value;
      full = c.link.ensures.full;
      index = rw (← c.index_of.ensures.value) c.index_of.ensures.within;
    } in
    rw (c.link.ensures.linked, pushed, count, c.index_of.ensures.value)
    (IsTree-linked pages c.args.above c.args.level c.args.prefix page c.self.invariant above read)

pub returns-in_ok-push-in-None : goal.returns-in_ok-push-in-None
returns-in_ok-push-in-None c =
    let pages : List Sheet = c.self.inside.pages.items in
    let page : Sheet = c.index_mut-parent.result.now in
    let more : List Sheet = pages ++ empty_page c.args.level c.args.prefix ∷ [] in
    let count : c.len-j.result ≡ length pages = omega (arith, c.len-j.ensures, c.self.inside.pages.ok.0) in
    let pushed : c.push.new.self.items ≡ more = c.in_ok-push-in-None.ensures.items ∙ ap (λ p. pages ++ p ∷ []) c.in_ok-new-in-None.ensures in
    let above : IsAbove pages c.args.level c.args.prefix c.args.above = rw c.self.view_is c.requires.parent in
    let within : c.args.above < length pages = within-above pages c.args.level c.args.prefix c.args.above above in
    let read : IsRead more c.args.above (c.args.prefix % 512) page = record {
      within = omega (arith, length-append pages (empty_page c.args.level c.args.prefix ∷ []), within);
      read = rw (← pushed) c.index_mut-parent.ensures.value;
      full = c.link.ensures.full;
      index = rw (← c.index_of.ensures.value) c.index_of.ensures.within;
    } in
    let free : (place_in pages c.args.above (c.args.prefix % 512)).below ≡ None =
    rw c.self.view_is (sym (ap (λ (p : Place). p.below) c.read.ensures.value) ∙ c.in-None.is) in
    rw (c.link.ensures.linked, pushed, count, c.index_of.ensures.value, ← c.self.view_is)
    (HasPage-linked pages c.args.above c.args.level c.args.prefix page above free read)
