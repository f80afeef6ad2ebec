use Rattle.std.proofs.Common.{◌≡◌, get_or, arith, inl, inr}
use Rattle.std.proofs.lemmas.Bool.{cases_lt}
use Rattle.std.proofs.lemmas.List.{get_or_past}
use Rattle.pg_shadow.specs.Pages.{no_page}
use Rattle.pg_shadow.proofs.Pages.{IsBarePage-nothing}
use Rattle.pg_shadow.proofs.space.bare_pages.Goals as goal

pub returns : goal.returns
returns c = λ j.
    elim (cases_lt j c.loop-j.j) [
      | inl below ↦ c.loop-j.invariant.done j below
      | inr above ↦
          let now : get_or c.loop-j.pages j no_page ≡ no_page = get_or_past c.loop-j.pages j no_page (omega arith) in
          let was : get_or c.args.pages.now j no_page ≡ no_page = get_or_past c.args.pages.now j no_page (omega arith) in
          rw (now, was) IsBarePage-nothing
    ]
