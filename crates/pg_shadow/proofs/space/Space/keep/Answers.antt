use Rattle.std.proofs.Common.{◌≡◌, ◌<◌, ◌/◌, ◌%◌, length, Some, List}
use Rattle.pg_shadow.specs.Pages.{Sheet, page_at}
use Rattle.pg_shadow.specs.Spaces.{IsSame}
use Rattle.pg_shadow.proofs.Pages.{IsRead, IsTree-kept, Keeps-kept}
use Rattle.pg_shadow.proofs.space.Space.keep.Goals as goal

pub invariant_of-self : goal.invariant_of-self
invariant_of-self c =
    let pages : List Sheet = c.self.inside.pages.items in
    let page : Sheet = c.index_mut-page.result.now in
    let within : c.in_ok-j.j < length pages = rw c.self.view_is c.in_ok-j.ensures.page.here.within in
    let read : IsRead pages c.in_ok-j.j c.index_of.result page = record { within = within; read = c.index_mut-page.ensures.value; full = c.keep.ensures.full; index = c.index_of.ensures.within } in
    rw c.keep.ensures.kept (IsTree-kept pages c.in_ok-j.j c.index_of.result page c.args.kept.now c.self.invariant read)

pub returns-clause-ok : goal.returns-clause-ok
returns-clause-ok c =
    let pages : List Sheet = c.self.inside.pages.items in
    let page : Sheet = c.index_mut-page.result.now in
    let within : c.in_ok-j.j < length pages = rw c.self.view_is c.in_ok-j.ensures.page.here.within in
    let at : page_at pages c.args.level (c.args.number / 512) ≡ Some c.in_ok-j.j = rw c.self.view_is c.in_ok-j.ensures.page.here.at in
    let same : IsSame c.args.self.now pages = rw c.self.view_is c.in_ok-j.ensures.page.same in
    let read : IsRead pages c.in_ok-j.j (c.args.number % 512) page = record { within = within; read = c.index_mut-page.ensures.value; full = c.keep.ensures.full; index = rw (← c.index_of.ensures.value) c.index_of.ensures.within } in
    rw (c.keep.ensures.kept, c.index_of.ensures.value)
    (Keeps-kept c.args.self.now pages c.args.level c.args.number c.in_ok-j.j page c.args.kept.now same c.self.invariant at read)
