use Rattle.std.proofs.Common.{◌≡◌, ◌<◌, ◌≤◌, ◌/◌, ◌%◌, length, Some, List, refl, ap, sym, ◌∙◌, arith}
use Rattle.pg_shadow.specs.declared.slot.KeptEntry.TheVariants.{Neither}
use Rattle.pg_shadow.specs.Pages.{Sheet, page_at}
use Rattle.pg_shadow.proofs.Pages.{IsRead, IsTree-kept, Keeps-kept, Keeps-empty, slot_in-missing, slot_in-beyond}
use Rattle.pg_shadow.proofs.space.Space.empty.Goals as goal

pub invariant_of-self : goal.invariant_of-self
invariant_of-self c =
    let pages : List Sheet = c.self.inside.pages.items in
    let page : Sheet = c.index_mut-page.result.now in
    let within : c.in-Some.j < length pages = omega (arith, c.len.ensures, c.if-j-len.true, c.self.inside.pages.ok.0) in
    let read : IsRead pages c.in-Some.j c.index_of.result page = record { within = within; read = c.index_mut-page.ensures.value; full = c.keep.ensures.full; index = c.index_of.ensures.within } in
    rw c.keep.ensures.kept (IsTree-kept pages c.in-Some.j c.index_of.result page Neither c.self.invariant read)

pub returns-in-None : goal.returns-in-None
returns-in-None c =
    Keeps-empty c.args.self.now c.args.level c.args.number (slot_in-missing c.args.self.now c.args.level c.args.number (sym c.page_of.ensures ∙ c.in-None.is))

pub returns-else-j-len : goal.returns-else-j-len
returns-else-j-len c =
    let at : page_at c.args.self.now c.args.level (c.args.number / 512) ≡ Some c.in-Some.j = sym c.page_of.ensures ∙ c.in-Some.is in
    let beyond : length c.args.self.now ≤ c.in-Some.j = omega (arith, ap (λ (ps : List Sheet). length ps) c.self.view_is, c.len.ensures, c.if-j-len.false, c.self.inside.pages.ok.0) in
    Keeps-empty c.args.self.now c.args.level c.args.number (slot_in-beyond c.args.self.now c.args.level c.args.number c.in-Some.j at beyond)

pub returns-then-j-len : goal.returns-then-j-len
returns-then-j-len c =
    let pages : List Sheet = c.self.inside.pages.items in
    let page : Sheet = c.index_mut-page.result.now in
    let within : c.in-Some.j < length pages = omega (arith, c.len.ensures, c.if-j-len.true, c.self.inside.pages.ok.0) in
    let at : page_at pages c.args.level (c.args.number / 512) ≡ Some c.in-Some.j = rw c.self.view_is (sym c.page_of.ensures ∙ c.in-Some.is) in
    let read : IsRead pages c.in-Some.j (c.args.number % 512) page = record { within = within; read = c.index_mut-page.ensures.value; full = c.keep.ensures.full; index = rw (← c.index_of.ensures.value) c.index_of.ensures.within } in
    rw (c.keep.ensures.kept, c.index_of.ensures.value, ← c.self.view_is)
    (Keeps-kept pages pages c.args.level c.args.number c.in-Some.j page Neither (record { at = λ l n. refl }) c.self.invariant at read)
