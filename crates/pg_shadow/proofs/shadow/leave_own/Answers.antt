use Rattle.std.proofs.Common.{ℕ, nat_eq, List, refl, ap, sym, ◌∙◌}
use Rattle.pg_shadow.specs.Left.{is_on_path}
use Rattle.pg_shadow.specs.Pages.{Sheet}
use Rattle.pg_shadow.specs.Spaces.{slot_in}
use Rattle.pg_shadow.specs.Held.{space_of}
use Rattle.pg_shadow.proofs.Left.{IsLeftOwn-by, forgotten_own, bared_own}
use Rattle.pg_shadow.proofs.Spaces.{slot_in-nothing}
use Rattle.pg_shadow.proofs.shadow.leave_own.Goals as goal

pub returns-in-Nothing : goal.returns-in-Nothing
returns-in-Nothing c =
    IsLeftOwn-by c.args.invalidation c.args.own.now.entries c.args.own.now.entries _ (sym c.in-Nothing.is) (λ q l n. refl)

pub returns-in-Address : goal.returns-in-Address
returns-in-Address c =
    let old : List (ℕ × List Sheet) = c.args.own.now.entries in
    IsLeftOwn-by c.args.invalidation old c.forget_own.new.own.entries _ (sym c.in-Address.is)
    (λ q l n. c.forget_own.ensures.at q l n ∙ forgotten_own (nat_eq q c.in-Address.pcid) (is_on_path l n c.in-Address.la) (slot_in (space_of old q) l n))

pub returns-in-Page : goal.returns-in-Page
returns-in-Page c =
    let old : List (ℕ × List Sheet) = c.args.own.now.entries in
    let mid : List (ℕ × List Sheet) = c.bare_own.new.own.entries in
    IsLeftOwn-by c.args.invalidation old c.forget_own-in-Page.new.own.entries _ (sym c.in-Page.is)
    (λ q l n.
    c.forget_own-in-Page.ensures.at q l n
    ∙ bared_own (nat_eq q c.in-Page.pcid) (is_on_path l n c.in-Page.la) (slot_in (space_of old q) l n) (slot_in (space_of mid q) l n) (c.bare_own.ensures.at q l n))

pub returns-in-Pcid : goal.returns-in-Pcid
returns-in-Pcid c =
    IsLeftOwn-by c.args.invalidation c.args.own.now.entries c.remove_own.new.own.entries _ (sym c.in-Pcid.is) (λ q l n. c.remove_own.ensures.at q l n)

pub returns-in-Everything : goal.returns-in-Everything
returns-in-Everything c =
    IsLeftOwn-by c.args.invalidation c.args.own.now.entries c.clear.new.self.entries _ (sym c.in-Everything.is)
    (λ q l n. ap (λ es. slot_in (space_of es q) l n) c.clear.ensures.empty ∙ slot_in-nothing l n)
