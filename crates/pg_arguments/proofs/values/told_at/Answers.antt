use Rattle.std.proofs.Common.{◌≡◌, ◌↔◌, ℕ, Bool, false, List, Option, Some, None, refl, ap, sym, ◌∙◌, option_map, is_some, Bor}
use Rattle.clap.specs.Walk.{Text}
use Rattle.pg_arguments.specs.declared.request.Telling.{Telling}
use Rattle.pg_arguments.specs.declared.request.Telling.TheVariants.{First, At, All, Picture}
use Rattle.pg_arguments.specs.Values.{IsNumberIn, IsTelling, Reads}
use Rattle.pg_arguments.proofs.values.told_at.Goals as goal

module _ (all svg : Bool) (most : Option Text) (event : Text) (read : Option ℕ) (no_all : all ≡ false) (no_svg : svg ≡ false) (no_most : most ≡ None) (reads : Reads read (IsNumberIn event)) where
  number_told : (n : ℕ) → read ≡ Some n → (x : Telling) → (Some (At n) ≡ Some x) ↔ IsTelling all svg most (Some event) x
  number_told n is First = ((λ h. absurd cc), (λ h. let none = h.3 in absurd cc))
  number_told n is (At m) = (
    (λ h. let same : n ≡ m = cc in (no_all, no_svg, no_most, (reads m).0 (is ∙ ap Some same))),
    (λ h. let other : Some n ≡ Some m = sym is ∙ (reads m).1 h.3 in let same : n ≡ m = cc in ap (λ k. Some (At k)) same),
  )
  number_told n is (All m) = ((λ h. absurd cc), (λ h. let none = h.3 in absurd cc))
  number_told n is Picture = ((λ h. absurd cc), (λ h. let none = h.3 in absurd cc))

  none_told : read ≡ None → (x : Telling) → (None ≡ Some x) ↔ IsTelling all svg most (Some event) x
  none_told is First = ((λ h. absurd cc), (λ h. let none = h.3 in absurd cc))
  none_told is (At m) = ((λ h. absurd cc), (λ h. let other = sym is ∙ (reads m).1 h.3 in absurd cc))
  none_told is (All m) = ((λ h. absurd cc), (λ h. let none = h.3 in absurd cc))
  none_told is Picture = ((λ h. absurd cc), (λ h. let none = h.3 in absurd cc))

untold : (o : Option (Bor (List ℕ))) → is_some o ≡ false → option_map (λ s. s.now) o ≡ None
untold None h = refl
untold (Some text) h = absurd cc

pub returns-in-Some : goal.returns-in-Some
returns-in-Some c =
    let most = untold c.args.most (sym c.is_some.ensures ∙ c.if-is_some.false) in
    number_told c.args.all c.args.svg _ c.args.event.now c.number_in.result c.if-all.false c.if-svg.false most c.number_in.ensures c.in-Some.number c.in-Some.is

pub returns-in-None : goal.returns-in-None
returns-in-None c =
    let most = untold c.args.most (sym c.is_some.ensures ∙ c.if-is_some.false) in
    none_told c.args.all c.args.svg _ c.args.event.now c.number_in.result c.if-all.false c.if-svg.false most c.number_in.ensures c.in-None.is
