-- What an invalidation drops is of its own processor.
use Rattle.std.proofs.Common.{◌≡◌, ℕ, Bool, true, false, ◌||◌, nat_eq, List, [], ◌∷◌, ◌++◌, refl, ap, sym, ◌∙◌}
use Rattle.std.specs.List.{AllByRecursion}
use Rattle.std.proofs.lemmas.Bool.{eq-eqb, false_from_ne_true, false≢true}
use Rattle.pg_event.specs.declared.invalidation.Invalidation.{Invalidation}
use Rattle.pg_event.specs.declared.invalidation.Invalidation.TheVariants.{Nothing, Address, Page, Pcid, Everything}
use Rattle.pg_inval.specs.declared.key.DropKey.{DropKey}
use Rattle.pg_inval.specs.Keys.{is_same_key, processor_in, has_key, given, structures_for, locals_for, globals_for, dropped_keys}
use Rattle.pg_inval.specs.SameKey.{same_key}

abbrev AreOf : ℕ → List DropKey → Type 0
AreOf p ks = AllByRecursion (λ d. processor_in d ≡ p) ks

of_both : (p : ℕ) (xs ys : List DropKey) → AreOf p xs → AreOf p ys → AreOf p (xs ++ ys)
of_both p [] ys a b = b
of_both p (x ∷ xs) ys a b = (a.0, of_both p xs ys a.1 b)

of_given : (p : ℕ) (go : Bool) (ks : List DropKey) → AreOf p ks → AreOf p (given go ks)
of_given p true ks a = a
of_given p false ks a = tt

dropped_of : (p : ℕ) (i : Invalidation) → AreOf p (dropped_keys p i)
dropped_of p Nothing = tt
dropped_of p (Address pcid la s t g) =
    of_both p (given s (structures_for p pcid la)) _ (of_given p s (structures_for p pcid la) (refl, (refl, (refl, tt))))
    (of_both p (given t (locals_for p pcid la)) _ (of_given p t (locals_for p pcid la) (refl, (refl, (refl, tt))))
    (of_given p g (globals_for p la) (refl, (refl, (refl, tt)))))
dropped_of p (Page pcid la) = (refl, (refl, (refl, (refl, (refl, (refl, (refl, tt)))))))
dropped_of p (Pcid pcid) = (refl, (refl, tt))
dropped_of p (Everything true) = (refl, (refl, tt))
dropped_of p (Everything false) = (refl, tt)

lacks : (p : ℕ) (ks : List DropKey) (k : DropKey) → AreOf p ks → nat_eq p (processor_in k) ≡ false → has_key ks k ≡ false
lacks p [] k are other = refl
lacks p (d ∷ ks) k are other =
    ap (λ b. b || has_key ks k)
    (false_from_ne_true (is_same_key d k) (λ same. false≢true (sym other ∙ eq-eqb p (processor_in k) (sym are.0 ∙ ap processor_in (same_key d k same)))))
    ∙ lacks p ks k are.1 other

-- it has no key of another
pub has_no_other : (p : ℕ) (i : Invalidation) (k : DropKey) → nat_eq p (processor_in k) ≡ false → has_key (dropped_keys p i) k ≡ false
has_no_other p i k other = lacks p (dropped_keys p i) k (dropped_of p i) other
