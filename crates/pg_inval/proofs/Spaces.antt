-- An entry is dropped with all of its space, or alone.
use Rattle.std.proofs.Common.{◌≡◌, ℕ, Bool, true, false, ◌||◌, cond, List, [], ◌∷◌, refl}
use Rattle.pg_event.specs.declared.keys.StructureKey.{StructureKey}
use Rattle.pg_event.specs.declared.keys.TranslationKey.{TranslationKey}
use Rattle.pg_inval.specs.declared.key.DropKey.TheVariants as keys
use Rattle.pg_inval.specs.declared.log.LogEntry.{LogEntry}
use Rattle.pg_inval.specs.declared.space.Space.TheVariants.{Locals, Globals}
use Rattle.pg_inval.specs.Keys.{structure_at, structure_keys, translation_keys, local_at, global_at}
use Rattle.pg_inval.specs.Lists.{has_drop, has_among}
use Rattle.pg_inval.specs.Spaces.{space_keys, structure_space, translation_space, own_key}

three : (x y z : Bool) → (x || (y || false) || z) ≡ (x || (y || (z || false)))
three true y z = refl
three false true z = refl
three false false true = refl
three false false false = refl

two : (x z : Bool) → (x || false || z) ≡ (x || (z || false))
two true z = refl
two false true = refl
two false false = refl

pub structure-beside : (log : List LogEntry) (p : ℕ) (s : StructureKey) (j : ℕ) →
    (has_among log (space_keys (structure_space p s)) j || has_drop log (structure_at p s) j) ≡ has_among log (structure_keys p s) j
structure-beside log p s j = three (has_drop log (keys.NotGlobal p) j) (has_drop log (keys.StructuresOf p s.pcid) j) (has_drop log (structure_at p s) j)

pub translation-beside : (log : List LogEntry) (p : ℕ) (t : TranslationKey) (j : ℕ) →
    (has_among log (space_keys (translation_space p t)) j || has_drop log (own_key p t) j) ≡ has_among log (translation_keys p t) j
translation-beside log p t j = go t.global
  where
    go : (b : Bool) →
        (has_among log (space_keys (cond b (Globals p) (Locals p t.pcid))) j || has_drop log (cond b (global_at p t) (local_at p t)) j)
        ≡ has_among log (cond b (keys.Globals p ∷ global_at p t ∷ []) (keys.NotGlobal p ∷ keys.LocalsOf p t.pcid ∷ local_at p t ∷ [])) j
    go true = two (has_drop log (keys.Globals p) j) (has_drop log (global_at p t) j)
    go false = three (has_drop log (keys.NotGlobal p) j) (has_drop log (keys.LocalsOf p t.pcid) j) (has_drop log (local_at p t) j)
