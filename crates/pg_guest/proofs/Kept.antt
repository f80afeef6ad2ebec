-- What a read gives may be kept.
use Rattle.std.proofs.Common.{◌≡◌, ℕ, ◌+◌, ◌≤◌, Bool, List, [], ◌∷◌, ◌++◌, length, refl, sym, ◌∙◌, ap, length-append}
use Rattle.pg_entry.specs.declared.Cfg.{Cfg}
use Rattle.pg_entry.specs.declared.Kind.TheVariants.{Table, Leaf}
use Rattle.pg_entry.specs.declared.Level.{Level}
use Rattle.pg_entry.specs.declared.Level.TheVariants.{Four, Three, Two, One}
use Rattle.pg_entry.specs.Kinds.{kind_of}
use Rattle.pg_event.specs.Invalidation.{level_shift}
use Rattle.pg_shadow.specs.Caches.{levels_to, IsTableAt, IsPageAt}
use Rattle.pg_shadow.proofs.Classified.{entries_may_be_kept}
use Rattle.pg_world.specs.Walks.{levels_above}

-- a walk has read one level more than those above
one_more : (level : Level) → levels_above level + 1 ≡ levels_to (level_shift level)
one_more Four = refl
one_more Three = refl
one_more Two = refl
one_more One = refl

moments_to : (level : Level) (moments : List ℕ) (w : ℕ) → length moments ≡ levels_above level → length (moments ++ w ∷ []) ≡ levels_to (level_shift level)
moments_to level moments w h = length-append moments (w ∷ []) ∙ ap (λ n. n + 1) h ∙ one_more level

pub table_kept : (cfg : Cfg) (level : Level) (value addr w : ℕ) (moments : List ℕ) → 36 ≤ cfg.m → kind_of cfg level value ≡ Table addr → length moments ≡ levels_above level →
    IsTableAt cfg.m level addr (moments ++ w ∷ [])
table_kept cfg level value addr w moments least is count =
    let kept = entries_may_be_kept.tables cfg level value addr least is in
    record { refers = kept.refers; block = kept.block; count = moments_to level moments w count }

pub page_kept : (cfg : Cfg) (level : Level) (value frame shift w : ℕ) (global_bit : Bool) (moments : List ℕ) → 36 ≤ cfg.m → kind_of cfg level value ≡ Leaf frame shift global_bit →
    length moments ≡ levels_above level → IsPageAt cfg.m shift frame (moments ++ w ∷ [])
page_kept cfg level value frame shift w global_bit moments least is count =
    let kept = entries_may_be_kept.leaves cfg level value frame shift global_bit least is in
    record { size = kept.size; block = kept.block; count = moments_to level moments w count ∙ ap levels_to (sym kept.shift_is) }
