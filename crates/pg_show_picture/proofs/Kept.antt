-- Which numbers a loop keeps.
use Rattle.std.proofs.Common.{◌≡◌, ℕ, ◌+◌, true, false, List, ◌∷◌, if◌then◌else◌, ap}
use Rattle.pg_event.specs.declared.event.Event.{Event}
use Rattle.pg_explain.specs.declared.entry.WalkEntry.{WalkEntry}
use Rattle.pg_explain.specs.declared.explainer.Explanation.{Explanation}
use Rattle.pg_show_picture.specs.Named.{is_named, named_from}

-- the next event, where it is named and where it is not
pub named_next : (x : Explanation) (walk : List WalkEntry) (j : ℕ) (e : Event) (es : List Event) → is_named x walk j ≡ true → named_from x walk j (e ∷ es) ≡ j ∷ named_from x walk (j + 1) es
named_next x walk j e es named = ap (λ b. if b then j ∷ named_from x walk (j + 1) es else named_from x walk (j + 1) es) named

pub unnamed_next : (x : Explanation) (walk : List WalkEntry) (j : ℕ) (e : Event) (es : List Event) → is_named x walk j ≡ false → named_from x walk j (e ∷ es) ≡ named_from x walk (j + 1) es
unnamed_next x walk j e es other = ap (λ b. if b then j ∷ named_from x walk (j + 1) es else named_from x walk (j + 1) es) other
