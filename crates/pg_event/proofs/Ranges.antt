-- The fields of a header are in their ranges where the tests say so.
use Rattle.std.proofs.Common.{◌≡◌, ◌^◌, ◌<◌, ◌≤◌, ◌↔◌, Bool, true, ltb, IsTrue, List, [], ◌∷◌, ℕ, length, refl, sym, ◌∙◌}
use Rattle.std.specs.List.{AllByRecursion}
use Rattle.std.proofs.lemmas.Bool.{and_parts, and_from, ltb-true, lt-ltb}
use Rattle.pg_event.specs.Heads.{Head, most_processors, are_below}
use Rattle.pg_event.specs.Spelling.{IsHead}

abbrev AreStarts : ℕ → List (ℕ × Bool) → Type 0
AreStarts m starts = AllByRecursion (λ start. start.0 < 2 ^ m) starts

starts_of : (m : ℕ) (starts : List (ℕ × Bool)) → are_below m starts ≡ true → AreStarts m starts
starts_of m [] h = tt
starts_of m (start ∷ starts) h =
    let p = and_parts (ltb start.0 (2 ^ m)) (are_below m starts) h in
    (ltb-true _ _ p.0, starts_of m starts p.1)

starts_hold : (m : ℕ) (starts : List (ℕ × Bool)) → AreStarts m starts → are_below m starts ≡ true
starts_hold m [] h = refl
starts_hold m (start ∷ starts) h = and_from (ltb start.0 (2 ^ m)) (are_below m starts) (lt-ltb _ _ h.0) (starts_hold m starts h.1)

pub in_range : (head : Head) (below : Bool) → below ≡ are_below head.cfg.m head.processors → 36 ≤ head.cfg.m → head.cfg.m ≤ 52 → head.cfg.flags.0 < 16 → 1 ≤ length head.processors
    → length head.processors ≤ most_processors head.version → 1 ≤ head.segment → head.segment ≤ 65536 → IsTrue below ↔ IsHead head
in_range head below is low high flags some few size limit = (
  λ t. record { low = low; high = high; flags = flags; some = some; few = few; size = size; limit = limit; starts = starts_of head.cfg.m head.processors (sym is ∙ t) },
  λ h. is ∙ starts_hold head.cfg.m head.processors h.starts,
)
