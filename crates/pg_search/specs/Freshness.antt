-- Which of two lists of moments is the fresher.
use Rattle.std.specs.Prelude.{ℕ, Bool, true, false, ◌&&◌, ◌||◌, ◌==◌, nat_lt}
use Rattle.std.specs.Prelude.{List, [], ◌∷◌, reverse}

-- of moments that are given from the last back: the first that differ tell, and where one list
-- ends it is the fresher, since its walk is shorter
abbrev pub is_as_fresh_back : List ℕ → List ℕ → Bool
is_as_fresh_back [] us = true
is_as_fresh_back (w ∷ ws) [] = false
is_as_fresh_back (w ∷ ws) (u ∷ us) = nat_lt u w || (w == u && is_as_fresh_back ws us)

-- the one list is as fresh as the other, or fresher: its last moment is the larger, or the same and
-- its last but one is, and so on
abbrev pub is_as_fresh : List ℕ → List ℕ → Bool
is_as_fresh ws us = is_as_fresh_back (reverse ws) (reverse us)
