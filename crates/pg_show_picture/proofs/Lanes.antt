use Rattle.std.proofs.Common.{◌≡◌, ℕ, ◌+◌, ◌<◌, Bool, true, false, List, [], ◌∷◌, ◌++◌, get_or, drop, length, append_assoc, add-one, drop-cons}
use Rattle.pg_event.specs.declared.event.Event.{Event}
use Rattle.pg_show_picture.specs.declared.placer.Lane.{Lane}
use Rattle.pg_show_picture.specs.Layout.{takes_part, lanes_from}

-- the next processor takes part
pub next_lane : (events : List Event) (numbers : List ℕ) (i x : ℕ) (starts : List (ℕ × Bool)) (found whole : List Lane) → i < length starts → takes_part events numbers i ≡ true → found ++ lanes_from events numbers i x (drop i starts) ≡ whole → (found ++ record { processor = i; x = x } ∷ []) ++ lanes_from events numbers (i + 1) (x + 18) (drop (i + 1) starts) ≡ whole
next_lane events numbers i x starts found whole within part was =
    let front : drop i starts ≡ get_or starts i (0, false) ∷ drop (i + 1) starts = rw add-one (drop-cons starts i (0, false) within) in
    let here = rw front at was in
    let taken = rw part at here in
    rw append_assoc taken

-- the next processor does not
pub no_lane : (events : List Event) (numbers : List ℕ) (i x : ℕ) (starts : List (ℕ × Bool)) (found whole : List Lane) → i < length starts → takes_part events numbers i ≡ false → found ++ lanes_from events numbers i x (drop i starts) ≡ whole → found ++ lanes_from events numbers (i + 1) x (drop (i + 1) starts) ≡ whole
no_lane events numbers i x starts found whole within part was =
    let front : drop i starts ≡ get_or starts i (0, false) ∷ drop (i + 1) starts = rw add-one (drop-cons starts i (0, false) within) in
    let here = rw front at was in
    rw part at here
