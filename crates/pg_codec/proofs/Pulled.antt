-- What a buffer holds after bytes moved to its front and more were pulled after them.
use Rattle.std.proofs.Common.{◌≡◌, ℕ, ◌+◌, ◌-◌, ◌≤◌, List, ◌++◌, length, take, drop, Option, Some, None, sym, ap, ◌∙◌, arith, append_assoc, length-take-le, length-drop}
use Rattle.std.proofs.lemmas.List.{take-append-le, drop-take, drop-drop}
use Rattle.std.proofs.Math.Seq.{take-append-add, take-append_seam}
use Rattle.std.specs.List.{slice_range, copy_within}
use Rattle.std.specs.Io.KnownBytes.{Keeps, Consumes}
use borrow.Rule.Slice.PartMut.{put_mid, post_of}
use Rattle.pg_codec.specs.Reads.{left_of}

-- the last n bytes of a range
pub last_of_range : (xs : List ℕ) (start end n : ℕ) → start ≤ end → end ≤ length xs → n ≤ length (slice_range xs start end)
    → slice_range xs (end - n) end ≡ drop (length (slice_range xs start end) - n) (slice_range xs start end)
last_of_range xs start end n low high fits =
    let m : ℕ = end - start in
    let len : length (take m (drop start xs)) ≡ m = length-take-le m (drop start xs) (simp length-drop (omega arith)) in
    let first : length (take m (drop start xs)) - n ≡ m - n = omega (arith, len) in
    let parts : m ≡ (m - n) + n = omega (arith, len, fits) in
    let many : end - (end - n) ≡ n = omega (arith, len, fits) in
    let place : end - n ≡ start + (m - n) = omega (arith, len, fits) in
    ap (λ k. take k (drop (end - n) xs)) many ∙ ap (λ k. take n (drop k xs)) place ∙ ap (take n) (sym (drop-drop (m - n) start xs))
    ∙ sym (drop-take (m - n) n (drop start xs)) ∙ ap (λ k. drop (m - n) (take k (drop start xs))) (sym parts) ∙ ap (λ k. drop k (take m (drop start xs))) (sym first)

-- a front, and after it the front of what was written there
pub front_and_more : (a k n : ℕ) (xs ys : List ℕ) → a ≤ length xs → n ≤ length ys → take (a + n) (put_mid a k xs ys) ≡ take a xs ++ take n ys
front_and_more a k n xs ys within fits =
    let rest = ys ++ post_of a k xs in
    ap (λ j. take (j + n) (take a xs ++ rest)) (sym (length-take-le a xs within)) ∙ take-append-add (take a xs) rest n ∙ ap (λ l. take a xs ++ l) (take-append-le n ys (post_of a k xs) fits)

pub moved_to_front : (xs : List ℕ) (start end : ℕ) → start ≤ end → end ≤ length xs → take (end - start) (copy_within xs start end 0) ≡ slice_range xs start end
moved_to_front xs start end low high =
    let m : ℕ = end - start in
    let rest = drop (0 + m) xs in
    let len : length (take m (drop start xs)) ≡ m = length-take-le m (drop start xs) (simp length-drop (omega arith)) in
    ap (λ k. take k (take m (drop start xs) ++ rest)) (sym len) ∙ take-append_seam (take m (drop start xs)) rest

pub pulled_behind : (unread text whole : List ℕ) (old new : Option (List ℕ)) → whole ≡ unread ++ text → Consumes old new text → Keeps (left_of unread old) (left_of whole new)
unfolding left_of
pulled_behind unread text whole None new e h = tt
pulled_behind unread text whole (Some xs) None e h = absurd h
pulled_behind unread text whole (Some xs) (Some ys) e h = ap (λ l. l ++ ys) e ∙ append_assoc unread text ys ∙ ap (λ l. unread ++ l) (sym h)
