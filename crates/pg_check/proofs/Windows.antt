-- A window of a run: how far it was noted, and the verdicts of its segments.
use Rattle.std.proofs.Common.{◌≡◌, ℕ, ◌+◌, ◌-◌, ◌*◌, ◌<◌, ◌≤◌, min, List, ◌++◌, length, length-append, take, drop, Option, None, sym, ap, subst, ◌∙◌, arith}
use Rattle.std.specs.List.{AllByRecursion}
use Rattle.std.proofs.Math.Seq.{drop-append-add}
use Rattle.std.proofs.lemmas.List.{append_assoc, drop-take, length-drop, length-take, length-take-le, take_min, take-append-drop, take-take}
use Rattle.pg_event.specs.declared.event.Event.{Event}
use Rattle.pg_event.specs.declared.event.Reason.{Reason}
use Rattle.pg_event.specs.Form.{broken_rule}
use Rattle.pg_event.specs.Heads.{Head}
use Rattle.pg_event.specs.Witness.{first_bad_from}
use Rattle.pg_check.specs.declared.window.Window.{Window}
use Rattle.pg_check.specs.Judging.{Noted, HasNoted}
use Rattle.pg_event.proofs.Chunks.{all_parts}
use Rattle.pg_check.specs.Kept.{AreWellFormed}
use Rattle.pg_check.specs.Segments.{first_bad_of_segment}
use Rattle.pg_check.specs.Windows.{IsAmid}
use Rattle.pg_check.proofs.Firsts.{first_bad_from-past}

-- some events further
pub further : {A : Type 0} (front es : List A) (i j : ℕ) → i ≤ j → (front ++ take i es) ++ take (j - i) (drop i es) ≡ front ++ take j es
further {A = A} front es i j le =
    let there : i + (j - i) ≡ j = omega (arith, le) in
    append_assoc front (take i es) (take (j - i) (drop i es))
    ∙ ap (λ (l : List A). front ++ l)
    (ap (λ (l : List A). l ++ take (j - i) (drop i es)) (sym (take-take i j es le))
    ∙ ap (λ (l : List A). take i (take j es) ++ l) (sym (drop-take i (j - i) es) ∙ ap (λ k. drop i (take k es)) there)
    ∙ take-append-drop i (take j es))

-- so many events of the window were noted
pub amid_place : (n : Noted) (head : Head) (before : List Event) (w : Window) (a : IsAmid n head before w) → n.count ≡ length before + a.place
amid_place n head before w a =
    a.noted.count ∙ length-append before (take a.place w.events.now) ∙ ap (λ k. length before + k) (length-take-le a.place w.events.now a.within)

pub noted_at : (n : Noted) (head : Head) (before : List Event) (w : Window) (k : ℕ) → IsAmid n head before w → n.count ≡ length before + k → HasNoted n head (before ++ take k w.events.now)
noted_at n head before w k a is =
    let place : n.count ≡ length before + a.place = amid_place n head before w a in
    let same : a.place ≡ k = omega (arith, place, is) in
    subst (λ j. HasNoted n head (before ++ take j w.events.now)) same a.noted

-- the events between two places were noted too
pub noted_further : (n : Noted) (head : Head) (before : List Event) (w : Window) (k end : ℕ) (slice : List Event) → k ≤ end → slice ≡ take (end - k) (drop k w.events.now)
    → HasNoted n head ((before ++ take k w.events.now) ++ slice) → HasNoted n head (before ++ take end w.events.now)
noted_further n head before w k end slice le is h =
    subst (λ (es : List Event). HasNoted n head es) (further before w.events.now k end le)
    (subst (λ (es : List Event). HasNoted n head ((before ++ take k w.events.now) ++ es)) is h)

pub amid_further : (n : Noted) (head : Head) (before : List Event) (w : Window) (k end : ℕ) (slice : List Event) → k ≤ end → end ≤ length w.events.now → slice ≡ take (end - k) (drop k w.events.now)
    → HasNoted n head ((before ++ take k w.events.now) ++ slice) → IsAmid n head before w
amid_further n head before w k end slice le within is h = record { place = end; within = within; noted = noted_further n head before w k end slice le is h }

pub count_at : (n : Noted) (head : Head) (before es : List Event) (k : ℕ) → k ≤ length es → HasNoted n head (before ++ take k es) → n.count ≡ length before + k
count_at n head before es k within h = h.count ∙ length-append before (take k es) ∙ ap (λ j. length before + j) (length-take-le k es within)

-- the events of a segment, of the window and of the run
segment_there : (before es : List Event) (start end seg : ℕ) → start ≤ length es → end ≡ min (start + seg) (length es) → take (end - start) (drop start es) ≡ take seg (drop (length before + start) (before ++ es))
segment_there before es start end seg within is =
    let size : length (drop start es) ≡ length es - start = length-drop start es in
    let many : end - start ≡ min seg (length (drop start es)) = omega (arith, within, is, size) in
    ap (λ k. take k (drop start es)) many ∙ take_min seg (drop start es) ∙ ap (λ (l : List Event). take seg l) (sym (drop-append-add before es start))

-- what judging a segment found by so many events of the run is its first bad event
pub found_there : (head : Head) (before es slice : List Event) (start end stop seg number : ℕ) (found : Option (ℕ × Reason)) → seg ≡ head.segment → length before + start ≡ number * seg → start ≤ length es
    → end ≡ min (start + seg) (length es) → end ≤ stop → stop ≤ length es → slice ≡ take (end - start) (drop start es) → found ≡ first_bad_from head (before ++ take stop es) (length before + start) slice
    → found ≡ first_bad_of_segment (record { head = head; events = before ++ es }) number
found_there head before es slice start end stop seg number found size first within is le most part was =
    let n : ℕ = length before + start in
    let begins : List Event = before ++ take stop es in
    let whole : begins ++ drop stop es ≡ before ++ es = append_assoc before (take stop es) (drop stop es) ∙ ap (λ (l : List Event). before ++ l) (take-append-drop stop es) in
    let long : length slice ≤ end - start = omega (arith, ap (λ (l : List Event). length l) part, shorter (end - start) (drop start es)) in
    let room : length begins ≡ length before + stop = length-append before (take stop es) ∙ ap (λ j. length before + j) (length-take-le stop es most) in
    let segment : slice ≡ take head.segment (drop (number * head.segment) (before ++ es)) =
    part ∙ segment_there before es start end seg within is ∙ ap (λ k. take seg (drop k (before ++ es))) first ∙ ap (λ k. take k (drop (number * k) (before ++ es))) size in
    was
    ∙ sym (first_bad_from-past head begins (drop stop es) slice n (omega (arith, long, room, le, is)))
    ∙ ap (λ (l : List Event). first_bad_from head l n slice) whole
    ∙ ap (λ k. first_bad_from head (before ++ es) k slice) (first ∙ ap (λ k. number * k) size)
    ∙ ap (λ (l : List Event). first_bad_from head (before ++ es) (number * head.segment) l) segment
  where
    shorter : (k : ℕ) (l : List Event) → length (take k l) ≤ k
    shorter k l = omega (arith, length-take k l)

-- where a segment begins in the window
pub start_at : (front first product count : ℕ) → first ≡ front → first ≤ product → product < first + count → (front + (product - first) ≡ product) × (product - first ≤ count)
start_at front first product count is low high = (omega (arith, is, low), omega (arith, low, high))

-- what judging at the tip found, as a segment of a longer run
pub found_ahead : (head : Head) (before es slice : List Event) (start end : ℕ) (found : Option (ℕ × Reason)) → start ≤ end → start ≤ length es → slice ≡ take (end - start) (drop start es)
    → found ≡ first_bad_from head ((before ++ take start es) ++ slice) (length (before ++ take start es)) slice → found ≡ first_bad_from head (before ++ take end es) (length before + start) slice
found_ahead head before es slice start end found le within part was =
    was
    ∙ ap (λ (l : List Event). first_bad_from head ((before ++ take start es) ++ l) (length (before ++ take start es)) slice) part
    ∙ ap (λ (l : List Event). first_bad_from head l (length (before ++ take start es)) slice) (further before es start end le)
    ∙ ap (λ k. first_bad_from head (before ++ take end es) k slice) (length-append before (take start es) ∙ ap (λ j. length before + j) (length-take-le start es within))

-- what holds of each holds of those between two places
pub well_between : (head : Head) (es : List Event) (i k : ℕ) → AreWellFormed head es → AreWellFormed head (take k (drop i es))
well_between head es i k all =
    let P : Event → Type 0 = λ e. broken_rule head e ≡ None in
    let rest : AllByRecursion P (drop i es) = (all_parts P (take i es) (drop i es) (subst (λ (l : List Event). AllByRecursion P l) (sym (take-append-drop i es)) all)).1 in
    (all_parts P (take k (drop i es)) (drop k (drop i es)) (subst (λ (l : List Event). AllByRecursion P l) (sym (take-append-drop k (drop i es))) rest)).0
