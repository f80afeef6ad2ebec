-- Bytes spell a run exactly where they are read as that run.
use Rattle.std.proofs.Common.{◌≡◌, ℕ, zero, suc, ◌+◌, ◌^◌, ◌<◌, ◌≤◌, true, eqb, List, [], ◌∷◌, ◌++◌, length, None, Ok, refl, sym, ap, subst, ◌∙◌, append_assoc, arith, inl}
use Rattle.std.specs.Prelude.{slice_index}
use Rattle.std.specs.List.{zip, AllByRecursion}
use Rattle.std.proofs.lemmas.Bool.{eqb-true}
use Rattle.std.proofs.lemmas.List.{append-nil, length-append, nil_from_length}
use Rattle.pg_event.specs.declared.event.Event.{Event}
use Rattle.pg_event.specs.declared.refusal.Refusal.TheVariants as refusals
use Rattle.pg_event.specs.Heads.{Head, HoldsToAll}
use Rattle.pg_event.specs.Form.{processor_of, broken_rule}
use Rattle.pg_event.specs.Spelling.{end_bytes, FitsEvent, IsHead}
use Rattle.pg_event.proofs.Fields.{IsBytes, Takes, Takes-then}
use Rattle.pg_event.proofs.Events.{processor_within}
use Rattle.pg_event.proofs.Headers.{most_processors_le}
use Rattle.pg_event.proofs.Spellings.{bytes_at}
use Rattle.pg_span_run.specs.Orders.{Spanned}
use Rattle.pg_span_run.specs.Spanned.{IsSpanned}
use Rattle.pg_span_run.specs.declared.refusal.SpannedRefusal.TheVariants.{Plain}
use Rattle.pg_codec.specs.Bare.{IsBare}
use Rattle.pg_span_run.specs.Spelling.{Timed, timed, spans_header_bytes, timed_segments_bytes, spanned_bytes, IsSpelled, SpellsSpanned}
use Rattle.pg_span_run.specs.Reading.{plain, spans_header_at, next_segments_at, no_events, spanned_reading}
use Rattle.pg_span_run.specs.SpellingLaws.{NoBytesSpellTwoRuns, ReadingOfSpannedSpelling, SpelledWhereRead}
use Rattle.pg_span_run.proofs.Binds.{bind_on, bind_from, plain_on, plain_from, value_is, test_from}
use Rattle.pg_span_run.proofs.Runs.{events_of, backs_of, grown, AreTimed, events_count}
use Rattle.pg_span_run.proofs.Segments.{AreSegments, segments_count_le, segments_again, TakesSegments, segments_take}
use Rattle.pg_span_run.proofs.Zips.{zip_count}
use Rattle.pg_span_run.proofs.Headers.{spans_header_again, spans_header_takes}

-- ---- events and their spans, in one list and in two

zip_events : (es : List Event) (bs : List ℕ) → length bs ≡ length es → events_of (zip es bs) ≡ es
zip_events [] bs h = refl
zip_events (e ∷ es) [] h = absurd (omega (arith, h))
zip_events (e ∷ es) (b ∷ bs) h = ap (λ (l : List Event). e ∷ l) (zip_events es bs (omega (arith, h)))

zip_backs : (es : List Event) (bs : List ℕ) → length bs ≡ length es → backs_of (zip es bs) ≡ bs
zip_backs [] [] h = refl
zip_backs [] (b ∷ bs) h = absurd (omega (arith, h))
zip_backs (e ∷ es) [] h = absurd (omega (arith, h))
zip_backs (e ∷ es) (b ∷ bs) h = ap (λ (l : List ℕ). b ∷ l) (zip_backs es bs (omega (arith, h)))

unzipped : (xs : List Timed) → zip (events_of xs) (backs_of xs) ≡ xs
unzipped [] = refl
unzipped (x ∷ xs) = ap (λ (l : List Timed). x ∷ l) (unzipped xs)

backs_count : (xs : List Timed) → length (backs_of xs) ≡ length (events_of xs)
backs_count [] = refl
backs_count (x ∷ xs) = ap suc (backs_count xs)

are_timed : (head : Head) (i : ℕ) (es : List Event) (bs : List ℕ) → IsHead head → length bs ≡ length es → AllByRecursion FitsEvent es → AllByRecursion IsBare es
    → AllByRecursion (λ e. broken_rule head e ≡ None) es → ((j : ℕ) → slice_index bs j ≤ i + j) → i + length es ≤ 2 ^ 32 → AreTimed head i (zip es bs)
are_timed head i [] bs is same fits bare well spans few = tt
are_timed head i (e ∷ es) [] is same fits bare well spans few = absurd (omega (arith, same))
are_timed head i (e ∷ es) (b ∷ bs) is same fits bare well spans few =
    let first : b ≤ i + 0 = spans 0 in
    let span : b ≤ i = omega (arith, first) in
    let within : b < 2 ^ 32 = omega (arith, span, few) in
    let later : (j : ℕ) → slice_index bs j ≤ (i + 1) + j = λ j. let h : slice_index bs j ≤ i + suc j = spans (suc j) in omega (arith, h) in
    let numbered : processor_of e < 2 ^ 16 = omega (arith, processor_within head e well.0, is.few, most_processors_le head.version) in
    (record { numbered = numbered; fits = fits.0; bare = bare.0; well = well.0; span = span; within = within }, are_timed head (i + 1) es bs is (omega (arith, same)) fits.1 bare.1 well.1 later (omega (arith, few)))

timed_fit : (head : Head) (i : ℕ) (xs : List Timed) → AreTimed head i xs → AllByRecursion FitsEvent (events_of xs)
timed_fit head i [] are = tt
timed_fit head i (x ∷ xs) are = (are.0.fits, timed_fit head (i + 1) xs are.1)

timed_bare : (head : Head) (i : ℕ) (xs : List Timed) → AreTimed head i xs → AllByRecursion IsBare (events_of xs)
timed_bare head i [] are = tt
timed_bare head i (x ∷ xs) are = (are.0.bare, timed_bare head (i + 1) xs are.1)

timed_well : (head : Head) (i : ℕ) (xs : List Timed) → AreTimed head i xs → AllByRecursion (λ e. broken_rule head e ≡ None) (events_of xs)
timed_well head i [] are = tt
timed_well head i (x ∷ xs) are = (are.0.well, timed_well head (i + 1) xs are.1)

timed_spans : (head : Head) (i : ℕ) (xs : List Timed) → AreTimed head i xs → (j : ℕ) → slice_index (backs_of xs) j ≤ i + j
timed_spans head i [] are j = omega arith
timed_spans head i (x ∷ xs) are zero = let span : x.1 ≤ i = are.0.span in omega (arith, span)
timed_spans head i (x ∷ xs) are (suc j) = let h : slice_index (backs_of xs) j ≤ (i + 1) + j = timed_spans head (i + 1) xs are.1 j in omega (arith, h)

-- ---- whole runs

run_is : (s : Spanned) → length s.backs ≡ length s.events → grown (no_events s.head) (timed s) ≡ s
run_is s same =
    let events : events_of (timed s) ≡ s.events = zip_events s.events s.backs same in
    let backs : backs_of (timed s) ≡ s.backs = zip_backs s.events s.backs same in
    ap (λ (es : List Event). record { head = s.head; events = es; backs = backs_of (timed s) }) events
    ∙ ap (λ (bs : List ℕ). record { head = s.head; events = s.events; backs = bs }) backs

reading_again : (s : Spanned) → IsSpelled s → HoldsToAll s.head → spanned_reading (spanned_bytes s) ≡ Ok s
unfolding spanned_reading
reading_again s is all =
    let head : Head = s.head in
    let n : ℕ = length s.events in
    let xs : List Timed = timed s in
    let same : length s.backs ≡ n = is.spanned.backs in
    let count : length xs ≡ n = zip_count s.events s.backs same in
    let segments : List ℕ = timed_segments_bytes head 0 n xs in
    let after : List ℕ = segments ++ end_bytes n in
    let first : spans_header_at (spanned_bytes s) ≡ Ok (head, after) =
    ap spans_header_at (append_assoc (spans_header_bytes head) segments (end_bytes n)) ∙ spans_header_again head after is.spanned.head all in
    let are : AreSegments (no_events head) 0 xs = record {
      size = is.spanned.head.size;
      order = omega arith;
      count = omega (arith, is.spanned.count, count);
      are = are_timed head 0 s.events s.backs is.spanned.head same is.fits is.bare is.spanned.well (λ j. let h : slice_index s.backs j ≤ j = is.spanned.spans j in omega (arith, h)) (omega (arith, is.spanned.count));
    } in
    let few = segments_count_le head 0 n xs in
    let long : length after ≡ length segments + 5 = length-append segments (end_bytes n) in
    let total : n ≡ 0 + length xs = omega (arith, count) in
    let whole : next_segments_at (length after) (no_events head) 0 true after ≡ Ok (grown (no_events head) xs, []) =
    ap (next_segments_at (length after) (no_events head) 0 true) (ap (λ (k : ℕ). segments ++ end_bytes k) total ∙ ap (λ (w : List ℕ). segments ++ w) (sym (append-nil (end_bytes (0 + length xs)))))
    ∙ segments_again n (length after) (no_events head) 0 true xs [] are (omega (arith, count)) (omega (arith, few, long)) (inl refl) in
    bind_on _ _ _ (plain_on _ _ first) ∙ (bind_on _ _ _ whole ∙ ap (λ (t : Spanned). Ok t) (run_is s same))

spelled : (head : Head) (bytes middle : List ℕ) (y : Spanned × List ℕ) → Takes bytes (spans_header_bytes head) middle → IsHead head → HoldsToAll head → TakesSegments (no_events head) 0 true middle y → y.1 ≡ []
    → SpellsSpanned bytes y.0
spelled head bytes middle y first is all second nothing =
    let xs : List Timed = second.xs in
    let s : Spanned = grown (no_events head) xs in
    let n : ℕ = length (events_of xs) in
    let count : n ≡ length xs = events_count xs in
    let sum : 0 + length xs ≡ n = omega (arith, count) in
    let segments : List ℕ = timed_segments_bytes head 0 n xs in
    let behind : Takes middle (segments ++ end_bytes n) y.1 = subst (λ (k : ℕ). Takes middle (segments ++ end_bytes k) y.1) sum (second.spelled n (omega (arith, count))) in
    let both = Takes-then bytes (spans_header_bytes head) middle (segments ++ end_bytes n) y.1 first behind in
    let text : List ℕ = spans_header_bytes head ++ (segments ++ end_bytes n) in
    let whole : bytes ≡ text = both.parts ∙ ap (λ (w : List ℕ). text ++ w) nothing ∙ append-nil text in
    let in_order : text ≡ spanned_bytes s =
    sym (append_assoc (spans_header_bytes head) segments (end_bytes n))
    ∙ ap (λ (ys : List Timed). spans_header_bytes head ++ timed_segments_bytes head 0 n ys ++ end_bytes n) (sym (unzipped xs)) in
    let spanned : IsSpanned s = record {
      head = is;
      count = omega (arith, second.count, count);
      well = timed_well head 0 xs second.are;
      backs = backs_count xs;
      spans = λ j. let h : slice_index (backs_of xs) j ≤ 0 + j = timed_spans head 0 xs second.are j in omega (arith, h);
    } in
    let spells : SpellsSpanned bytes s = (record { spanned = spanned; fits = timed_fit head 0 xs second.are; bare = timed_bare head 0 xs second.are }, whole ∙ in_order, all) in
    subst (SpellsSpanned bytes) second.made spells

reading_takes : (bytes : List ℕ) (s : Spanned) → IsBytes bytes → spanned_reading bytes ≡ Ok s → SpellsSpanned bytes s
unfolding spanned_reading
reading_takes bytes s fits e =
    bind_from (plain (spans_header_at bytes)) _ s e (λ a a_is e.
    bind_from (next_segments_at (length a.1) (no_events a.0) 0 true a.1) _ s e (λ b b_is e.
    let first = spans_header_takes bytes a fits (plain_from _ a a_is) in
    let second : TakesSegments (no_events a.0) 0 true a.1 b = segments_take (length a.1) (no_events a.0) 0 true a.1 b first.0.rest_fits b_is in
    let g = test_from (eqb (length b.1) 0) (Plain refusals.Trailing) b.0 s e in
    let nothing : b.1 ≡ [] = nil_from_length b.1 (eqb-true _ _ g.0) in
    subst (SpellsSpanned bytes) g.1 (spelled a.0 bytes a.1 b first.0 first.1 first.2 second nothing)))

-- ---- the laws

pub reading_of_spelling : ReadingOfSpannedSpelling
reading_of_spelling bytes s spells = ap spanned_reading spells.1 ∙ reading_again s spells.0 spells.2

pub no_bytes_spell_two : NoBytesSpellTwoRuns
no_bytes_spell_two bytes r s a b = value_is r s (sym (reading_of_spelling bytes r a) ∙ reading_of_spelling bytes s b)

pub spelled_where_read : SpelledWhereRead
spelled_where_read bytes s are = (reading_of_spelling bytes s, reading_takes bytes s (bytes_at bytes are))
