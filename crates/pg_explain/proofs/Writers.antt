-- What memory holds between the events that write a word.
use Rattle.std.proofs.Common.{◌≡◌, ℕ, zero, suc, ◌+◌, ◌-◌, ◌≤◌, false, cond, List, [], ◌∷◌, take, refl, ap, ◌∙◌, arith}
use Rattle.std.specs.Prelude.{slice_get, fold}
use Rattle.std.proofs.lemmas.Bool.{or_parts}
use Rattle.pg_entry.specs.Kinds.{marked}
use Rattle.pg_event.specs.Form.{says_dirty}
use Rattle.pg_event.specs.declared.event.Event.{Event}
use Rattle.pg_event.specs.declared.event.Event.TheVariants.{Write, Access, Assist, MovCr3, Invlpg, Invpcid, MovCr4Pge}
use Rattle.pg_event.specs.Values.{written, mem_at}
use Rattle.pg_event.specs.Witness.{any_from}
use Rattle.pg_search.specs.Writers.{writes_some, is_written}
use Rattle.pg_explain.specs.Laws.{OthersLeaveTheWord, UnwrittenWordsStay, WritersLeaveTheWord}

pub others_leave_the_word : OthersLeaveTheWord
others_leave_the_word a value (Write p addr new) h = ap (λ b. cond b new value) h
others_leave_the_word a value (Access p flags la outcome moments) h = refl
others_leave_the_word a value (Assist p flags la word moments) h = ap (λ b. cond b (marked (says_dirty flags) value) value) h
others_leave_the_word a value (MovCr3 p operand) h = refl
others_leave_the_word a value (Invlpg p la) h = refl
others_leave_the_word a value (Invpcid p kind pcid la) h = refl
others_leave_the_word a value (MovCr4Pge p on) h = refl

-- one event that does not write the word, after some others
one_further : (a v w : ℕ) (events : List Event) → writes_some a (slice_get events w) ≡ false → fold (written a) v (take (suc w) events) ≡ fold (written a) v (take w events)
one_further a v zero [] h = refl
one_further a v (suc w) [] h = refl
one_further a v zero (e ∷ es) h = others_leave_the_word a v e h
one_further a v (suc w) (e ∷ es) h = one_further a (written a v e) w es h

-- so many events that do not write the word
stays_for : (events : List Event) (a from n : ℕ) → any_from (λ j. writes_some a (slice_get events j)) from n ≡ false → mem_at events (from + n) a ≡ mem_at events from a
stays_for events a from zero h = let same : from + 0 ≡ from = omega arith in ap (λ k. mem_at events k a) same
stays_for events a from (suc n) h =
    let parts = or_parts (writes_some a (slice_get events from)) (any_from (λ j. writes_some a (slice_get events j)) (from + 1) n) h in
    let more : from + suc n ≡ from + 1 + n = omega arith in
    let next : from + 1 ≡ suc from = omega arith in
    ap (λ k. mem_at events k a) more
    ∙ (stays_for events a (from + 1) n parts.1
    ∙ (ap (λ k. mem_at events k a) next
    ∙ one_further a 0 from events parts.0))

-- where no event from one moment up to another writes the word
stays : (events : List Event) (a from to : ℕ) → from ≤ to → is_written events a from to ≡ false → mem_at events to a ≡ mem_at events from a
stays events a from to le h =
    let same : to ≡ from + (to - from) = omega arith in
    ap (λ k. mem_at events k a) same ∙ stays_for events a from (to - from) h

pub unwritten_words_stay : UnwrittenWordsStay
unwritten_words_stay events a w h = stays events a 0 w (omega arith) h

pub writers_leave_the_word : WritersLeaveTheWord
writers_leave_the_word events a w j h = stays events a (j + 1) w (omega (arith, h.0)) h.2
