-- All transcripts together are as long as the record.
use Rattle.std.proofs.Common.{◌≡◌, ℕ, suc, ◌+◌, ◌≤◌, ◌<◌, ◌==◌, Bool, true, false, cond, inl, inr, List, [], ◌∷◌, length, refl, ap, ◌∙◌, arith, eq-eqb, Some}
use Rattle.std.specs.Prelude.{slice_get}
use Rattle.std.proofs.lemmas.Bool.{cases_eq, ne_eqb}
use Rattle.std.proofs.lemmas.List.{length-append}
use Rattle.pg_event.specs.declared.event.Event.{Event}
use Rattle.pg_event.specs.Form.{processor_of}
use Rattle.pg_world.specs.declared.receipt.Receipt.{Receipt}
use Rattle.pg_guest.specs.Turn.{Processor}
use Rattle.pg_guest.specs.Transcripts.{receipts_from, AreOf, all_receipts, TranscriptsHoldAll}

-- how many events are of q
abbrev if_own : Bool → ℕ
if_own b = cond b 1 0

abbrev own_events : ℕ → List Event → ℕ
own_events q [] = 0
own_events q (e ∷ es) = if_own (processor_of e == q) + own_events q es

receipts_counted : (q i : ℕ) (es : List Event) → length (receipts_from q i es) ≡ own_events q es
receipts_counted q i [] = refl
receipts_counted q i (e ∷ es) = by (processor_of e == q) _ ∙ ap (λ n. if_own (processor_of e == q) + n) (receipts_counted q (i + 1) es)
  where
    by : (b : Bool) (r : Receipt) → length (cond b (r ∷ receipts_from q (i + 1) es) (receipts_from q (i + 1) es)) ≡ if_own b + length (receipts_from q (i + 1) es)
    by true r = omega arith
    by false r = omega arith

-- the events of so many processors as there are, from q on
abbrev total : ℕ → List Processor → List Event → ℕ
total q [] es = 0
total q (x ∷ xs) es = own_events q es + total (q + 1) xs es

told_total : (q : ℕ) (xs : List Processor) (es : List Event) → ((j : ℕ) (x : Processor) → slice_get xs j ≡ Some x → length x.transcript ≡ own_events (q + j) es) →
    length (all_receipts xs) ≡ total q xs es
told_total q [] es each = refl
told_total q (x ∷ xs) es each =
    let here : q + 0 ≡ q = omega arith in
    let first : length x.transcript ≡ own_events q es = each 0 x refl ∙ ap (λ n. own_events n es) here in
    let others : length (all_receipts xs) ≡ total (q + 1) xs es = told_total (q + 1) xs es (λ j y h. let next : q + suc j ≡ q + 1 + j = omega arith in each (suc j) y h ∙ ap (λ n. own_events n es) next) in
    length-append x.transcript (all_receipts xs) ∙ ap (λ n. n + length (all_receipts xs)) first ∙ ap (λ n. own_events q es + n) others

total_past : (q : ℕ) (xs : List Processor) (e : Event) (es : List Event) → processor_of e < q → total q xs (e ∷ es) ≡ total q xs es
total_past q [] e es past = refl
total_past q (x ∷ xs) e es past =
    let not_here : (processor_of e == q) ≡ false = ne_eqb (processor_of e) q (λ same. omega (arith, past, same)) in
    let others : total (q + 1) xs (e ∷ es) ≡ total (q + 1) xs es = total_past (q + 1) xs e es (omega arith) in
    ap (λ b. if_own b + own_events q es + total (q + 1) xs (e ∷ es)) not_here ∙ ap (λ n. 0 + own_events q es + n) others ∙ none (own_events q es) (total (q + 1) xs es)
  where
    none : (a b : ℕ) → 0 + a + b ≡ a + b
    none a b = omega arith

total_more : (q : ℕ) (xs : List Processor) (e : Event) (es : List Event) → q ≤ processor_of e → processor_of e < q + length xs → total q xs (e ∷ es) ≡ suc (total q xs es)
total_more q [] e es low high = absurd (omega (arith, low, high))
total_more q (x ∷ xs) e es low high =
    elim (cases_eq (processor_of e) q) [
      | inl same ↦
          let past : processor_of e < q + 1 = omega (arith, same) in
          ap (λ b. if_own b + own_events q es + total (q + 1) xs (e ∷ es)) (eq-eqb (processor_of e) q same)
          ∙ ap (λ n. 1 + own_events q es + n) (total_past (q + 1) xs e es past) ∙ one (own_events q es) (total (q + 1) xs es)
      | inr away ↦
          let later : q + 1 ≤ processor_of e = omega (arith, low, away) in
          let within : processor_of e < q + 1 + length xs = omega (arith, high) in
          ap (λ b. if_own b + own_events q es + total (q + 1) xs (e ∷ es)) (ne_eqb (processor_of e) q away)
          ∙ ap (λ n. 0 + own_events q es + n) (total_more (q + 1) xs e es later within) ∙ more (own_events q es) (total (q + 1) xs es)
    ]
  where
    one : (a b : ℕ) → 1 + a + b ≡ suc (a + b)
    one a b = omega arith

    more : (a b : ℕ) → 0 + a + suc b ≡ suc (a + b)
    more a b = omega arith

total_none : (q : ℕ) (xs : List Processor) → total q xs [] ≡ 0
total_none q [] = refl
total_none q (x ∷ xs) = ap (λ n. 0 + n) (total_none (q + 1) xs)

total_all : (xs : List Processor) (es : List Event) → AreOf (length xs) es → total 0 xs es ≡ length es
total_all xs [] all = total_none 0 xs
total_all xs (e ∷ es) all =
    let low : 0 ≤ processor_of e = omega arith in
    let here : processor_of e < length xs = all.0 in
    let within : processor_of e < 0 + length xs = omega (arith, here) in
    total_more 0 xs e es low within ∙ ap suc (total_all xs es all.1)

pub transcripts_hold_all : TranscriptsHoldAll
transcripts_hold_all r xs told all =
    told_total 0 xs r.events (λ j x h. let here : j ≡ 0 + j = omega arith in ap (λ (rs : List Receipt). length rs) (told.told j x h).receipts ∙ receipts_counted j 0 r.events ∙ ap (λ n. own_events n r.events) here)
    ∙ total_all xs r.events all
