-- Words that events write, listed one event after another.
use Rattle.std.proofs.Common.{◌≡◌, ℕ, ◌+◌, ◌<◌, ◌≤◌, true, List, [], ◌∷◌, ◌++◌, length, min, Option, Some, None, ap, sym, ◌∙◌, subst, arith, cond, inl, inr}
use Rattle.std.specs.Prelude.{slice_get}
use Rattle.std.specs.List.{Contains}
use Rattle.std.proofs.lemmas.Bool.{eq-eqb, cases_lt, lt-ltb}
use Rattle.std.proofs.lemmas.List.Elements.{Contains-append_left, Contains-append_right}
use Rattle.std.proofs.lemmas.Option.{slice_get_within}
use Rattle.pg_event.specs.declared.event.Event.{Event}
use Rattle.pg_event.specs.declared.event.Event.TheVariants.{Write, Access, Assist, MovCr3, Invlpg, Invpcid, MovCr4Pge}
use Rattle.pg_timeline.specs.Keyed.{Keyed}
use Rattle.pg_search.specs.Writers.{writes, writes_some, word_of, written_from, listed_of, HaveWritten}
use Rattle.pg_search.specs.Briefs.{event_by, pair_at, event_of, events_from, ArePlaced}
use Rattle.pg_search.specs.declared.brief.Brief.{Brief}
use Rattle.pg_search.specs.declared.brief.Pair.{Pair}
use Rattle.pg_search.specs.declared.written.Written.{Written}
use Rattle.pg_search.proofs.Briefs.{kept_writer, event_kept}

-- what an event below the moment writes is listed
listed_there : (moment number word : ℕ) (o : Option ℕ) → o ≡ Some word → number < moment → Contains (listed_of moment number o) (written_from (number + 1) word)
listed_there moment number word (Some x) is lt =
    let one : x ≡ word = cc in
    let all : Contains (written_from (number + 1) x ∷ []) (written_from (number + 1) word) = (0, omega arith, ap (written_from (number + 1)) one) in
    subst (λ b. Contains (cond b (written_from (number + 1) x ∷ []) []) (written_from (number + 1) word)) (sym (lt-ltb number moment lt)) all
listed_there moment number word None is lt = absurd (cc)

-- what writes some word writes that word
writes_own : (e : Event) (word : ℕ) → word_of e ≡ Some word → writes word e ≡ true
writes_own (Write p addr value) word h = let one : addr ≡ word = cc in eq-eqb addr word one
writes_own (Access p flags la outcome moments) word h = absurd (cc)
writes_own (Assist p flags la x moments) word h = let one : x ≡ word = cc in eq-eqb x word one
writes_own (MovCr3 p operand) word h = absurd (cc)
writes_own (Invlpg p la) word h = absurd (cc)
writes_own (Invpcid p kind pcid la) word h = absurd (cc)
writes_own (MovCr4Pge p on) word h = absurd (cc)

some_event : (d e : Event) → Some d ≡ Some e → d ≡ e
some_event d e h = cc

some_brief : (b c : Brief) → Some b ≡ Some c → b ≡ c
some_brief b c h = cc

-- ---- events that are kept whole

-- what the events before this one write is in the list
abbrev pub HaveBefore : List Event → ℕ → ℕ → List Written → Type 0
HaveBefore events moment i xs = (j word : ℕ) (e : Event) → j < i → j < moment → slice_get events j ≡ Some e → word_of e ≡ Some word → Contains xs (written_from (j + 1) word)

pub none_before : (events : List Event) (moment : ℕ) (xs : List Written) → HaveBefore events moment 0 xs
none_before events moment xs j word e lt low at is = absurd (omega (arith, lt))

pub one_before : (events : List Event) (moment i : ℕ) (e : Event) (xs : List Written) → slice_get events i ≡ Some e → HaveBefore events moment i xs → HaveBefore events moment (i + 1) (xs ++ listed_of moment i (word_of e))
one_before events moment i e xs there h j word d lt low at is =
    elim (cases_lt j i) as (λ _. Contains (xs ++ listed_of moment i (word_of e)) (written_from (j + 1) word)) [
      | inl before ↦ Contains-append_left xs (listed_of moment i (word_of e)) (written_from (j + 1) word) (h j word d before low at is)
      | inr end ↦
          let same : j ≡ i = omega (arith, lt, end) in
          let one : d ≡ e = some_event d e (sym at ∙ ap (slice_get events) same ∙ there) in
          let new : Contains (listed_of moment i (word_of e)) (written_from (i + 1) word) = listed_there moment i word (word_of e) (sym (ap word_of one) ∙ is) (subst (λ k. k < moment) same low) in
          Contains-append_right xs (listed_of moment i (word_of e)) (written_from (j + 1) word) (subst (λ k. Contains (listed_of moment i (word_of e)) (written_from (k + 1) word)) (sym same) new)
    ]

pub all_before : (events : List Event) (moment i end : ℕ) (xs : List Written) → end ≡ min moment (length events) → end ≤ i → HaveBefore events moment i xs → HaveWritten events moment xs
all_before events moment i end xs e le h j word d lt at is =
    let within : j < length events = slice_get_within events j d at in
    h j word d (omega (arith, e, le, lt, within)) lt at is

-- ---- events that are kept in brief

-- what the first so many of them write is in the list
abbrev pub HaveOfFirst : List Event → List Brief → ℕ → ℕ → List Written → Type 0
HaveOfFirst events bs moment k xs = (r word : ℕ) (b : Brief) (e : Event) → r < k → slice_get bs r ≡ Some b → b.number < moment → slice_get events b.number ≡ Some e → word_of e ≡ Some word → Contains xs (written_from (b.number + 1) word)

pub none_of_first : (events : List Event) (bs : List Brief) (moment : ℕ) (xs : List Written) → HaveOfFirst events bs moment 0 xs
none_of_first events bs moment xs r word b e lt at low there is = absurd (omega (arith, lt))

pub one_of_first : (v : Keyed ℕ ℕ) (ps : List Pair) (bs : List Brief) (n moment k : ℕ) (b : Brief) (o : Option ℕ) (xs : List Written) → ArePlaced (length ps) 0 n bs → slice_get bs k ≡ Some b → ((left : ℕ) → o ≡ word_of (event_by left b (pair_at ps b.place))) →
    HaveOfFirst (events_from v ps bs 0 n) bs moment k xs → HaveOfFirst (events_from v ps bs 0 n) bs moment (k + 1) (xs ++ listed_of moment b.number o)
one_of_first v ps bs n moment k b o xs placed here own h r word c e lt at low there is =
    elim (cases_lt r k) as (λ _. Contains (xs ++ listed_of moment b.number o) (written_from (c.number + 1) word)) [
      | inl before ↦ Contains-append_left xs (listed_of moment b.number o) (written_from (c.number + 1) word) (h r word c e before at low there is)
      | inr end ↦
          let same : r ≡ k = omega (arith, lt, end) in
          let one : c ≡ b = some_brief c b (sym at ∙ ap (slice_get bs) same ∙ here) in
          let kept : slice_get (events_from v ps bs 0 n) b.number ≡ Some (event_of v ps b.number b) = event_kept v ps bs n k b placed here in
          let its : e ≡ event_of v ps b.number b = some_event e (event_of v ps b.number b) (sym there ∙ ap (λ (y : Brief). slice_get (events_from v ps bs 0 n) y.number) one ∙ kept) in
          let wrote : o ≡ Some word = own _ ∙ sym (ap word_of its) ∙ is in
          let new : Contains (listed_of moment b.number o) (written_from (b.number + 1) word) = listed_there moment b.number word o wrote (subst (λ (y : Brief). y.number < moment) one low) in
          Contains-append_right xs (listed_of moment b.number o) (written_from (c.number + 1) word) (subst (λ (y : Brief). Contains (listed_of moment b.number o) (written_from (y.number + 1) word)) (sym one) new)
    ]

pub all_of_first : (v : Keyed ℕ ℕ) (ps : List Pair) (bs : List Brief) (n moment k : ℕ) (xs : List Written) → length bs ≤ k → HaveOfFirst (events_from v ps bs 0 n) bs moment k xs → HaveWritten (events_from v ps bs 0 n) moment xs
all_of_first v ps bs n moment k xs all h i word e lt at is =
    let b = kept_writer v ps bs n word i (ap (writes_some word) at ∙ writes_own e word is) in
    let f = b.1 in
    let number : b.0.number ≡ i = f.number in
    subst (λ j. Contains xs (written_from (j + 1) word)) number
    (h f.rank word b.0 e (omega (arith, all, slice_get_within bs f.rank b.0 f.there)) f.there (subst (λ j. j < moment) (sym number) lt) (ap (slice_get (events_from v ps bs 0 n)) number ∙ at) is)
