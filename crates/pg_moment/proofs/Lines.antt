-- What is looked up by address, where words are kept by lines.
use Rattle.std.proofs.Common.{◌≡◌, ◌≢◌, ℕ, zero, suc, ◌<◌, ◌≤◌, inl, inr, Bool, true, false, cond, nat_eq, List, [], ◌∷◌, ◌++◌, map, length, slice_index_or, slice_set, Option, None, Some, Result, Ok, Err, OnOk, OnErr, refl, ap, sym, subst, ◌∙◌, arith}
use Rattle.std.specs.Map.{lookup}
use Rattle.std.specs.Option.{unwrap_or, option_map, is_some}
use Rattle.std.proofs.lemmas.Bool.{cases_Bool, eqb-true, eq-eqb, true≢false}
use Rattle.std.proofs.lemmas.List.{length-set, length-map, get_or-set_same, get_or-set_other}
use Rattle.std.proofs.lemmas.Map.Made.{lookup-map_values}
use Rattle.pg_timeline.specs.declared.timeline.Stamp.{Stamp}
use Rattle.pg_timeline.specs.Timelines.{cut_at}
use Rattle.pg_timeline.specs.Keyed.{stamps_in, AreBelow, AreCut, IsPushed}
use Rattle.pg_moment.specs.declared.log.Older.{Older}
use Rattle.pg_moment.specs.declared.word.Others.TheVariants.{Unwritten, Logged}
use Rattle.pg_moment.specs.declared.word.Word.{Word}
use Rattle.pg_moment.specs.Stamps.{Lists, cut_word, IsWord, stamps_of, unwritten}
use Rattle.pg_moment.specs.Words.{line_of, place_of, addr_of, words_below, words_of, no_words, Lines, line_at, word_at, AreWhole, IsWritten, IsAdded, cut_each}
use Rattle.pg_moment.proofs.Growing.{stamps_grown, IsWord-grown, stamps_written, IsWord-written}
use Rattle.pg_moment.proofs.Cuts.{stamps_cut, IsWord-cut}
use Rattle.pg_moment.proofs.Keeping.{keeps_first}

abbrev pub Stamps : Type 0
Stamps = List (ℕ × List (Stamp ℕ))

-- ---- addresses

pub place_below : (a : ℕ) → place_of a < 8
place_below a = omega arith

addr_back : (a : ℕ) → a ≡ addr_of (line_of a) (place_of a)
addr_back a = omega arith

line_back : (line place : ℕ) → place < 8 → line_of (addr_of line place) ≡ line
line_back line place within = omega (arith, within)

same_addr : (a b : ℕ) → line_of a ≡ line_of b → place_of a ≡ place_of b → a ≡ b
same_addr a b line place = omega (arith, line, place)

-- ---- two lists, one after the other

append-absent : (test : ℕ → Bool) (xs ys : Stamps) → lookup test xs ≡ None → lookup test (xs ++ ys) ≡ lookup test ys
append-absent test [] ys none = refl
append-absent test (x ∷ xs) ys none =
    elim (cases_Bool (test x.0)) [
      | inl it ↦ absurd (true≢false (ap is_some (sym (ap (λ b. cond b (Some x.1) (lookup test xs)) it) ∙ none)))
      | inr other ↦
          ap (λ b. cond b (Some x.1) (lookup test (xs ++ ys))) other
          ∙ append-absent test xs ys (sym (ap (λ b. cond b (Some x.1) (lookup test xs)) other) ∙ none)
    ]

append-found : (test : ℕ → Bool) (xs ys : Stamps) (v : List (Stamp ℕ)) → lookup test xs ≡ Some v → lookup test (xs ++ ys) ≡ Some v
append-found test [] ys v found = absurd (true≢false (sym (ap is_some found)))
append-found test (x ∷ xs) ys v found =
    elim (cases_Bool (test x.0)) [
      | inl it ↦
          ap (λ b. cond b (Some x.1) (lookup test (xs ++ ys))) it
          ∙ sym (ap (λ b. cond b (Some x.1) (lookup test xs)) it)
          ∙ found
      | inr other ↦
          ap (λ b. cond b (Some x.1) (lookup test (xs ++ ys))) other
          ∙ append-found test xs ys v (sym (ap (λ b. cond b (Some x.1) (lookup test xs)) other) ∙ found)
    ]

module _ (log : List Older) (lists : Lists) where
  -- ---- one line

  -- a word is found in its own line
  found_here : (a n : ℕ) (words : List Word) → place_of a < n →
      lookup (nat_eq a) (words_below log lists (line_of a) n words) ≡ Some (stamps_of log lists a (slice_index_or words (place_of a) unwritten))
  found_here a zero words within = absurd (omega (arith, within))
  found_here a (suc n) words within =
      let stamps : ℕ → List (Stamp ℕ) = λ i. stamps_of log lists (addr_of (line_of a) i) (slice_index_or words i unwritten) in
      let rest = lookup (nat_eq a) (words_below log lists (line_of a) n words) in
      elim (cases_Bool (nat_eq a (addr_of (line_of a) n))) [
        | inl it ↦
            let same : a ≡ addr_of (line_of a) n = eqb-true a (addr_of (line_of a) n) it in
            let place : n ≡ place_of a = omega (arith, same, within) in
            ap (λ b. cond b (Some (stamps n)) rest) it
            ∙ ap (λ i. Some (stamps i)) place
            ∙ ap (λ k. Some (stamps_of log lists k (slice_index_or words (place_of a) unwritten))) (sym (addr_back a))
        | inr other ↦
            let apart : place_of a ≢ n = λ e. true≢false (sym (eq-eqb a (addr_of (line_of a) n) (addr_back a ∙ ap (addr_of (line_of a)) e)) ∙ other) in
            ap (λ b. cond b (Some (stamps n)) rest) other
            ∙ found_here a n words (omega (arith, within, apart))
      ]

  -- and in no other
  found_nowhere : (a line n : ℕ) (words : List Word) → line_of a ≢ line → n ≤ 8 →
      lookup (nat_eq a) (words_below log lists line n words) ≡ None
  found_nowhere a line zero words apart within = refl
  found_nowhere a line (suc n) words apart within =
      elim (cases_Bool (nat_eq a (addr_of line n))) [
        | inl it ↦ absurd (apart (ap line_of (eqb-true a (addr_of line n) it) ∙ line_back line n (omega (arith, within))))
        | inr other ↦
            ap (λ b. cond b (Some (stamps_of log lists (addr_of line n) (slice_index_or words n unwritten))) (lookup (nat_eq a) (words_below log lists line n words))) other
            ∙ found_nowhere a line n words apart (omega (arith, within))
      ]

  -- ---- all lines

  none_at : (a i : ℕ) → stamps_of log lists a (slice_index_or no_words i unwritten) ≡ []
  none_at a zero = refl
  none_at a (suc zero) = refl
  none_at a (suc (suc zero)) = refl
  none_at a (suc (suc (suc zero))) = refl
  none_at a (suc (suc (suc (suc zero)))) = refl
  none_at a (suc (suc (suc (suc (suc zero))))) = refl
  none_at a (suc (suc (suc (suc (suc (suc zero)))))) = refl
  none_at a (suc (suc (suc (suc (suc (suc (suc zero))))))) = refl
  none_at a (suc (suc (suc (suc (suc (suc (suc (suc i)))))))) = refl

  -- the stamps of an address are those of the word there
  pub stamps_at_word : (lines : Lines) (a : ℕ) → stamps_in nat_eq (words_of log lists lines) a ≡ stamps_of log lists a (word_at lines a)
  stamps_at_word [] a = sym (none_at a (place_of a))
  stamps_at_word (e ∷ es) a =
      let at : Option (List Word) → List (Stamp ℕ) = λ o. stamps_of log lists a (slice_index_or (unwrap_or o no_words) (place_of a) unwritten) in
      elim (cases_Bool (nat_eq (line_of a) e.0)) [
        | inl it ↦
            let same : line_of a ≡ e.0 = eqb-true (line_of a) e.0 it in
            let here = stamps_of log lists a (slice_index_or e.1 (place_of a) unwritten) in
            let found : lookup (nat_eq a) (words_below log lists e.0 8 e.1) ≡ Some here =
            subst (λ k. lookup (nat_eq a) (words_below log lists k 8 e.1) ≡ Some here) same (found_here a 8 e.1 (place_below a)) in
            ap (λ o. unwrap_or o []) (append-found (nat_eq a) (words_below log lists e.0 8 e.1) (words_of log lists es) here found)
            ∙ sym (ap (λ b. at (cond b (Some e.1) (lookup (nat_eq (line_of a)) es))) it)
        | inr other ↦
            let apart : line_of a ≢ e.0 = λ same. true≢false (sym (eq-eqb (line_of a) e.0 same) ∙ other) in
            ap (λ o. unwrap_or o []) (append-absent (nat_eq a) (words_below log lists e.0 8 e.1) (words_of log lists es) (found_nowhere a e.0 8 e.1 apart (omega arith)))
            ∙ stamps_at_word es a
            ∙ sym (ap (λ b. at (cond b (Some e.1) (lookup (nat_eq (line_of a)) es))) other)
      ]

  pub stamps_found : (lines : Lines) (a : ℕ) (words : List Word) → lookup (nat_eq (line_of a)) lines ≡ Some words →
      stamps_in nat_eq (words_of log lists lines) a ≡ stamps_of log lists a (slice_index_or words (place_of a) unwritten)
  stamps_found lines a words found =
      stamps_at_word lines a ∙ ap (λ o. stamps_of log lists a (slice_index_or (unwrap_or o no_words) (place_of a) unwritten)) found

  pub stamps_none : (lines : Lines) (a : ℕ) → lookup (nat_eq (line_of a)) lines ≡ None → stamps_in nat_eq (words_of log lists lines) a ≡ []
  stamps_none lines a none =
      stamps_at_word lines a
      ∙ ap (λ o. stamps_of log lists a (slice_index_or (unwrap_or o no_words) (place_of a) unwritten)) none
      ∙ none_at a (place_of a)

pub word_found : (lines : Lines) (a : ℕ) (words : List Word) → lookup (nat_eq (line_of a)) lines ≡ Some words → word_at lines a ≡ slice_index_or words (place_of a) unwritten
word_found lines a words found = ap (λ o. slice_index_or (unwrap_or o no_words) (place_of a) unwritten) found

unwritten_at : (i : ℕ) → slice_index_or no_words i unwritten ≡ unwritten
unwritten_at zero = refl
unwritten_at (suc zero) = refl
unwritten_at (suc (suc zero)) = refl
unwritten_at (suc (suc (suc zero))) = refl
unwritten_at (suc (suc (suc (suc zero)))) = refl
unwritten_at (suc (suc (suc (suc (suc zero))))) = refl
unwritten_at (suc (suc (suc (suc (suc (suc zero)))))) = refl
unwritten_at (suc (suc (suc (suc (suc (suc (suc zero))))))) = refl
unwritten_at (suc (suc (suc (suc (suc (suc (suc (suc i)))))))) = refl

pub AreWhole-none : (log : List Older) (lists : Lists) → AreWhole log lists []
AreWhole-none log lists = record {
  at = λ k. refl;
  words = λ a. subst (IsWord log lists a) (sym (unwritten_at (place_of a))) tt;
}

-- ---- one more stamp

chosen : (b : Bool) (x d : List Word) (o : Option (List Word)) → unwrap_or (cond b (Some x) o) d ≡ cond b x (unwrap_or o d)
chosen true x d o = refl
chosen false x d o = refl

module _ (log : List Older) (lists : Lists) (log' : List Older) (lists' : Lists) (addr : ℕ) (stamp : Stamp ℕ) (old new : Lines) (whole : AreWhole log lists old) (below : AreBelow stamp.moment (stamps_of log lists addr (word_at old addr))) (added : IsAdded log lists log' lists' addr stamp old new) where
  abbrev before : List Word
  before = line_at old (line_of addr)

  abbrev after : Word
  after = record { value = stamp.value; moment = stamp.moment; others = added.written.others }

  line_after : (k : ℕ) → line_at new k ≡ cond (nat_eq (line_of addr) k) added.words (line_at old k)
  line_after k =
      ap (λ o. unwrap_or o no_words) (added.at k)
      ∙ chosen (nat_eq (line_of addr) k) added.words no_words (lookup (nat_eq k) old)

  -- the word at the address is the new one, and every other is as it was
  word_here : word_at new addr ≡ after
  word_here =
      ap (λ ws. slice_index_or ws (place_of addr) unwritten) (line_after (line_of addr) ∙ ap (λ b. cond b added.words before) (eq-eqb (line_of addr) (line_of addr) refl) ∙ added.written.line)
      ∙ get_or-set_same before (place_of addr) after unwritten (omega (arith, whole.at (line_of addr), place_below addr))

  word_elsewhere : (a : ℕ) → nat_eq addr a ≡ false → word_at new a ≡ word_at old a
  word_elsewhere a other =
      elim (cases_Bool (nat_eq (line_of addr) (line_of a))) [
        | inl near ↦
            let line : line_of addr ≡ line_of a = eqb-true (line_of addr) (line_of a) near in
            let apart : place_of a ≢ place_of addr = λ place. true≢false (sym (eq-eqb addr a (same_addr addr a line (sym place))) ∙ other) in
            ap (λ ws. slice_index_or ws (place_of a) unwritten) (line_after (line_of a) ∙ ap (λ b. cond b added.words (line_at old (line_of a))) near ∙ added.written.line)
            ∙ get_or-set_other before (place_of addr) (place_of a) after unwritten apart
            ∙ ap (λ k. slice_index_or (line_at old k) (place_of a) unwritten) line
        | inr far ↦
            ap (λ ws. slice_index_or ws (place_of a) unwritten) (line_after (line_of a) ∙ ap (λ b. cond b added.words (line_at old (line_of a))) far)
      ]

  pub AreWhole-added : AreWhole log' lists' new
  AreWhole-added = record {
    at = λ k.
        ap length (line_after k)
        ∙ elim (cases_Bool (nat_eq (line_of addr) k)) [
          | inl it ↦
              ap (λ b. length (cond b added.words (line_at old k))) it
              ∙ ap length added.written.line
              ∙ length-set before (place_of addr) after
              ∙ whole.at (line_of addr)
          | inr other ↦ ap (λ b. length (cond b added.words (line_at old k))) other ∙ whole.at k
        ];
    words = λ a.
        elim (cases_Bool (nat_eq addr a)) [
          | inl it ↦
              subst (λ k. IsWord log' lists' k (word_at new k)) (eqb-true addr a it)
              (subst (IsWord log' lists' addr) (sym word_here)
              (IsWord-written log lists log' lists' addr (word_at old addr) added.written.others stamp added.written.kept below))
          | inr other ↦
              subst (IsWord log' lists' a) (sym (word_elsewhere a other))
              (IsWord-grown log lists log' lists' addr (word_at old addr) added.written.others a (word_at old a) added.written.kept other (whole.words a))
        ];
  }

  pub IsPushed-added : IsPushed nat_eq (words_of log lists old) (words_of log' lists' new) addr stamp
  IsPushed-added = record {
    at = λ a.
        let mine = stamps_in nat_eq (words_of log lists old) addr ++ stamp ∷ [] in
        let its = stamps_in nat_eq (words_of log lists old) a in
        stamps_at_word log' lists' new a
        ∙ elim (cases_Bool (nat_eq addr a)) [
          | inl it ↦
              let same : addr ≡ a = eqb-true addr a it in
              subst (λ k. stamps_of log' lists' k (word_at new k) ≡ mine) same
              (ap (stamps_of log' lists' addr) word_here
              ∙ stamps_written log lists log' lists' addr (word_at old addr) added.written.others stamp added.written.kept
              ∙ ap (λ xs. xs ++ stamp ∷ []) (sym (stamps_at_word log lists old addr)))
              ∙ sym (ap (λ b. cond b mine its) it)
          | inr other ↦
              ap (stamps_of log' lists' a) (word_elsewhere a other)
              ∙ stamps_grown log lists log' lists' addr (word_at old addr) added.written.others a (word_at old a) added.written.kept other (whole.words a)
              ∙ sym (stamps_at_word log lists old a)
              ∙ sym (ap (λ b. cond b mine its) other)
        ];
  }

-- ---- every word cut

at_place-cut : (f : Word → Word) (i : ℕ) (words : List Word) → f unwritten ≡ unwritten → slice_index_or (map f words) i unwritten ≡ f (slice_index_or words i unwritten)
at_place-cut f i [] none = sym none
at_place-cut f zero (w ∷ words) none = refl
at_place-cut f (suc i) (w ∷ words) none = at_place-cut f i words none

module _ (log : List Older) (m : ℕ) where
  none_cut : map (cut_word log m) no_words ≡ no_words
  none_cut = refl

  cut_or_none : (o : Option (List Word)) → unwrap_or (option_map (map (cut_word log m)) o) no_words ≡ map (cut_word log m) (unwrap_or o no_words)
  cut_or_none None = sym none_cut
  cut_or_none (Some words) = refl

  line_at-cut : (lines : Lines) (k : ℕ) → line_at (cut_each log m lines) k ≡ map (cut_word log m) (line_at lines k)
  line_at-cut lines k =
      ap (λ o. unwrap_or o no_words) (lookup-map_values (map (cut_word log m)) (nat_eq k) lines)
      ∙ cut_or_none (lookup (nat_eq k) lines)

  word_at-cut : (lines : Lines) (a : ℕ) → word_at (cut_each log m lines) a ≡ cut_word log m (word_at lines a)
  word_at-cut lines a =
      ap (λ ws. slice_index_or ws (place_of a) unwritten) (line_at-cut lines (line_of a))
      ∙ at_place-cut (cut_word log m) (place_of a) (line_at lines (line_of a)) refl

  module _ (lists lists' : Lists) (lines : Lines) (whole : AreWhole log lists lines) (cut : AreCut nat_eq lists lists' m) where
    pub AreWhole-cut : AreWhole log lists' (cut_each log m lines)
    AreWhole-cut = record {
      at = λ k. ap length (line_at-cut lines k) ∙ length-map (line_at lines k) (cut_word log m) ∙ whole.at k;
      words = λ a. subst (IsWord log lists' a) (sym (word_at-cut lines a)) (IsWord-cut log lists lists' m a (word_at lines a) (cut.at a) (whole.words a));
    }

    pub AreCut-lines : AreCut nat_eq (words_of log lists lines) (words_of log lists' (cut_each log m lines)) m
    AreCut-lines = record {
      at = λ a.
          stamps_at_word log lists' (cut_each log m lines) a
          ∙ ap (stamps_of log lists' a) (word_at-cut lines a)
          ∙ stamps_cut log lists lists' m a (word_at lines a) (cut.at a) (whole.words a)
          ∙ ap (cut_at m) (sym (stamps_at_word log lists lines a));
    }

pub at_any : (words : List Word) (i : ℕ) (d : Word) → i < length words → slice_index_or words i d ≡ slice_index_or words i unwritten
at_any [] i d within = absurd (omega (arith, within))
at_any (w ∷ words) zero d within = refl
at_any (w ∷ words) (suc i) d within = at_any words i d (omega (arith, within))

-- the first so many words of a line are cut
pub cut_first : (Word → Word) → ℕ → List Word → List Word
cut_first f zero words = words
cut_first f (suc n) [] = []
cut_first f (suc n) (w ∷ words) = f w ∷ cut_first f n words

pub cut_first-none : (f : Word → Word) (words : List Word) → cut_first f 0 words ≡ words
unfolding cut_first
cut_first-none f words = refl

pub cut_first-next : (f : Word → Word) (i : ℕ) (words : List Word) → slice_set (cut_first f i words) i (f (slice_index_or (cut_first f i words) i unwritten)) ≡ cut_first f (suc i) words
unfolding cut_first
cut_first-next f zero [] = refl
cut_first-next f (suc i) [] = refl
cut_first-next f zero (w ∷ words) = refl
cut_first-next f (suc i) (w ∷ words) = ap (λ l. f w ∷ l) (cut_first-next f i words)

pub cut_first-all : (f : Word → Word) (n : ℕ) (words : List Word) → length words ≤ n → cut_first f n words ≡ map f words
unfolding cut_first
cut_first-all f zero [] within = refl
cut_first-all f zero (w ∷ words) within = absurd (omega (arith, within))
cut_first-all f (suc n) [] within = refl
cut_first-all f (suc n) (w ∷ words) within = ap (λ l. f w ∷ l) (cut_first-all f n words (omega (arith, within)))

-- the first value of a line
pub IsAdded-first : (log : List Older) (lists : Lists) (addr : ℕ) (stamp : Stamp ℕ) (old new : Lines) (line : List Word) → lookup (nat_eq (line_of addr)) old ≡ None →
    line ≡ slice_set no_words (place_of addr) (record { value = stamp.value; moment = stamp.moment; others = Logged 0 0 }) → ((k : ℕ) → lookup (nat_eq k) new ≡ cond (nat_eq (line_of addr) k) (Some line) (lookup (nat_eq k) old)) →
    IsAdded log lists log lists addr stamp old new
IsAdded-first log lists addr stamp old new line absent is at =
    let empty : line_at old (line_of addr) ≡ no_words = ap (λ o. unwrap_or o no_words) absent in
    let first : (slice_index_or (line_at old (line_of addr)) (place_of addr) unwritten).others ≡ Unwritten =
    ap (λ ws. (slice_index_or ws (place_of addr) unwritten).others) empty ∙ ap (λ (w : Word). w.others) (unwritten_at (place_of addr)) in
    record {
      words = line;
      written = record {
        others = Logged 0 0;
        kept = keeps_first log lists addr (slice_index_or (line_at old (line_of addr)) (place_of addr) unwritten) first;
        line = is ∙ ap (λ ws. slice_set ws (place_of addr) (record { value = stamp.value; moment = stamp.moment; others = Logged 0 0 })) (sym empty);
      };
      at = at;
    }

-- another value of a word whose line is there
pub IsAdded-found : (log : List Older) (lists : Lists) (log' : List Older) (lists' : Lists) (addr : ℕ) (stamp : Stamp ℕ) (old new : Lines) (words line : List Word) → lookup (nat_eq (line_of addr)) old ≡ Some words →
    IsWritten log lists log' lists' addr stamp words line → ((k : ℕ) → lookup (nat_eq k) new ≡ cond (nat_eq (line_of addr) k) (Some line) (lookup (nat_eq k) old)) →
    IsAdded log lists log' lists' addr stamp old new
IsAdded-found log lists log' lists' addr stamp old new words line found written at = record {
  words = line;
  written = subst (λ ws. IsWritten log lists log' lists' addr stamp ws line) (sym (ap (λ o. unwrap_or o no_words) found)) written;
  at = at;
}

-- every line and word is whole after a value was added, or was not
pub AreWhole-after : {E : Type 0} (r : Result (Unit {0}) E) (log : List Older) (lists : Lists) (log' : List Older) (lists' : Lists) (addr : ℕ) (stamp : Stamp ℕ) (old new : Lines) → AreWhole log lists old →
    AreBelow stamp.moment (stamps_of log lists addr (word_at old addr)) → OnOk r (IsAdded log lists log' lists' addr stamp old new) → OnErr r ((new ≡ old) × (log' ≡ log) × (lists' ≡ lists)) → AreWhole log' lists' new
AreWhole-after (Ok x) log lists log' lists' addr stamp old new whole below ok err = AreWhole-added log lists log' lists' addr stamp old new whole below ok
AreWhole-after (Err e) log lists log' lists' addr stamp old new whole below ok err = rw (err.0, err.1, err.2) whole
