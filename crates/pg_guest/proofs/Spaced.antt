-- Words with spaces between them are those words, and lines that LFs end are those lines.
use Rattle.std.proofs.Common.{◌≡◌, ◌∙◌, ◌<◌, ◌≤◌, ◌+◌, ℕ, Bool, true, false, List, [], ◌∷◌, ◌++◌, length, refl, ap, subst, arith, eqb}
use Rattle.std.specs.Prelude.{if◌then◌else◌, ◌==◌, ◌&&◌}
use Rattle.std.specs.List.{AllByRecursion}
use Rattle.std.proofs.lemmas.Bool.{le-leb, eqb-true}
use Rattle.std.proofs.lemmas.List.{append-nil}
use Rattle.std.proofs.lemmas.List.Elements.{All-from_recursion}
use Rattle.std.proofs.lemmas.List.Splits.{slice_split_none, slice_split_at}
use Rattle.pg_guest.specs.Lines.{Lines, Ended, Line, pieces, lines_of, words_of, is_plain, is_skipped, told}
use Rattle.pg_guest.specs.Words.{Words}
use Rattle.pg_guest.specs.Spelling.{spaced, text_of_lines}
use Rattle.pg_guest.proofs.Digits.{IsVisible, IsWord}
use Rattle.pg_guest.proofs.Fronts.{lines_of_cut}

-- a byte of a word or a space
abbrev pub IsPlainByte : ℕ → Type 0
IsPlainByte b = (0x20 ≤ b) × (b ≤ 0x7E)

each : {A : Type 0} (P Q : A → Type 0) (xs : List A) → ((x : A) → P x → Q x) → AllByRecursion P xs → AllByRecursion Q xs
each P Q [] f a = tt
each P Q (x ∷ xs) f a = (f x a.0, each P Q xs f a.1)

no_space : (b : ℕ) → IsVisible b → eqb b 32 ≡ false
no_space b v = let low = v.0 in go (eqb b 32) refl
  where
    go : (z : Bool) → eqb b 32 ≡ z → z ≡ false
    go true is = let low = v.0 in let same = eqb-true b 32 is in absurd (omega arith)
    go false is = refl

no_lf : (b : ℕ) → IsPlainByte b → eqb b 10 ≡ false
no_lf b v = go (eqb b 10) refl
  where
    go : (z : Bool) → eqb b 10 ≡ z → z ≡ false
    go true is = let low = v.0 in let same = eqb-true b 10 is in absurd (omega arith)
    go false is = refl

abbrev pub AreWords : Words → Type 0
AreWords words = AllByRecursion IsWord words

-- a line of at least one word
pub record IsSpoken (words : Words) : Type 0 where
  pub some : 0 < length words
  pub are : AreWords words

split_spaced : (words : Words) → 0 < length words → AreWords words → words_of (spaced words) ≡ words
split_spaced [] some are = absurd (omega arith)
split_spaced (word ∷ []) some are =
    slice_split_none (λ b. b == 32) word (All-from_recursion (λ b. eqb b 32 ≡ false) word (each IsVisible (λ b. eqb b 32 ≡ false) word no_space are.0.visible))
split_spaced (word ∷ next ∷ words) some are =
    slice_split_at (λ b. b == 32) word 32 (spaced (next ∷ words)) (All-from_recursion (λ b. eqb b 32 ≡ false) word (each IsVisible (λ b. eqb b 32 ≡ false) word no_space are.0.visible)) refl
    ∙ ap (λ ws. word ∷ ws) (split_spaced (next ∷ words) (omega arith) are.1)

pub words_said : (words : Words) → IsSpoken words → words_of (spaced words) ≡ words
words_said words is = split_spaced words is.some is.are

plain-append : (xs ys : List ℕ) → AllByRecursion IsPlainByte xs → AllByRecursion IsPlainByte ys → AllByRecursion IsPlainByte (xs ++ ys)
plain-append [] ys a b = b
plain-append (x ∷ xs) ys a b = (a.0, plain-append xs ys a.1 b)

visible_plain : (b : ℕ) → IsVisible b → IsPlainByte b
visible_plain b v = let low = v.0 in (omega arith, v.1)

plain_bytes : (words : Words) → AreWords words → AllByRecursion IsPlainByte (spaced words)
plain_bytes [] are = tt
plain_bytes (word ∷ []) are = each IsVisible IsPlainByte word visible_plain are.0.visible
plain_bytes (word ∷ next ∷ words) are =
    plain-append word (32 ∷ spaced (next ∷ words)) (each IsVisible IsPlainByte word visible_plain are.0.visible) ((omega arith, omega arith), plain_bytes (next ∷ words) are.1)

test_plain : (bytes : List ℕ) → AllByRecursion IsPlainByte bytes → is_plain bytes ≡ true
test_plain [] a = refl
test_plain (b ∷ bytes) a = rw (le-leb 0x20 b a.0.0) (rw (le-leb b 0x7E a.0.1) (test_plain bytes a.1))

pub plain_said : (words : Words) → IsSpoken words → is_plain (spaced words) ≡ true
plain_said words is = test_plain (spaced words) (plain_bytes words is.are)

no_comment : (word more : List ℕ) → IsWord word → is_skipped (word ++ more) ≡ false
no_comment [] more is = let some = is.some in absurd (omega arith)
no_comment (b ∷ bytes) more is = go (eqb b 0x23) refl
  where
    go : (z : Bool) → eqb b 0x23 ≡ z → z ≡ false
    go true same = let low = is.visible.0.0 in let at = eqb-true b 0x23 same in absurd (omega arith)
    go false same = refl

told_words : (words : Words) → 0 < length words → AreWords words → is_skipped (spaced words) ≡ false
told_words [] some are = absurd (omega arith)
told_words (word ∷ []) some are = subst (λ bytes. is_skipped bytes ≡ false) (append-nil word) (no_comment word [] are.0)
told_words (word ∷ next ∷ words) some are = no_comment word (32 ∷ spaced (next ∷ words)) are.0

-- ---- lines

-- lines of words, from a number on
abbrev pub numbered : ℕ → List Words → Lines
numbered n [] = Ended n
numbered n (words ∷ lines) = Line n (spaced words) (numbered (n + 1) lines)

abbrev pub AreSpoken : List Words → Type 0
AreSpoken lines = AllByRecursion IsSpoken lines

pub lines_said : (n : ℕ) (lines : List Words) → AreSpoken lines → lines_of n (text_of_lines lines) ≡ numbered n lines
lines_said n [] are = refl
lines_said n (words ∷ lines) are =
    let bytes = text_of_lines lines in
    let line = spaced words in
    let cut : pieces 10 (line ++ 10 ∷ bytes) ≡ line ∷ pieces 10 bytes =
    slice_split_at (λ b. b == 10) line 10 bytes (All-from_recursion (λ b. eqb b 10 ≡ false) line (each IsPlainByte (λ b. eqb b 10 ≡ false) line no_lf (plain_bytes words are.0.are))) refl in
    lines_of_cut n (line ++ 10 ∷ bytes) line bytes cut ∙ ap (Line n line) (lines_said (n + 1) lines are.1)

and_false : (a : Bool) → (a && false) ≡ false
and_false true = refl
and_false false = refl

pub told_said : (n : ℕ) (lines : List Words) → AreSpoken lines → told (numbered n lines) ≡ numbered n lines
told_said n [] are = refl
told_said n (words ∷ lines) are =
    let more = told (numbered (n + 1) lines) in
    ap (λ b. if is_plain (spaced words) && b then more else Line n (spaced words) more) (told_words words are.0.some are.0.are)
    ∙ ap (λ b. if b then more else Line n (spaced words) more) (and_false (is_plain (spaced words)))
    ∙ ap (Line n (spaced words)) (told_said (n + 1) lines are.1)
