-- What std reads of digits is the number that they spell, and the digits of a number spell it.
use Rattle.std.proofs.Common.{◌≡◌, ◌<◌, ◌≤◌, ◌+◌, ◌/◌, ◌%◌, ◌^◌, ℕ, zero, suc, Bool, true, false, List, [], ◌∷◌, Option, Some, None, length, refl, sym, ap, arith, ltb, leb, eqb}
use Rattle.std.specs.Prelude.{if◌then◌else◌, Result, Ok, Err}
use Rattle.std.specs.Bool.{Decides}
use Rattle.std.specs.Char.{is_digit, digit_value}
use Rattle.std.specs.Fmt.{digit_glyph, digits_onto, digits}
use Rattle.std.specs.List.{AllByRecursion, list_all}
use Rattle.std.specs.Option.{SomeIff}
use Rattle.std.specs.Result.{OkIff, result_ok}
use Rattle.std.specs.Str.{IsAscii, IsUtf8}
use Rattle.std.specs.Str.Parse.{AllDigits, IsNumeral, digits_value}
use Rattle.std.proofs.Math.Nat.{pow-zero, pow-suc, pow-le-pow_right, mod-lt, div-lt_iff_lt-mul}
use Rattle.std.proofs.lemmas.Bool.{le-leb, leb-true, eqb-false}
use Rattle.std.proofs.lemmas.Bool.Decides.{Decides-and, Decides-like, Decides-ltb, nat_tests}
use Rattle.std.proofs.lemmas.Fmt.{digits_is_IsNumeral}
use Rattle.std.proofs.lemmas.Int.Digits.{digits_value-lt}
use Rattle.std.proofs.lemmas.Str.{IsUtf8-from_ascii}
use Rattle.std.proofs.lemmas.Str.Ascii.{IsAscii-nil, IsAscii-cons}
use Rattle.pg_guest.specs.Numbers.{are_digits, spelled, dec_of, hex_of}
use Rattle.pg_guest.specs.Spelling.{dec_word, hex_word}

-- one digit or more, but at most so many
abbrev AreDigits : ℕ → ℕ → List ℕ → Type 0
AreDigits base most word = IsNumeral base word × (length word ≤ most)

all_digits : (base : ℕ) (word : List ℕ) → Decides (list_all (λ b. is_digit b base) word) (AllDigits base word)
all_digits base [] = (λ e. tt, λ a. refl)
all_digits base (b ∷ word) = Decides-and (is_digit b base) (list_all (λ x. is_digit x base) word) (Decides-ltb (digit_value b) base) (all_digits base word)

decided : (base most : ℕ) (word : List ℕ) → Decides (are_digits base most word) (AreDigits base most word)
decided base most word =
    let some : Decides (leb 1 (length word)) (1 ≤ length word) = (leb-true 1 (length word), le-leb 1 (length word)) in
    let few : Decides (leb (length word) most) (length word ≤ most) = (leb-true (length word) most, le-leb (length word) most) in
    Decides-like (are_digits base most word) (λ h. ((omega (arith, h.0.0), h.1), h.0.1)) (λ h. ((omega (arith, h.0.0), h.1), h.0.1))
    (Decides-and _ _ (Decides-and _ _ some few) (all_digits base word))

-- what is read is what is spelled
pub spelled_is : (base most : ℕ) (word : List ℕ) (read : Option ℕ) → SomeIff read (AreDigits base most word) (digits_value base word) → read ≡ spelled base most word
spelled_is base most word read is = go read is (are_digits base most word) refl
  where
    go : (o : Option ℕ) → SomeIff o (AreDigits base most word) (digits_value base word) → (z : Bool) → are_digits base most word ≡ z → o ≡ (if z then Some (digits_value base word) else None)
    go None none true e = absurd (none ((decided base most word).0 e))
    go None none false e = refl
    go (Some n) h true e = ap Some h.1
    go (Some n) h false e = let yes = (decided base most word).1 h.0 in cc

-- ---- the code

-- a byte of a word: none of them is a space or `#`
abbrev pub IsVisible : ℕ → Type 0
IsVisible b = (0x24 ≤ b) × (b ≤ 0x7E)

visible_digit : (b : ℕ) → digit_value b < 16 → IsVisible b
visible_digit b lt = (grind (arith, nat_tests), grind (arith, nat_tests))

digits_ascii : (base : ℕ) (word : List ℕ) → base ≤ 16 → AllDigits base word → IsAscii word
digits_ascii base [] high all = IsAscii-nil
digits_ascii base (b ∷ word) high all =
    let visible = visible_digit b (omega (arith, all.0)) in
    IsAscii-cons b word (omega (arith, visible.1)) (digits_ascii base word high all.1)

-- what is no text is no number
pub spelled_none : (base most : ℕ) (word : List ℕ) → base ≤ 16 → (IsUtf8 word → ⊥) → None ≡ spelled base most word
spelled_none base most word high bad = spelled_is base most word None (λ are. bad (IsUtf8-from_ascii word (digits_ascii base word high are.0.1)))

-- what std reads after no sign fits 64 bits
pub spelled_parsed : {E : Type 0} (base most : ℕ) (word : List ℕ) (r : Result ℕ E) → 2 ≤ base → base ^ most ≤ 2 ^ 64 → length word ≤ most
    → OkIff r (IsNumeral base word × (digits_value base word < 2 ^ 64)) (digits_value base word) → result_ok r ≡ spelled base most word
spelled_parsed {E} base most word r low fits few is = spelled_is base most word (result_ok r) (go r is)
  where
    go : (q : Result ℕ E) → OkIff q (IsNumeral base word × (digits_value base word < 2 ^ 64)) (digits_value base word) → SomeIff (result_ok q) (AreDigits base most word) (digits_value base word)
    go (Ok n) h = ((h.0.0, few), h.1)
    go (Err e) none = λ are.
        let some : 0 < base = omega arith in
        let all = digits_value-lt base word are.0.1 in
        let whole : base ^ length word ≤ base ^ most = pow-le-pow_right {n = base} some {i = length word} {j = most} few in
        none (are.0, omega (arith, all, whole, fits))

-- ---- the digits of a number

-- a word: at least one byte, and each is visible
pub record IsWord (word : List ℕ) : Type 0 where
  pub some : 0 < length word
  pub visible : AllByRecursion IsVisible word

either : (b : Bool) {xs ys : List ℕ} → IsWord xs → IsWord ys → IsWord (if b then xs else ys)
either true x y = x
either false x y = y

module _ (base : ℕ) (low : 2 ≤ base) (high : base ≤ 16) where
  base_some : 0 < base
  base_some = omega arith

  visible_glyph : (n : ℕ) → IsVisible (digit_glyph false (n % base))
  visible_glyph n = let rest = mod-lt n base_some in go (ltb (n % base) 10) rest
    where
      go : (z : Bool) → n % base < base → IsVisible (if z then 48 + n % base else 87 + n % base)
      go true rest = (omega arith, omega arith)
      go false rest = (omega arith, omega arith)

  one_more : (n : ℕ) (bytes : List ℕ) → AllByRecursion IsVisible bytes → IsWord (digit_glyph false (n % base) ∷ bytes)
  one_more n bytes all = record { some = omega arith; visible = (visible_glyph n, all) }

  onto_is_word : (k n : ℕ) (bytes : List ℕ) → AllByRecursion IsVisible bytes → IsWord (digits_onto (suc k) base false n bytes)
  onto_is_word zero n bytes all = either (eqb (n / base) 0) (one_more n bytes all) (one_more n bytes all)
  onto_is_word (suc k) n bytes all = either (eqb (n / base) 0) (one_more n bytes all) (onto_is_word k (n / base) (digit_glyph false (n % base) ∷ bytes) (visible_glyph n, all))

  length-onto : (k most n : ℕ) (bytes : List ℕ) → 0 < most → n < base ^ most → length (digits_onto k base false n bytes) ≤ most + length bytes
  length-onto zero most n bytes some lt = omega arith
  length-onto (suc k) zero n bytes some lt = absurd (omega arith)
  length-onto (suc k) (suc most) n bytes some lt = go (eqb (n / base) 0) refl (length-onto k most (n / base) (digit_glyph false (n % base) ∷ bytes))
    where
      more : List ℕ
      more = digit_glyph false (n % base) ∷ bytes

      fewer : n / base < base ^ most
      fewer = (div-lt_iff_lt-mul base_some).1 (omega (arith, pow-suc base most, lt))

      left : (m : ℕ) → n / base < base ^ m → (n / base ≡ 0 → ⊥) → 0 < m
      left zero less other = absurd (other (omega (arith, pow-zero base, less)))
      left (suc m) less other = omega arith

      go : (z : Bool) → eqb (n / base) 0 ≡ z → (0 < most → n / base < base ^ most → length (digits_onto k base false (n / base) more) ≤ most + length more)
          → length (if z then more else digits_onto k base false (n / base) more) ≤ suc most + length bytes
      go true e later = omega arith
      go false e later = let rest = later (left most fewer (eqb-false (n / base) 0 e)) fewer in omega arith

  digits_are_word : (n : ℕ) → IsWord (digits base false n)
  unfolding digits
  digits_are_word n = onto_is_word 63 n [] tt

  length-digits : (most n : ℕ) → 0 < most → n < base ^ most → length (digits base false n) ≤ most
  unfolding digits
  length-digits most n some lt = let few = length-onto 64 most n [] some lt in omega arith

  spelled_digits : (most n : ℕ) → 0 < most → most ≤ 64 → n < base ^ most → spelled base most (digits base false n) ≡ Some n
  spelled_digits most n some few lt =
      let wide : base ^ most ≤ base ^ 64 = pow-le-pow_right {n = base} base_some {i = most} {j = 64} few in
      let is = digits_is_IsNumeral base false low high n (omega (arith, lt, wide)) in
      sym (spelled_is base most (digits base false n) (Some n) ((is.0, length-digits most n some lt), sym is.1))

pub dec_said : (n : ℕ) → n < 10 ^ 10 → dec_of (dec_word n) ≡ Some n
unfolding dec_of
dec_said n lt = spelled_digits 10 (omega arith) (omega arith) 10 n (omega arith) (omega arith) lt

pub hex_said : (n : ℕ) → n < 2 ^ 64 → hex_of (hex_word n) ≡ Some n
unfolding hex_of
hex_said n lt = spelled_digits 16 (omega arith) (omega arith) 16 n (omega arith) (omega arith) (omega (arith, lt))

pub dec_is_word : (n : ℕ) → IsWord (dec_word n)
dec_is_word n = digits_are_word 10 (omega arith) (omega arith) n

pub hex_is_word : (n : ℕ) → IsWord (hex_word n)
hex_is_word n =
    let is = digits_are_word 16 (omega arith) (omega arith) n in
    record { some = omega arith; visible = ((omega arith, omega arith), ((omega arith, omega arith), is.visible)) }
