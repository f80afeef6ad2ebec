use Rattle.std.proofs.Common.{◌≡◌, ℕ, List, ◌++◌, append_assoc, ap, ◌∙◌, if◌then◌else◌, Result, Ok, Err, OnOk}
use Rattle.std.specs.Result.{is_ok}

-- one text written after another, and so on
pub two_written : (old one two a b : List ℕ) → one ≡ old ++ a → two ≡ one ++ b → two ≡ old ++ (a ++ b)
two_written old one two a b p q = q ∙ ap (λ t. t ++ b) p ∙ append_assoc old a b

pub three_written : (old one two three a b c : List ℕ) → one ≡ old ++ a → two ≡ one ++ b → three ≡ two ++ c → three ≡ old ++ (a ++ (b ++ c))
three_written old one two three a b c p q r = two_written old one three a (b ++ c) p (two_written one two three b c q r)

pub five_written : (old one two three four five a b c d e : List ℕ) → one ≡ old ++ a → two ≡ one ++ b → three ≡ two ++ c → four ≡ three ++ d → five ≡ four ++ e → five ≡ old ++ (a ++ (b ++ (c ++ (d ++ e))))
five_written old one two three four five a b c d e p q r s t =
    two_written old one five a (b ++ (c ++ (d ++ e))) p
    (two_written one two five b (c ++ (d ++ e)) q (three_written two three four five c d e r s t))

-- a text that a last call wrote
pub last_written : {T E : Type 0} → (r : Result T E) (new old a : List ℕ) → new ≡ (if is_ok r then old ++ a else old) → OnOk r (new ≡ old ++ a)
last_written (Ok x) new old a h = h
last_written (Err e) new old a h = tt
