-- Lines, written piece by piece.
use Rattle.std.proofs.Common.{◌≡◌, ℕ, suc, codes, ◌+◌, ◌-◌, ◌<◌, Bool, true, false, List, ◌∷◌, ◌++◌, refl, ap, ◌∙◌, arith, cond, if◌then◌else◌, Result, Ok, Err, OnOk}
use Rattle.std.specs.Result.{is_ok}
use Rattle.std.proofs.lemmas.Grind.{common_steps}
use Rattle.std.proofs.lemmas.List.{append_assoc, append-nil}
use Rattle.std.specs.Prelude.{nat_le, length}
use Rattle.pg_entry.specs.Bits.{has_bit}
use Rattle.pg_event.specs.declared.event.Event.{Event}
use Rattle.pg_event.specs.declared.event.Event.TheVariants.{Write, Access, Assist, MovCr3, Invlpg, Invpcid, MovCr4Pge}
use Rattle.pg_explain.specs.Line.{closing, opening, in_brackets, bit_name, names_from, access_text, outcome_text, assist_text, moments_text, event_text, claim_text, named_text}
use Rattle.pg_explain.specs.declared.tally_lines.Style.{Style}
use Rattle.pg_explain.specs.Tallies.{item_text, more_text, beginning_text}

-- what is left to write of names in brackets, where some are written already or none
abbrev pub rest_of : Bool → List (List ℕ) → List ℕ
rest_of true names = closing names
rest_of false names = in_brackets names

left_is : (k : ℕ) → k < 5 → 5 - k ≡ suc (5 - (k + 1))
left_is k l = omega arith

set_names : (code k n : ℕ) → has_bit code k ≡ true → names_from code k (suc n) ≡ bit_name k ∷ names_from code (k + 1) n
set_names code k n set = ap (λ b. cond b (bit_name k ∷ names_from code (k + 1) n) (names_from code (k + 1) n)) set

unset_names : (code k n : ℕ) → has_bit code k ≡ false → names_from code k (suc n) ≡ names_from code (k + 1) n
unset_names code k n unset = ap (λ b. cond b (bit_name k ∷ names_from code (k + 1) n) (names_from code (k + 1) n)) unset

first_rest : (is_opened : Bool) (name : List ℕ) (names : List (List ℕ)) → rest_of is_opened (name ∷ names) ≡ opening is_opened ++ (name ++ closing names)
first_rest true name names = refl
first_rest false name names = refl

-- a bit that is set
pub set_next : (code k : ℕ) (is_opened : Bool) → k < 5 → has_bit code k ≡ true → rest_of is_opened (names_from code k (5 - k)) ≡ opening is_opened ++ (bit_name k ++ closing (names_from code (k + 1) (5 - (k + 1))))
set_next code k is_opened l set =
    ap (λ n. rest_of is_opened (names_from code k n)) (left_is k l)
    ∙ (ap (rest_of is_opened) (set_names code k (5 - (k + 1)) set)
    ∙ first_rest is_opened (bit_name k) (names_from code (k + 1) (5 - (k + 1))))

-- a bit that is not set
pub unset_next : (code k : ℕ) (is_opened : Bool) → k < 5 → has_bit code k ≡ false → rest_of is_opened (names_from code k (5 - k)) ≡ rest_of is_opened (names_from code (k + 1) (5 - (k + 1)))
unset_next code k is_opened l unset =
    ap (λ n. rest_of is_opened (names_from code k n)) (left_is k l)
    ∙ ap (rest_of is_opened) (unset_names code k (5 - (k + 1)) unset)

-- what is left stays so as a name is written
pub name_written : (old before name opened left whole text : List ℕ) → text ≡ before ++ (opened ++ name) → before ++ (opened ++ (name ++ left)) ≡ whole → text ++ left ≡ whole
name_written old before name opened left whole text is was = grind (arith, common_steps)

-- three pieces are written one after another
pub three_written : (old one two three a b c : List ℕ) → one ≡ old ++ a → two ≡ one ++ b → three ≡ two ++ c → three ≡ old ++ (a ++ (b ++ c))
three_written old one two three a b c e f g = g ∙ (ap (λ x. x ++ c) (f ∙ ap (λ x. x ++ b) e) ∙ (append_assoc (old ++ a) b c ∙ append_assoc old a (b ++ c)))

-- a text that a last call wrote
pub call_written : {T E : Type 0} → (r : Result T E) (new old a : List ℕ) → new ≡ (if is_ok r then old ++ a else old) → OnOk r (new ≡ old ++ a)
call_written (Ok x) new old a h = h
call_written (Err e) new old a h = tt

-- what an event did is what it did without its moments, and those
claim_and_moments : (e : Event) → claim_text e ++ named_text e ≡ event_text e
claim_and_moments (Write p addr value) = append-nil (claim_text (Write p addr value))
claim_and_moments (Access p flags la outcome moments) =
    append_assoc (access_text flags la) (codes " -> " ++ outcome_text outcome) (moments_text moments)
    ∙ ap (λ t. access_text flags la ++ t) (append_assoc (codes " -> ") (outcome_text outcome) (moments_text moments))
claim_and_moments (Assist p flags la word moments) = append_assoc (access_text flags la) (assist_text flags word) (moments_text moments)
claim_and_moments (MovCr3 p operand) = append-nil (claim_text (MovCr3 p operand))
claim_and_moments (Invlpg p la) = append-nil (claim_text (Invlpg p la))
claim_and_moments (Invpcid p kind pcid la) = append-nil (claim_text (Invpcid p kind pcid la))
claim_and_moments (MovCr4Pge p on) = append-nil (claim_text (MovCr4Pge p on))

pub deed_written : (e : Event) (old one two : List ℕ) → one ≡ old ++ claim_text e → two ≡ one ++ named_text e → two ≡ old ++ event_text e
deed_written e old one two p q = q ∙ (ap (λ t. t ++ named_text e) p ∙ (append_assoc old (claim_text e) (named_text e) ∙ ap (λ t. old ++ t) (claim_and_moments e)))

-- of numbers that do not all fit the first, where it fits with how many more there are
pub first_fits : (style : Style) (n left : ℕ) (ns : List ℕ) → nat_le (length (item_text style n) + length (more_text (length ns))) left ≡ true →
    beginning_text left style (n ∷ ns) ≡ item_text style n ++ beginning_text (left - length (item_text style n)) style ns
first_fits style n left ns fit = rw fit refl

-- and where it does not
pub first_fails : (style : Style) (n left : ℕ) (ns : List ℕ) → nat_le (length (item_text style n) + length (more_text (length ns))) left ≡ false → beginning_text left style (n ∷ ns) ≡ more_text (suc (length ns))
first_fails style n left ns fit = rw fit refl
