-- Lines of which there are only so many.
use Rattle.std.proofs.Common.{◌≡◌, ℕ, ◌+◌, ◌++◌, Bool, cond, codes, List, ◌∷◌, None, ap, ◌∙◌}
use Rattle.std.proofs.lemmas.Bool.{eq-eqb, ne_eqb}
use Rattle.std.proofs.lemmas.List.{append_assoc}
use Rattle.pg_explain.proofs.Lines.{three_written}
use Rattle.pg_entry.specs.declared.Cfg.{Cfg}
use Rattle.pg_entry.specs.declared.Level.TheVariants.{Four}
use Rattle.pg_span_text.specs.declared.seen.Seen.{Seen}
use Rattle.pg_span_text.specs.Text.{may_line, may_lines, cannot_line, cannot_lines}

-- what stands past the end of a list
abbrev pub no_entry : Seen
no_entry = record { level = Four; address = 0; value = 0; writer = None; gone = None }

pub may_goes : (cfg : Cfg) (i : ℕ) (x : Seen) (xs : List Seen) → (i ≡ 64 → ⊥) → may_lines cfg i (x ∷ xs) ≡ may_line cfg x ++ may_lines cfg (i + 1) xs
may_goes cfg i x xs less = ap (λ (b : Bool). cond b (codes "..\n") (may_line cfg x ++ may_lines cfg (i + 1) xs)) (ne_eqb i 64 less)

pub may_stops : (cfg : Cfg) (i : ℕ) (x : Seen) (xs : List Seen) → i ≡ 64 → may_lines cfg i (x ∷ xs) ≡ codes "..\n"
may_stops cfg i x xs all = ap (λ (b : Bool). cond b (codes "..\n") (may_line cfg x ++ may_lines cfg (i + 1) xs)) (eq-eqb i 64 all)

pub cannot_goes : (i : ℕ) (x : Seen) (xs : List Seen) → (i ≡ 16 → ⊥) → cannot_lines i (x ∷ xs) ≡ cannot_line x ++ cannot_lines (i + 1) xs
cannot_goes i x xs less = ap (λ (b : Bool). cond b (codes "..\n") (cannot_line x ++ cannot_lines (i + 1) xs)) (ne_eqb i 16 less)

pub cannot_stops : (i : ℕ) (x : Seen) (xs : List Seen) → i ≡ 16 → cannot_lines i (x ∷ xs) ≡ codes "..\n"
cannot_stops i x xs all = ap (λ (b : Bool). cond b (codes "..\n") (cannot_line x ++ cannot_lines (i + 1) xs)) (eq-eqb i 16 all)

-- four pieces are written one after another
pub four_written : (old one two three four a b c d : List ℕ) → one ≡ old ++ a → two ≡ one ++ b → three ≡ two ++ c → four ≡ three ++ d → four ≡ old ++ (a ++ (b ++ (c ++ d)))
four_written old one two three four a b c d e f g h = h ∙ (ap (λ x. x ++ d) (three_written old one two three a b c e f g) ∙ simp append_assoc)
