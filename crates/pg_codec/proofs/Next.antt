-- A part read from what a buffer has at hand is the next part of all that is left.
use Rattle.std.proofs.Common.{◌≡◌, ℕ, suc, ◌-◌, ◌≤◌, ◌<◌, List, [], ◌∷◌, ◌++◌, length, drop, Option, Some, None, Result, Ok, Err, sym, ap, ◌∙◌, subst, arith, append_assoc, length-append}
use Rattle.std.specs.Prelude.{IfOk}
use Rattle.std.proofs.Math.Seq.{drop-append_seam}
use Rattle.std.specs.Io.KnownBytes.{Keeps, IsAtEnd}
use Rattle.pg_event.specs.declared.refusal.Refusal.{Refusal}
use Rattle.pg_event.specs.Reading.{◌>>=◌, Part}
use Rattle.pg_codec.specs.declared.error.ReadError.{ReadError}
use Rattle.pg_codec.specs.declared.error.ReadError.TheVariants as errors
use Rattle.pg_codec.specs.declared.stream.Source.{Ghosts}
use Rattle.pg_event.specs.Laws.{AreBytes}
use Rattle.pg_event.proofs.Fields.{IsBytes}
use Rattle.pg_codec.specs.Reads.{left_of, seen, Gives, Takes, Reads, Took, Pulls, Prepares}
use Rattle.pg_codec.proofs.Local.{IsLocal, near}

-- what a reading function leaves is the end of what it was given
pub rest_is : {A : Type 0} (n : ℕ) (read : List ℕ → Part A) (front : List ℕ) (x : A) (rest left : List ℕ) → IsLocal n read → read front ≡ Ok (x, rest) → left ≡ drop (length front - length rest) front
    → left ≡ rest
rest_is n read front x rest left local e h =
    let u = local.used front (x, rest) e in
    let k : length front - length rest ≡ length u.0 = omega (arith, ap length u.1, length-append u.0 rest) in
    h ∙ ap (λ j. drop j front) k ∙ ap (drop (length u.0)) u.1 ∙ drop-append_seam u.0 rest

pub rest_fits : {A : Type 0} (n : ℕ) (read : List ℕ → Part A) (front : List ℕ) (x : A) (rest : List ℕ) → IsLocal n read → read front ≡ Ok (x, rest) → length rest ≤ length front
rest_fits n read front x rest local e =
    let u = local.used front (x, rest) e in
    omega (arith, ap length u.1, length-append u.0 rest)

-- bytes at the front of bytes
bytes_front : (text rest : List ℕ) → AreBytes (text ++ rest) → AreBytes text
bytes_front [] rest h = tt
bytes_front (b ∷ text) rest h = (h.0, bytes_front text rest h.1)

module _ {A : Type 0} (n : ℕ) (read : List ℕ → Part A) (local : IsLocal n read) (few : n ≤ 38) where
  next_read : (before front : List ℕ) (old new : Option (List ℕ)) (x : A) (rest left : List ℕ) → Keeps (left_of before old) (left_of front new) → (length front < 38 → IsAtEnd new)
      → read front ≡ Ok (x, rest) → left ≡ drop (length front - length rest) front → Reads (left_of before old) (left_of left new) (Ok x) read
  unfolding left_of
  next_read before front None new x rest left kept enough e h = tt
  next_read before front (Some xs) None x rest left kept enough e h = absurd kept
  next_read before front (Some xs) (Some ys) x rest left kept enough e h =
      ap read (sym kept) ∙ near n read front ys local (λ lt. enough (omega arith)) ∙ ap (λ p. p >>= λ y. Ok (y.0, y.1 ++ ys)) e ∙ ap (λ l. Ok (x, l ++ ys)) (sym (rest_is n read front x rest left local e h))

  next_refused : (before front : List ℕ) (old new : Option (List ℕ)) (d : Refusal) → Keeps (left_of before old) (left_of front new) → (length front < 38 → IsAtEnd new)
      → read front ≡ Err d → Reads (left_of before old) (left_of front new) (Err (errors.Refused d)) read
  unfolding left_of
  next_refused before front None new d kept enough e = tt
  next_refused before front (Some xs) None d kept enough e = absurd kept
  next_refused before front (Some xs) (Some ys) d kept enough e = ap read (sym kept) ∙ near n read front ys local (λ lt. enough (omega arith)) ∙ ap (λ p. p >>= λ y. Ok (y.0, y.1 ++ ys)) e

  next_took : (before front : List ℕ) (old new : Option (List ℕ)) (x : A) (rest left : List ℕ) → Keeps (left_of before old) (left_of front new) → AreBytes front
      → read front ≡ Ok (x, rest) → left ≡ drop (length front - length rest) front → Took (left_of before old) (left_of left new)
  unfolding left_of
  next_took before front None new x rest left kept fits e h = tt
  next_took before front (Some xs) None x rest left kept fits e h = absurd kept
  next_took before front (Some xs) (Some ys) x rest left kept fits e h =
      let u = local.used front (x, rest) e in
      (u.0, bytes_front u.0 rest (subst AreBytes u.1 fits), sym kept ∙ ap (λ l. l ++ ys) u.1 ∙ append_assoc u.0 rest ys ∙ ap (λ l. u.0 ++ (l ++ ys)) (sym (rest_is n read front x rest left local e h)))

  -- a part that was read, and how many bytes it leaves
  pub count_fits : {X : Type 0} (view : X → A × List ℕ) (r : Result X Refusal) (p : Result (A × ℕ) Refusal) (front : List ℕ) → Gives view r (read front)
      → p ≡ seen (λ x. ((view x).0, length (view x).1)) r → IfOk p (λ x. x.1 ≤ length front)
  count_fits view (Ok x) p front gives is = subst (λ q. IfOk q (λ y. y.1 ≤ length front)) (sym is) (rest_fits n read front (view x).0 (view x).1 local gives)
  count_fits view (Err e) p front gives is = subst (λ q. IfOk q (λ y. y.1 ≤ length front)) (sym is) tt

  module _ {R X U E : Type 0} (g : Ghosts R) (view : X → A × List ℕ) (before front left : List ℕ) (old new : R) (u : U) (done : Prepares {E = E} g (before, old) (front, new) (Ok u)) where
    pulled : (r : Result X Refusal) (result : Result A ReadError) → AreBytes front → Gives view r (read front) → Takes front left (seen (λ x. ((view x).0, length (view x).1)) r) result
        → Pulls g read (before, old) (left, new) result
    pulled (Ok x) result fits gives takes = subst (λ y. Pulls g read (before, old) (left, new) y) (sym takes.1) (record {
      reads = next_read before front (g.left old) (g.left new) (view x).0 (view x).1 left done.kept done.enough gives takes.0;
      took = next_took before front (g.left old) (g.left new) (view x).0 (view x).1 left done.kept fits gives takes.0;
      device = done.failures;
      live = λ e. absurd cc;
    })
    pulled (Err d) result fits gives takes = subst (λ y. Pulls g read (before, old) (left, new) y) (sym takes.1) (record {
      reads = subst (λ l. Reads (left_of before (g.left old)) (left_of l (g.left new)) (Err (errors.Refused d)) read) (sym takes.0) (next_refused before front (g.left old) (g.left new) d done.kept done.enough gives);
      took = tt;
      device = done.failures;
      live = λ e. absurd cc;
    })

    -- the part at the front of what a buffer has at hand is the next of all that is left
    pub next_pulls : (r : Result X Refusal) (p : Result (A × ℕ) Refusal) (result : Result A ReadError) → AreBytes front → Gives view r (read front) → p ≡ seen (λ x. ((view x).0, length (view x).1)) r
        → Takes front left p result → Pulls g read (before, old) (left, new) result
    next_pulls r p result fits gives is takes = pulled r result fits gives (subst (λ q. Takes front left q result) is takes)

-- a byte at each place
pub all_bytes : (bytes : List ℕ) → IsBytes bytes → AreBytes bytes
all_bytes [] h = tt
all_bytes (b ∷ bytes) h = (h 0, all_bytes bytes (λ i. h (suc i)))
