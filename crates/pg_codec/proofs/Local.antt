-- Reading functions that look no further than so many bytes: with that many at hand, what follows
-- them is only left over.
use Rattle.std.proofs.Common.{◌≡◌, ℕ, ◌+◌, ◌≤◌, ◌<◌, Bool, true, false, cond, ltb, List, [], ◌∷◌, ◌++◌, length, take, drop, Result, Ok, Err, refl, sym, ap, ◌∙◌, append_assoc, arith, take-append-drop, length-append, length-take, inl, inr}
use Rattle.std.proofs.lemmas.Bool.{le-ltb, cases_lt}
use Rattle.std.proofs.lemmas.List.{take-append-le, append-nil}
use lib.Seq.{drop-append-le}
use Rattle.std.specs.Int.{Width, byte_len, from_le_bytes}
use Rattle.pg_event.specs.declared.refusal.Refusal.{Refusal}
use Rattle.pg_event.specs.declared.refusal.Refusal.TheVariants as refusals
use Rattle.pg_event.specs.Reading.{◌>>=◌, Part, byte_at, number_at, passing}

-- a part with more bytes after it
abbrev pub extended : {A : Type 0} → List ℕ → Part A → Part A
extended more part = part >>= λ x. Ok (x.0, x.1 ++ more)

pub record IsLocal {A : Type 0} (n : ℕ) (read : List ℕ → Part A) : Type 0 where
  pub same : (front more : List ℕ) → n ≤ length front → read (front ++ more) ≡ extended more (read front)
  pub used : (bytes : List ℕ) (x : A × List ℕ) → read bytes ≡ Ok x → (text : List ℕ) × (bytes ≡ text ++ x.1) × (length text ≤ n)

abbrev pub done : {A : Type 0} → A → Result A Refusal
done x = Ok x

pub ok_is : {A : Type 0} (x y : A) → done x ≡ done y → x ≡ y
ok_is x y e = cc

-- a test that did not fail
guard_ok : {A : Type 0} (b : Bool) (d : Refusal) (x y : A) → cond b (Err d) (Ok x) ≡ done y → x ≡ y
guard_ok true d x y e = absurd cc
guard_ok false d x y e = cc

-- the value of a step that did not fail
pub bind_ok : {A B : Type 0} (r : Result A Refusal) (f : A → Result B Refusal) (y : B) → (r >>= f) ≡ Ok y → (x : A) × (r ≡ Ok x) × (f x ≡ Ok y)
bind_ok (Ok x) f y e = (x, refl, e)
bind_ok (Err d) f y e = absurd cc

byte_same : (front more : List ℕ) → 1 ≤ length front → byte_at (front ++ more) ≡ extended more (byte_at front)
byte_same [] more h = absurd (omega arith)
byte_same (b ∷ front) more h = refl

byte_used : (bytes : List ℕ) (x : ℕ × List ℕ) → byte_at bytes ≡ Ok x → (text : List ℕ) × (bytes ≡ text ++ x.1) × (length text ≤ 1)
byte_used [] x e = absurd cc
byte_used (b ∷ bytes) x e = (x.0 ∷ [], ap (λ (y : ℕ × List ℕ). y.0 ∷ y.1) (ok_is (b, bytes) x e), omega arith)

number_same : (w : Width) (front more : List ℕ) → byte_len w ≤ length front → number_at w (front ++ more) ≡ extended more (number_at w front)
number_same w front more h =
    let long : ltb (length (front ++ more)) (byte_len w) ≡ false = le-ltb _ _ (omega (arith, length-append front more)) in
    let enough : ltb (length front) (byte_len w) ≡ false = le-ltb _ _ h in
    rw (long, enough, take-append-le (byte_len w) front more h, drop-append-le (byte_len w) front more h) refl

number_used : (w : Width) (bytes : List ℕ) (x : ℕ × List ℕ) → number_at w bytes ≡ Ok x → (text : List ℕ) × (bytes ≡ text ++ x.1) × (length text ≤ byte_len w)
number_used w bytes x e =
    let g = guard_ok (ltb (length bytes) (byte_len w)) refusals.Truncated (from_le_bytes w (take (byte_len w) bytes), drop (byte_len w) bytes) x e in
    (take (byte_len w) bytes, sym (take-append-drop (byte_len w) bytes) ∙ ap (λ (y : ℕ × List ℕ). take (byte_len w) bytes ++ y.1) g, omega (arith, length-take (byte_len w) bytes))

pub byte_local : IsLocal 1 byte_at
byte_local = record { same = byte_same; used = byte_used }

pub number_local : (w : Width) → IsLocal (byte_len w) (number_at w)
number_local w = record { same = number_same w; used = number_used w }

pub done_local : {A : Type 0} (x : A) → IsLocal 0 (λ bytes. Ok (x, bytes))
done_local x = record { same = λ front more h. refl; used = λ bytes y e. ([], ap (λ (z : _ × List ℕ). z.1) (ok_is (x, bytes) y e), omega arith) }

pub refused_local : {A : Type 0} (e : Refusal) → IsLocal {A = A} 0 (λ bytes. Err e)
refused_local e = record { same = λ front more h. refl; used = λ bytes y h. absurd cc }

-- what a first step of a read leaves, where it is no more than so many bytes
leaves : {A : Type 0} (n m : ℕ) (f : List ℕ → Part A) (front : List ℕ) (x : A × List ℕ) → IsLocal n f → f front ≡ Ok x → n + m ≤ length front → m ≤ length x.1
leaves n m f front x local e h =
    let u = local.used front x e in
    omega (arith, ap length u.1, length-append u.0 x.1, u.2)

same_then : {A B : Type 0} (n m : ℕ) (f : List ℕ → Part A) (g : A → List ℕ → Part B) (front more : List ℕ) (r : Part A) → IsLocal n f → ((x : A) → IsLocal m (g x)) → f front ≡ r
    → n + m ≤ length front → (extended more r >>= λ x. g x.0 x.1) ≡ extended more (r >>= λ x. g x.0 x.1)
same_then n m f g front more (Ok x) first second e h = (second x.0).same x.1 more (leaves n m f front x first e h)
same_then n m f g front more (Err d) first second e h = refl

-- one part after another
pub then_local : {A B : Type 0} (n m : ℕ) (f : List ℕ → Part A) (g : A → List ℕ → Part B) → IsLocal n f → ((x : A) → IsLocal m (g x)) → IsLocal (n + m) (λ bytes. f bytes >>= λ x. g x.0 x.1)
then_local n m f g first second = record {
  same = λ front more h. ap (λ r. r >>= λ x. g x.0 x.1) (first.same front more (omega arith)) ∙ same_then n m f g front more (f front) first second refl h;
  used = λ bytes y e.
      let b = bind_ok (f bytes) (λ x. g x.0 x.1) y e in
      let u = first.used bytes b.0 b.1 in
      let v = (second b.0.0).used b.0.1 y b.2 in
      (u.0 ++ v.0, u.1 ∙ ap (λ l. u.0 ++ l) v.1 ∙ sym (append_assoc u.0 v.0 y.1), omega (arith, length-append u.0 v.0, u.2, v.2));
}

pub wider : {A : Type 0} (n m : ℕ) (f : List ℕ → Part A) → n ≤ m → IsLocal n f → IsLocal m f
wider n m f le local = record {
  same = λ front more h. local.same front more (omega arith);
  used = λ bytes x e. let u = local.used bytes x e in (u.0, u.1, omega (arith, u.2));
}

pub cond_local : {A : Type 0} (n : ℕ) (b : Bool) (f g : List ℕ → Part A) → IsLocal n f → IsLocal n g → IsLocal n (λ bytes. cond b (f bytes) (g bytes))
cond_local n true f g p q = p
cond_local n false f g p q = q

local_by : {A : Type 0} (n : ℕ) (f g : List ℕ → Part A) → ((bytes : List ℕ) → f bytes ≡ g bytes) → IsLocal n f → IsLocal n g
local_by n f g same local = record {
  same = λ front more h. sym (same (front ++ more)) ∙ local.same front more h ∙ ap (extended more) (same front);
  used = λ bytes x e. local.used bytes x (same bytes ∙ e);
}

passing_then : {B : Type 0} (test : ℕ → Bool) (e : Refusal) (g : ℕ → List ℕ → Part B) (part : Part ℕ) → (part >>= λ x. cond (test x.0) (g x.0 x.1) (Err e)) ≡ (passing test e part >>= λ x. g x.0 x.1)
passing_then test e g (Ok x) = elim (test x.0) as (λ b. cond b (g x.0 x.1) (Err e) ≡ (cond b (Ok x) (Err e) >>= λ y. g y.0 y.1)) [ true ↦ refl | false ↦ refl ]
passing_then test e g (Err d) = refl

guarded : {B : Type 0} (m : ℕ) (b : Bool) (e : Refusal) (g : List ℕ → Part B) → (b ≡ true → IsLocal m g) → IsLocal m (λ bytes. cond b (g bytes) (Err e))
guarded m true e g h = h refl
guarded m false e g h = wider 0 m (λ bytes. Err e) (omega arith) (refused_local e)

-- one part after a field that passed a test
pub bounded_local : {B : Type 0} (n m : ℕ) (test : ℕ → Bool) (e : Refusal) (f : List ℕ → Part ℕ) (g : ℕ → List ℕ → Part B) → IsLocal n f → ((x : ℕ) → test x ≡ true → IsLocal m (g x))
    → IsLocal (n + m) (λ bytes. passing test e (f bytes) >>= λ x. g x.0 x.1)
bounded_local n m test e f g first second =
    local_by (n + m) (λ bytes. f bytes >>= λ x. cond (test x.0) (g x.0 x.1) (Err e)) (λ bytes. passing test e (f bytes) >>= λ x. g x.0 x.1) (λ bytes. passing_then test e g (f bytes))
    (then_local n m f (λ x bytes. cond (test x) (g x bytes) (Err e)) first (λ x. guarded m (test x) e (g x) (second x)))

-- a value made of a part
pub made_local : {A B : Type 0} (n : ℕ) (f : List ℕ → Part A) (make : A → B) → IsLocal n f → IsLocal (n + 0) (λ bytes. f bytes >>= λ x. Ok (make x.0, x.1))
made_local n f make local = then_local n 0 f (λ x bytes. Ok (make x, bytes)) local (λ x. done_local (make x))

unextended : {A : Type 0} (part : Part A) → extended [] part ≡ part
unextended (Ok x) = ap (λ l. Ok (x.0, l)) (append-nil x.1)
unextended (Err e) = refl

-- with all that is left at hand, or with enough
pub near : {A : Type 0} (n : ℕ) (read : List ℕ → Part A) (front more : List ℕ) → IsLocal n read → (length front < n → more ≡ []) → read (front ++ more) ≡ extended more (read front)
near n read front more local short =
    elim (cases_lt (length front) n) [
      | inl lt ↦ ap (λ l. read (front ++ l)) (short lt) ∙ ap read (append-nil front) ∙ sym (unextended (read front)) ∙ ap (λ l. extended l (read front)) (sym (short lt))
      | inr le ↦ local.same front more le
    ]
