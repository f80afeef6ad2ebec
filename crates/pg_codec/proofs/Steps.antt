-- One read after another, on what a reader has left.
use Rattle.std.proofs.Common.{◌≡◌, ℕ, suc, ◌<◌, Bool, eqb, List, [], ◌∷◌, ◌++◌, length, Option, Some, None, Result, Ok, Err, refl, sym, ap, ◌∙◌, arith}
use Rattle.std.proofs.lemmas.Bool.Decides.{nat_tests}
use Rattle.std.specs.Prelude.{IfSome, OnOk}
use Rattle.std.specs.Io.KnownBytes.{Keeps, IsAtEnd}
use Rattle.pg_event.specs.declared.refusal.Refusal.{Refusal}
use Rattle.pg_event.specs.Reading.{◌>>=◌, Part, header_at, starts_at, magic_at, version_at}
use Rattle.pg_codec.specs.declared.error.ReadError.{ReadError}
use Rattle.pg_codec.specs.declared.error.ReadError.TheVariants as errors
use Rattle.pg_codec.specs.declared.stream.Source.{Ghosts}
use Rattle.pg_event.specs.declared.version.Version.{Version}
use Rattle.pg_event.specs.declared.version.Version.TheVariants as versions
use Rattle.pg_codec.specs.Reads.{left_of, is_device, Reads, Took, Pulls, Prepares, Finds, FindsEnd}
use Rattle.pg_codec.specs.Parts.{cfg_at, settings_behind, settings_at, head_of, version_said, is_two}
use Rattle.pg_codec.proofs.Local.{IsLocal, extended, near, then_local}
use Rattle.pg_codec.proofs.Widths.{magic_local, version_local}
use Rattle.pg_codec.proofs.Going.{took_then, device_after}

pub took_after : {X E : Type 0} (r : Result X E) (a b c : Option (List ℕ)) → Took a b → OnOk r (Took b c) → OnOk r (Took a c)
took_after (Ok x) a b c p q = took_then a b c p q
took_after (Err e) a b c p q = tt

not_none : (m n : ℕ) → eqb (suc m) 0 ≡ eqb (suc n) 0
not_none m n = grind (arith, nat_tests)

-- the version that is said at the front does not depend on what follows it
said_local : IsLocal 10 version_said
said_local = then_local 8 2 magic_at (λ magic. version_at) magic_local (λ magic. version_local)

two_extended : (more : List ℕ) (part : Part Version) → is_two (extended more part) ≡ is_two part
two_extended more (Ok (versions.One, rest)) = refl
two_extended more (Ok (versions.Two, rest)) = refl
two_extended more (Err e) = refl

says_two : (before front : List ℕ) (old new : Option (List ℕ)) (two : Bool) → Keeps (left_of before old) (left_of front new) → (length front < 38 → IsAtEnd new) → two ≡ is_two (version_said front)
    → IfSome (left_of before old) (λ bytes. two ≡ is_two (version_said bytes))
unfolding left_of
says_two before front None new two kept enough h = tt
says_two before front (Some xs) None two kept enough h = absurd kept
says_two before front (Some xs) (Some ys) two kept enough h =
    h ∙ sym (two_extended ys (version_said front)) ∙ ap is_two (sym (near 10 version_said front ys said_local (λ lt. enough (omega arith)))) ∙ ap (λ l. is_two (version_said l)) kept

-- the input has ended where nothing is at hand
at_end : (before front : List ℕ) (old new : Option (List ℕ)) (end : Bool) → Keeps (left_of before old) (left_of front new) → (length front < 38 → IsAtEnd new) → end ≡ eqb (length front) 0
    → IfSome (left_of before old) (λ bytes. end ≡ eqb (length bytes) 0)
unfolding left_of
at_end before front None new end kept enough h = tt
at_end before front (Some xs) None end kept enough h = absurd kept
at_end before [] (Some xs) (Some ys) end kept enough h = h ∙ ap (λ l. eqb (length l) 0) (sym (enough (omega arith)) ∙ kept)
at_end before (f ∷ front) (Some xs) (Some ys) end kept enough h = h ∙ not_none (length front) (length (front ++ ys)) ∙ ap (λ l. eqb (length l) 0) kept

fails_then : {A B : Type 0} (f : List ℕ → Part A) (g : A × List ℕ → Part B) (e : ReadError) (bytes : List ℕ) (after : Option (List ℕ)) → Reads (Some bytes) after (Err e) f → Reads (Some bytes) after (Err e) (λ b. f b >>= g)
fails_then f g (errors.Refused d) bytes after h = ap (λ r. r >>= g) h
fails_then f g errors.Failed bytes after h = absurd h
fails_then f g errors.Device bytes after h = tt
fails_then f g errors.Memory bytes after h = tt

-- what refuses a part refuses what goes on from it
failed_then : {A B : Type 0} (f : List ℕ → Part A) (g : A × List ℕ → Part B) (e : ReadError) (start after : Option (List ℕ)) → Reads start after (Err e) f → Reads start after (Err e) (λ b. f b >>= g)
failed_then f g e None after h = tt
failed_then f g e (Some bytes) after h = fails_then f g e bytes after h

-- what is refused by the part that comes next
next_fails : {A B : Type 0} (f : List ℕ → Part A) (g : A → List ℕ → Part B) (x : A) (e : ReadError) (bytes rest : List ℕ) (after : Option (List ℕ)) → f bytes ≡ Ok (x, rest)
    → Reads (Some rest) after (Err e) (g x) → Reads (Some bytes) after (Err e) (λ b. f b >>= λ y. g y.0 y.1)
next_fails f g x (errors.Refused d) bytes rest after first h = ap (λ r. r >>= λ y. g y.0 y.1) first ∙ h
next_fails f g x errors.Failed bytes rest after first h = absurd h
next_fails f g x errors.Device bytes rest after first h = tt
next_fails f g x errors.Memory bytes rest after first h = tt

reads_then : {A B : Type 0} (f : List ℕ → Part A) (g : A → List ℕ → Part B) (x : A) (r : Result B ReadError) (start middle after : Option (List ℕ)) → Reads start middle (Ok x) f
    → Reads middle after r (g x) → Reads start after r (λ b. f b >>= λ y. g y.0 y.1)
reads_then f g x r None middle after p q = tt
reads_then f g x r (Some bytes) None after p q = absurd p
reads_then f g x (Ok y) (Some bytes) (Some rest) None p q = absurd q
reads_then f g x (Ok y) (Some bytes) (Some rest) (Some more) p q = ap (λ r. r >>= λ z. g z.0 z.1) p ∙ q
reads_then f g x (Err e) (Some bytes) (Some rest) after p q = next_fails f g x e bytes rest after p q

reads_made : {A B : Type 0} (f : List ℕ → Part A) (make : A → B) (x : A) (start after : Option (List ℕ)) → Reads start after (Ok x) f → Reads start after (Ok (make x)) (λ b. f b >>= λ y. Ok (make y.0, y.1))
reads_made f make x None after h = tt
reads_made f make x (Some bytes) None h = absurd h
reads_made f make x (Some bytes) (Some rest) h = ap (λ r. r >>= λ y. Ok (make y.0, y.1)) h

fails_by : {A : Type 0} (f g : List ℕ → Part A) (e : ReadError) (bytes : List ℕ) (after : Option (List ℕ)) → f bytes ≡ g bytes → Reads (Some bytes) after (Err e) f → Reads (Some bytes) after (Err e) g
fails_by f g (errors.Refused d) bytes after same h = sym same ∙ h
fails_by f g errors.Failed bytes after same h = absurd h
fails_by f g errors.Device bytes after same h = tt
fails_by f g errors.Memory bytes after same h = tt

-- two reading functions that agree
reads_by : {A : Type 0} (f g : List ℕ → Part A) (r : Result A ReadError) (start after : Option (List ℕ)) → ((b : List ℕ) → f b ≡ g b) → Reads start after r f → Reads start after r g
reads_by f g r None after same h = tt
reads_by f g (Ok x) (Some bytes) None same h = absurd h
reads_by f g (Ok x) (Some bytes) (Some rest) same h = sym (same bytes) ∙ h
reads_by f g (Err e) (Some bytes) after same h = fails_by f g e bytes after (same bytes) h

module _ {R : Type 0} (g : Ghosts R) where
  pub finds_two : {U E : Type 0} (before front : List ℕ) (old new : R) (two : Bool) {u : U} → Prepares {E = E} g (before, old) (front, new) (Ok u) → two ≡ is_two (version_said front)
      → Finds {E = E} g (λ bytes. is_two (version_said bytes)) (before, old) (front, new) (Ok two)
  finds_two before front old new two done h = record {
    value = says_two before front (g.left old) (g.left new) two done.kept done.enough h;
    kept = done.kept;
    failures = done.failures;
  }

  pub finds_end : {U E : Type 0} (before front : List ℕ) (old new : R) (end : Bool) {u : U} → Prepares {E = E} g (before, old) (front, new) (Ok u) → end ≡ eqb (length front) 0
      → FindsEnd {E = E} g (before, old) (front, new) (Ok end)
  finds_end before front old new end done h = record {
    value = at_end before front (g.left old) (g.left new) end done.kept done.enough h;
    kept = done.kept;
    failures = done.failures;
  }

  -- what refuses a part refuses what goes on from it
  pub pulls_failed : {A B : Type 0} (f : List ℕ → Part A) (k : A × List ℕ → Part B) (e : ReadError) (start after : List ℕ × R) → Pulls g f start after (Err e) → Pulls g (λ b. f b >>= k) start after (Err e)
  pulls_failed f k e start after h = record { reads = failed_then f k e _ _ h.reads; took = tt; device = h.device; live = λ same. h.live cc }

  -- one part, and then what goes on from it
  pub pulls_then : {A B : Type 0} (f : List ℕ → Part A) (h : A → List ℕ → Part B) (x : A) (r : Result B ReadError) (start middle after : List ℕ × R) → Pulls g f start middle (Ok x)
      → Pulls g (h x) middle after r → Pulls g (λ b. f b >>= λ y. h y.0 y.1) start after r
  pulls_then f h x r start middle after p q = record {
    reads = reads_then f h x r _ _ _ p.reads q.reads;
    took = took_after r _ _ _ p.took q.took;
    device = device_after is_device r _ _ _ p.device q.device;
    live = q.live;
  }

  -- a value made of a part
  pub pulls_made : {A B : Type 0} (f : List ℕ → Part A) (make : A → B) (x : A) (start after : List ℕ × R) → Pulls g f start after (Ok x)
      → Pulls g (λ b. f b >>= λ y. Ok (make y.0, y.1)) start after (Ok (make x))
  pulls_made f make x start after h = record { reads = reads_made f make x _ _ h.reads; took = h.took; device = h.device; live = λ e. absurd cc }

  -- two reading functions that agree
  pub pulls_by : {A : Type 0} (f k : List ℕ → Part A) (r : Result A ReadError) (start after : List ℕ × R) → ((b : List ℕ) → f b ≡ k b) → Pulls g f start after r → Pulls g k start after r
  pulls_by f k r start after same h = record { reads = reads_by f k r _ _ same h.reads; took = h.took; device = h.device; live = h.live }

in_turn : {A B C : Type 0} (r : Result A Refusal) (f : A → Result B Refusal) (g : B → Result C Refusal) → ((r >>= f) >>= g) ≡ (r >>= λ x. f x >>= g)
in_turn (Ok x) f g = refl
in_turn (Err e) f g = refl

-- a header is its settings, and then its processors
pub header_in_parts : (bytes : List ℕ) → (settings_at bytes >>= λ s. starts_at s.0.cfg.m s.0.count s.1 >>= λ starts. Ok (head_of s.0 starts.0, starts.1)) ≡ header_at bytes
unfolding settings_at settings_behind cfg_at header_at
header_in_parts bytes = simp in_turn
