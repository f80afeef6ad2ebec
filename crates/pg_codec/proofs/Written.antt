-- Bytes that are put in several calls.
use Rattle.std.proofs.Common.{◌≡◌, ℕ, ◌+◌, ◌≤◌, List, [], ◌∷◌, ◌++◌, length, take, drop, take-append-drop, Option, Some, None, Result, Ok, Err, refl, sym, ap, ◌∙◌, subst, arith, append_assoc}
use Rattle.std.proofs.Math.Seq.{take-append-add}
use Rattle.std.proofs.lemmas.List.{take-append-le, take_all}
use Rattle.std.specs.Io.KnownBytes.{Appends}
use Rattle.std.proofs.KnownBytes.{Appends-trans}
use Rattle.std.proofs.lemmas.Bool.{cases_lt}
use Rattle.std.proofs.Common.{inl, inr}
use Rattle.std.specs.List.{flat_map}
use Rattle.std.proofs.lemmas.List.{append-nil}
use Rattle.std.proofs.lemmas.List.Concat.{flat_map-append}
use Rattle.pg_codec.specs.declared.stream.Sink.{Ghosts}
use Rattle.pg_codec.specs.Streams.{raised, RaisesFailures, AppendsSome, Writes}
use Rattle.pg_codec.specs.Writing.{Puts}

-- a beginning that is no longer than the bytes
beginning : (k : ℕ) (bytes rest : List ℕ) → (n : ℕ) × (take n (bytes ++ rest) ≡ take k bytes)
beginning k bytes rest =
    elim (cases_lt k (length bytes)) [
      | inl lt ↦ (k, take-append-le k bytes rest (omega arith))
      | inr le ↦ (length bytes, take-append-le (length bytes) bytes rest (omega arith) ∙ take_all (length bytes) bytes (omega arith) ∙ sym (take_all k bytes (omega arith)))
    ]

-- a beginning of what follows the bytes that were put, or of that and more
pub appends_some_after : (old mid new : Option (List ℕ)) (bytes next rest : List ℕ) → Appends old mid bytes → AppendsSome mid new next → AppendsSome old new (bytes ++ (next ++ rest))
appends_some_after old mid new bytes next rest p q =
    let b = beginning q.0 next rest in
    (length bytes + b.0, subst (Appends old new) (ap (λ l. bytes ++ l) (sym b.1) ∙ sym (take-append-add bytes (next ++ rest) b.0)) (Appends-trans old mid new bytes (take q.0 next) p q.1))

appends_some_last : (old mid new : Option (List ℕ)) (bytes next : List ℕ) → Appends old mid bytes → AppendsSome mid new next → AppendsSome old new (bytes ++ next)
appends_some_last old mid new bytes next p q =
    (length bytes + q.0, subst (Appends old new) (sym (take-append-add bytes next q.0)) (Appends-trans old mid new bytes (take q.0 next) p q.1))

pub writes_after : {X E : Type 0} (old mid new : Option (List ℕ)) (r : Result X E) (bytes next : List ℕ) → Appends old mid bytes → Writes mid new r next → Writes old new r (bytes ++ next)
writes_after old mid new (Ok x) bytes next p q = Appends-trans old mid new bytes next p q
writes_after old mid new (Err e) bytes next p q = appends_some_last old mid new bytes next p q

pub appends_none : (old : Option (List ℕ)) → Appends old old []
appends_none None = tt
appends_none (Some xs) = sym (append-nil xs)

pub failures_after : {X E : Type 0} (r : Result X E) (a b c : ℕ) → b ≡ a → RaisesFailures b c r → RaisesFailures a c r
failures_after r a b c same h = subst (λ n. RaisesFailures n c r) same h

-- one more piece, after what a block passed on and what it keeps
one_more : (written block bytes left piece head flat whole : List ℕ) → written ++ block ≡ head ++ flat → block ≡ bytes ++ left → whole ≡ flat ++ piece → (written ++ bytes) ++ (left ++ piece) ≡ head ++ whole
one_more written block bytes left piece head flat whole so_far passed e =
    append_assoc written bytes (left ++ piece) ∙ ap (λ l. written ++ l) (sym (append_assoc bytes left piece) ∙ ap (λ l. l ++ piece) (sym passed))
    ∙ sym (append_assoc written block piece) ∙ ap (λ l. l ++ piece) so_far ∙ append_assoc head flat piece ∙ ap (λ l. head ++ l) (sym e)

module _ {A W : Type 0} (g : Ghosts W) (spell : A → List ℕ) (head : List ℕ) (items : List A) where
  -- a head and so many items went on to a sink, or wait in a block
  pub record IsWriting (start now : W) (block : List ℕ) (i : ℕ) : Type 0 where
    pub written : List ℕ
    pub appends : Appends (g.held start) (g.held now) written
    pub whole : written ++ block ≡ head ++ flat_map spell (take i items)
    pub failures : g.failed now ≡ g.failed start

  pub writing_starts : (start : W) (block : List ℕ) → block ≡ head → IsWriting start start block 0
  writing_starts start block e = record { written = []; appends = appends_none (g.held start); whole = e ∙ sym (append-nil head); failures = refl }

  pub writing_fails : {X E : Type 0} (start now new : W) (block : List ℕ) (i : ℕ) (e : E) → IsWriting start now block i → AppendsSome (g.held now) (g.held new) block → g.failed new ≡ raised (g.failed now)
      → Puts {X = X} g (head ++ flat_map spell items) start new (Err e)
  writing_fails start now new block i e w some rises =
      let rest = flat_map spell (drop i items) in
      let whole : w.written ++ (block ++ rest) ≡ head ++ flat_map spell items =
      sym (append_assoc w.written block rest) ∙ ap (λ (l : List ℕ). l ++ rest) w.whole ∙ append_assoc head _ rest
      ∙ ap (λ (l : List ℕ). head ++ l) (sym (flat_map-append spell (take i items) (drop i items)) ∙ ap (flat_map spell) (take-append-drop i items)) in
      record {
        bytes = subst (AppendsSome (g.held start) (g.held new)) whole (appends_some_after _ _ _ w.written block rest w.appends some);
        failures = rises ∙ ap raised w.failures;
      }

  pub writing_on : (start now new : W) (block left more : List ℕ) (i : ℕ) (x : A) → IsWriting start now block i → (bytes : List ℕ) × Appends (g.held now) (g.held new) bytes × (block ≡ bytes ++ left)
      → g.failed new ≡ g.failed now → take (i + 1) items ≡ take i items ++ x ∷ [] → more ≡ left ++ spell x → IsWriting start new more (i + 1)
  writing_on start now new block left more i x w made same taken pushed =
      let flat : flat_map spell (take (i + 1) items) ≡ flat_map spell (take i items) ++ spell x =
      ap (flat_map spell) taken ∙ flat_map-append spell (take i items) _ ∙ ap (λ (l : List ℕ). flat_map spell (take i items) ++ l) (append-nil _) in
      record {
        written = w.written ++ made.0;
        appends = Appends-trans _ _ _ w.written made.0 w.appends made.1;
        whole = ap (λ (l : List ℕ). (w.written ++ made.0) ++ l) pushed ∙ one_more w.written block made.0 left (spell x) head _ _ w.whole made.2 flat;
        failures = same ∙ w.failures;
      }

  pub writing_ends : {X E : Type 0} (start now new : W) (block last : List ℕ) (i : ℕ) (r : Result X E) → length items ≤ i → IsWriting start now block i → last ≡ block → Puts g last now new r
      → Puts g (head ++ flat_map spell items) start new r
  writing_ends start now new block last i r le w is put =
      let whole : w.written ++ block ≡ head ++ flat_map spell items = w.whole ∙ ap (λ es. head ++ flat_map spell es) (take_all i items le) in
      let here : Writes (g.held now) (g.held new) r block = subst (Writes (g.held now) (g.held new) r) is put.bytes in
      record {
        bytes = subst (Writes (g.held start) (g.held new) r) whole (writes_after _ _ _ r w.written block w.appends here);
        failures = failures_after r _ _ _ w.failures put.failures;
      }

pub puts_same : {W X E : Type 0} (g : Ghosts W) (a b : List ℕ) (start new : W) (r : Result X E) → a ≡ b → Puts g a start new r → Puts g b start new r
puts_same g a b start new r e h = subst (λ (l : List ℕ). Puts g l start new r) e h
