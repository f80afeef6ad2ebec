-- A header of version 3 or 4 that is read is spelled so, and one that is spelled so is read again:
-- it is one of version 1 or 2 but for the number of the version.
use Rattle.std.proofs.Common.{◌≡◌, ℕ, ◌^◌, ◌<◌, Bool, true, false, cond, ltb, eqb, ◌||◌, List, [], ◌∷◌, ◌++◌, length, take, drop, get_or, Ok, Err, refl, sym, ap, subst, ◌∙◌, take-append-drop, arith, inl, inr}
use Rattle.std.specs.Prelude.{codes}
use Rattle.std.specs.List.{flat_map}
use Rattle.std.specs.Int.{w16, w32, to_le_bytes}
use Rattle.std.specs.Str.{bytes_eq}
use Rattle.std.proofs.lemmas.Bool.{and_parts, or_cases, eqb-true, le-ltb, cond-false}
use Rattle.pg_event.specs.declared.refusal.Refusal.{Refusal}
use Rattle.pg_event.specs.declared.refusal.Refusal.TheVariants as refusals
use Rattle.pg_event.specs.declared.version.Version.{Version}
use Rattle.pg_event.specs.declared.version.Version.TheVariants as versions
use Rattle.pg_event.specs.Heads.{Head, HoldsToAll}
use Rattle.pg_event.specs.Spelling.{version_number, processor_bytes, start_bytes, header_bytes, IsHead}
use Rattle.pg_event.specs.Reading.{◌>>=◌, Part, number_at, magic_at, version_at, starts_at, header_at}
use Rattle.pg_event.specs.Laws.{AreBytes}
use Rattle.pg_event.proofs.Fields.{IsBytes, IsBytes-drop, from_bind, from_passing, ok_bind, ok_is, test_ok, Takes, Takes-then, passing_again, wide16, number_takes, number_again}
use Rattle.pg_event.proofs.Chunks.{all_append}
use Rattle.pg_event.proofs.Headers.{header_again, header_takes}
use Rattle.pg_event.proofs.Spellings.{bytes_at}
use Rattle.pg_codec.specs.declared.settings.Settings.{Settings}
use Rattle.pg_codec.specs.Parts.{settings_behind, settings_at, head_of}
use Rattle.pg_codec.proofs.Next.{all_bytes}
use Rattle.pg_codec.proofs.Steps.{header_in_parts}
use Rattle.pg_span_run.specs.Spelling.{spans_number, spans_header_bytes}
use Rattle.pg_span_run.specs.Reading.{spans_version_of, spans_version_at, spans_front_at, header_behind, spans_header_at}

-- ---- the magic and the version

bytes_eq_is : (xs ys : List ℕ) → bytes_eq xs ys ≡ true → xs ≡ ys
bytes_eq_is [] [] h = refl
bytes_eq_is [] (y ∷ ys) h = absurd cc
bytes_eq_is (x ∷ xs) [] h = absurd cc
bytes_eq_is (x ∷ xs) (y ∷ ys) h =
    let p = and_parts (eqb x y) (bytes_eq xs ys) h in
    let first : x ≡ y = eqb-true x y p.0 in
    let others : xs ≡ ys = bytes_eq_is xs ys p.1 in
    cc

magic_again : (rest : List ℕ) → magic_at (codes "PGRECORD" ++ rest) ≡ Ok (codes "PGRECORD", rest)
unfolding magic_at
magic_again rest =
    let long : ltb (length (codes "PGRECORD" ++ rest)) 8 ≡ false = le-ltb _ _ (omega arith) in
    cond-false _ _ _ long

-- a test of the length, then one of the bytes
checked : {A : Type 0} (b c : Bool) (d f : Refusal) (x y : A) → cond b (Err d) (cond c (Ok x) (Err f)) ≡ Ok y → (c ≡ true) × (x ≡ y)
checked true c d f x y e = absurd cc
checked false c d f x y e = test_ok c f x y e

magic_takes : (bytes : List ℕ) (x : List ℕ × List ℕ) → IsBytes bytes → magic_at bytes ≡ Ok x → Takes bytes (codes "PGRECORD") x.1
unfolding magic_at
magic_takes bytes x fits e =
    let g = checked (ltb (length bytes) 8) (bytes_eq (take 8 bytes) (codes "PGRECORD")) refusals.Truncated refusals.Magic (take 8 bytes, drop 8 bytes) x e in
    let is : take 8 bytes ≡ codes "PGRECORD" = bytes_eq_is _ _ g.0 in
    let whole : bytes ≡ codes "PGRECORD" ++ drop 8 bytes = sym (take-append-drop 8 bytes) ∙ ap (λ (t : List ℕ). t ++ drop 8 bytes) is in
    subst (λ (y : List ℕ × List ℕ). Takes bytes (codes "PGRECORD") y.1) g.1 (record { parts = whole; rest_fits = IsBytes-drop 8 bytes fits })

version_again : (version : Version) (rest : List ℕ) → version_at (to_le_bytes w16 (version_number version) ++ rest) ≡ Ok (version, rest)
unfolding version_at
version_again versions.One rest = ok_bind _ _ _ (passing_again (λ n. eqb n 1 || eqb n 2) refusals.Version _ _ (number_again w16 (2 ^ 16) wide16 1 rest (omega arith)) refl)
version_again versions.Two rest = ok_bind _ _ _ (passing_again (λ n. eqb n 1 || eqb n 2) refusals.Version _ _ (number_again w16 (2 ^ 16) wide16 2 rest (omega arith)) refl)

spans_version_again : (version : Version) (rest : List ℕ) → spans_version_at (to_le_bytes w16 (spans_number version) ++ rest) ≡ Ok (version, rest)
unfolding spans_version_at
spans_version_again versions.One rest = ok_bind _ _ _ (passing_again (λ n. eqb n 3 || eqb n 4) refusals.Version _ _ (number_again w16 (2 ^ 16) wide16 3 rest (omega arith)) refl)
spans_version_again versions.Two rest = ok_bind _ _ _ (passing_again (λ n. eqb n 3 || eqb n 4) refusals.Version _ _ (number_again w16 (2 ^ 16) wide16 4 rest (omega arith)) refl)

number_is : (n : ℕ) → (eqb n 3 || eqb n 4) ≡ true → n ≡ spans_number (spans_version_of n)
number_is n h =
    elim (or_cases (eqb n 3) (eqb n 4) h) [
      | inl a ↦ let is : 3 ≡ n = sym (eqb-true _ _ a) in subst (λ (k : ℕ). k ≡ spans_number (spans_version_of k)) is refl
      | inr b ↦ let is : 4 ≡ n = sym (eqb-true _ _ b) in subst (λ (k : ℕ). k ≡ spans_number (spans_version_of k)) is refl
    ]

spans_version_takes : (bytes : List ℕ) (x : Version × List ℕ) → IsBytes bytes → spans_version_at bytes ≡ Ok x → Takes bytes (to_le_bytes w16 (spans_number x.0)) x.1
unfolding spans_version_at
spans_version_takes bytes x fits e =
    from_passing (λ n. eqb n 3 || eqb n 4) refusals.Version (number_at w16 bytes) _ x e (λ a a_is known e.
    let t = number_takes w16 (2 ^ 16) wide16 bytes a fits a_is in
    let spelled : Takes bytes (to_le_bytes w16 (spans_number (spans_version_of a.0))) a.1 = subst (λ (n : ℕ). Takes bytes (to_le_bytes w16 n) a.1) (number_is a.0 known) t.0 in
    subst (λ (y : Version × List ℕ). Takes bytes (to_le_bytes w16 (spans_number y.0)) y.1) (ok_is (spans_version_of a.0, a.1) x e) spelled)

-- the front of a header
front_again : (version : Version) (rest : List ℕ) → spans_front_at (codes "PGRECORD" ++ (to_le_bytes w16 (spans_number version) ++ rest)) ≡ Ok (version, rest)
unfolding spans_front_at
front_again version rest = ok_bind _ _ _ (magic_again (to_le_bytes w16 (spans_number version) ++ rest)) ∙ spans_version_again version rest

front_takes : (bytes : List ℕ) (x : Version × List ℕ) → IsBytes bytes → spans_front_at bytes ≡ Ok x → Takes bytes (codes "PGRECORD" ++ to_le_bytes w16 (spans_number x.0)) x.1
unfolding spans_front_at
front_takes bytes x fits e =
    from_bind (magic_at bytes) _ x e (λ a a_is e.
    let t0 = magic_takes bytes a fits a_is in
    let t1 = spans_version_takes a.1 x t0.rest_fits e in
    Takes-then bytes (codes "PGRECORD") a.1 (to_le_bytes w16 (spans_number x.0)) x.1 t0 t1)

-- ---- what follows the version

-- a header after its version
abbrev settings_tail : Head → List ℕ
settings_tail head =
    head.cfg.m ∷ head.cfg.flags.0 ∷ (processor_bytes head.version (length head.processors) ++ (to_le_bytes w32 head.segment ++ flat_map start_bytes head.processors))

as_settings : (version : Version) (bytes : List ℕ) → settings_at (codes "PGRECORD" ++ (to_le_bytes w16 (version_number version) ++ bytes)) ≡ settings_behind version bytes
unfolding settings_at
as_settings version bytes = ok_bind _ _ _ (magic_again (to_le_bytes w16 (version_number version) ++ bytes)) ∙ ok_bind _ _ _ (version_again version bytes)

-- what follows the version is read as in a header of version 1 or 2
as_header : (version : Version) (bytes : List ℕ) → header_at (codes "PGRECORD" ++ (to_le_bytes w16 (version_number version) ++ bytes)) ≡ header_behind version bytes
unfolding header_behind
as_header version bytes =
    sym (header_in_parts (codes "PGRECORD" ++ (to_le_bytes w16 (version_number version) ++ bytes)))
    ∙ ap (λ (part : Part Settings). part >>= λ s. starts_at s.0.cfg.m s.0.count s.1 >>= λ starts. Ok (head_of s.0 starts.0, starts.1)) (as_settings version bytes)

old_in_parts : (version : Version) (m flags count size : ℕ) (starts : List ℕ)
    → codes "PGRECORD" ++ to_le_bytes w16 (version_number version) ++ (m ∷ flags ∷ []) ++ processor_bytes version count ++ to_le_bytes w32 size ++ starts
    ≡ codes "PGRECORD" ++ (to_le_bytes w16 (version_number version) ++ (m ∷ flags ∷ (processor_bytes version count ++ (to_le_bytes w32 size ++ starts))))
old_in_parts versions.One m flags count size starts = refl
old_in_parts versions.Two m flags count size starts = refl

new_in_parts : (version : Version) (m flags count size : ℕ) (starts : List ℕ)
    → (codes "PGRECORD" ++ to_le_bytes w16 (spans_number version) ++ (m ∷ flags ∷ []) ++ processor_bytes version count ++ to_le_bytes w32 size) ++ starts
    ≡ codes "PGRECORD" ++ (to_le_bytes w16 (spans_number version) ++ (m ∷ flags ∷ (processor_bytes version count ++ (to_le_bytes w32 size ++ starts))))
new_in_parts versions.One m flags count size starts = refl
new_in_parts versions.Two m flags count size starts = refl

old_header : (head : Head) → header_bytes head ≡ codes "PGRECORD" ++ (to_le_bytes w16 (version_number head.version) ++ settings_tail head)
old_header head = old_in_parts head.version head.cfg.m head.cfg.flags.0 (length head.processors) head.segment (flat_map start_bytes head.processors)

new_header : (head : Head) → spans_header_bytes head ≡ codes "PGRECORD" ++ (to_le_bytes w16 (spans_number head.version) ++ settings_tail head)
new_header head = new_in_parts head.version head.cfg.m head.cfg.flags.0 (length head.processors) head.segment (flat_map start_bytes head.processors)

settings_again : (head : Head) (rest : List ℕ) → IsHead head → HoldsToAll head → header_behind head.version (settings_tail head ++ rest) ≡ Ok (head, rest)
settings_again head rest is all =
    sym (as_header head.version (settings_tail head ++ rest))
    ∙ ap (λ (w : List ℕ). header_at (w ++ rest)) (sym (old_header head))
    ∙ header_again head rest is all

-- the version and what is after it, of bytes with the same magic
same_front : (v w : Version) (xs ys : List ℕ) → codes "PGRECORD" ++ (to_le_bytes w16 (version_number v) ++ xs) ≡ codes "PGRECORD" ++ (to_le_bytes w16 (version_number w) ++ ys) → (v ≡ w) × (xs ≡ ys)
same_front versions.One versions.One xs ys h = (refl, ap (drop 10) h)
same_front versions.One versions.Two xs ys h = let differ : 1 ≡ 2 = ap (λ (l : List ℕ). get_or l 8 0) h in absurd (omega (arith, differ))
same_front versions.Two versions.One xs ys h = let differ : 2 ≡ 1 = ap (λ (l : List ℕ). get_or l 8 0) h in absurd (omega (arith, differ))
same_front versions.Two versions.Two xs ys h = (refl, ap (drop 10) h)

front_fits : (version : Version) → AreBytes (codes "PGRECORD" ++ to_le_bytes w16 (version_number version))
front_fits versions.One = (omega arith, (omega arith, (omega arith, (omega arith, (omega arith, (omega arith, (omega arith, (omega arith, (omega arith, (omega arith, tt))))))))))
front_fits versions.Two = (omega arith, (omega arith, (omega arith, (omega arith, (omega arith, (omega arith, (omega arith, (omega arith, (omega arith, (omega arith, tt))))))))))

settings_take : (version : Version) (bytes : List ℕ) (x : Head × List ℕ) → IsBytes bytes → header_behind version bytes ≡ Ok x → Takes bytes (settings_tail x.0) x.1 × IsHead x.0 × (version ≡ x.0.version) × HoldsToAll x.0
settings_take version bytes x fits e =
    let all : List ℕ = codes "PGRECORD" ++ (to_le_bytes w16 (version_number version) ++ bytes) in
    let all_fit : IsBytes all = bytes_at all (all_append (λ (b : ℕ). b < 256) (codes "PGRECORD" ++ to_le_bytes w16 (version_number version)) bytes (front_fits version) (all_bytes bytes fits)) in
    let t = header_takes all x all_fit (as_header version bytes ∙ e) in
    let parts : all ≡ codes "PGRECORD" ++ (to_le_bytes w16 (version_number x.0.version) ++ (settings_tail x.0 ++ x.1)) = t.0.parts ∙ ap (λ (w : List ℕ). w ++ x.1) (old_header x.0) in
    let same = same_front version x.0.version bytes (settings_tail x.0 ++ x.1) parts in
    (record { parts = same.1; rest_fits = t.0.rest_fits }, t.1, same.0, t.2)

-- ---- the whole header

pub spans_header_again : (head : Head) (rest : List ℕ) → IsHead head → HoldsToAll head → spans_header_at (spans_header_bytes head ++ rest) ≡ Ok (head, rest)
unfolding spans_header_at
spans_header_again head rest is all =
    ap (λ (w : List ℕ). spans_header_at (w ++ rest)) (new_header head)
    ∙ (ok_bind _ _ _ (front_again head.version (settings_tail head ++ rest))
    ∙ settings_again head rest is all)

pub spans_header_takes : (bytes : List ℕ) (x : Head × List ℕ) → IsBytes bytes → spans_header_at bytes ≡ Ok x → Takes bytes (spans_header_bytes x.0) x.1 × IsHead x.0 × HoldsToAll x.0
unfolding spans_header_at
spans_header_takes bytes x fits e =
    from_bind (spans_front_at bytes) _ x e (λ b b_is e.
    let t1 = front_takes bytes b fits b_is in
    let t2 = settings_take b.0 b.1 x t1.rest_fits e in
    let e0 = Takes-then bytes (codes "PGRECORD" ++ to_le_bytes w16 (spans_number b.0)) b.1 (settings_tail x.0) x.1 t1 t2.0 in
    let named : Takes bytes (codes "PGRECORD" ++ (to_le_bytes w16 (spans_number x.0.version) ++ settings_tail x.0)) x.1 =
    subst (λ (v : Version). Takes bytes (codes "PGRECORD" ++ (to_le_bytes w16 (spans_number v) ++ settings_tail x.0)) x.1) t2.2 e0 in
    (subst (λ (w : List ℕ). Takes bytes w x.1) (sym (new_header x.0)) named, t2.1, t2.3))
