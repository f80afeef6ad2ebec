-- An event without moments that is read is spelled so, and one that is spelled so is read again.
use Rattle.std.proofs.Common.{◌≡◌, ℕ, ◌^◌, ◌<◌, ◌≤◌, Bool, true, false, cond, eqb, List, [], ◌∷◌, ◌++◌, Option, None, Ok, refl, sym, ap, subst, ◌∙◌, append_assoc, arith, drop}
use Rattle.std.specs.List.{AllByRecursion}
use Rattle.std.specs.Int.{w32, w64, to_le_bytes}
use Rattle.std.proofs.lemmas.Bool.{eqb-true, eqb-false}
use Rattle.pg_event.specs.declared.event.Event.{Event}
use Rattle.pg_event.specs.declared.event.Event.TheVariants.{Write, Access, Assist, MovCr3, Invlpg, Invpcid, MovCr4Pge}
use Rattle.pg_event.specs.declared.event.Outcome.{Outcome}
use Rattle.pg_event.specs.declared.event.Malformed.{Malformed}
use Rattle.pg_event.specs.declared.refusal.Refusal.TheVariants as refusals
use Rattle.pg_event.specs.declared.version.Version.{Version}
use Rattle.pg_event.specs.Heads.{Head}
use Rattle.pg_event.specs.Form.{processor_of, broken_rule}
use Rattle.pg_event.specs.Spelling.{processor_bytes, outcome_bytes, tag_of, field_bytes, event_bytes, FitsEvent, FitsOutcome}
use Rattle.pg_event.specs.Reading.{byte_at, number_at, is_between, processor_at, outcome_at, fields_at, last_tag, well_formed_at, event_at}
use Rattle.pg_event.specs.Laws.{AreBytes}
use Rattle.pg_event.proofs.Fields.{IsBytes, from_bind, from_passing, ok_bind, ok_is, Takes, Takes-then, passing_again, byte_takes, wide32, wide64, number_takes, number_again}
use Rattle.pg_event.proofs.Events.{processor_again, processor_takes, outcome_again, outcome_takes, fields_again, IsEvent, event_again, event_takes}
use Rattle.pg_event.proofs.Chunks.{all_parts, all_append}
use Rattle.pg_event.proofs.Spellings.{bytes_at}
use Rattle.pg_codec.proofs.Next.{all_bytes}
use Rattle.pg_codec.specs.declared.naming.Naming.TheVariants as namings
use Rattle.pg_codec.specs.Bare.{no_moments, IsBare, bare_bytes, access_in, assist_in, fields_in}
use Rattle.pg_span_run.specs.Spelling.{Timed, timed_bytes}
use Rattle.pg_span_run.specs.Reading.{timed_at}

both : (xs ys : List ℕ) → AreBytes xs → AreBytes ys → AreBytes (xs ++ ys)
both xs ys a b = all_append (λ (n : ℕ). n < 256) xs ys a b

access_again : (p flags la : ℕ) (outcome : Outcome) (moments rest : List ℕ) → la < 2 ^ 64 → FitsOutcome outcome → moments ≡ no_moments
    → access_in namings.Bare p (flags ∷ to_le_bytes w64 la ++ (outcome_bytes outcome ++ rest)) ≡ Ok (Access p flags la outcome moments, rest)
unfolding access_in
access_again p flags la outcome moments rest lt fits bare =
    ok_bind _ _ _ (number_again w64 (2 ^ 64) wide64 la (outcome_bytes outcome ++ rest) lt)
    ∙ (ok_bind _ _ _ (outcome_again outcome rest fits)
    ∙ ap (λ (ms : List ℕ). Ok (Access p flags la outcome ms, rest)) (sym bare))

assist_again : (p flags la word : ℕ) (moments rest : List ℕ) → la < 2 ^ 64 → word < 2 ^ 64 → moments ≡ no_moments
    → assist_in namings.Bare p (flags ∷ to_le_bytes w64 la ++ (to_le_bytes w64 word ++ rest)) ≡ Ok (Assist p flags la word moments, rest)
unfolding assist_in
assist_again p flags la word moments rest la_fits word_fits bare =
    ok_bind _ _ _ (number_again w64 (2 ^ 64) wide64 la (to_le_bytes w64 word ++ rest) la_fits)
    ∙ (ok_bind _ _ _ (number_again w64 (2 ^ 64) wide64 word rest word_fits)
    ∙ ap (λ (ms : List ℕ). Ok (Assist p flags la word ms, rest)) (sym bare))

pub bare_again : (e : Event) (rest : List ℕ) → FitsEvent e → IsBare e → fields_in namings.Bare (tag_of e) (processor_of e) (bare_bytes e ++ rest) ≡ Ok (e, rest)
unfolding fields_in
bare_again (Write p addr value) rest fits bare = fields_again (Write p addr value) rest fits
bare_again (Access p flags la outcome moments) rest fits bare =
    ap (λ (w : List ℕ). access_in namings.Bare p (flags ∷ w)) (append_assoc (to_le_bytes w64 la) (outcome_bytes outcome) rest) ∙ access_again p flags la outcome moments rest fits.1 fits.2 bare
bare_again (Assist p flags la word moments) rest fits bare =
    ap (λ (w : List ℕ). assist_in namings.Bare p (flags ∷ w)) (append_assoc (to_le_bytes w64 la) (to_le_bytes w64 word) rest) ∙ assist_again p flags la word moments rest fits.1 fits.2 bare
bare_again (MovCr3 p operand) rest fits bare = fields_again (MovCr3 p operand) rest fits
bare_again (Invlpg p la) rest fits bare = fields_again (Invlpg p la) rest fits
bare_again (Invpcid p kind pcid la) rest fits bare = fields_again (Invpcid p kind pcid la) rest fits
bare_again (MovCr4Pge p on) rest fits bare = fields_again (MovCr4Pge p on) rest fits

-- an event that was read after its tag, processor and span
pub record TakesBare (tag p : ℕ) (bytes : List ℕ) (x : Event × List ℕ) : Type 0 where
  pub tagged : tag ≡ tag_of x.0
  pub named : p ≡ processor_of x.0
  pub parts : bytes ≡ bare_bytes x.0 ++ x.1
  pub rest_fits : IsBytes x.1
  pub fits : FitsEvent x.0
  pub bare : IsBare x.0

one_moment : AllByRecursion (λ (w : ℕ). w < 2 ^ 32) no_moments
one_moment = (omega arith, tt)

access_takes : (p : ℕ) (bytes : List ℕ) (x : Event × List ℕ) → IsBytes bytes → access_in namings.Bare p bytes ≡ Ok x → TakesBare 0x11 p bytes x
unfolding access_in
access_takes p bytes x fits e =
    from_bind (byte_at bytes) _ x e (λ a a_is e.
    from_bind (number_at w64 a.1) _ x e (λ b b_is e.
    from_bind (outcome_at b.1) _ x e (λ c c_is e.
    let t0 = byte_takes bytes a fits a_is in
    let t1 = number_takes w64 (2 ^ 64) wide64 a.1 b t0.0.rest_fits b_is in
    let t2 = outcome_takes b.1 c t1.0.rest_fits c_is in
    let e12 = Takes-then a.1 (to_le_bytes w64 b.0) b.1 (outcome_bytes c.0) c.1 t1.0 t2.0 in
    let e02 = Takes-then bytes (a.0 ∷ []) a.1 (to_le_bytes w64 b.0 ++ outcome_bytes c.0) c.1 t0.0 e12 in
    subst (TakesBare 0x11 p bytes) (ok_is (Access p a.0 b.0 c.0 no_moments, c.1) x e)
    (record { tagged = refl; named = refl; parts = e02.parts; rest_fits = e02.rest_fits; fits = (t0.1, t1.1, t2.1, record { some = omega arith; few = omega arith; fit = one_moment }); bare = refl }))))

assist_takes : (p : ℕ) (bytes : List ℕ) (x : Event × List ℕ) → IsBytes bytes → assist_in namings.Bare p bytes ≡ Ok x → TakesBare 0x16 p bytes x
unfolding assist_in
assist_takes p bytes x fits e =
    from_bind (byte_at bytes) _ x e (λ a a_is e.
    from_bind (number_at w64 a.1) _ x e (λ b b_is e.
    from_bind (number_at w64 b.1) _ x e (λ c c_is e.
    let t0 = byte_takes bytes a fits a_is in
    let t1 = number_takes w64 (2 ^ 64) wide64 a.1 b t0.0.rest_fits b_is in
    let t2 = number_takes w64 (2 ^ 64) wide64 b.1 c t1.0.rest_fits c_is in
    let e12 = Takes-then a.1 (to_le_bytes w64 b.0) b.1 (to_le_bytes w64 c.0) c.1 t1.0 t2.0 in
    let e02 = Takes-then bytes (a.0 ∷ []) a.1 (to_le_bytes w64 b.0 ++ to_le_bytes w64 c.0) c.1 t0.0 e12 in
    subst (TakesBare 0x16 p bytes) (ok_is (Assist p a.0 b.0 c.0 no_moments, c.1) x e)
    (record { tagged = refl; named = refl; parts = e02.parts; rest_fits = e02.rest_fits; fits = (t0.1, t1.1, t2.1, record { some = omega arith; few = omega arith; fit = one_moment }); bare = refl }))))

-- the bytes of an event that has no moments to leave out
same_bytes : (e : Event) → (tag_of e ≡ 0x11 → ⊥) → (tag_of e ≡ 0x16 → ⊥) → (bare_bytes e ≡ field_bytes e) × IsBare e
same_bytes (Write p addr value) a b = (refl, tt)
same_bytes (Access p flags la outcome moments) a b = absurd (a refl)
same_bytes (Assist p flags la word moments) a b = absurd (b refl)
same_bytes (MovCr3 p operand) a b = (refl, tt)
same_bytes (Invlpg p la) a b = (refl, tt)
same_bytes (Invpcid p kind pcid la) a b = (refl, tt)
same_bytes (MovCr4Pge p on) a b = (refl, tt)

first_is : (a b : ℕ) (xs ys : List ℕ) → a ∷ xs ≡ b ∷ ys → (a ≡ b) × (xs ≡ ys)
first_is a b xs ys h = (ap (λ (l : List ℕ). elim l [ [] ↦ a | (z ∷ zs) ↦ z ]) h, ap (drop 1) h)

-- fields that are read as those of a well formed event of versions 1 and 2
old_takes : (head : Head) (tag p : ℕ) (bytes : List ℕ) (x : Event × List ℕ) → IsBytes bytes → AreBytes (processor_bytes head.version p) → p < 2 ^ 16 → tag < 256
    → is_between 0x10 (last_tag head.version) tag ≡ true → broken_rule head x.0 ≡ None → (tag ≡ 0x11 → ⊥) → (tag ≡ 0x16 → ⊥) → fields_at tag p bytes ≡ Ok x → TakesBare tag p bytes x
unfolding event_at
old_takes head tag p bytes x fits named_fits numbered small known well not_access not_assist e =
    let version : Version = head.version in
    let all : List ℕ = tag ∷ (processor_bytes version p ++ bytes) in
    let all_fit : IsBytes all = bytes_at all (small, both (processor_bytes version p) bytes named_fits (all_bytes bytes fits)) in
    let read : event_at head 0 all ≡ Ok x =
    ok_bind _ _ _ (passing_again (is_between 0x10 (last_tag version)) refusals.Tag (Ok (tag, processor_bytes version p ++ bytes)) (tag, processor_bytes version p ++ bytes) refl known)
    ∙ (ok_bind _ _ _ (processor_again version p bytes numbered)
    ∙ (ok_bind _ _ _ e
    ∙ ap (λ (o : Option Malformed). well_formed_at 0 o x) well)) in
    let t = event_takes head 0 all x all_fit read in
    let after : List ℕ = field_bytes x.0 ++ x.1 in
    let parts = first_is tag (tag_of x.0) (processor_bytes version p ++ bytes) ((processor_bytes version (processor_of x.0) ++ field_bytes x.0) ++ x.1) t.0.parts in
    let behind : processor_bytes version p ++ bytes ≡ processor_bytes version (processor_of x.0) ++ after = parts.1 ∙ append_assoc (processor_bytes version (processor_of x.0)) (field_bytes x.0) x.1 in
    let both_are : (p, bytes) ≡ (processor_of x.0, after) =
    ok_is (p, bytes) (processor_of x.0, after) (sym (processor_again version p bytes numbered) ∙ ap (processor_at version) behind ∙ processor_again version (processor_of x.0) after t.1.numbered) in
    let same = same_bytes x.0 (λ h. not_access (parts.0 ∙ h)) (λ h. not_assist (parts.0 ∙ h)) in
    record {
      tagged = parts.0;
      named = ap (λ (y : ℕ × List ℕ). y.0) both_are;
      parts = ap (λ (y : ℕ × List ℕ). y.1) both_are ∙ ap (λ (w : List ℕ). w ++ x.1) (sym same.0);
      rest_fits = t.0.rest_fits;
      fits = t.1.fits;
      bare = same.1;
    }

-- one of two ways to go on
pub chosen : {A : Type 0} (P : Type 0) (b : Bool) (r s y : A) → (b ≡ true → r ≡ y → P) → (b ≡ false → s ≡ y → P) → cond b r s ≡ y → P
chosen P true r s y f g e = f refl e
chosen P false r s y f g e = g refl e

bare_takes : (head : Head) (tag p : ℕ) (bytes : List ℕ) (x : Event × List ℕ) → IsBytes bytes → AreBytes (processor_bytes head.version p) → p < 2 ^ 16 → tag < 256
    → is_between 0x10 (last_tag head.version) tag ≡ true → broken_rule head x.0 ≡ None → fields_in namings.Bare tag p bytes ≡ Ok x → TakesBare tag p bytes x
unfolding fields_in
bare_takes head tag p bytes x fits named_fits numbered small known well =
    chosen (TakesBare tag p bytes x) (eqb tag 0x11) (access_in namings.Bare p bytes) _ (Ok x)
    (λ h e. subst (λ (n : ℕ). TakesBare n p bytes x) (sym (eqb-true _ _ h)) (access_takes p bytes x fits e))
    (λ not_access. chosen (TakesBare tag p bytes x) (eqb tag 0x16) (assist_in namings.Bare p bytes) (fields_at tag p bytes) (Ok x)
    (λ h e. subst (λ (n : ℕ). TakesBare n p bytes x) (sym (eqb-true _ _ h)) (assist_takes p bytes x fits e))
    (λ not_assist e. old_takes head tag p bytes x fits named_fits numbered small known well (eqb-false _ _ not_access) (eqb-false _ _ not_assist) e))

-- ---- events with their spans

-- an event with its span that has a spelling, as event number i under a header
pub record IsTimed (head : Head) (i : ℕ) (x : Timed) : Type 0 where
  pub numbered : processor_of x.0 < 2 ^ 16
  pub fits : FitsEvent x.0
  pub bare : IsBare x.0
  pub well : broken_rule head x.0 ≡ None
  pub span : x.1 ≤ i
  pub within : x.1 < 2 ^ 32

-- the tag of a well formed event is one of its version
tag_kept : (head : Head) (e : Event) → IsEvent head e → is_between 0x10 (last_tag head.version) (tag_of e) ≡ true
unfolding event_at
tag_kept head e is =
    from_passing (is_between 0x10 (last_tag head.version)) refusals.Tag (byte_at (event_bytes head.version e ++ [])) _ (e, []) (event_again head 0 e [] is)
    (λ a a_is tag e_is. subst (λ (y : ℕ × List ℕ). is_between 0x10 (last_tag head.version) y.0 ≡ true) (sym (ok_is (tag_of e, (processor_bytes head.version (processor_of e) ++ field_bytes e) ++ []) a a_is)) tag)

pub timed_again : (head : Head) (i : ℕ) (x : Timed) (rest : List ℕ) → IsTimed head i x → timed_at head.version (timed_bytes head.version x ++ rest) ≡ Ok (x, rest)
unfolding timed_at
timed_again head i x rest is =
    let known = tag_kept head x.0 (record { numbered = is.numbered; fits = is.fits; well = is.well }) in
    let version : Version = head.version in
    let p : List ℕ = processor_bytes version (processor_of x.0) in
    let back : List ℕ = to_le_bytes w32 x.1 in
    let fields : List ℕ = bare_bytes x.0 ++ rest in
    let after : List ℕ = (p ++ back ++ bare_bytes x.0) ++ rest in
    let regrouped : after ≡ p ++ (back ++ fields) = append_assoc (p ++ back) (bare_bytes x.0) rest ∙ append_assoc p back fields in
    ok_bind _ _ _ (passing_again (is_between 0x10 (last_tag version)) refusals.Tag (Ok (tag_of x.0, after)) (tag_of x.0, after) refl known)
    ∙ (ok_bind _ _ _ (ap (processor_at version) regrouped ∙ processor_again version (processor_of x.0) (back ++ fields) is.numbered)
    ∙ (ok_bind _ _ _ (number_again w32 (2 ^ 32) wide32 x.1 fields is.within)
    ∙ ok_bind _ _ _ (bare_again x.0 rest is.fits is.bare)))

-- an event with its span that was read, before its span was judged
pub record TakesTimed (head : Head) (bytes : List ℕ) (x : Timed) (rest : List ℕ) : Type 0 where
  pub takes : Takes bytes (timed_bytes head.version x) rest
  pub numbered : processor_of x.0 < 2 ^ 16
  pub fits : FitsEvent x.0
  pub bare : IsBare x.0
  pub within : x.1 < 2 ^ 32

front_are : (xs ys : List ℕ) → AreBytes (xs ++ ys) → AreBytes xs
front_are xs ys h = (all_parts (λ (b : ℕ). b < 256) xs ys h).0

pub timed_takes : (head : Head) (bytes : List ℕ) (x : Timed × List ℕ) → IsBytes bytes → broken_rule head x.0.0 ≡ None → timed_at head.version bytes ≡ Ok x → TakesTimed head bytes x.0 x.1
unfolding timed_at
timed_takes head bytes x fits well e =
    from_passing (is_between 0x10 (last_tag head.version)) refusals.Tag (byte_at bytes) _ x e (λ a a_is tag e.
    from_bind (processor_at head.version a.1) _ x e (λ b b_is e.
    from_bind (number_at w32 b.1) _ x e (λ c c_is e.
    from_bind (fields_in namings.Bare a.0 b.0 c.1) _ x e (λ d d_is e.
    let made : Timed × List ℕ = ((d.0, c.0), d.1) in
    let same : made ≡ x = ok_is made x e in
    let d_well : broken_rule head d.0 ≡ None = ap (λ (y : Timed × List ℕ). broken_rule head y.0.0) same ∙ well in
    let t0 = byte_takes bytes a fits a_is in
    let t1 = processor_takes head.version a.1 b t0.0.rest_fits b_is in
    let t2 = number_takes w32 (2 ^ 32) wide32 b.1 c t1.0.rest_fits c_is in
    let named_fits : AreBytes (processor_bytes head.version b.0) = front_are (processor_bytes head.version b.0) b.1 (subst AreBytes t1.0.parts (all_bytes a.1 t0.0.rest_fits)) in
    let t3 = bare_takes head a.0 b.0 c.1 d t2.0.rest_fits named_fits t1.1 t0.1 tag d_well d_is in
    let fields : Takes c.1 (bare_bytes d.0) d.1 = record { parts = t3.parts; rest_fits = t3.rest_fits } in
    let e2 = Takes-then b.1 (to_le_bytes w32 c.0) c.1 (bare_bytes d.0) d.1 t2.0 fields in
    let e1 = Takes-then a.1 (processor_bytes head.version b.0) b.1 (to_le_bytes w32 c.0 ++ bare_bytes d.0) d.1 t1.0 e2 in
    let e0 = Takes-then bytes (a.0 ∷ []) a.1 (processor_bytes head.version b.0 ++ (to_le_bytes w32 c.0 ++ bare_bytes d.0)) d.1 t0.0 e1 in
    let tagged : Takes bytes (tag_of d.0 ∷ (processor_bytes head.version b.0 ++ (to_le_bytes w32 c.0 ++ bare_bytes d.0))) d.1 =
    subst (λ (n : ℕ). Takes bytes (n ∷ (processor_bytes head.version b.0 ++ (to_le_bytes w32 c.0 ++ bare_bytes d.0))) d.1) t3.tagged e0 in
    let named : Takes bytes (tag_of d.0 ∷ (processor_bytes head.version (processor_of d.0) ++ (to_le_bytes w32 c.0 ++ bare_bytes d.0))) d.1 =
    subst (λ (n : ℕ). Takes bytes (tag_of d.0 ∷ (processor_bytes head.version n ++ (to_le_bytes w32 c.0 ++ bare_bytes d.0))) d.1) t3.named tagged in
    let whole : Takes bytes (timed_bytes head.version (d.0, c.0)) d.1 =
    subst (λ (w : List ℕ). Takes bytes (tag_of d.0 ∷ w) d.1) (sym (append_assoc (processor_bytes head.version (processor_of d.0)) (to_le_bytes w32 c.0) (bare_bytes d.0))) named in
    subst (λ (y : Timed × List ℕ). TakesTimed head bytes y.0 y.1) same
    (record { takes = whole; numbered = subst (λ (n : ℕ). n < 2 ^ 16) t3.named t1.1; fits = t3.fits; bare = t3.bare; within = t2.1 })))))
