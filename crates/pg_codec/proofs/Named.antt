-- Events whose bytes name moments are those of records of versions 1 and 2.
use Rattle.std.proofs.Common.{◌≡◌, ℕ, Bool, false, cond, eqb, List, Result, Ok, Err, refl, sym, ap, subst, inl, inr}
use Rattle.std.proofs.lemmas.Bool.{cases_Bool, eqb-true}
use Rattle.pg_event.specs.declared.event.Event.{Event}
use Rattle.pg_event.specs.declared.refusal.Refusal.{Refusal}
use Rattle.pg_event.specs.Heads.{Head}
use Rattle.pg_event.specs.declared.refusal.Refusal.TheVariants as refusals
use Rattle.pg_event.specs.Reading.{◌>>=◌, Part, byte_at, passing, is_between, processor_at, last_tag, access_at, assist_at, fields_at, event_at}
use Rattle.pg_codec.specs.declared.naming.Naming.TheVariants.{Named}
use Rattle.pg_codec.specs.Reads.{Gives, judged}
use Rattle.pg_codec.specs.Bare.{access_in, assist_in, fields_in, event_in}

access_named : (p : ℕ) (bytes : List ℕ) → fields_in Named 0x11 p bytes ≡ fields_at 0x11 p bytes
unfolding fields_in fields_at access_in access_at
access_named p bytes = refl

assist_named : (p : ℕ) (bytes : List ℕ) → fields_in Named 0x16 p bytes ≡ fields_at 0x16 p bytes
unfolding fields_in fields_at assist_in assist_at
assist_named p bytes = refl

last : {A : Type 0} (b c : Bool) (x y z : A) → b ≡ false → c ≡ false → cond b x (cond c y z) ≡ z
last b c x y z f g = rw (f, g) refl

other_named : (tag p : ℕ) (bytes : List ℕ) → eqb tag 0x11 ≡ false → eqb tag 0x16 ≡ false → fields_in Named tag p bytes ≡ fields_at tag p bytes
unfolding fields_in
other_named tag p bytes f g = last (eqb tag 0x11) (eqb tag 0x16) (access_in Named p bytes) (assist_in Named p bytes) (fields_at tag p bytes) f g

fields_named : (tag p : ℕ) (bytes : List ℕ) → fields_in Named tag p bytes ≡ fields_at tag p bytes
fields_named tag p bytes =
    elim (cases_Bool (eqb tag 0x11)) [
      | inl t ↦ subst (λ (n : ℕ). fields_in Named n p bytes ≡ fields_at n p bytes) (sym (eqb-true _ _ t)) (access_named p bytes)
      | inr f ↦ elim (cases_Bool (eqb tag 0x16)) [
        | inl t ↦ subst (λ (n : ℕ). fields_in Named n p bytes ≡ fields_at n p bytes) (sym (eqb-true _ _ t)) (assist_named p bytes)
        | inr g ↦ other_named tag p bytes f g
      ]
    ]

-- a step with two ways to go on that agree
on_same : {A B : Type 0} (r : Result A Refusal) (f g : A → Result B Refusal) → ((x : A) → f x ≡ g x) → (r >>= f) ≡ (r >>= g)
on_same (Ok x) f g same = same x
on_same (Err e) f g same = refl

abbrev behind_tag : (ℕ → ℕ → List ℕ → Part Event) → Head → ℕ → ℕ × List ℕ → Part Event
behind_tag fields head i tag = processor_at head.version tag.1 >>= λ p. judged head i (fields tag.0 p.0 p.1)

tag_same : (f g : ℕ → ℕ → List ℕ → Part Event) (head : Head) (i : ℕ) (tag : ℕ × List ℕ) → ((tag p : ℕ) (bytes : List ℕ) → f tag p bytes ≡ g tag p bytes) → behind_tag f head i tag ≡ behind_tag g head i tag
tag_same f g head i tag same =
    on_same (processor_at head.version tag.1) (λ p. judged head i (f tag.0 p.0 p.1)) (λ p. judged head i (g tag.0 p.0 p.1)) (λ p. ap (judged head i) (same tag.0 p.0 p.1))

event_named : (head : Head) (i : ℕ) (bytes : List ℕ) → event_in Named head i bytes ≡ event_at head i bytes
unfolding event_in event_at
event_named head i bytes =
    on_same (passing (is_between 0x10 (last_tag head.version)) refusals.Tag (byte_at bytes)) (behind_tag (fields_in Named) head i) (behind_tag fields_at head i)
    (λ tag. tag_same (fields_in Named) fields_at head i tag fields_named)

-- a function that answers what reading such an event gives
pub gives_event : {X : Type 0} (view : X → Event × List ℕ) (r : Result X Refusal) (head : Head) (i : ℕ) (bytes : List ℕ) → Gives view r (event_in Named head i bytes) → Gives view r (event_at head i bytes)
gives_event view r head i bytes gives = subst (Gives view r) (event_named head i bytes) gives

pub gives_fields : {X : Type 0} (view : X → Event × List ℕ) (r : Result X Refusal) (tag p : ℕ) (bytes : List ℕ) → Gives view r (fields_in Named tag p bytes) → Gives view r (fields_at tag p bytes)
gives_fields view r tag p bytes gives = subst (Gives view r) (fields_named tag p bytes) gives
