-- An event that is read and added, with no refusal told.
use Rattle.std.proofs.Common.{◌≡◌, ℕ, ◌-◌, ◌≤◌, true, false, List, [], ◌∷◌, ◌++◌, length, drop, Option, Some, None, Result, Ok, Err, refl, sym, ap, ◌∙◌, subst, arith}
use Rattle.std.proofs.lemmas.Bool.Decides.{nat_tests}
use Rattle.std.proofs.KnownBytes.{Keeps-refl}
use Rattle.std.specs.Prelude.{MatchResult, is_err}
use Rattle.pg_event.specs.declared.event.Event.{Event}
use Rattle.pg_event.specs.declared.event.Malformed.{Malformed}
use Rattle.pg_event.specs.declared.refusal.Refusal.{Refusal}
use Rattle.pg_event.specs.declared.refusal.Refusal.TheVariants as refusals
use Rattle.pg_event.specs.Form.{broken_rule}
use Rattle.pg_event.specs.Heads.{Head}
use Rattle.pg_event.specs.Laws.{AreBytes}
use Rattle.pg_event.specs.Reading.{Part, passing, is_between, last_tag, byte_at, processor_at, fields_at, well_formed_at, event_at}
use Rattle.pg_codec.specs.declared.error.ReadError.{ReadError}
use Rattle.pg_codec.specs.declared.stream.Source.{Ghosts}
use Rattle.pg_codec.specs.Reads.{Gives, seen, judged, Adds, Pulls, Prepares}
use Rattle.pg_codec.proofs.Local.{bind_ok}
use Rattle.pg_codec.proofs.Widths.{event_local}
use Rattle.pg_codec.proofs.Next.{rest_fits, next_pulls}

-- what a function over a slice answers is what reading gives
gives_seen : {X A : Type 0} (view : X → A × List ℕ) (r : Result X Refusal) (part : Part A) → Gives view r part → seen view r ≡ part
gives_seen view (Ok x) part e = sym e
gives_seen view (Err d) part e = sym e

pub adds_by : {X : Type 0} (head : Head) (view : X → Event × List ℕ) (r : Result X Refusal) (part : Part Event) (old new : List Event) (left : Option ℕ) → Gives view r part
    → Adds old new left (λ i. judged head i (seen view r)) → Adds old new left (λ i. judged head i part)
adds_by head view r part old new left gives h = subst (λ p. Adds old new left (λ i. judged head i p)) (gives_seen view r part gives) h

-- an event that breaks no rule
pub no_rule : {U : Type 0} (r : Result U Malformed) (rule : Option Malformed) → MatchResult r (λ u. rule ≡ None) (λ m. rule ≡ Some m) → is_err r ≡ false → rule ≡ None
no_rule (Ok u) rule h e = h
no_rule (Err m) rule h e = absurd cc

pub judged_well : (head : Head) (i : ℕ) (x : Event × List ℕ) → broken_rule head x.0 ≡ None → judged head i (Ok x) ≡ Ok x
judged_well head i x h = ap (λ rule. well_formed_at i rule x) h

between : (low high n : ℕ) → low ≤ n → n ≤ high → is_between low high n ≡ true
between low high n a b = grind (arith, nat_tests)

-- an event by its tag, its processor and its fields
event_by : (head : Head) (i : ℕ) (bytes first others : List ℕ) (tag p : ℕ) → byte_at bytes ≡ Ok (tag, first) → is_between 0x10 (last_tag head.version) tag ≡ true → processor_at head.version first ≡ Ok (p, others)
    → judged head i (fields_at tag p others) ≡ event_at head i bytes
unfolding event_at
event_by head i bytes first others tag p a b c = rw (a, b, c) refl

adds_same : (old new : List Event) (left : Option ℕ) (f g : ℕ → Part Event) → ((i : ℕ) → f i ≡ g i) → Adds old new left f → Adds old new left g
adds_same old new (Some left) f g same h = λ i. subst (λ part. (x : Event × List ℕ) × (part ≡ Ok x) × (length x.1 ≡ left) × (new ≡ old ++ x.0 ∷ [])) (same i) (h i)
adds_same old new None f g same h = tt

pub adds_event : (head : Head) (bytes first others : List ℕ) (tag p last : ℕ) (old new : List Event) (left : Option ℕ) → byte_at bytes ≡ Ok (tag, first) → 0x10 ≤ tag → tag ≤ last → last ≡ last_tag head.version
    → processor_at head.version first ≡ Ok (p, others) → Adds old new left (λ i. judged head i (fields_at tag p others)) → Adds old new left (λ i. event_at head i bytes)
adds_event head bytes first others tag p last old new left a low high is c h =
    let within : is_between 0x10 (last_tag head.version) tag ≡ true = subst (λ l. is_between 0x10 l tag ≡ true) is (between 0x10 last tag low high) in
    adds_same old new left _ _ (λ i. event_by head i bytes first others tag p a within c) h

well_at : (i : ℕ) (rule : Option Malformed) (part x : Event × List ℕ) → well_formed_at i rule part ≡ Ok x → (rule ≡ None) × (part ≡ x)
well_at i None part x e = (refl, cc)
well_at i (Some m) part x e = absurd cc

-- an event that reading gives is well formed
pub event_well : (head : Head) (i : ℕ) (bytes : List ℕ) (x : Event × List ℕ) → event_at head i bytes ≡ Ok x → broken_rule head x.0 ≡ None
unfolding event_at
event_well head i bytes x e =
    let tag = bind_ok (passing (is_between 0x10 (last_tag head.version)) refusals.Tag (byte_at bytes)) _ x e in
    let p = bind_ok (processor_at head.version tag.0.1) _ x tag.2 in
    let fields = bind_ok (fields_at tag.0.0 p.0.0 p.0.1) _ x p.2 in
    let well = well_at i (broken_rule head fields.0.0) fields.0 x fields.2 in
    subst (λ (y : Event × List ℕ). broken_rule head y.0 ≡ None) well.1 well.0

pub left_fits : (head : Head) (i : ℕ) (bytes : List ℕ) (left : ℕ) (x : Event × List ℕ) → event_at head i bytes ≡ Ok x → length x.1 ≡ left → left ≤ length bytes
left_fits head i bytes left x e h = subst (λ n. n ≤ length bytes) h (rest_fits 38 (event_at head i) bytes x.0 x.1 (event_local head i) e)

-- the event at the front of enough bytes is the next of all that is left
pub front_pulls : {R : Type 0} (g : Ghosts R) (head : Head) (i : ℕ) (bytes rest : List ℕ) (source : R) (left : ℕ) (x : Event × List ℕ) → 38 ≤ length bytes → AreBytes bytes → event_at head i bytes ≡ Ok x
    → length x.1 ≡ left → rest ≡ drop (length bytes - left) bytes → Pulls g (event_at head i) (bytes, source) (rest, source) (Ok x.0)
front_pulls g head i bytes rest source left x enough fits e h is =
    let done : Prepares {X = Unit {0}} {E = ReadError} g (bytes, source) (bytes, source) (Ok tt) = record { kept = Keeps-refl _; enough = λ lt. absurd (omega arith); failures = refl } in
    next_pulls 38 (event_at head i) (event_local head i) (omega arith) g (λ y. y) bytes bytes rest source source (tt {0}) done (Ok x) (Ok (x.0, length x.1)) (Ok x.0) fits e refl (is ∙ ap (λ n. drop (length bytes - n) bytes) (sym h), refl)
