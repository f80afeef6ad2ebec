-- Steps of reading, whatever they are refused with.
use Rattle.std.proofs.Common.{◌≡◌, ℕ, Bool, true, false, cond, List, Result, Ok, Err, refl, ap}
use Rattle.pg_event.specs.declared.refusal.Refusal.{Refusal}
use Rattle.pg_event.specs.Reading.{◌>>=◌, Part, passing}
use Rattle.pg_event.proofs.Fields.{passing_ok}
use Rattle.pg_span_run.specs.declared.refusal.SpannedRefusal.{SpannedRefusal}
use Rattle.pg_span_run.specs.Reading.{plain}

-- a step that is not refused goes on with its value
pub bind_on : {A B : Type 0} (r : Result A SpannedRefusal) (f : A → Result B SpannedRefusal) (x : A) → r ≡ Ok x → (r >>= f) ≡ f x
bind_on r f x h = ap (λ q. q >>= f) h

-- the value of a step that was not refused
pub bind_from : {A B P : Type 0} (r : Result A SpannedRefusal) (f : A → Result B SpannedRefusal) (y : B) → (r >>= f) ≡ Ok y → ((x : A) → r ≡ Ok x → f x ≡ Ok y → P) → P
bind_from (Ok x) f y e k = k x refl e
bind_from (Err d) f y e k = absurd cc

pub plain_from : {A : Type 0} (part : Part A) (x : A × List ℕ) → plain part ≡ Ok x → part ≡ Ok x
plain_from (Ok y) x e = let same : y ≡ x = cc in ap (λ z. Ok z) same
plain_from (Err d) x e = absurd cc

-- a field that was read and passed its test
pub field_from : {B P : Type 0} (test : ℕ → Bool) (d : Refusal) (part : Part ℕ) (f : ℕ × List ℕ → Result B SpannedRefusal) (y : B) → (plain (passing test d part) >>= f) ≡ Ok y
    → ((x : ℕ × List ℕ) → part ≡ Ok x → test x.0 ≡ true → f x ≡ Ok y → P) → P
field_from test d part f y e k =
    bind_from (plain (passing test d part)) f y e (λ x x_is e.
    let g = passing_ok test d part x (plain_from (passing test d part) x x_is) in
    k x g.0 g.1 e)

pub plain_on : {A : Type 0} (part : Part A) (x : A × List ℕ) → part ≡ Ok x → plain part ≡ Ok x
plain_on part x h = ap plain h

abbrev finished : {A : Type 0} → A → Result A SpannedRefusal
finished x = Ok x

pub value_is : {A : Type 0} (x y : A) → finished x ≡ finished y → x ≡ y
value_is x y e = cc

-- a test of the last step
pub test_from : {A : Type 0} (b : Bool) (d : SpannedRefusal) (x y : A) → cond b (Ok x) (Err d) ≡ finished y → (b ≡ true) × (x ≡ y)
test_from true d x y e = (refl, cc)
test_from false d x y e = absurd cc
