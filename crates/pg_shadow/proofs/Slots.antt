-- What is left of a slot.
use Rattle.std.proofs.Common.{◌≡◌, Bool, true, false, cond, Option, None, refl}

-- nothing in either case
pub none_either : {X : Type 0} (b : Bool) (o : Option X) → o ≡ None → o ≡ cond b None o
none_either true o h = h
none_either false o h = refl
