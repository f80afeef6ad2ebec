-- What holds of a call whether it succeeds or not.
use Rattle.std.specs.Prelude.{Result, Ok, Err, OnOk, OnErr}

pub either : {T E P Q R : Type 0} (r : Result T E) → (P → R) → (Q → R) → OnOk r P → OnErr r Q → R
either (Ok x) f g p q = f p
either (Err e) f g p q = g q

-- what holds anyway holds of a refusal
pub on_err : {T E P : Type 0} (r : Result T E) → P → OnErr r P
on_err (Ok x) p = tt
on_err (Err e) p = p
