-- What a look at the version of a record gives, where it does not fail; streams that are left alone.
use Rattle.std.proofs.Common.{◌≡◌, ℕ, List, Bool, Option, Some, None, Result, Ok, refl, subst}
use Rattle.std.specs.Prelude.{IfOk, IfSome, OnOk}
use Rattle.std.specs.Io.KnownBytes.{Keeps}
use Rattle.pg_codec.specs.Reads.{Finds, left_in}
use Rattle.pg_codec.specs.Streams.{RaisesFailures}
use Rattle.pg_answers.specs.Refusals.{StaysSame}
use Rattle.pg_codec.specs.declared.stream.Sink as sinks
use Rattle.pg_codec.specs.declared.stream.Source.{Ghosts}
use Rattle.pg_report.specs.Changes.{filled}

pub finds_ok : {R E : Type 0} (g : Ghosts R) (test : List ℕ → Bool) (old new : List ℕ × R) (result : Result Bool E) (b : Bool) → result ≡ Ok b → Finds g test old new result
    → IfSome (left_in g old) (λ bytes. b ≡ test bytes) × Keeps (left_in g old) (left_in g new) × (g.failed new.1 ≡ g.failed old.1)
finds_ok {R} {E} g test old new result b is h =
    let V : Result Bool E → Type 0 = λ r. IfOk r (λ passes. IfSome (left_in g old) (λ bytes. passes ≡ test bytes)) in
    let K : Result Bool E → Type 0 = λ r. OnOk r (Keeps (left_in g old) (left_in g new)) in
    let F : Result Bool E → Type 0 = λ r. RaisesFailures (g.failed old.1) (g.failed new.1) r in
    (subst V is h.value, subst K is h.kept, subst F is h.failures)

keeps_same : (bytes : Option (List ℕ)) → Keeps bytes bytes
keeps_same None = tt
keeps_same (Some xs) = refl

pub stays_same : {W : Type 0} (g : sinks.Ghosts W) (w : W) → StaysSame (filled g w w)
stays_same g w = (keeps_same (filled g w w).old.bytes, refl)
