-- What is unfolded to compute the text of an object of literals.
use Rattle.std.specs.Prelude.{⊤}
use Rattle.std.specs.Fmt.{digits}
use Rattle.serde_json.proofs.OnLiterals.{serde_json_on_literals}

unfoldable pub objects_on_literals : ⊤
unfolding serde_json_on_literals digits
objects_on_literals = tt
