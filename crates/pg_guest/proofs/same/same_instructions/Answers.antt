use Rattle.std.proofs.lemmas.Slice.Eq.{slice_eq-Decides}
use Rattle.pg_guest.proofs.SameInstructions.{same_instruction}
use Rattle.pg_guest.proofs.same.same_instructions.Goals as goal

pub returns : goal.returns
returns c = slice_eq-Decides same_instruction _ _ _ c.eq.ensures
