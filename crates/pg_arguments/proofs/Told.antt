-- What is told of words that are taken, and give no plan.
use Rattle.std.proofs.Common.{◌≡◌, false, List, Option, Some, inr, refl, subst, sym}
use Rattle.clap.specs.Walk.{Row, Text}
use Rattle.pg_arguments.specs.declared.request.Usage.{Usage}
use Rattle.pg_arguments.specs.declared.request.Usage.TheVariants.{Help, Version, Fault, Memory}
use Rattle.pg_arguments.specs.declared.request.Telling.{Telling}
use Rattle.pg_arguments.specs.Commands.{IsTellingOf, has_conflict}
use Rattle.pg_arguments.specs.Texts.{IsFaultOf, IsWrong, TellsWrong, number_text}

pub tells_wrong : (found : Option (Text × List Row)) (text : Text) (why : Usage) → IsWrong found text → IsFaultOf text why → TellsWrong found why
tells_wrong found text (Fault told) wrong told_is = subst (IsWrong found) (sym told_is) wrong
tells_wrong found text Memory wrong told_is = tt
tells_wrong found text (Help told) wrong told_is = absurd told_is
tells_wrong found text (Version told) wrong told_is = absurd told_is

pub number_is_wrong : (name : Text) (rows : List Row) (telling : Telling) → has_conflict rows ≡ false → IsTellingOf rows telling → IsWrong (Some (name, rows)) number_text
number_is_wrong name rows telling alone is = inr (inr (alone, (λ mistold. mistold.1 telling is), refl))
