-- The next instruction.
use Rattle.std.proofs.Common.{◌≡◌, ℕ, zero, suc, List, [], ◌∷◌, Some, ◌∙◌, ap, subst}
use Rattle.std.specs.Option.{is_some}
use Rattle.std.specs.List.{slice_get, AllByRecursion}
use Rattle.std.proofs.lemmas.Option.{same_Some}
use Rattle.pg_event.specs.declared.event.Event.{Event}
use Rattle.pg_event.specs.Form.{processor_of}
use Rattle.pg_event.specs.Heads.{Head}
use Rattle.pg_guest.specs.declared.instruction.Instruction.{Instruction}
use Rattle.pg_guest.specs.Tasks.{shape, IsWellFormed}
use Rattle.pg_guest.specs.Steps.{IsOwnEvent}

pub AllByRecursion-at : (P : Instruction → Type 0) (xs : List Instruction) (k : ℕ) (x : Instruction) → AllByRecursion P xs → slice_get xs k ≡ Some x → P x
AllByRecursion-at P [] k x all is = absurd (cc)
AllByRecursion-at P (y ∷ ys) zero x all is = subst P (same_Some y x is) all.0
AllByRecursion-at P (y ∷ ys) (suc k) x all is = AllByRecursion-at P ys k x all.1 is

-- an event of the processor that has the instruction's shape carries it out
pub carries : (head : Head) (n p : ℕ) (i : Instruction) (e : Event) → n ≡ p → IsWellFormed head p i → processor_of e ≡ n → shape e ≡ Some i → IsOwnEvent head p e
carries head n p i e same well own asked = record { own = own ∙ same; asked = ap is_some asked; formed = well e (own ∙ same) asked }
