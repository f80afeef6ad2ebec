-- Turns that are stopped.
use Rattle.std.proofs.Common.{◌≡◌, ℕ, Option, Some, None, sym, ◌∙◌, ap, inl, inr}
use Rattle.std.specs.Prelude.{slice_get}
use Rattle.pg_event.specs.Form.{access_kind}
use Rattle.pg_guest.specs.declared.instruction.Instruction.{Instruction}
use Rattle.pg_guest.specs.declared.instruction.Instruction.TheVariants.{Write, Access, MovCr3, Invlpg, Invpcid, MovCr4Pge}
use Rattle.pg_shadow.specs.declared.entries.Found.TheVariants.{Miss}
use Rattle.pg_guest.specs.declared.advance.Advance.TheVariants.{Stopped}
use Rattle.pg_guest.specs.declared.advance.Stop.{Stop}
use Rattle.pg_guest.specs.Turn.{Processor, Turned, begun, turned, turned_by, IsTurn}
use Rattle.pg_guest.proofs.Cases.{goes_on_any}
use Rattle.pg_world.specs.Recording.{Recording}

-- what a turn comes to by itself is never a stop
pub never_stops : (p : ℕ) (r : Recording) (x : Processor) (why : Stop) → (turned p r x).answer ≡ Stopped why → ⊥
never_stops p r x why is = never_by (slice_get x.instructions x.place) is
  where
    never_by : (o : Option Instruction) → (turned_by p r x o).answer ≡ Stopped why → ⊥
    never_by None e = absurd (cc)
    never_by (Some (Write addr value)) e = absurd (cc)
    never_by (Some (Access flags la)) e = goes_on_any (λ t. t.answer ≡ Stopped why → ⊥) p r x flags la (record {
      hit = λ outcome moments e. absurd (cc);
      fault = λ code moments e. absurd (cc);
      assist = λ way bits word moments e. absurd (cc);
      read = λ level way caches e. absurd (cc);
    }) (begun r.head x.caches la (access_kind flags) x.way) e
    never_by (Some (MovCr3 operand)) e = absurd (cc)
    never_by (Some (Invlpg la)) e = absurd (cc)
    never_by (Some (Invpcid kind pcid la)) e = absurd (cc)
    never_by (Some (MovCr4Pge on)) e = absurd (cc)

pub stays_if_stopped : (p : ℕ) (r : Recording) (x : Processor) (t : Turned) → IsTurn p r x t → (why : Stop) → t.answer ≡ Stopped why → (t.world ≡ r) × (t.processor ≡ record x { way = Miss })
stays_if_stopped p r x t (inl halt) why is = (ap (λ (u : Turned). u.world) halt.is, ap (λ (u : Turned). u.processor) halt.is)
stays_if_stopped p r x t (inr met) why is = absurd (never_stops p r x why (sym (ap (λ (u : Turned). u.answer) met.is) ∙ is))
