-- A record that is not finished goes on.
use Rattle.std.proofs.Common.{◌≡◌, ◌≢◌, ℕ, List, [], ◌∷◌, false, sym, ◌∙◌, ap, inl, inr}
use Rattle.pg_guest.specs.declared.advance.Advance.{Advance}
use Rattle.pg_guest.specs.declared.advance.Advance.TheVariants.{Stopped}
use Rattle.pg_guest.specs.declared.advance.Stop.{Stop}
use Rattle.pg_guest.specs.declared.advance.Stop.TheVariants as stops
use Rattle.pg_guest.specs.CoreRun.{IsCoreRun}
use Rattle.pg_guest.specs.Turn.{Processor, Turned, turned, IsTurn}
use Rattle.pg_guest.proofs.Stopped.{never_stops}
use Rattle.pg_runner.proofs.ByTurns.{not_finished}
use Rattle.pg_world.specs.Recording.{Recording}

first_same : (a b : Advance) (xs ys : List Advance) → a ∷ xs ≡ b ∷ ys → a ≡ b
first_same a b xs ys e = cc

stop_same : (a b : Stop) → Stopped a ≡ Stopped b → a ≡ b
stop_same a b e = cc

-- no turn is stopped because the record is finished
turn_goes_on : (p : ℕ) (r : Recording) (x : Processor) (t : Turned) → r.finished ≡ false → IsTurn p r x t → t.answer ≢ Stopped stops.Finished
turn_goes_on p r x t open_still (inl halt) is =
    not_finished r (turned p r x).answer halt.why open_still halt.may (stop_same halt.why stops.Finished (sym (ap (λ (u : Turned). u.answer) halt.is) ∙ is))
turn_goes_on p r x t open_still (inr met) is = never_stops p r x stops.Finished (sym (ap (λ (u : Turned). u.answer) met.is) ∙ is)

pub goes_on : (r end : Recording) (xs ys : List Processor) (p : ℕ) (a : Advance) → r.finished ≡ false → IsCoreRun r xs (p ∷ []) (a ∷ []) end ys → a ≢ Stopped stops.Finished
goes_on r end xs ys p a open_still run is = turn_goes_on p r run.0 run.1 open_still run.4 (sym (first_same a run.1.answer [] run.2 run.5) ∙ is)
