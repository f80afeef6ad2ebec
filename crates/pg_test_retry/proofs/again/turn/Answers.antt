use Rattle.std.proofs.Common.{◌≡◌, [], ◌∷◌, map, rules, subst, inr, refl}
use Rattle.pg_guest.specs.Held.{seen}
use Rattle.pg_guest.specs.declared.advance.Advance.{Advance}
use Rattle.pg_guest.specs.declared.advance.Advance.TheVariants.{Stopped}
use Rattle.pg_guest.specs.declared.advance.Stop.TheVariants.{Memory}
use Rattle.pg_guest.specs.CoreRun.{IsCoreRun}
use Rattle.pg_test_retry.proofs.Joined.{joined}
use Rattle.pg_test_retry.proofs.again.turn.Goals as goal

pub returns-clause-turned : goal.returns-clause-turned
returns-clause-turned c =
    let p = c.args.p in
    let old = c.args.world.now in
    let xs = map seen c.args.guests.now in
    let mid = c.turn-answer.new.world in
    let mids = map seen c.turn-answer.new.processors in
    let stopped : c.turn-answer.result ≡ Stopped Memory = search rules in
    let first : IsCoreRun old xs (p ∷ []) (Stopped Memory ∷ []) mid mids = subst (λ (a : Advance). IsCoreRun old xs (p ∷ []) (a ∷ []) mid mids) stopped c.turn-answer.ensures.turned in
    let run = joined old xs (p ∷ []) (Stopped Memory ∷ []) mid mids (p ∷ []) (c.turn.result ∷ []) c.turn.new.world (map seen c.turn.new.processors) first c.turn.ensures.turned in
    inr (record { run = run; refused = refl })
