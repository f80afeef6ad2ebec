use Rattle.std.proofs.Common.{[], slice_index_or, refl, sym, subst}
use Rattle.std.proofs.lemmas.Option.{slice_get-get_or}
use Rattle.pg_guest.specs.Held.{seen}
use Rattle.pg_guest.specs.Steps.{IsOfRun}
use Rattle.pg_guest.proofs.Placed.{IsDriven, driven_on}
use Rattle.pg_runner.proofs.turns.turn.Goals as goal

pub advance-requires : goal.advance-requires
advance-requires c =
    let hs = c.args.processors.now in
    let p = c.args.p in
    let h = slice_index_or hs p c.index-processors-p.result in
    let placed = c.requires.placed p h (slice_get-get_or hs p c.index-processors-p.result c.requires.within) in
    subst (λ n. IsOfRun c.args.world.now.head n (seen h)) (sym placed.number) placed.run

pub returns-clause-turned : goal.returns-clause-turned
returns-clause-turned c =
    let hs = c.args.processors.now in
    let p = c.args.p in
    let h = slice_index_or hs p c.index-processors-p.result in
    let none : IsDriven c.args.world.now hs [] [] c.args.world.now hs = record { run = (refl, refl, refl); placed = c.requires.placed } in
    (driven_on c.args.world.now hs [] [] c.args.world.now hs p h c.advance.result c.advance.new.world c.advance.new.self none
    (slice_get-get_or hs p c.index-processors-p.result c.requires.within) c.advance.ensures.turn c.advance.ensures.number).run

pub returns-clause-placed : goal.returns-clause-placed
returns-clause-placed c =
    let hs = c.args.processors.now in
    let p = c.args.p in
    let h = slice_index_or hs p c.index-processors-p.result in
    let none : IsDriven c.args.world.now hs [] [] c.args.world.now hs = record { run = (refl, refl, refl); placed = c.requires.placed } in
    (driven_on c.args.world.now hs [] [] c.args.world.now hs p h c.advance.result c.advance.new.world c.advance.new.self none
    (slice_get-get_or hs p c.index-processors-p.result c.requires.within) c.advance.ensures.turn c.advance.ensures.number).placed
