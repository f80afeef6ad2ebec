use Rattle.std.proofs.Common.{◌<◌, length, get_or, sym, ◌∙◌, subst, arith, length-set}
use Rattle.std.proofs.lemmas.Option.{slice_get-get_or}
use Rattle.pg_guest.specs.Held.{seen}
use Rattle.pg_guest.specs.Steps.{IsOfRun}
use Rattle.pg_guest.proofs.Placed.{turn_within, placed_on}
use Rattle.pg_test_records.proofs.processors.last_of.Goals as goal

pub advance-last-requires : goal.advance-last-requires
advance-last-requires c =
    let hs = c.loop-p.guests in
    let turns = c.args.turns.now in
    let p = get_or turns c.loop-p.p-index 0 in
    let h = get_or hs p c.index-guests-p.result in
    let within : p < length hs = omega (arith, c.loop-p.invariant.count, turn_within (length c.args.guests.now) turns c.loop-p.p-index c.requires.turns (omega arith)) in
    let placed = c.loop-p.invariant.placed p h (slice_get-get_or hs p c.index-guests-p.result within) in
    subst (λ n. IsOfRun c.loop-p.world.head n (seen h)) (sym placed.number) placed.run

pub loop-p-preserved : goal.loop-p-preserved
loop-p-preserved c =
    let hs = c.loop-p.guests in
    let turns = c.args.turns.now in
    let p = get_or turns c.loop-p.p-index 0 in
    let h = get_or hs p c.index-guests-p.result in
    let within : p < length hs = omega (arith, c.loop-p.invariant.count, turn_within (length c.args.guests.now) turns c.loop-p.p-index c.requires.turns (omega arith)) in
    record {
      placed = placed_on c.loop-p.world hs p h c.advance-last.result c.advance-last.new.world c.advance-last.new.self c.loop-p.invariant.placed
          (slice_get-get_or hs p c.index-guests-p.result within) c.advance-last.ensures.turn c.advance-last.ensures.number;
      count = length-set hs p c.advance-last.new.self ∙ c.loop-p.invariant.count;
    }
