use Rattle.std.proofs.Common.{◌<◌, length, map, take, get_or, sym, ◌∙◌, subst, arith, length-set}
use Rattle.std.proofs.lemmas.List.{take_more}
use Rattle.std.proofs.lemmas.Option.{slice_get-get_or}
use Rattle.pg_guest.proofs.Leaves.{core_runs_leave}
use Rattle.pg_guest.proofs.CoreRuns.{core_runs_keep_quiet}
use Rattle.pg_guest.proofs.Transcripts.{core_runs_are_told}
use Rattle.pg_guest.specs.Held.{seen}
use Rattle.pg_guest.specs.Steps.{IsOfRun}
use Rattle.pg_guest.proofs.Placed.{turn_within, driven_on}
use Rattle.pg_guest.proofs.driver.drive.Goals as goal

pub advance-answer-requires : goal.advance-answer-requires
advance-answer-requires c =
    let hs = c.loop-p.processors in
    let turns = c.args.turns.now in
    let p = get_or turns c.loop-p.p-index 0 in
    let within : p < length hs = omega (arith, c.loop-p.invariant.count, turn_within (length c.args.processors.now) turns c.loop-p.p-index c.requires.turns (omega arith)) in
    let here = slice_get-get_or hs p c.index-processors-p.result within in
    let placed = c.loop-p.invariant.driven.placed p (get_or hs p c.index-processors-p.result) here in
    subst (λ n. IsOfRun c.loop-p.world.head n (seen (get_or hs p c.index-processors-p.result))) (sym placed.number) placed.run

pub loop-p-preserved : goal.loop-p-preserved
loop-p-preserved c =
    let hs = c.loop-p.processors in
    let turns = c.args.turns.now in
    let k = c.loop-p.p-index in
    let more : k < length turns = omega arith in
    let p = get_or turns k 0 in
    let within : p < length hs = omega (arith, c.loop-p.invariant.count, turn_within (length c.args.processors.now) turns k c.requires.turns more) in
    let here = slice_get-get_or hs p c.index-processors-p.result within in
    let driven = driven_on c.args.world.now c.args.processors.now (take k turns) c.loop-p.answers.items c.loop-p.world hs p (get_or hs p c.index-processors-p.result)
    c.advance-answer.result c.advance-answer.new.world c.advance-answer.new.self c.loop-p.invariant.driven here c.advance-answer.ensures.turn c.advance-answer.ensures.number in
    record {
      driven = rw (take_more turns k 0 more, c.push_reserved.ensures.items) driven;
      count = length-set hs p c.advance-answer.new.self ∙ c.loop-p.invariant.count;
      taken = omega (arith, c.push_reserved.ensures.len, c.loop-p.invariant.taken);
      room = c.push_reserved.ensures.capacity ∙ c.loop-p.invariant.room;
    }

pub returns-clause-quiet : goal.returns-clause-quiet
returns-clause-quiet c = λ quiet.
    let turns = c.args.turns.now in
    let run = c.loop-p.invariant.driven.run in
    core_runs_keep_quiet c.args.world.now (map seen c.args.processors.now) (take c.loop-p.p-index turns) c.loop-p.answers.items c.loop-p.world (map seen c.loop-p.processors) quiet run

pub returns-clause-leaves : goal.returns-clause-leaves
returns-clause-leaves c =
    let turns = c.args.turns.now in
    core_runs_leave c.args.world.now (map seen c.args.processors.now) (take c.loop-p.p-index turns) c.loop-p.answers.items c.loop-p.world (map seen c.loop-p.processors) c.loop-p.invariant.driven.run

pub returns-clause-told : goal.returns-clause-told
returns-clause-told c = λ told.
    let turns = c.args.turns.now in
    core_runs_are_told c.args.world.now (map seen c.args.processors.now) (take c.loop-p.p-index turns) c.loop-p.answers.items c.loop-p.world (map seen c.loop-p.processors) told c.loop-p.invariant.driven.run
