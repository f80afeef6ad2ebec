use Rattle.std.proofs.Common.{◌≡◌, ◌∙◌, length, map, ap, arith}
use Rattle.std.proofs.lemmas.List.{length-map}
use Rattle.pg_event.specs.Heads.{Head}
use Rattle.pg_guest.specs.Held.{seen}
use Rattle.pg_runner.proofs.Started.{count_of}
use Rattle.pg_runner.specs.Boards.{untaken}
use Rattle.pg_runner.proofs.AfterTurns.{all_told}
use Rattle.pg_runner.proofs.Beginnings.{begins_itself}
use Rattle.pg_runner.proofs.ending.end_all.Goals as goal

pub loop-p-init : goal.loop-p-init
loop-p-init c =
    let board = c.args.board.now in
    let count = count_of c.args.script.now (untaken board.world) (map seen board.processors) c.requires.runs in
    let header : length c.behind-script.inside.processors.items ≡ length c.args.script.now.head.processors = ap (λ (h : Head). length h.processors) (c.behind-script.view_is ∙ c.header.ensures.header) in
    record { script = c.requires; within = omega (arith, count, length-map board.processors seen, header, c.len-count.ensures, c.behind-script.inside.processors.ok.0); grows = begins_itself board.world.events; told = λ q below. absurd (omega (arith, below)) }

pub returns-clause-ended : goal.returns-clause-ended
returns-clause-ended c = λ _. all_told c.loop-p.p (map seen c.loop-p.board.processors) (omega (arith, length-map c.loop-p.board.processors seen, c.loop-p.invariant.within)) c.loop-p.invariant.told
