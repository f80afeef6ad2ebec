use Rattle.std.proofs.Common.{◌≡◌, take}
use Rattle.pg_pool.specs.Verdicts.{placed}
use Rattle.pg_pool.specs.Work.{all_told}
use Rattle.pg_pool.proofs.placing.place_done.Given as goal

abbrev pub invariant-loop-one : goal.invariant-loop-one
invariant-loop-one g l = l.verdicts ≡ placed l.first l.initial.verdicts (all_told (take l.one-index l.done))
