use Rattle.std.proofs.Common.{◌≤◌, ◌+◌, ◌-◌, Global, length, rules}
use Rattle.pg_codec.proofs.Intakes.{error_gives}
use Rattle.pg_codec.proofs.intake.pull_all.Goals as goal

pub returns-in-Err-clause-bytes : goal.returns-in-Err-clause-bytes
returns-in-Err-clause-bytes g c =
    let before = c.loop-bytes.bytes.items in
    let within : length before ≤ c.args.most + 1 = c.loop-bytes.invariant.within in
    let room = c.args.most + 1 - c.len-in-loop-bytes.result in
    let fits : length before + room ≤ c.args.most + 1 = search rules in
    error_gives Global c.args.most room _ _ _ before c.pull_some.new.bytes.items c.in-Err.error fits c.loop-bytes.invariant.bytes c.in-Err.ensures.pulled
