use Rattle.std.proofs.Common.{take, All, MatchOption}
use Rattle.pg_pool.specs.Rounds.{IsIn}
use Rattle.pg_report.specs.Merging.{IsStranger}
use Rattle.pg_report.proofs.merger.least_stranger.Given as goal

abbrev pub invariant-loop-verdict : goal.invariant-loop-verdict
invariant-loop-verdict l =
    let seen = take l.verdict-index l.verdicts in
    MatchOption l.least (All (λ v. IsIn l.round v.number) seen) (IsStranger l.round seen)
