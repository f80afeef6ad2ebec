use Rattle.std.proofs.Common.{◌≡◌, take, All, None, MatchOption}
use Rattle.pg_report.specs.Merging.{IsLowest}
use Rattle.pg_report.proofs.merger.lowest_bad.Given as goal

abbrev pub invariant-loop-verdict : goal.invariant-loop-verdict
invariant-loop-verdict l = let seen = take l.verdict-index l.verdicts in
    MatchOption l.lowest (All (λ v. v.first_bad ≡ None) seen) (IsLowest seen)
