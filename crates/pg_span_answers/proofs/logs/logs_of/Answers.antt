use Rattle.std.proofs.Common.{◌<◌, ◌+◌, ℕ, List, length, map, take, sym, subst}
use Rattle.std.proofs.lemmas.List.{length-map}
use Rattle.pg_span_run.specs.Logs.{Logged}
use Rattle.pg_span_answers.specs.Merges.{AreLogsOf}
use Rattle.pg_span_answers.specs.Openings.{opens}
use Rattle.pg_span_answers.proofs.Taking.{name_there, next_log}
use Rattle.pg_span_answers.proofs.logs.logs_of.Goals as goal

pub returns-in-Err : goal.returns-in-Err
returns-in-Err g c = (_, name_there c.args.names.now c.loop-place.place _ c.loop-place-test.true, c.in-Err.ensures, c.loop-place.logs.items, c.loop-place.invariant)

pub loop-place-preserved : goal.loop-place-preserved
loop-place-preserved g c =
    let names : List (List ℕ) = map (λ s. s.now) c.args.names.now in
    let k = c.loop-place.place in
    let within : k < length names = subst (λ (n : ℕ). k < n) (sym (length-map c.args.names.now (λ s. s.now))) c.loop-place-test.true in
    let old : List Logged = c.loop-place.logs.items in
    let more = next_log (opens g.F.Fn g.S.Source c.args.opener.now) names old k _ c.in-Ok.log within (name_there c.args.names.now k _ c.loop-place-test.true) c.loop-place.invariant c.in-Ok.ensures in
    subst (λ (logs : List Logged). AreLogsOf (opens g.F.Fn g.S.Source c.args.opener.now) (take (k + 1) names) logs) (sym c.in-Ok-push.ensures.items) more
