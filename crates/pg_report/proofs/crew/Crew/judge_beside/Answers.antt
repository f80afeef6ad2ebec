use Rattle.std.proofs.Common.{◌≡◌, ◌∙◌, ◌==◌, ◌++◌, true≢false, List, length, vec_len, ap, sym, subst, arith}
use Rattle.std.proofs.lemmas.Result.{IfOk-weaker}
use Rattle.pg_event.specs.declared.event.Event.{Event}
use Rattle.pg_event.specs.Heads.{Head}
use Rattle.pg_check.specs.Windows.{IsNextWindow}
use Rattle.pg_pool.specs.Windows.{IsWindowJudged}
use Rattle.pg_report.specs.Teams.{HasOutcome, IsTeam}
use Rattle.pg_report.proofs.Teams.{has_outcome, next_window}
use Rattle.pg_report.proofs.crew.Crew.judge_beside.Given.{Over}
use Rattle.pg_report.proofs.crew.Crew.judge_beside.Goals as goal
use Rattle.pg_report.proofs.crew.Crew.judge_beside.Goals.{After-window_of-window}

-- the window is the next of the run
next_there : (g : Over) (c : After-window_of-window g) (head : Head) (before : List Event) → IsTeam c.args.team head before → IsNextWindow head before c.window_of-window.result
next_there g c head before is =
    let tally = c.in-Ok.ensures.tally in
    let window = c.window_of-window.ensures in
    next_window c.args.team c.args.events.now c.in-Ok.parts.0 tally.0 tally.1 tally.2 c.requires.next head before is c.in-Ok.ensures.head
    (λ none. true≢false (sym (ap (λ es. length es == 0) none) ∙ sym c.if-is_empty.ensures)) c.window_of-window.result window.0 window.1 window.2

pub judge_window_beside-judged-requires-clause-checkers : goal.judge_window_beside-judged-requires-clause-checkers
judge_window_beside-judged-requires-clause-checkers g c κs within = omega (arith, c.in-Ok.ensures.len, c.requires.next.team.few)

pub judge_window_beside-judged-requires-clause-next : goal.judge_window_beside-judged-requires-clause-next
judge_window_beside-judged-requires-clause-next g c κs within =
    let at : After-window_of-window g = (goal.at.judge_window_beside-judged-requires-clause-next g c).After-window_of-window in
    let head = c.args.team.judged.head in
    let may = c.requires.next in
    (head, may.before, record { next = next_there g at head may.before may.team; noted = c.in-Ok.ensures.judges head may.before may.team })

pub settled_if-requires-clause-outcome : goal.settled_if-requires-clause-outcome
settled_if-requires-clause-outcome g c =
    let at : After-window_of-window g = (goal.at.settled_if-requires-clause-outcome g c).After-window_of-window in
    let head = c.args.team.judged.head in
    let may = c.requires.next in
    let next = next_there g at head may.before may.team in
    let tally = c.in-Ok.ensures.tally in (
      head,
      may.before,
      IfOk-weaker c.judge_window_beside-judged.result.0 (IsWindowJudged head may.before c.window_of-window.result) (HasOutcome c.in-Ok.parts.0 head may.before c.window_of-window.result)
          (λ j is. has_outcome c.args.team c.args.events.now c.in-Ok.parts.0 tally.0 tally.1 tally.2 may head may.before may.team c.window_of-window.result next j is)
          (c.judge_window_beside-judged.ensures.ok head may.before (record { next = next; noted = c.in-Ok.ensures.judges head may.before may.team })),
    )

pub settled_if-requires-clause-few : goal.settled_if-requires-clause-few
settled_if-requires-clause-few g c =
    IfOk-weaker c.judge_window_beside-judged.result.0 _ _ (λ j is. omega (arith, is, c.in-Ok.ensures.len, c.requires.next.team.few)) c.judge_window_beside-judged.ensures.len

pub returns-clause-ok : goal.returns-clause-ok
returns-clause-ok g c = λ head before is.
    let at : After-window_of-window g = (goal.at.returns-clause-ok g c).After-window_of-window in
    let next = next_there g at head before is in
    let tally = c.in-Ok.ensures.tally in
    let outcome =
    IfOk-weaker c.judge_window_beside-judged.result.0 (IsWindowJudged head before c.window_of-window.result) (HasOutcome c.in-Ok.parts.0 head before c.window_of-window.result)
    (λ j was. has_outcome c.args.team c.args.events.now c.in-Ok.parts.0 tally.0 tally.1 tally.2 c.requires.next head before is c.window_of-window.result next j was)
    (c.judge_window_beside-judged.ensures.ok head before (record { next = next; noted = c.in-Ok.ensures.judges head before is })) in
    let events : c.window_of-window.result.events.now ≡ c.args.events.now = c.window_of-window.ensures.2 in
    IfOk-weaker c.settled_if.result (λ after. IsTeam after head (before ++ c.window_of-window.result.events.now)) (λ after. IsTeam after head (before ++ c.args.events.now))
    (λ after there. subst (λ (es : List Event). IsTeam after head (before ++ es)) events there)
    (c.settled_if.ensures.ok head before outcome)

pub returns-clause-len : goal.returns-clause-len
returns-clause-len g c =
    IfOk-weaker c.settled_if.result _ _ (λ after is. omega (arith, is, c.in-Ok.ensures.len))
    (c.settled_if.ensures.len (vec_len c.in-Ok.parts.1) c.judge_window_beside-judged.ensures.len)
