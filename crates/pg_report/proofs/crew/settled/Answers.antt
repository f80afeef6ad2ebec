use Rattle.std.proofs.Common.{◌≤◌, ◌∙◌, ◌++◌, refl, All, List, sym, ap, subst, arith}
use Rattle.std.proofs.lemmas.List.Elements.{All-pop}
use Rattle.std.specs.declared.option.Option.TheVariants.{Some}
use Rattle.pg_event.specs.declared.event.Event.{Event}
use Rattle.pg_event.specs.Heads.{Head}
use Rattle.pg_check.specs.Judging.{Awaits, Findings, HasNoted, Noted}
use Rattle.pg_check.specs.Windows.{with_window}
use Rattle.pg_check.proofs.Judgings.{findings}
use Rattle.pg_pool.specs.declared.round.Round.{Round}
use Rattle.pg_report.specs.Judging.{waiting_round}
use Rattle.pg_report.specs.Rounds.{IsFoundIn, round_verdicts}
use Rattle.pg_report.specs.Teams.{HasOutcome}
use Rattle.pg_report.proofs.Rounds.{waiting_ordered, first_found}
use Rattle.pg_report.proofs.Teams.{awaits_in, begins_in, round_there}
use Rattle.pg_report.proofs.crew.settled.Goals as goal
use Rattle.pg_report.proofs.crew.settled.Goals.{In-Some}

-- the judges have noted all, the one that was taken and the others
all_noted : (c : In-Some) (head : Head) (before : List Event) → HasOutcome c.args.tally head before c.args.window.now c.args.judged →
    All (λ judge. HasNoted judge head (before ++ c.args.window.now.events.now)) c.pop.new.self.items × HasNoted c.in-Some.judge head (before ++ c.args.window.now.events.now)
all_noted c head before h =
    All-pop (λ (n : Noted). HasNoted n head (before ++ c.args.window.now.events.now)) c.args.judged.judges.items c.pop.new.self.items (Some c.in-Some.judge) c.in-Some.ensures.items h.is.judges

pub found_in-requires-clause-ordered : goal.found_in-requires-clause-ordered
found_in-requires-clause-ordered c =
    let at : In-Some = (goal.at.found_in-requires-clause-ordered c).In-Some in
    let was = c.requires.outcome in
    let t = c.args.tally in
    let n = c.in-Some.judge in
    let w = c.args.window.now in
    let a = awaits_in t n was.0 was.1 w c.args.judged was.2 (all_noted at was.0 was.1 was.2).1 in
    subst (λ (r : Round). r.first ≤ r.last) (sym (round_there t n was.0 was.1 w c.args.judged was.2)) (waiting_ordered (findings t.header n t.count t.first_bad) was.0 was.1 w.events.now a was.2.next.valid.size)

pub found_in-requires-clause-each : goal.found_in-requires-clause-each
found_in-requires-clause-each c =
    let was = c.requires.outcome in
    let run = with_window was.0 was.1 c.args.window.now in
    (run, c.deref.ensures.value ∙ was.2.is.verdicts ∙ ap (λ (r : Round). round_verdicts run r) (sym was.2.is.round))

pub settle-requires : goal.settle-requires
settle-requires c =
    let at : In-Some = (goal.at.settle-requires c).In-Some in
    let was = c.requires.outcome in (
      was.0,
      was.1,
      subst (λ (f : Findings). Awaits f was.0 was.1 c.args.window.now.events.now) (sym c.together-judged.ensures)
          (awaits_in c.args.tally c.in-Some.judge was.0 was.1 c.args.window.now c.args.judged was.2 (all_noted at was.0 was.1 was.2).1),
    )

pub returns-in-Ok-clause-ok : goal.returns-in-Ok-clause-ok
returns-in-Ok-clause-ok c = λ head before h.
    let at : In-Some = (goal.at.returns-in-Ok-clause-ok c).In-Some in
    let t = c.args.tally in
    let n = c.in-Some.judge in
    let w = c.args.window.now in
    let run = with_window head before w in
    let noted = all_noted at head before h in
    let a = awaits_in t n head before w c.args.judged h noted.1 in
    let round = round_there t n head before w c.args.judged h in
    let merged : IsFoundIn run c.args.judged.round c.in-Ok.found = c.in-Ok.ensures.ok run (c.deref.ensures.value ∙ h.is.verdicts ∙ ap (λ (r : Round). round_verdicts run r) (sym h.is.round)) in
    record {
      valid = h.next.valid;
      judged = c.settle.ensures head before (subst (λ (f : Findings). Awaits f head before w.events.now) (sym c.together-judged.ensures) a)
          (λ none.
          first_found (findings t.header n t.count t.first_bad) head before w.events.now a h.next.valid.size (round_verdicts run (waiting_round (findings t.header n t.count t.first_bad) w.events.now)) refl c.in-Ok.found (begins_in t n head before w c.args.judged h)
          (subst (λ (q : Round). IsFoundIn run q c.in-Ok.found) round merged));
      others = noted.0;
      few = omega (arith, c.requires.few, c.in-Some.ensures.len);
    }
