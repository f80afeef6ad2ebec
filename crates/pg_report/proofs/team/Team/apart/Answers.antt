use Rattle.std.proofs.Common.{All, List, sym, subst}
use Rattle.std.proofs.lemmas.List.Elements.{All-push}
use Rattle.pg_check.specs.Judging.{Findings, HasNoted, Noted}
use Rattle.pg_report.proofs.team.Team.apart.Goals as goal

pub returns-clause-judges : goal.returns-clause-judges
returns-clause-judges c = λ head events is.
    let noted : Noted → Type 0 = λ n. HasNoted n head events in
    let first = subst (λ (f : Findings). HasNoted (record { past = f.past; count = f.noted }) head events) c.apart-tally.ensures.parts (record { past = is.judged.past; count = is.judged.noted }) in
    subst (λ (l : List Noted). All noted l) (sym c.in_ok-push.ensures.items) (All-push noted c.args.self.others.items c.apart-tally.result.1 is.others first)
