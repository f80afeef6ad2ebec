use Rattle.std.proofs.Common.{[], All, List, sym, subst, arith}
use Rattle.std.proofs.lemmas.List.Elements.{All-push}
use Rattle.pg_check.specs.Judging.{HasNoted, Noted}
use Rattle.pg_report.proofs.team.Team.new.Goals as goal

pub loop-preserved : goal.loop-preserved
loop-preserved c =
    let noted : Noted → Type 0 = λ n. HasNoted n c.args.header [] in
    record {
      noted = subst (λ (l : List Noted). All noted l) (sym c.in_ok-push.ensures.items) (All-push noted c.loop.others.items c.in_ok-new.field-0 c.loop.invariant.noted c.in_ok-new.ensures);
      len = omega (arith, c.loop.invariant.len, c.in_ok-push.ensures.len);
    }
