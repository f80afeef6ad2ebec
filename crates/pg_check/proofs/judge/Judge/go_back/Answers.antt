use Rattle.std.proofs.Common.{◌++◌, sym, subst}
use Rattle.pg_check.specs.Judging.{Noted, HasNoted}
use Rattle.pg_check.proofs.Judgings.{noted}
use Rattle.pg_check.proofs.judge.Judge.go_back.Goals as goal

pub returns : goal.returns
returns c = λ head before more h count.
    let s = c.self.inside in
    let was : HasNoted (noted s.past s.count) head (before ++ more) = subst (λ (x : Noted). HasNoted x head (before ++ more)) (sym c.self.view_is) h in
    record { past = c.forget_from.ensures head before more was.past count; count = count }
