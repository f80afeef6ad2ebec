use Rattle.std.proofs.Common.{sym, subst}
use Rattle.pg_check.specs.Judging.{Findings, IsJudged, MayFollow}
use Rattle.pg_check.proofs.Judgings.{findings, judged_noted, awaits, judged_alike, noted_ok, noted_err, found_ok, on_err}
use Rattle.pg_check.proofs.judged.Judged.found_in.Goals as goal

pub returns-then-is_none-clause-ok : goal.returns-then-is_none-clause-ok
returns-then-is_none-clause-ok c = λ head before j.
    let s = c.self.inside in
    let more = c.args.events.now in
    let f : Findings = findings s.header s.judge s.count s.first_bad in
    let was : IsJudged f head before = subst (λ (x : Findings). IsJudged x head before) (sym c.self.view_is) j in
    let may : MayFollow f more = subst (λ (x : Findings). MayFollow x more) (sym c.self.view_is) c.requires in
    noted_ok c.judge.result f head before more may was c.judge.new.self (c.judge.ensures.ok head before (judged_noted f head before was))

pub returns-then-is_none-clause-found : goal.returns-then-is_none-clause-found
returns-then-is_none-clause-found c = λ head before j.
    let s = c.self.inside in
    let f : Findings = findings s.header s.judge s.count s.first_bad in
    let was : IsJudged f head before = subst (λ (x : Findings). IsJudged x head before) (sym c.self.view_is) j in
    found_ok c.judge.result head before c.args.events.now (c.judge.ensures.found head before (judged_noted f head before was))

pub returns-then-is_none-clause-err : goal.returns-then-is_none-clause-err
returns-then-is_none-clause-err c = λ head before j.
    let s = c.self.inside in
    let f : Findings = findings s.header s.judge s.count s.first_bad in
    let was : IsJudged f head before = subst (λ (x : Findings). IsJudged x head before) (sym c.self.view_is) j in
    noted_err c.judge.result f head before was c.judge.new.self (c.judge.ensures.err head before (judged_noted f head before was))

pub returns-in_err-note-clause-err : goal.returns-in_err-note-clause-err
returns-in_err-note-clause-err c = λ head before j.
    let s = c.self.inside in
    let f : Findings = findings s.header s.judge s.count s.first_bad in
    let was : IsJudged f head before = subst (λ (x : Findings). IsJudged x head before) (sym c.self.view_is) j in
    on_err c.from_residual.result (judged_alike f head before was c.note.new.self (c.in_err-note.ensures.err head before (judged_noted f head before was)))

pub returns-clause-ok : goal.returns-clause-ok
returns-clause-ok c = λ head before j.
    let s = c.self.inside in
    let more = c.args.events.now in
    let f : Findings = findings s.header s.judge s.count s.first_bad in
    let was : IsJudged f head before = subst (λ (x : Findings). IsJudged x head before) (sym c.self.view_is) j in
    let may : MayFollow f more = subst (λ (x : Findings). MayFollow x more) (sym c.self.view_is) c.requires in
    awaits f head before more may was c.note.new.self (c.in_ok-note.ensures.ok head before (judged_noted f head before was))
