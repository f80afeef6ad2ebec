use Rattle.std.proofs.Common.{Option, subst}
use Rattle.std.specs.Prelude.{IfSome}
use Rattle.pg_span_run.specs.Orders.{Spanned}
use Rattle.pg_span_refute.specs.declared.deduced.Refuted.{Refuted}
use Rattle.pg_span_refute.specs.Supposed.{IsRefuted}
use Rattle.pg_span_verdict.proofs.Meaning.{never_comes_none_runs}
use Rattle.pg_span_verdict.proofs.verdict.verdict_near.Goals as goal

pub returns-in-Some : goal.returns-in-Some
returns-in-Some c =
    let s : Spanned = c.args.run.now in
    let found : IsRefuted s c.in-Some.field-0 = subst (λ (o : Option Refuted). IfSome o (IsRefuted s)) c.in-Some.is c.in_ok-number.ensures in
    record {
      within = found.within;
      never = found.never;
      deduced = found.deduced;
      earlier = found.earlier;
      only = λ none. absurd (c.requires.search.several none);
      run = never_comes_none_runs s c.in-Some.field-0.number found.within found.never;
    }
