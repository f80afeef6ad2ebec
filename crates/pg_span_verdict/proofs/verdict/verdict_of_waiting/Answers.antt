use Rattle.pg_span_run.specs.Orders.{Spanned}
use Rattle.pg_span_verdict.proofs.Meaning.{never_comes_none_runs, none_are_deduced, none_of_earlier}
use Rattle.pg_span_verdict.proofs.verdict.verdict_of_waiting.Goals as goal

pub returns-then-branch : goal.returns-then-branch
returns-then-branch c =
    let s : Spanned = c.args.run.now in
    let within = c.in_ok-refute.ensures.within c.if-branch.true in
    let never = c.in_ok-refute.ensures.never c.if-branch.true in
    record {
      within = within;
      never = never;
      deduced = none_are_deduced s _ c.new.ensures.items;
      earlier = none_of_earlier s _ _ c.new.ensures.items;
      only = λ none. absurd (c.requires.several none);
      run = never_comes_none_runs s _ within never;
    }
