use Rattle.std.proofs.Common.{sym, subst}
use Rattle.pg_chain.specs.declared.past.Past.{Past}
use Rattle.pg_chain.specs.Standing.{IsPast}
use Rattle.pg_chain.proofs.reader.Reader.control_at.Goals as goal

pub keep_control_span-requires : goal.keep_control_span-requires
keep_control_span-requires c = record {
  root = c.control_span-span.ensures.root;
  same = λ head events h w low high.
      (c.control_span-span.ensures.run head events h).same w low high;
}

pub returns-in-None-clause-run : goal.returns-in-None-clause-run
returns-in-None-clause-run c = λ head events h.
    let span = c.control_span-span.ensures.run head events (subst (λ (x : Past). IsPast x head events) (sym c.self.view_is) h) in
    sym (span.same c.args.moment span.low span.high)
