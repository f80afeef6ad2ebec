use Rattle.std.proofs.Common.{sym, subst}
use Rattle.pg_chain.specs.declared.past.Past.{Past}
use Rattle.pg_chain.specs.Standing.{IsPast}
use Rattle.pg_chain.proofs.reader.Reader.value_at.Goals as goal

pub keep_word-requires : goal.keep_word-requires
keep_word-requires c = λ head events h w low high.
    (c.value_span-span.ensures.run head events h).same w low high

pub returns-in-None-clause-value : goal.returns-in-None-clause-value
returns-in-None-clause-value c = λ head events h.
    let span = c.value_span-span.ensures.run head events (subst (λ (x : Past). IsPast x head events) (sym c.self.view_is) h) in
    sym (span.same c.args.moment span.low span.high)
