use Rattle.std.proofs.Common.{sym, subst, Some}
use Rattle.pg_chain.specs.declared.past.Past.{Past}
use Rattle.pg_chain.specs.Known.{IsControlSpan, IfKept}
use Rattle.pg_chain.proofs.Readers.{all_set}
use Rattle.pg_chain.proofs.reader.Reader.keep_control_span.Goals as goal

pub invariant_of-self : goal.invariant_of-self
invariant_of-self c =
    let r = c.self.inside in
    record {
      values = c.self.invariant.values;
      controls = all_set (IfKept (IsControlSpan r.past.now)) r.control_spans.items c.args.kept.p (Some c.args.kept) c.self.invariant.controls
          (subst (λ (x : Past). IsControlSpan x c.args.kept) (sym c.self.view_is) c.requires);
      drops = c.self.invariant.drops;
    }
