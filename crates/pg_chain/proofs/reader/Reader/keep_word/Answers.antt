use Rattle.std.proofs.Common.{sym, subst, Some}
use Rattle.pg_chain.specs.declared.past.Past.{Past}
use Rattle.pg_chain.specs.Known.{IsWord, IfKept}
use Rattle.pg_chain.proofs.Readers.{all_set}
use Rattle.pg_chain.proofs.reader.Reader.keep_word.Goals as goal

pub invariant_of-self : goal.invariant_of-self
invariant_of-self c =
    let r = c.self.inside in
    record {
      values = all_set (IfKept (IsWord r.past.now)) r.words.items c.args.place (Some c.args.word) c.self.invariant.values
          (subst (λ (x : Past). IsWord x c.args.word) (sym c.self.view_is) c.requires);
      controls = c.self.invariant.controls;
      drops = c.self.invariant.drops;
    }
