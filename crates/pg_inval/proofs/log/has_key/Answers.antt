use Rattle.std.proofs.Common.{◌≡◌, false, nat_eq, List, ap, sym, ◌∙◌}
use Rattle.std.proofs.lemmas.Bool.{ne_eqb}
use Rattle.pg_event.specs.declared.invalidation.Invalidation.{Invalidation}
use Rattle.pg_inval.specs.declared.class.Class.{Class}
use Rattle.pg_inval.specs.declared.key.DropKey.{DropKey}
use Rattle.pg_inval.specs.Packed.{invalidation_of}
use Rattle.pg_inval.specs.Classes.{class_of, keys_in}
use Rattle.pg_inval.specs.Keys.{processor_in, has_key}
use Rattle.pg_inval.proofs.Logs.{in_class}
use Rattle.pg_inval.proofs.Owned.{has_no_other}
use Rattle.pg_inval.proofs.log.has_key.Goals as goal

pub returns-then-entry-processor : goal.returns-then-entry-processor
returns-then-entry-processor c =
    let other : nat_eq c.args.entry.p (processor_in c.args.key) ≡ false =
    ne_eqb c.args.entry.p (processor_in c.args.key) (λ same. c.if-entry-processor.true (same ∙ sym c.processor.ensures)) in
    sym (has_no_other c.args.entry.p (invalidation_of c.args.entry.packed) c.args.key other)

pub returns : goal.returns
returns c =
    let p = c.args.entry.p in
    let i : Invalidation = invalidation_of c.args.entry.packed in
    let made : c.keys_in-keys.result.items ≡ keys_in (class_of c.args.key) p i
    = c.keys_in-keys.ensures ∙ ap (λ (d : Class). keys_in d p c.invalidation_of.result) c.class_of.ensures ∙ ap (λ (j : Invalidation). keys_in (class_of c.args.key) p j) c.invalidation_of.ensures in
    c.contains.ensures.value ∙ ap (λ (ks : List DropKey). has_key ks c.args.key) (c.as_slice.ensures.value ∙ made) ∙ in_class c.args.key p i
