use Rattle.std.proofs.Common.{◌≡◌, subst}
use Rattle.pg_event.specs.declared.keys.StructureKey.{StructureKey}
use Rattle.pg_event.specs.Spelling.{Recorded}
use Rattle.pg_event.specs.Witness.{structure_survives}
use Rattle.pg_chain.specs.Standing.{IsPast}
use Rattle.pg_search.proofs.seen.Seen.structure_survives.Goals as goal

pub returns : goal.returns
returns c =
    let seen : Recorded = c.args.self.now in
    subst (λ (key : StructureKey). c.structure_survives.result ≡ structure_survives seen.head seen.events c.args.lookup.p key c.args.from c.args.to) c.structure_key-key.ensures
    (c.structure_survives.ensures seen.head seen.events (subst (λ (r : Recorded). IsPast c.self.inside.past.now r.head r.events) c.self.view_is c.self.invariant.stands))
