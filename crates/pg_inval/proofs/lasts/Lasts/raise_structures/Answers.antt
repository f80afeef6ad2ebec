use Rattle.std.proofs.Common.{[], ◌∷◌, ap, ◌∙◌}
use Rattle.pg_inval.specs.Keys.{structure_at}
use Rattle.pg_inval.specs.Lasts.{AreRaised}
use Rattle.pg_inval.proofs.Bounded.{AreRaised-own, AreRaised-two}
use Rattle.pg_inval.proofs.lasts.Lasts.raise_structures.Goals as goal

pub returns : goal.returns
returns c =
    let m = c.args.moment in
    let first = c.structure_at.ensures ∙ ap (structure_at c.args.p) c.structure_key.ensures in
    let second = c.structure_at-2.ensures ∙ ap (structure_at c.args.p) c.structure_key-2.ensures in
    let third = c.structure_at-3.ensures ∙ ap (structure_at c.args.p) c.structure_key-3.ensures in
    let own : AreRaised c.args.self.now c.raise-3.new.self (c.structure_at.result ∷ c.structure_at-2.result ∷ c.structure_at-3.result ∷ []) m
    = AreRaised-two _ _ _ _ _ m (AreRaised-own _ _ c.structure_at.result m c.raise.ensures.kept c.raise.ensures.own)
    (AreRaised-two _ _ _ _ _ m (AreRaised-own _ _ c.structure_at-2.result m c.raise-2.ensures.kept c.raise-2.ensures.own)
    (AreRaised-own _ _ c.structure_at-3.result m c.raise-3.ensures.kept c.raise-3.ensures.own)) in
    rw (← first, ← second, ← third) own
