use Rattle.std.proofs.Common.{[], ◌∷◌, ap, ◌∙◌}
use Rattle.pg_inval.specs.Keys.{local_at}
use Rattle.pg_inval.specs.Lasts.{AreRaised}
use Rattle.pg_inval.proofs.Bounded.{AreRaised-own, AreRaised-two}
use Rattle.pg_inval.proofs.lasts.Lasts.raise_locals.Goals as goal

pub returns : goal.returns
returns c =
    let m = c.args.moment in
    let first = c.local_at.ensures ∙ ap (local_at c.args.p) c.translation_key.ensures in
    let second = c.local_at-2.ensures ∙ ap (local_at c.args.p) c.translation_key-2.ensures in
    let third = c.local_at-3.ensures ∙ ap (local_at c.args.p) c.translation_key-3.ensures in
    let own : AreRaised c.args.self.now c.raise_wide-2.new.self (c.local_at.result ∷ c.local_at-2.result ∷ c.local_at-3.result ∷ []) m
    = AreRaised-two _ _ _ _ _ m (AreRaised-own _ _ c.local_at.result m c.raise.ensures.kept c.raise.ensures.own)
    (AreRaised-two _ _ _ _ _ m (AreRaised-own _ _ c.local_at-2.result m c.raise_wide.ensures.kept c.raise_wide.ensures.own)
    (AreRaised-own _ _ c.local_at-3.result m c.raise_wide-2.ensures.kept c.raise_wide-2.ensures.own)) in
    rw (← first, ← second, ← third) own
