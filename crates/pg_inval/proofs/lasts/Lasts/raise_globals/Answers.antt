use Rattle.std.proofs.Common.{[], ◌∷◌, ap, ◌∙◌}
use Rattle.pg_inval.specs.Keys.{global_at}
use Rattle.pg_inval.specs.Lasts.{AreRaised}
use Rattle.pg_inval.proofs.Bounded.{AreRaised-own, AreRaised-two}
use Rattle.pg_inval.proofs.lasts.Lasts.raise_globals.Goals as goal

pub returns : goal.returns
returns c =
    let m = c.args.moment in
    let first = c.global_at.ensures ∙ ap (global_at c.args.p) c.translation_key.ensures in
    let second = c.global_at-2.ensures ∙ ap (global_at c.args.p) c.translation_key-2.ensures in
    let third = c.global_at-3.ensures ∙ ap (global_at c.args.p) c.translation_key-3.ensures in
    let own : AreRaised c.args.self.now c.raise_wide-3.new.self (c.global_at.result ∷ c.global_at-2.result ∷ c.global_at-3.result ∷ []) m
    = AreRaised-two _ _ _ _ _ m (AreRaised-own _ _ c.global_at.result m c.raise_wide.ensures.kept c.raise_wide.ensures.own)
    (AreRaised-two _ _ _ _ _ m (AreRaised-own _ _ c.global_at-2.result m c.raise_wide-2.ensures.kept c.raise_wide-2.ensures.own)
    (AreRaised-own _ _ c.global_at-3.result m c.raise_wide-3.ensures.kept c.raise_wide-3.ensures.own)) in
    rw (← first, ← second, ← third) own
