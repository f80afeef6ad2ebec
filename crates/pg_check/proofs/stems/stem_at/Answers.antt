use Rattle.std.proofs.Common.{◌∙◌, sym, subst, refl, List, ℕ, Option}
use Rattle.pg_check.specs.declared.stems.Stem.{Stem}
use Rattle.pg_check.specs.Stems.{HasStem, IsStem}
use Rattle.pg_check.proofs.Uppers as uppers
use Rattle.pg_check.proofs.stems.stem_at.Goals as goal

pub returns-then-is_of : goal.returns-then-is_of
returns-then-is_of c = λ past limit have.
    let found = c.in_ok-stem.field-0.now in
    let at = c.in_ok-stem.ensures.lookup in
    let s = c.in-Some.stem in
    let named = c.if-is_of.ensures refl in
    let has : IsStem past limit s.p s.region s.moments s.chain = subst (λ (o : Option Stem). HasStem past limit o) (sym (at.3.1 found) ∙ c.in-Some.is) (uppers.stem_at past limit c.args.stems.now c.args.place found have at.3.0) in
    subst (λ q. IsStem past limit q c.args.region c.args.moments.now s.chain) named.0
    (subst (λ r. IsStem past limit s.p r c.args.moments.now s.chain) named.1
    (subst (λ (ws : List ℕ). IsStem past limit s.p s.region ws s.chain) named.2 has))
