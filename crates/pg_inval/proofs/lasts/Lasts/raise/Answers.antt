use Rattle.std.proofs.Common.{ℕ, ◌≤◌, cond, ◌∙◌, subst}
use Rattle.pg_inval.specs.Classes.{is_wide}
use Rattle.pg_inval.proofs.lasts.Lasts.raise.Goals as goal

pub returns-clause-kept : goal.returns-clause-kept
returns-clause-kept c = λ k m may.
    let same = c.raise_at-2.ensures.wide ∙ c.raise_at.ensures.wide in
    record {
      place = λ told. c.raise_at-2.ensures.kept _ m (c.raise_at.ensures.kept _ m (may.place (subst (λ (w : ℕ). cond (is_wide k) w 0 ≤ m) same told)));
      other_place = λ told. c.raise_at-2.ensures.kept _ m (c.raise_at.ensures.kept _ m (may.other_place (subst (λ (w : ℕ). cond (is_wide k) w 0 ≤ m) same told)));
    }
