use Rattle.std.proofs.Common.{◌≡◌, List, ap, subst, ◌∙◌}
use Rattle.std.specs.Option.{unwrap_or}
use Rattle.pg_inval.specs.declared.log.LogEntry.{LogEntry}
use Rattle.pg_inval.specs.Lists.{Log, IsLeastBetween, has_drop}
use Rattle.pg_inval.proofs.AnyFrom.{IsLeastBetween-both}
use Rattle.pg_inval.proofs.drops.Drops.beside.Goals as goal

pub returns-clause-least : goal.returns-clause-least
returns-clause-least c = λ test found.
    let a = c.args in
    let same : c.as_slice-log.result.now ≡ a.self.now.entries = c.as_slice-log.ensures.value ∙ ap (λ (d : Log). d.entries) c.self.view_is in
    rw c.or.ensures
    (IsLeastBetween-both test (λ j. has_drop a.self.now.entries a.key j) a.window.from a.window.to a.found c.first_at.result found
    (subst (λ (es : List LogEntry). IsLeastBetween (λ j. has_drop es a.key j) a.window.from (unwrap_or a.found a.window.to) c.first_at.result) same
    (rw c.unwrap_or.ensures at c.first_at.ensures.least)))
