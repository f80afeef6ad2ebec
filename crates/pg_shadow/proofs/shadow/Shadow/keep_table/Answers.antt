use Rattle.std.proofs.Common.{◌≡◌, ap, sym, subst, ◌∙◌}
use Rattle.std.proofs.lemmas.Result.{on_ok_weaker, on_err_weaker}
use Rattle.pg_event.specs.Invalidation.{bits_from, level_shift}
use Rattle.pg_shadow.specs.Caches.{AreInRange, IsTableAt, with_table}
use Rattle.pg_shadow.specs.Held.{Held, seen}
use Rattle.pg_shadow.proofs.Ranges.{AreInRange-with_table}
use Rattle.pg_shadow.proofs.Results.{either}
use Rattle.pg_shadow.proofs.Shadows.{seen-with_table, seen-same_own, no_table}
use Rattle.pg_shadow.proofs.shadow.Shadow.keep_table.Goals as goal

pub invariant_of-self : goal.invariant_of-self
invariant_of-self c =
    let h : Held = record { width = c.self.inside.maxphyaddr; control = c.self.inside.control; own = c.self.inside.own.entries; globals = c.self.inside.globals } in
    let Q : Held → Type 0 = λ o. IsTableAt (seen o).width c.args.level c.args.kept.table c.args.kept.moments in
    let table : IsTableAt (seen h).width c.args.level c.args.kept.table c.args.kept.moments = subst Q (sym c.self.view_is) c.requires in
    either c.keep_own.result
    (λ keeps. subst AreInRange (sym (seen-with_table h c.keep_own.new.own.entries h.control.pcid c.args.level c.bits_from-number.result c.args.kept keeps)) (AreInRange-with_table _ c.args.kept (seen h) c.self.invariant table))
    (λ same. subst AreInRange (sym (seen-same_own h c.keep_own.new.own.entries same)) c.self.invariant)
    c.keep_own.ensures.ok c.keep_own.ensures.err

pub returns-clause-ok : goal.returns-clause-ok
unfolding seen
returns-clause-ok c =
    let h : Held = record { width = c.self.inside.maxphyaddr; control = c.self.inside.control; own = c.self.inside.own.entries; globals = c.self.inside.globals } in
    let number : c.bits_from-number.result ≡ bits_from (level_shift c.args.level) c.args.la =
    c.bits_from-number.ensures ∙ ap (λ n. bits_from n c.args.la) c.level_shift.ensures.shift in
    rw (← c.self.view_is)
    (on_ok_weaker c.keep_own.result
    (λ keeps.
    seen-with_table h c.keep_own.new.own.entries h.control.pcid c.args.level c.bits_from-number.result c.args.kept keeps
    ∙ ap (λ n. with_table (record { pcid = h.control.pcid; level = c.args.level; prefix = n }) c.args.kept (seen h)) number)
    c.keep_own.ensures.ok)

pub returns-clause-err : goal.returns-clause-err
returns-clause-err c =
    let h : Held = record { width = c.self.inside.maxphyaddr; control = c.self.inside.control; own = c.self.inside.own.entries; globals = c.self.inside.globals } in
    rw (← c.self.view_is) (on_err_weaker c.keep_own.result (λ same. seen-same_own h c.keep_own.new.own.entries same) c.keep_own.ensures.err)

pub returns-clause-refused : goal.returns-clause-refused
unfolding seen
returns-clause-refused c =
    let h : Held = record { width = c.self.inside.maxphyaddr; control = c.self.inside.control; own = c.self.inside.own.entries; globals = c.self.inside.globals } in
    let number : c.bits_from-number.result ≡ bits_from (level_shift c.args.level) c.args.la =
    c.bits_from-number.ensures ∙ ap (λ n. bits_from n c.args.la) c.level_shift.ensures.shift in
    rw (← c.self.view_is)
    (on_err_weaker c.keep_own.result
    (λ none.
    ap (λ n. (seen h).tables (record { pcid = h.control.pcid; level = c.args.level; prefix = n })) (sym number)
    ∙ no_table h h.control.pcid c.args.level c.bits_from-number.result none)
    c.keep_own.ensures.refused)
