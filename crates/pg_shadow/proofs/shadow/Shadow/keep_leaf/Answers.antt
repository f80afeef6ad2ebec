use Rattle.std.proofs.Common.{◌≡◌, ℕ, Bool, true, false, ◌&&◌, ap, sym, subst, ◌∙◌}
use Rattle.std.proofs.lemmas.Result.{on_ok_weaker, on_err_weaker}
use Rattle.pg_event.specs.Invalidation.{bits_from}
use Rattle.pg_entry.specs.declared.Level.{Level}
use Rattle.pg_event.specs.declared.keys.TranslationKey.{TranslationKey}
use Rattle.pg_shadow.specs.declared.slot.KeptEntry.TheVariants.{Leaf}
use Rattle.pg_shadow.specs.Spaces.{slot_in, Keeps}
use Rattle.pg_shadow.specs.Caches.{AreInRange, IsPageAt, with_leaf}
use Rattle.pg_shadow.specs.Held.{Held, seen, space_of, KeepsOwn}
use Rattle.pg_shadow.specs.Slots.{no_slot}
use Rattle.pg_shadow.proofs.Ranges.{AreInRange-with_leaf}
use Rattle.pg_shadow.proofs.Results.{either}
use Rattle.pg_shadow.proofs.Shadows.{seen-with_own_leaf, seen-with_global_leaf, seen-same_own, seen-same_globals, no_own_leaf, no_global_leaf}
use Rattle.pg_shadow.proofs.shadow.Shadow.keep_leaf.Goals as goal

pub invariant_of-self : goal.invariant_of-self
invariant_of-self c =
    let h : Held = record { width = c.self.inside.maxphyaddr; control = c.self.inside.control; own = c.self.inside.own.entries; globals = c.self.inside.globals } in
    let Q : Held → Type 0 = λ o. IsPageAt (seen o).width c.args.shift c.args.kept.frame c.args.kept.moments in
    let K : Level → Type 0 = λ l. Keeps h.globals c.keep.new.self l c.bits_from-number.result (Leaf c.args.kept) in
    let page : IsPageAt (seen h).width c.args.shift c.args.kept.frame c.args.kept.moments = subst Q (sym c.self.view_is) c.requires in
    either c.keep.result
    (λ keeps.
    subst AreInRange
    (sym (seen-with_global_leaf h c.keep.new.self h.control.pcid c.args.shift c.bits_from-number.result c.args.kept c.requires.size (subst K c.level_of-level.ensures keeps)))
    (AreInRange-with_leaf (record { pcid = h.control.pcid; shift = c.args.shift; number = c.bits_from-number.result; global = true }) c.args.kept (seen h) c.self.invariant page))
    (λ same. subst AreInRange (sym (seen-same_globals h c.keep.new.self same)) c.self.invariant)
    c.keep.ensures.ok c.keep.ensures.err

pub invariant_of-self-else-is_global : goal.invariant_of-self-else-is_global
invariant_of-self-else-is_global c =
    let h : Held = record { width = c.self.inside.maxphyaddr; control = c.self.inside.control; own = c.self.inside.own.entries; globals = c.self.inside.globals } in
    let Q : Held → Type 0 = λ o. IsPageAt (seen o).width c.args.shift c.args.kept.frame c.args.kept.moments in
    let K : Level → Type 0 = λ l. KeepsOwn h.own c.keep_own.new.own.entries h.control.pcid l c.bits_from-number.result (Leaf c.args.kept) in
    let page : IsPageAt (seen h).width c.args.shift c.args.kept.frame c.args.kept.moments = subst Q (sym c.self.view_is) c.requires in
    either c.keep_own.result
    (λ keeps.
    subst AreInRange
    (sym (seen-with_own_leaf h c.keep_own.new.own.entries h.control.pcid c.args.shift c.bits_from-number.result c.args.kept c.requires.size (subst K c.level_of-level.ensures keeps)))
    (AreInRange-with_leaf (record { pcid = h.control.pcid; shift = c.args.shift; number = c.bits_from-number.result; global = false }) c.args.kept (seen h) c.self.invariant page))
    (λ same. subst AreInRange (sym (seen-same_own h c.keep_own.new.own.entries same)) c.self.invariant)
    c.keep_own.ensures.ok c.keep_own.ensures.err

pub returns-then-is_global-clause-ok : goal.returns-then-is_global-clause-ok
unfolding seen
returns-then-is_global-clause-ok c =
    let h : Held = record { width = c.self.inside.maxphyaddr; control = c.self.inside.control; own = c.self.inside.own.entries; globals = c.self.inside.globals } in
    let K : Level → Type 0 = λ l. Keeps h.globals c.keep.new.self l c.bits_from-number.result (Leaf c.args.kept) in
    let global : true ≡ (c.args.global_bit && h.control.pge) = sym c.if-is_global.true ∙ c.is_global.ensures in
    rw (← c.self.view_is)
    (on_ok_weaker c.keep.result
    (λ keeps.
    seen-with_global_leaf h c.keep.new.self h.control.pcid c.args.shift c.bits_from-number.result c.args.kept c.requires.size (subst K c.level_of-level.ensures keeps)
    ∙ ap (λ n. with_leaf (record { pcid = h.control.pcid; shift = c.args.shift; number = n; global = true }) c.args.kept (seen h)) c.bits_from-number.ensures
    ∙ ap (λ b. with_leaf (record { pcid = h.control.pcid; shift = c.args.shift; number = bits_from c.args.shift c.args.la; global = b }) c.args.kept (seen h)) global)
    c.keep.ensures.ok)

pub returns-then-is_global-clause-err : goal.returns-then-is_global-clause-err
returns-then-is_global-clause-err c =
    let h : Held = record { width = c.self.inside.maxphyaddr; control = c.self.inside.control; own = c.self.inside.own.entries; globals = c.self.inside.globals } in
    rw (← c.self.view_is) (on_err_weaker c.keep.result (λ same. seen-same_globals h c.keep.new.self same) c.keep.ensures.err)

pub returns-else-is_global-clause-ok : goal.returns-else-is_global-clause-ok
unfolding seen
returns-else-is_global-clause-ok c =
    let h : Held = record { width = c.self.inside.maxphyaddr; control = c.self.inside.control; own = c.self.inside.own.entries; globals = c.self.inside.globals } in
    let K : Level → Type 0 = λ l. KeepsOwn h.own c.keep_own.new.own.entries h.control.pcid l c.bits_from-number.result (Leaf c.args.kept) in
    let global : false ≡ (c.args.global_bit && h.control.pge) = sym c.if-is_global.false ∙ c.is_global.ensures in
    rw (← c.self.view_is)
    (on_ok_weaker c.keep_own.result
    (λ keeps.
    seen-with_own_leaf h c.keep_own.new.own.entries h.control.pcid c.args.shift c.bits_from-number.result c.args.kept c.requires.size (subst K c.level_of-level.ensures keeps)
    ∙ ap (λ n. with_leaf (record { pcid = h.control.pcid; shift = c.args.shift; number = n; global = false }) c.args.kept (seen h)) c.bits_from-number.ensures
    ∙ ap (λ b. with_leaf (record { pcid = h.control.pcid; shift = c.args.shift; number = bits_from c.args.shift c.args.la; global = b }) c.args.kept (seen h)) global)
    c.keep_own.ensures.ok)

pub returns-else-is_global-clause-err : goal.returns-else-is_global-clause-err
returns-else-is_global-clause-err c =
    let h : Held = record { width = c.self.inside.maxphyaddr; control = c.self.inside.control; own = c.self.inside.own.entries; globals = c.self.inside.globals } in
    rw (← c.self.view_is) (on_err_weaker c.keep_own.result (λ same. seen-same_own h c.keep_own.new.own.entries same) c.keep_own.ensures.err)

pub returns-then-is_global-clause-refused : goal.returns-then-is_global-clause-refused
unfolding seen
returns-then-is_global-clause-refused c =
    let h : Held = record { width = c.self.inside.maxphyaddr; control = c.self.inside.control; own = c.self.inside.own.entries; globals = c.self.inside.globals } in
    let K : Level → Type 0 = λ l. slot_in h.globals l c.bits_from-number.result ≡ no_slot in
    let key : ℕ → Bool → TranslationKey = λ n b. record { pcid = h.control.pcid; shift = c.args.shift; number = n; global = b } in
    let global : true ≡ (c.args.global_bit && h.control.pge) = sym c.if-is_global.true ∙ c.is_global.ensures in
    rw (← c.self.view_is)
    (on_err_weaker c.keep.result
    (λ none.
    ap (λ n. (seen h).leaves (key n (c.args.global_bit && h.control.pge))) (sym c.bits_from-number.ensures)
    ∙ ap (λ b. (seen h).leaves (key c.bits_from-number.result b)) (sym global)
    ∙ no_global_leaf h h.control.pcid c.args.shift c.bits_from-number.result c.requires.size (subst K c.level_of-level.ensures none))
    c.keep.ensures.refused)

pub returns-else-is_global-clause-refused : goal.returns-else-is_global-clause-refused
unfolding seen
returns-else-is_global-clause-refused c =
    let h : Held = record { width = c.self.inside.maxphyaddr; control = c.self.inside.control; own = c.self.inside.own.entries; globals = c.self.inside.globals } in
    let K : Level → Type 0 = λ l. slot_in (space_of h.own h.control.pcid) l c.bits_from-number.result ≡ no_slot in
    let key : ℕ → Bool → TranslationKey = λ n b. record { pcid = h.control.pcid; shift = c.args.shift; number = n; global = b } in
    let global : false ≡ (c.args.global_bit && h.control.pge) = sym c.if-is_global.false ∙ c.is_global.ensures in
    rw (← c.self.view_is)
    (on_err_weaker c.keep_own.result
    (λ none.
    ap (λ n. (seen h).leaves (key n (c.args.global_bit && h.control.pge))) (sym c.bits_from-number.ensures)
    ∙ ap (λ b. (seen h).leaves (key c.bits_from-number.result b)) (sym global)
    ∙ no_own_leaf h h.control.pcid c.args.shift c.bits_from-number.result c.requires.size (subst K c.level_of-level.ensures none))
    c.keep_own.ensures.refused)
