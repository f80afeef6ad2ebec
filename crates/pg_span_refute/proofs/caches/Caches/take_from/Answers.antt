use Rattle.std.proofs.Common.{◌≡◌, ℕ, sym, ap, subst, ◌∙◌}
use Rattle.pg_entry.specs.declared.Cfg.{Cfg}
use Rattle.pg_event.specs.declared.version.Version.{Version}
use Rattle.pg_event.specs.Heads.{Head}
use Rattle.pg_machine.specs.Machine.{IsIn}
use Rattle.pg_span_refute.specs.Caches.{IsTaken, known_of}
use Rattle.pg_span_refute.specs.Memory.{MayHold}
use Rattle.pg_span_refute.proofs.Passing.{extends_refl}
use Rattle.pg_span_refute.proofs.caches.Caches.take_from.Goals as goal

pub returns-then-not-branch-clause-more : goal.returns-then-not-branch-clause-more
returns-then-not-branch-clause-more c = extends_refl (known_of c.args.self.now)

pub returns-clause-taken : goal.returns-clause-taken
returns-clause-taken c = λ yes entry may.
    let cfg : c.header.inside.cfg ≡ c.args.run.now.head.cfg = ap (λ (h : Head). h.cfg) (c.header.view_is ∙ c.header-header.ensures.header) in
    let version : c.header.inside.version ≡ c.args.run.now.head.version = ap (λ (h : Head). h.version) (c.header.view_is ∙ c.header-header.ensures.header) in
    let held = c.in_ok-look.ensures.values c.if-not-branch.false entry (subst (λ (a : ℕ). MayHold c.args.run.now c.args.slot a entry) (sym c.entry_address-address.ensures) may) in
    subst (λ (v : Version). IsTaken v c.args.run.now.head.cfg c.args.la (known_of c.take_all.new.self) c.args.table entry) version
    (subst (λ (g : Cfg). IsTaken c.header.inside.version g c.args.la (known_of c.take_all.new.self) c.args.table entry) cfg
    (c.in_ok-take_all.ensures.taken entry (subst (IsIn entry) (sym c.as_slice.ensures.value) held)))
