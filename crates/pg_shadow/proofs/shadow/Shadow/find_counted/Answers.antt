use Rattle.std.proofs.Common.{◌≡◌, ap, sym, subst, ◌∙◌}
use Rattle.pg_shadow.specs.Caches.{AreInRange}
use Rattle.pg_shadow.specs.Find.{chosen, IsFound, IsInRange}
use Rattle.pg_shadow.specs.Spaces.{path_in}
use Rattle.pg_shadow.specs.Held.{Held, seen, space_of}
use Rattle.pg_shadow.proofs.Lookups.{IsFound-found}
use Rattle.pg_shadow.proofs.Ranges.{found-range}
use Rattle.pg_shadow.proofs.Shadows.{chosen-found}
use Rattle.pg_shadow.proofs.shadow.Shadow.find_counted.Goals as goal

pub returns-clause-value : goal.returns-clause-value
returns-clause-value c =
    let h : Held = record { width = c.self.inside.maxphyaddr; control = c.self.inside.control; own = c.self.inside.own.entries; globals = c.self.inside.globals } in
    let own : c.own_path-own.result ≡ path_in (space_of h.own h.control.pcid) c.args.la =
    c.own_path-own.ensures.value ∙ ap (λ (o : Held). path_in (space_of o.own o.control.pcid) c.args.la) (sym c.self.view_is) in
    rw (← c.self.view_is)
    (c.chosen.ensures
    ∙ ap (λ p. chosen p c.path-globals.result c.args.header.now c.args.kind) own
    ∙ ap (λ p. chosen (path_in (space_of h.own h.control.pcid) c.args.la) p c.args.header.now c.args.kind) c.path-globals.ensures.value
    ∙ chosen-found h c.args.la c.args.header.now c.args.kind)

pub returns-clause-range : goal.returns-clause-range
returns-clause-range c =
    let h : Held = record { width = c.self.inside.maxphyaddr; control = c.self.inside.control; own = c.self.inside.own.entries; globals = c.self.inside.globals } in
    let now : Held = c.args.self.now in
    let inside : AreInRange (seen now) = subst (λ (o : Held). AreInRange (seen o)) c.self.view_is c.self.invariant in
    subst (IsInRange (seen now).width) (sym (returns-clause-value c)) (found-range (seen now) c.args.la c.args.header.now c.args.kind inside)

pub returns-clause-found : goal.returns-clause-found
returns-clause-found c =
    let now : Held = c.args.self.now in
    subst (IsFound (seen now) c.args.la c.args.header.now c.args.kind) (sym (returns-clause-value c)) (IsFound-found (seen now) c.args.la c.args.header.now c.args.kind)
