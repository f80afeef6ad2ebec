use Rattle.std.proofs.Common.{◌≡◌, ◌+◌, ◌<◌, ◌^◌, List, [], ◌∷◌, ◌++◌, length, refl, ap, sym, ◌∙◌, subst, arith}
use Rattle.pg_event.specs.declared.event.Event.{Event}
use Rattle.pg_event.specs.Spelling.{Recorded}
use Rattle.pg_check.proofs.Grown.{walks_later}
use Rattle.pg_check.proofs.Uppers.{stems_later}
use Rattle.pg_search.specs.Changes.{idle}
use Rattle.pg_search.specs.Briefs.{events_from, IsKept}
use Rattle.pg_search.proofs.Briefs.{events_count, one_idle}
use Rattle.pg_search.proofs.kept_run.KeptRun.pass.Goals as goal

pub overflow_add-self : goal.overflow_add-self
overflow_add-self c =
    let s = c.self.inside in
    let few = subst (λ (r : Recorded). length r.events + 1 < 2 ^ 32) (sym c.self.view_is) c.requires in
    omega (arith, few, events_count s.past.versions s.pairs.items s.briefs.items 0 s.count)

abbrev More : goal.After-self-1 → Type 0
More c =
    let s = c.self.inside in
    IsKept s.header s.past s.pairs.items s.briefs.items (s.count + 1)
    × (events_from s.past.versions s.pairs.items s.briefs.items 0 (s.count + 1) ≡ events_from s.past.versions s.pairs.items s.briefs.items 0 s.count ++ idle ∷ [])

more : (c : goal.After-self-1) → More c
more c =
    let s = c.self.inside in
    one_idle s.past s.header s.pairs.items s.briefs.items s.count (s.count + 1) c.self.invariant.0 refl (omega (arith, subst (λ (r : Recorded). length r.events + 1 < 2 ^ 32) (sym c.self.view_is) c.requires, events_count s.past.versions s.pairs.items s.briefs.items 0 s.count))

pub invariant_of-self : goal.invariant_of-self
invariant_of-self c =
    let s = c.self.inside in (
      (more c).0,
      walks_later s.past s.count (s.count + 1) s.walks.slots.items (omega arith) c.self.invariant.1,
      stems_later s.past s.count (s.count + 1) s.walks.stems.items (omega arith) c.self.invariant.2,
    )

pub returns : goal.returns
returns c =
    ap (λ (es : List Event). record { head = c.self.inside.header; events = es }) (more c).1
    ∙ ap (λ (r : Recorded). record { head = r.head; events = r.events ++ idle ∷ [] }) c.self.view_is
