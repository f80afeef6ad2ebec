use Rattle.std.proofs.Common.{◌≡◌, ℕ, ◌&&◌, List, [], ◌∷◌, ◌++◌, true, ap, sym, ◌∙◌, subst, refl}
use Rattle.std.proofs.lemmas.Bool.{and_parts}
use Rattle.pg_entry.specs.declared.Rights.{Rights}
use Rattle.pg_entry.specs.Kinds.{kind_of, table_of}
use Rattle.pg_event.specs.declared.walk.Parent.{Parent}
use Rattle.pg_event.specs.Wants.{is_table}
use Rattle.pg_event.specs.Heads.{Head}
use Rattle.pg_event.specs.Invalidation.{structure_key}
use Rattle.pg_event.specs.Witness.{structure_survives}
use Rattle.pg_search.specs.Lasts.{IsEnd}
use Rattle.pg_search.specs.declared.lookup.Lookup.{Lookup}
use Rattle.pg_machine.specs.Machine.{may_cache}
use Rattle.pg_reach.specs.Views.{Viewed}
use Rattle.pg_reach.specs.Reaching.{IsNextOf, structure_lasts}
use Rattle.pg_reach.proofs.view.View.next.Goals as goal

abbrev parent : ℕ → Rights → Parent
parent t rights = record { table = t; rights = rights }

pub returns : goal.returns
returns c =
    let view : Viewed = record { run = c.self.inside.seen.now; event = c.self.inside.event.now; walker = c.self.inside.walker; low = c.self.inside.low } in
    let head : Head = c.self.inside.seen.now.head in
    let leads : (is_table (kind_of head.cfg c.args.level c.args.entry.0) && may_cache head.version c.args.entry.0) ≡ true = subst (λ (h : Head). (is_table (kind_of h.cfg c.args.level c.args.entry.0) && may_cache h.version c.args.entry.0) ≡ true) c.header-header.ensures.header (sym c.leads_on.ensures ∙ c.if-not-leads_on.false) in
    let ends : IsEnd (λ w. structure_lasts view.run view.walker c.args.level c.args.read w) c.args.read c.structure_end.result =
    subst (λ (k : Lookup). IsEnd (λ w. structure_survives head view.run.events k.p (structure_key k.pcid c.args.level k.la) c.args.read w) c.args.read c.structure_end.result) c.lookup.ensures c.structure_end.ensures in
    subst (λ (v : Viewed). IsNextOf v.run v.walker c.args.level c.args.x.now c.args.entry.0 c.args.from c.args.read
    record { from = c.args.from; to = c.structure_end.result; table = record { table = c.table_of.result; rights = c.combine.result }; latest = c.in_ok-with.field-0 }) c.self.view_is (record {
      is_table = (and_parts _ _ leads).0;
      cached = (and_parts _ _ leads).1;
      from = refl;
      small = c.structure_end.type_inv;
      to = ends;
      table = ap (λ (t : ℕ). parent t c.combine.result) c.table_of.ensures.table ∙ ap (λ (m : ℕ). parent (table_of m c.args.entry.0) c.combine.result) (ap (λ (h : Head). h.cfg.m) c.header.view_is ∙ ap (λ (h : Head). h.cfg.m) c.header-header.ensures.header) ∙ ap (parent (table_of head.cfg.m c.args.entry.0)) c.combine.ensures;
      within = c.table_of.ensures.within;
      latest = c.in_ok-with.ensures ∙ ap (λ (xs : List ℕ). xs ++ 4294967295 ∷ []) c.up_to-latest.ensures;
    })
