use Rattle.std.proofs.Common.{◌≡◌, ℕ, List, [], ◌∷◌, ◌++◌, ap, false, sym, ◌∙◌}
use Rattle.std.proofs.lemmas.List.{append_assoc}
use Rattle.std.proofs.lemmas.Result.{on_ok_weaker}
use Rattle.pg_entry.specs.Kinds.{table_of}
use Rattle.pg_entry.specs.Permission.{joined}
use Rattle.pg_event.specs.Heads.{Head}
use Rattle.pg_event.specs.Values.{mem_at}
use Rattle.pg_event.specs.declared.event.Event.{Event}
use Rattle.pg_event.specs.declared.walk.Parent.{Parent}
use Rattle.pg_run_of.specs.declared.fill.Fill.{Fill}
use Rattle.pg_run_of.specs.declared.visit.Visit.{Visit}
use Rattle.pg_run_of.specs.Plan.{fill_by, fills_from}
use Rattle.pg_run_of.proofs.Standing.{seen, given}
use Rattle.pg_run_of.proofs.Hops.{hop_made}
use Rattle.pg_run_of.proofs.walker.+push_walk.Goals as goal

pub returns-clause-fills : goal.returns-clause-fills
returns-clause-fills t c =
    let head : Head = c.args.history.now.head in
    let all : List Event = c.args.history.now.events in
    let v : Visit = c.args.visit in
    let next : Visit = c.descend-next.result in
    let x : ℕ = c.in-Some.moment.now in
    let rest : List ℕ = c.in-Some.rest.now in
    let before : List Fill = c.args.fills.now.items in
    let below : List Fill = fills_from head all c.args.want next rest in
    let value : c.value_at-value.result ≡ seen (mem_at all) v.la v.level v.from x = c.value_at-value.ensures ∙ ap (mem_at all x) c.next_address.ensures in
    let from : next.from ≡ given head.cfg.m (mem_at all) v.la v.level v.from x =
    c.descend-next.ensures.from
    ∙ ap (λ m. let f : Parent = record { table = table_of m c.value_at-value.result; rights = joined v.from.rights c.value_at-value.result } in f) c.width_of.ensures.width
    ∙ ap (λ y. let f : Parent = record { table = table_of head.cfg.m y; rights = joined v.from.rights y } in f) value in
    let on = hop_made head all c.args.want v next x rest c.if-is_empty.ensures c.descend-next.ensures.address.0 c.descend-next.ensures.address.1 c.descend-next.ensures.level from in
    on_ok_weaker c.push_walk.result
    (λ items. items ∙ ap (λ xs. xs ++ below) c.in_ok-push-2.ensures.items ∙ append_assoc before (fill_by false v.p v.la v.level v.from x ∷ []) below
    ∙ ap (λ xs. before ++ xs) (on ∙ ap (fills_from head all c.args.want v) (sym c.in-Some.ensures.cases.0)))
    c.push_walk.ensures.fills
