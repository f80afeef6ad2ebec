use Rattle.std.proofs.Common.{◌≡◌, List, length, Some, refl, ap, sym, ◌∙◌, arith}
use Rattle.std.specs.Prelude.{slice_get}
use Rattle.std.proofs.lemmas.Option.{slice_get_read}
use Rattle.pg_search.specs.declared.brief.Brief.{Brief}
use Rattle.pg_search.proofs.Briefs.{events_count, among}
use Rattle.pg_search.proofs.kept_run.KeptRun.change.Goals as goal

pub event_of-event-requires : goal.event_of-event-requires
event_of-event-requires c =
    let s = c.self.inside in
    let b : Brief = c.in_ok-brief.field-0.now in
    let xs : List Brief = c.deref.result.now in
    let read = c.in_ok-brief.ensures.lookup in
    let at : slice_get s.briefs.items c.args.place ≡ Some b = ap (λ (bs : List Brief). slice_get bs c.args.place) (sym c.deref.ensures.value) ∙ slice_get_read xs (length xs) c.args.place b refl read.3.0 read.1 in
    let it = among (length s.pairs.items) 0 s.count s.briefs.items c.args.place b c.self.invariant.0.placed at in
    omega (arith, it.high, c.self.invariant.0.seen.count, events_count s.past.versions s.pairs.items s.briefs.items 0 s.count)
