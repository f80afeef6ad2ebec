use Rattle.std.proofs.Common.{◌≡◌, List, [], ◌∷◌, ◌++◌, refl, ap, ◌∙◌}
use Rattle.pg_event.specs.declared.event.Event.{Event}
use Rattle.std.proofs.lemmas.Result.{err_from_is_err_and}
use Rattle.std.proofs.lemmas.List.{length_push}
use Rattle.pg_codec.proofs.Going.{along_on, along_ends, along_done}
use Rattle.pg_codec.proofs.Many.{events_are_many}
use Rattle.pg_event.specs.Form.{broken_rule}
use Rattle.std.specs.Prelude.{None}
use Rattle.pg_codec.proofs.Pushing.{all_pushed}
use Rattle.pg_codec.proofs.series.next_events.Goals as goal

pub returns-in_err-add_next-clause-pulls : goal.returns-in_err-add_next-clause-pulls
returns-in_err-add_next-clause-pulls g c =
    let p = err_from_is_err_and c.from_residual-in_err-add_next.result c.from_residual-in_err-add_next.ensures.1 in
    rw (p.1, p.2) (along_ends _ _ _ (events_are_many c.args.header.now) c.args.before c.args.count c.loop-i.events.items c.loop-i.i c.in_err-add_next.field-0.0 _ _ _ c.loop-i-test.true c.loop-i.invariant.along c.in_err-add_next.ensures)

pub loop-i-preserved : goal.loop-i-preserved
loop-i-preserved g c =
    let was = c.loop-i.invariant in
    let step = c.in_ok-add_next.ensures in
    let items : c.add_next.new.events.items ≡ c.loop-i.events.items ++ step.0 ∷ [] = step.2 ∙ ap (λ (l : List Event). l ++ step.0 ∷ []) c.reserve-in-loop-i.ensures.items in
    record {
      along = rw items (along_on _ _ _ (events_are_many c.args.header.now) c.args.before c.args.count c.loop-i.events.items c.loop-i.i step.0 _ _ _ c.loop-i-test.true was.along step.1);
      well = rw items (all_pushed (λ e. broken_rule c.args.header.now e ≡ None) c.loop-i.events.items step.0 was.well step.3);
      len = rw (items, length_push c.loop-i.events.items step.0, was.len) refl;
    }

pub returns-clause-pulls : goal.returns-clause-pulls
returns-clause-pulls g c = along_done _ _ _ (events_are_many c.args.header.now) c.args.before c.args.count c.loop-i.events.items c.loop-i.i _ _ c.loop-i-test.false c.loop-i.invariant.along
