use Rattle.std.proofs.Common.{◌≡◌, ◌++◌, ◌+◌, ◌<◌, ℕ, [], List, ap, sym, ◌∙◌, take, get_or, length}
use Rattle.std.specs.List.{flat_map}
use Rattle.std.proofs.lemmas.List.{flat_map_more, take_more}
use Rattle.pg_event.specs.declared.event.Event.{Event}
use Rattle.pg_explain.specs.declared.entry.WalkEntry.{WalkEntry}
use Rattle.pg_show_trace.specs.declared.mark.Role.TheVariants.{Write}
use Rattle.pg_show_trace.specs.declared.mark.Source.{Source}
use Rattle.pg_show_trace.specs.Marks.{source_at}
use Rattle.pg_show_trace.proofs.mark.writers.Goals as goal

-- the writers of the first entries, with that of the next
next_writer : (events : List Event) (xs : List WalkEntry) (i : ℕ) (d : WalkEntry) (found new : List Source) → i < length xs → new ≡ found ++ source_at events Write (get_or xs i d).writer
    → found ≡ flat_map (λ x. source_at events Write x.writer) (take i xs) → new ≡ flat_map (λ x. source_at events Write x.writer) (take (i + 1) xs)
next_writer events xs i d found new within wrote before =
    let one : WalkEntry → List Source = λ x. source_at events Write x.writer in
    wrote ∙ (ap (λ (t : List Source). t ++ one (get_or xs i d)) before
    ∙ (flat_map_more one [] (take i xs) (get_or xs i d) ∙ ap (flat_map one) (sym (take_more xs i d within))))

pub loop-entry-preserved : goal.loop-entry-preserved
loop-entry-preserved c =
    next_writer c.args.events.now c.down_to_end-entry-items.result.now c.loop-entry.entry-index _ c.loop-entry.sources.items _ c.loop-entry-test.true
    c.in_ok-push_source.ensures c.loop-entry.invariant
