use Rattle.std.proofs.Common.{ap, sym, ◌∙◌}
use Rattle.std.specs.Option.{option_map}
use Rattle.pg_timeline.specs.declared.timeline.Stamp.{Stamp}
use Rattle.pg_timeline.specs.Timelines.{last_before}
use Rattle.pg_timeline.proofs.Halves.{last_before-last}
use Rattle.pg_timeline.proofs.timeline.Timeline.last.Goals as goal

pub returns-in-Some : goal.returns-in-Some
returns-in-Some g c = λ w below.
    let same = c.as_slice.ensures ∙ c.self.view_is in
    sym (ap (last_before w) (sym same) ∙ last_before-last w c.as_slice.result.now (rw same below)
    ∙ ap (option_map (λ (s : Stamp g.row.V.Denot). s.value)) (sym c.in-Some.ensures.value))

pub returns-in-None : goal.returns-in-None
returns-in-None g c = λ w below.
    let same = c.as_slice.ensures ∙ c.self.view_is in
    sym (ap (last_before w) (sym same) ∙ last_before-last w c.as_slice.result.now (rw same below)
    ∙ ap (option_map (λ (s : Stamp g.row.V.Denot). s.value)) (sym c.in-None.ensures.value))
