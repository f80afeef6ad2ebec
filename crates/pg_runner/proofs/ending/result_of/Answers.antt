use Rattle.std.proofs.Common.{◌≡◌, ◌∙◌, IfSome, List, map, ap, ap₂, sym, subst}
use Rattle.pg_event.specs.declared.event.Event.{Event}
use Rattle.pg_event.specs.Heads.{Head}
use Rattle.pg_event.specs.Spelling.{Recorded, IsRecord}
use Rattle.pg_guest.specs.Held.{Held}
use Rattle.pg_world.specs.Recording.{Recording, recorded}
use Rattle.pg_runner.specs.Live.{IsBegun}
use Rattle.pg_runner.specs.Runs.{record_of}
use Rattle.pg_runner.proofs.WholeRuns.{whole_run, says_yes}
use Rattle.pg_runner.proofs.ending.result_of.Goals as goal

pub returns-clause-ok : goal.returns-clause-ok
returns-clause-ok g c =
    let script = c.args.script.now in
    let end = c.args.board.world in
    let trace = c.into_record-trace.result in
    let finished = c.finish-world.ensures.world in
    let head : trace.header ≡ end.head = c.into_record-trace.ensures.header ∙ ap (λ (r : Recording). r.head) finished in
    let events : trace.events.items ≡ end.events = c.into_record-trace.ensures.events ∙ ap (λ (r : Recording). r.events) finished in
    let same : record_of trace ≡ recorded end = ap₂ (λ (h : Head) (es : List Event). let r : Recorded = record { head = h; events = es } in r) head events in
    let is_record : IsRecord (recorded end) = subst (λ (r : Recording). IsRecord (recorded r)) finished c.into_record-trace.ensures.kept.is_record in
    let told = c.in_ok-transcripts.ensures ∙ ap (λ (gs : List Held). map (λ (h : Held). h.transcript) gs) c.finish-world.ensures.processors in
    record {
      run = whole_run script end c.args.board.processors trace _ c.header-header.ensures.kept is_record c.requires.script c.requires.ended same told;
      report = c.in-Ok.ensures.ok;
      yes = says_yes script end c.args.board.processors trace c.in-Ok.report c.requires.script same c.in-Ok.ensures.ok;
    }

pub report_by-requires-clause-begun : goal.report_by-requires-clause-begun
report_by-requires-clause-begun g c = λ _ _.
    let events : c.into_record-trace.result.events.items ≡ c.args.board.world.events = c.into_record-trace.ensures.events ∙ ap (λ (r : Recording). r.events) c.finish-world.ensures.world in
    subst (λ (es : List Event). IfSome c.args.team (λ t. IsBegun t es)) (sym events) c.requires.begun
