use Rattle.std.proofs.Common.{◌≡◌, ◌∙◌, List, length, map, ap, ap₂, sym, subst}
use Rattle.pg_event.specs.declared.event.Event.{Event}
use Rattle.pg_event.specs.Heads.{Head}
use Rattle.pg_event.specs.Spelling.{Recorded, IsRecord}
use Rattle.pg_guest.specs.Held.{Held, seen}
use Rattle.pg_guest.specs.Runs.{ArePlaced}
use Rattle.pg_guest.specs.CoreRun.{unwritten}
use Rattle.pg_world.specs.Recording.{Recording, recorded}
use Rattle.pg_runner.specs.Lines.{AreCarriedOut}
use Rattle.pg_runner.specs.Runs.{record_of}
use Rattle.pg_runner.proofs.Whole.{none_carried, lines_done, is_yes, front}
use Rattle.pg_runner.proofs.single.run_single.Goals as goal

pub carry_out_all-requires-clause-placed : goal.carry_out_all-requires-clause-placed
carry_out_all-requires-clause-placed c =
    let start : c.new-world.result ≡ unwritten c.args.script.now.head = c.new-world.ensures ∙ ap unwritten (c.in_ok-clone.ensures ∙ c.header.ensures.header) in
    subst (λ (hs : List Held). ArePlaced c.new-world.result.head hs) (sym c.deref_mut.ensures.value)
    (subst (λ (r : Recording). ArePlaced r.head c.in_ok-guests.guests.items) (sym start) (λ p h at. (c.in_ok-guests.ensures.made.each p h at).placed))

pub carry_out_all-requires-clause-before : goal.carry_out_all-requires-clause-before
carry_out_all-requires-clause-before c =
    let start : c.new-world.result ≡ unwritten c.args.script.now.head = c.new-world.ensures ∙ ap unwritten (c.in_ok-clone.ensures ∙ c.header.ensures.header) in
    subst (λ (hs : List Held). AreCarriedOut c.args.script.now 0 c.new-world.result (map seen hs)) (sym c.deref_mut.ensures.value)
    (none_carried c.args.script.now c.new-world.result c.in_ok-guests.guests.items start c.in_ok-guests.ensures.made)

pub returns-clause-ok : goal.returns-clause-ok
returns-clause-ok c =
    let script = c.args.script.now in
    let end = c.carry_out_all.new.world in
    let hs = c.carry_out_all.new.processors in
    let trace = c.into_record-trace.result in
    let finished = c.finish.ensures in
    let head : trace.header ≡ end.head = c.into_record-trace.ensures.header ∙ ap (λ (r : Recording). r.head) finished in
    let events : trace.events.items ≡ end.events = c.into_record-trace.ensures.events ∙ ap (λ (r : Recording). r.events) finished in
    let same : record_of trace ≡ recorded end = ap₂ (λ (h : Head) (es : List Event). let r : Recorded = record { head = h; events = es } in r) head events in
    let is_record : IsRecord (recorded end) = subst (λ (r : Recording). IsRecord (recorded r)) finished c.into_record-trace.ensures.kept.is_record in
    let count = sym (c.carry_out_all.auto.processors ∙ c.deref_mut.ensures.len) in
    let out = c.in_ok-carry_out_all.ensures in record {
      run = lines_done script end hs trace _ c.header.ensures.kept is_record out same (c.in_ok-transcripts.ensures ∙ ap (λ (gs : List Held). map (λ (h : Held). h.transcript) gs) (front _ hs _ count));
      report = c.in_ok-report.ensures.ok;
      yes = is_yes script (length script.tasks) end hs trace c.in_ok-report.report out same c.in_ok-report.ensures.ok;
    }
