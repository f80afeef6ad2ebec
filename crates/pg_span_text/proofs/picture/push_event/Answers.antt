use Rattle.std.proofs.Common.{◌≡◌, ◌++◌, List, ℕ, Option, ap, sym, ◌∙◌, string_bytes}
use Rattle.std.proofs.lemmas.List.{append_assoc}
use Rattle.std.proofs.lemmas.Result.{on_ok_weaker}
use Rattle.pg_event.specs.declared.event.Event.{Event}
use Rattle.pg_event.specs.Form.{processor_of}
use Rattle.pg_span_run.specs.Orders.{Spanned, ended_before}
use Rattle.pg_span_text.specs.Picture.{place_below, count_of, bar_line, label_line, row_lines}
use Rattle.pg_span_text.proofs.picture.push_event.Goals as goal

pub returns : goal.returns
returns c =
    let s : Spanned = c.args.run.now in
    let names : List ℕ = c.args.names.now in
    let lanes : List ℕ = c.args.lanes.now in
    let number = c.args.number in
    let fill = c.args.fill.now in
    let e : Event = c.event_of-event.result.now in
    let old = string_bytes c.args.text.now in
    let lane : c.place_below-lane.result ≡ place_below lanes (processor_of e) = c.place_below-lane.ensures.place ∙ ap (place_below lanes) c.processor_of.ensures in
    let row : c.place_below-row.result ≡ place_below names number = c.place_below-row.ensures.place in
    let from : c.place_below.result ≡ place_below names (ended_before s number) = c.place_below.ensures.place ∙ ap (place_below names) c.ended_before-began.ensures.count in
    let bar : List ℕ = bar_line (place_below lanes (processor_of e)) (place_below names (ended_before s number)) (place_below names number) fill in
    let label : List ℕ = label_line (count_of lanes) (place_below names number) fill number (ended_before s number) e in
    let barred : string_bytes c.push_bar.new.text ≡ old ++ bar =
    c.in_ok-push_bar.ensures
    ∙ (ap (λ (l : ℕ). old ++ bar_line l c.place_below.result c.place_below-row.result fill) lane
    ∙ (ap (λ (f : ℕ). old ++ bar_line (place_below lanes (processor_of e)) f c.place_below-row.result fill) from
    ∙ ap (λ (r : ℕ). old ++ bar_line (place_below lanes (processor_of e)) (place_below names (ended_before s number)) r fill) row)) in
    let two = string_bytes c.push_bar.new.text in
    let labelled : two ++ label_line c.count_of.result c.place_below-row.result fill number c.ended_before-began.result e ≡ two ++ label =
    ap (λ (n : ℕ). two ++ label_line n c.place_below-row.result fill number c.ended_before-began.result e) c.count_of.ensures.count
    ∙ (ap (λ (r : ℕ). two ++ label_line (count_of lanes) r fill number c.ended_before-began.result e) row
    ∙ ap (λ (b : ℕ). two ++ label_line (count_of lanes) (place_below names number) fill number b e) c.ended_before-began.ensures.count) in
    on_ok_weaker c.push_label.result
    (λ (w : string_bytes c.push_label.new.text ≡ two ++ label_line c.count_of.result c.place_below-row.result fill number c.ended_before-began.result e).
    w ∙ (labelled
    ∙ (ap (λ (t : List ℕ). t ++ label) barred
    ∙ (append_assoc old bar label
    ∙ ap (λ (o : Option Event). old ++ row_lines s names lanes number fill o) (sym c.event_of-event.ensures)))))
    c.push_label.ensures
