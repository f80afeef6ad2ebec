use Rattle.std.proofs.Common.{◌≡◌, ◌≤◌, ◌<◌, ℕ, List, [], ◌∷◌, ◌++◌, length, take, get_or, sym, ap, ◌∙◌, append_assoc, arith}
use Rattle.std.specs.List.{flat_map, zip}
use Rattle.std.proofs.lemmas.List.{take_more, length-take-le}
use Rattle.pg_codec.specs.Writing.{segment_head_bytes}
use Rattle.pg_span_run.specs.Spelling.{timed_bytes}
use Rattle.pg_span_run.proofs.Pushes.{pushed_on, pushed_all}
use Rattle.pg_span_run.proofs.Zips.{zip_count, zip_more}
use Rattle.pg_span_run.proofs.spelling.add_segment.Goals as goal

pub loop-i-preserved : goal.loop-i-preserved
loop-i-preserved c =
    let events = c.args.events.now in
    let backs : List ℕ = c.args.backs.now in
    let i : ℕ = c.loop-i.i in
    let lt : i < length events = c.loop-i-test.true in
    let below : i < length backs = omega (arith, lt, c.requires.count) in
    let event = c.index-events-i.result in
    let first = take_more events i event lt ∙ ap (λ e. take i events ++ e ∷ []) (sym c.index-events-i.is) in
    let second = take_more backs i 0 below in
    let taken = zip_more events backs i event (get_or backs i 0) first second (length-take-le i events (omega (arith, lt))) (length-take-le i backs (omega (arith, below))) in
    pushed_on (timed_bytes c.args.version) (zip events backs) i (c.args.bytes.now.items ++ segment_head_bytes c.args.number (length events)) c.loop-i.bytes.items c.loop-i.invariant
    (event, get_or backs i 0) c.add_event.new.bytes.items taken c.in_ok-add_event.ensures

pub returns : goal.returns
returns c =
    let events = c.args.events.now in
    let backs : List ℕ = c.args.backs.now in
    let old : List ℕ = c.args.bytes.now.items in
    let items = zip events backs in
    let flat : List ℕ = flat_map (timed_bytes c.args.version) items in
    let count : length items ≡ length events = zip_count events backs c.requires.count in
    let all : length items ≤ c.loop-i.i = omega (arith, count, c.loop-i-test.false) in
    pushed_all (timed_bytes c.args.version) items c.loop-i.i (old ++ segment_head_bytes c.args.number (length events)) c.loop-i.bytes.items c.loop-i.invariant all
    ∙ append_assoc old (segment_head_bytes c.args.number (length events)) flat
    ∙ ap (λ (n : ℕ). old ++ (segment_head_bytes c.args.number n ++ flat)) (sym count)
