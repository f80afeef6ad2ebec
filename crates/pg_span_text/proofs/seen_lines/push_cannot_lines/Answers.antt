use Rattle.std.proofs.Common.{◌+◌, List, codes, drop, get_or, string_bytes}
use Rattle.pg_explain.proofs.Loops.{next_written, last_written}
use Rattle.pg_span_text.specs.declared.seen.Seen.{Seen}
use Rattle.pg_span_text.specs.Text.{cannot_lines}
use Rattle.pg_span_text.proofs.Shown.{no_entry, cannot_goes, cannot_stops}
use Rattle.pg_span_text.proofs.seen_lines.push_cannot_lines.Goals as goal

pub loop-i-preserved : goal.loop-i-preserved
loop-i-preserved c =
    let i = c.loop-i.i in
    let x : Seen = get_or c.args.seen.now i no_entry in
    let rest : List Seen = drop (i + 1) c.args.seen.now in
    next_written (cannot_lines i) (cannot_lines (i + 1)) _ c.args.seen.now i no_entry (string_bytes c.loop-i.text) (string_bytes c.push_cannot.new.text) _ c.loop-i-test.true
    (cannot_goes i x rest c.if-i-eq-MOST_CANNOT.false) c.in_ok-push_cannot.ensures c.loop-i.invariant

pub returns-then-i-eq-MOST_CANNOT : goal.returns-then-i-eq-MOST_CANNOT
returns-then-i-eq-MOST_CANNOT c =
    let i = c.loop-i.i in
    let x : Seen = get_or c.args.seen.now i no_entry in
    let rest : List Seen = drop (i + 1) c.args.seen.now in
    last_written (cannot_lines i) (codes "..\n") c.args.seen.now i no_entry (string_bytes c.loop-i.text) (string_bytes c.push_str.new.self) _ c.loop-i-test.true
    (cannot_stops i x rest c.if-i-eq-MOST_CANNOT.true) c.in_ok-push_str.ensures.bytes c.loop-i.invariant
