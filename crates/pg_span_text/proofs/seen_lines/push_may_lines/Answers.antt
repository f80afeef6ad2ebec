use Rattle.std.proofs.Common.{◌+◌, List, codes, drop, get_or, string_bytes}
use Rattle.pg_explain.proofs.Loops.{next_written, last_written}
use Rattle.pg_span_text.specs.declared.seen.Seen.{Seen}
use Rattle.pg_span_text.specs.Text.{may_lines}
use Rattle.pg_span_text.proofs.Shown.{no_entry, may_goes, may_stops}
use Rattle.pg_span_text.proofs.seen_lines.push_may_lines.Goals as goal

pub loop-i-preserved : goal.loop-i-preserved
loop-i-preserved c =
    let i = c.loop-i.i in
    let x : Seen = get_or c.args.seen.now i no_entry in
    let rest : List Seen = drop (i + 1) c.args.seen.now in
    next_written (may_lines c.args.cfg i) (may_lines c.args.cfg (i + 1)) _ c.args.seen.now i no_entry (string_bytes c.loop-i.text) (string_bytes c.push_may.new.text) _ c.loop-i-test.true
    (may_goes c.args.cfg i x rest c.if-i-eq-MOST_MAY.false) c.in_ok-push_may.ensures c.loop-i.invariant

pub returns-then-i-eq-MOST_MAY : goal.returns-then-i-eq-MOST_MAY
returns-then-i-eq-MOST_MAY c =
    let i = c.loop-i.i in
    let x : Seen = get_or c.args.seen.now i no_entry in
    let rest : List Seen = drop (i + 1) c.args.seen.now in
    last_written (may_lines c.args.cfg i) (codes "..\n") c.args.seen.now i no_entry (string_bytes c.loop-i.text) (string_bytes c.push_str.new.self) _ c.loop-i-test.true
    (may_stops c.args.cfg i x rest c.if-i-eq-MOST_MAY.true) c.in_ok-push_str.ensures.bytes c.loop-i.invariant
