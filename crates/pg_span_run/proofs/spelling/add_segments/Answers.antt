use Rattle.std.proofs.Common.{◌≡◌, ℕ, ◌-◌, ◌<◌, min, List, ◌++◌, length, ap, sym, subst, ◌∙◌, arith, rules}
use Rattle.std.specs.List.{zip}
use Rattle.std.proofs.lemmas.List.{length-drop}
use Rattle.pg_event.specs.declared.event.Event.{Event}
use Rattle.pg_event.specs.Heads.{Head, most_processors}
use Rattle.pg_event.specs.Form.{processor_of}
use Rattle.pg_event.proofs.Chunks.{all_cut}
use Rattle.pg_codec.specs.Writing.{FitVersion}
use Rattle.pg_span_run.specs.Spelling.{timed_segment_bytes, timed_segments_bytes}
use Rattle.pg_span_run.proofs.Zips.{others_count, segment_pushed}
use Rattle.pg_span_run.proofs.spelling.add_segments.Goals as goal

pub loop-events-preserved : goal.loop-events-preserved
loop-events-preserved c =
    let head : Head = c.args.header.now in
    let number : ℕ = c.loop-events.number in
    let was = c.loop-events.invariant in
    let events : List Event = c.loop-events.events.now in
    let backs : List ℕ = c.loop-events.backs.now in
    let front : List Event = c.split_at.result.0.now in
    let others : List Event = c.split_at.result.1.now in
    let front_backs : List ℕ = c.split_at-in-loop-events.result.0.now in
    let other_backs : List ℕ = c.split_at-in-loop-events.result.1.now in
    let n : ℕ = c.min-size.result in
    let now : List ℕ = c.loop-events.bytes.items in
    let total : List ℕ = c.args.bytes.now.items ++ timed_segments_bytes head 0 (length c.args.events.now) (zip c.args.events.now c.args.backs.now) in
    let more : 0 < length events = search rules in
    let n_is : n ≡ min (length events) head.segment = c.min-size.ensures ∙ ap (λ (h : Head). min (length events) h.segment) c.header.view_is in
    let pushed = c.in_ok-add_segment.ensures ∙ ap (λ (h : Head). now ++ timed_segment_bytes h.version number (zip front front_backs)) c.header.view_is in
    let left : length others ≡ length events - n = ap (λ (xs : List Event). length xs) c.split_at.ensures.back ∙ length-drop n events in
    record {
      spelled = segment_pushed head number n events front others backs front_backs other_backs now total c.requires.size more was.same n_is c.split_at.ensures.front c.split_at.ensures.back
          c.split_at-in-loop-events.ensures.front c.split_at-in-loop-events.ensures.back c.add_segment.new.bytes.items was.spelled pushed;
      same = others_count head number n events front others backs front_backs other_backs now total c.requires.size more was.same n_is c.split_at.ensures.front c.split_at.ensures.back
          c.split_at-in-loop-events.ensures.front c.split_at-in-loop-events.ensures.back;
      below = omega (arith, left, n_is, c.requires.size, more, was.below);
      fit = subst (FitVersion head.version) (sym c.split_at.ensures.back) (all_cut (λ (e : Event). processor_of e < most_processors head.version) n events was.fit).1;
    }
