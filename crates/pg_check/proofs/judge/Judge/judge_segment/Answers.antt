use Rattle.std.proofs.Common.{◌≡◌, ◌+◌, ◌*◌, ◌-◌, ◌++◌, ℕ, min, List, length, take, drop, Option, refl, sym, ap, ◌∙◌, arith}
use Rattle.pg_event.specs.declared.event.Event.{Event}
use Rattle.pg_event.specs.declared.event.Reason.{Reason}
use Rattle.pg_event.specs.Witness.{first_bad_from}
use Rattle.pg_check.specs.declared.stretch.SegmentVerdict.{SegmentVerdict}
use Rattle.pg_check.proofs.Known.{processors-known}
use Rattle.pg_check.proofs.Windows.{start_at, noted_at, amid_further, amid_place, found_ahead, found_there, well_between}
use Rattle.pg_check.proofs.judge.Judge.judge_segment.Goals as goal

abbrev verdict_of : (number : ℕ) → Option (ℕ × Reason) → SegmentVerdict
verdict_of number found = record { number = number; first_bad = found }

pub judge_again-first_bad-requires-clause-processors : goal.judge_again-first_bad-requires-clause-processors
judge_again-first_bad-requires-clause-processors c =
    let head = c.requires.amid.0 in
    let before = c.requires.amid.1 in
    let next = c.requires.amid.2 in
    let w = c.args.window.now in
    let start = c.args.number * w.segment - w.first in
    let k = c.min-end.result - start in
    let amid = c.in_ok-note_to-2.ensures.ok head before next c.requires.amid.3 in
    processors-known c.note_to-else-place_in-start.new.self.past head (before ++ take amid.place w.events.now) (take k (drop start w.events.now)) amid.noted.past
    (well_between head w.events.now start k next.well)

pub returns-in_ok-first_bad-clause-ok : goal.returns-in_ok-first_bad-clause-ok
returns-in_ok-first_bad-clause-ok c = λ head before next amid.
    let w = c.args.window.now in
    let es = w.events.now in
    let start = c.args.number * w.segment - w.first in
    let end = c.min-end.result in
    let at = start_at (length before) w.first (c.args.number * w.segment) (length es) next.first c.requires.part.0 c.requires.part.1 in
    let is : end ≡ min (start + w.segment) (length es) = c.min-end.ensures in
    let place = c.place_in.ensures.place head before next amid in
    let count = c.in_ok-note_to.ensures.place head before next amid (omega (arith, place, c.if-place_in-start.true)) in
    let was = noted_at c.note_to.new.self head before w start (c.in_ok-note_to.ensures.ok head before next amid) count in
    amid_further c.judge.new.self head before w start end (take (end - start) (drop start es)) (omega (arith, is, at.1)) (omega (arith, is))
    refl
    (c.in_ok-first_bad.ensures.ok head (before ++ take start es) was)

pub returns-in_ok-first_bad-clause-verdict : goal.returns-in_ok-first_bad-clause-verdict
returns-in_ok-first_bad-clause-verdict c = λ head before next amid.
    let w = c.args.window.now in
    let es = w.events.now in
    let start = c.args.number * w.segment - w.first in
    let end = c.min-end.result in
    let at = start_at (length before) w.first (c.args.number * w.segment) (length es) next.first c.requires.part.0 c.requires.part.1 in
    let is : end ≡ min (start + w.segment) (length es) = c.min-end.ensures in
    let place = c.place_in.ensures.place head before next amid in
    let count = c.in_ok-note_to.ensures.place head before next amid (omega (arith, place, c.if-place_in-start.true)) in
    let was = noted_at c.note_to.new.self head before w start (c.in_ok-note_to.ensures.ok head before next amid) count in
    let slice : List Event = take (end - start) (drop start es) in
    let part : slice ≡ take (end - start) (drop start es) = refl in
    ap (verdict_of c.args.number)
    (found_there head before es slice start end end w.segment c.args.number c.in_ok-first_bad.first_bad next.segment at.0 at.1 is (omega arith) (omega (arith, is)) part
    (found_ahead head before es slice start end c.in_ok-first_bad.first_bad (omega (arith, is, at.1)) at.1 part
    (c.in_ok-first_bad.ensures.found head (before ++ take start es) was)))

pub returns-in_ok-note_to-2-clause-verdict : goal.returns-in_ok-note_to-2-clause-verdict
returns-in_ok-note_to-2-clause-verdict c = λ head before next amid.
    let w = c.args.window.now in
    let es = w.events.now in
    let start = c.args.number * w.segment - w.first in
    let end = c.min-end.result in
    let at = start_at (length before) w.first (c.args.number * w.segment) (length es) next.first c.requires.part.0 c.requires.part.1 in
    let is : end ≡ min (start + w.segment) (length es) = c.min-end.ensures in
    let now = c.in_ok-note_to-2.ensures.ok head before next amid in
    let least = c.in_ok-note_to-2.ensures.least head before next amid in
    let far = amid_place c.note_to-else-place_in-start.new.self head before w now in
    let slice : List Event = take (end - start) (drop start es) in
    let part : slice ≡ take (end - start) (drop start es) = refl in
    ap (verdict_of c.args.number)
    (found_there head before es slice start end now.place w.segment c.args.number c.judge_again-first_bad.result next.segment at.0 at.1 is (omega (arith, least, far)) now.within part
    (c.judge_again-first_bad.ensures.found head (before ++ take now.place es) now.noted
    ∙ ap (λ k. first_bad_from head (before ++ take now.place es) k slice) (sym at.0)))
