use Rattle.std.proofs.Common.{◌-◌, ◌++◌, take, drop, refl, arith}
use Rattle.pg_check.proofs.Windows.{noted_at, noted_further, amid_further, count_at}
use Rattle.pg_check.proofs.judge.Judge.note_to.Goals as goal

pub returns-in_ok-note-clause-ok : goal.returns-in_ok-note-clause-ok
returns-in_ok-note-clause-ok c = λ head before next amid.
    let w = c.args.window.now in
    let k = c.place_in-place.result in
    let was = noted_at c.args.self.now head before w k amid (c.place_in-place.ensures.place head before next amid) in
    amid_further c.note.new.self head before w k c.args.end (take (c.args.end - k) (drop k w.events.now)) (omega (arith, c.if-place-end.true)) c.requires.within
    refl
    (c.in_ok-note.ensures.ok head (before ++ take k w.events.now) was)

pub returns-in_ok-note-clause-place : goal.returns-in_ok-note-clause-place
returns-in_ok-note-clause-place c = λ head before next amid least.
    let w = c.args.window.now in
    let k = c.place_in-place.result in
    let was = noted_at c.args.self.now head before w k amid (c.place_in-place.ensures.place head before next amid) in
    count_at c.note.new.self head before w.events.now c.args.end c.requires.within
    (noted_further c.note.new.self head before w k c.args.end (take (c.args.end - k) (drop k w.events.now)) (omega (arith, c.if-place-end.true))
    refl
    (c.in_ok-note.ensures.ok head (before ++ take k w.events.now) was))

pub returns-in_ok-note-clause-least : goal.returns-in_ok-note-clause-least
returns-in_ok-note-clause-least c = λ head before next amid.
    let w = c.args.window.now in
    let k = c.place_in-place.result in
    let was = noted_at c.args.self.now head before w k amid (c.place_in-place.ensures.place head before next amid) in
    let count = count_at c.note.new.self head before w.events.now c.args.end c.requires.within
    (noted_further c.note.new.self head before w k c.args.end (take (c.args.end - k) (drop k w.events.now)) (omega (arith, c.if-place-end.true))
    refl
    (c.in_ok-note.ensures.ok head (before ++ take k w.events.now) was)) in
    omega (arith, count)
