use Rattle.std.proofs.Common.{◌≡◌, ◌+◌, ◌++◌, [], ◌∷◌, List, take, None, rules, sym, subst}
use Rattle.std.proofs.lemmas.List.{append_assoc, take_all, take_more}
use Rattle.pg_event.specs.declared.event.Event.{Event}
use Rattle.pg_event.specs.Form.{broken_rule}
use Rattle.pg_chain.proofs.Notes.{AllByRecursion-read}
use Rattle.pg_check.specs.Judging.{Noted, HasNoted, MayNote}
use Rattle.pg_check.proofs.Judgings.{noted, may_next}
use Rattle.pg_check.proofs.judge.Judge.note.Goals as goal

pub note_next-requires : goal.note_next-requires
note_next-requires c =
    let well : broken_rule c.requires.head c.event-item.result ≡ None = AllByRecursion-read (λ e. broken_rule c.requires.head e ≡ None) c.args.events.now c.loop-event.event-index c.event-item.result c.requires.well c.loop-event-test.true c.event-item.is in
    may_next c.args.self.now c.loop-event.self c.args.events.now c.loop-event.event-index c.event-item.result c.requires c.loop-event.invariant c.loop-event-test.true well

pub go_back-requires : goal.go_back-requires
go_back-requires c =
    let may = c.requires in
    let es : List Event = take c.loop-event.event-index c.args.events.now in
    let first : MayNote (noted c.self.inside.past c.self.inside.count) c.args.events.now = subst (λ (x : Noted). MayNote x c.args.events.now) (sym c.self.view_is) c.requires in (
      first.head,
      first.before,
      es,
      c.in-Err.ensures.err first.head (first.before ++ es) (c.loop-event.invariant first.head first.before (subst (λ (x : Noted). HasNoted x first.head first.before) c.self.view_is first.noted)),
      first.noted.count,
    )

pub returns-in-Err-clause-err : goal.returns-in-Err-clause-err
returns-in-Err-clause-err c = λ head before h.
    let es : List Event = take c.loop-event.event-index c.args.events.now in
    let was : HasNoted (noted c.self.inside.past c.self.inside.count) head before = subst (λ (x : Noted). HasNoted x head before) (sym c.self.view_is) h in
    c.go_back.ensures head before es (c.in-Err.ensures.err head (before ++ es) (c.loop-event.invariant head before h)) was.count

pub loop-event-preserved : goal.loop-event-preserved
loop-event-preserved c = λ head before h.
    let es : List Event = c.args.events.now in
    let i = c.loop-event.event-index in
    let e : Event = c.event-item.result in
    let more : take (i + 1) es ≡ take i es ++ e ∷ [] = search (rules, take_more) in
    subst (λ (xs : List Event). HasNoted c.note_next.new.self head (before ++ xs)) (sym more)
    (subst (λ (xs : List Event). HasNoted c.note_next.new.self head xs) (append_assoc before (take i es) (e ∷ [])) (c.in_default.ensures.ok head (before ++ take i es) (c.loop-event.invariant head before h)))

pub returns-clause-ok : goal.returns-clause-ok
returns-clause-ok c = λ head before h.
    subst (λ (xs : List Event). HasNoted c.loop-event.self head (before ++ xs)) (take_all c.loop-event.event-index c.args.events.now c.loop-event-test.false) (c.loop-event.invariant head before h)
