use Rattle.std.proofs.Common.{◌≡◌, ◌+◌, [], ◌∷◌, ◌++◌, List, length, take, None, sym, subst, rules, ◌∙◌}
use Rattle.std.proofs.lemmas.List.{append_assoc, take_all, take_more}
use Rattle.pg_event.specs.declared.event.Event.{Event}
use Rattle.pg_event.specs.Witness.{first_bad_from}
use Rattle.pg_event.specs.Form.{broken_rule}
use Rattle.pg_chain.proofs.Notes.{AllByRecursion-read}
use Rattle.pg_check.specs.Judging.{Noted, HasNoted, MayNote}
use Rattle.pg_check.proofs.Judgings.{noted, found_more, may_next}
use Rattle.pg_check.proofs.judge.Judge.judge.Goals as goal

pub loop-i-preserved : goal.loop-i-preserved
loop-i-preserved c =
    let es : List Event = c.args.events.now in
    let i = c.loop-i.i in
    let e : Event = c.index-events-i.result in
    let more : take (i + 1) es ≡ take i es ++ e ∷ [] = search (rules, take_more) in (
      λ head before h.
          let was : HasNoted c.look_ahead.new.self head (before ++ take i es) = subst (λ (x : Noted). HasNoted x head (before ++ take i es)) (sym c.look_ahead.ensures) (c.loop-i.invariant.0 head before h) in
          let still : HasNoted c.found_next-found.new.self head (before ++ take i es) = subst (λ (x : Noted). HasNoted x head (before ++ take i es)) (sym c.found_next-found.ensures.same) was in
          subst (λ (xs : List Event). HasNoted c.note_next.new.self head (before ++ xs)) (sym more)
          (subst (λ (xs : List Event). HasNoted c.note_next.new.self head xs) (append_assoc before (take i es) (e ∷ [])) (c.in_default.ensures.ok head (before ++ take i es) still)),
      λ head before h.
          let was : HasNoted c.look_ahead.new.self head (before ++ take i es) = subst (λ (x : Noted). HasNoted x head (before ++ take i es)) (sym c.look_ahead.ensures) (c.loop-i.invariant.0 head before h) in
          subst (λ (xs : List Event). c.found_next-found.result ≡ first_bad_from head (before ++ xs) (length before) xs) (sym more)
          (found_more head before (take i es) e c.loop-i.found c.found_next-found.result (c.loop-i.invariant.1 head before h) (c.found_next-found.ensures.found head (before ++ take i es) was)),
    )

pub found_next-found-requires : goal.found_next-found-requires
found_next-found-requires c =
    let es : List Event = c.args.events.now in
    let well : broken_rule c.requires.head c.index-events-i.result ≡ None = AllByRecursion-read (λ e. broken_rule c.requires.head e ≡ None) c.args.events.now c.loop-i.i c.index-events-i.result c.requires.well c.loop-i-test.true c.index-events-i.is in
    subst (λ (x : Noted). MayNote x (c.index-events-i.result ∷ [])) (sym c.look_ahead.ensures)
    (may_next c.args.self.now c.loop-i.self es c.loop-i.i c.index-events-i.result c.requires c.loop-i.invariant.0 c.loop-i-test.true well)

pub note_next-requires : goal.note_next-requires
note_next-requires c =
    let es : List Event = c.args.events.now in
    let well : broken_rule c.requires.head c.index-events-i.result ≡ None = AllByRecursion-read (λ e. broken_rule c.requires.head e ≡ None) c.args.events.now c.loop-i.i c.index-events-i.result c.requires.well c.loop-i-test.true c.index-events-i.is in
    subst (λ (x : Noted). MayNote x (c.index-events-i.result ∷ [])) (sym (c.found_next-found.ensures.same ∙ c.look_ahead.ensures))
    (may_next c.args.self.now c.loop-i.self es c.loop-i.i c.index-events-i.result c.requires c.loop-i.invariant.0 c.loop-i-test.true well)

pub go_back-requires : goal.go_back-requires
go_back-requires c =
    let es : List Event = take c.loop-i.i c.args.events.now in
    let first : MayNote (noted c.self.inside.past c.self.inside.count) c.args.events.now = subst (λ (x : Noted). MayNote x c.args.events.now) (sym c.self.view_is) c.requires in
    let here : HasNoted c.loop-i.self first.head (first.before ++ es) = c.loop-i.invariant.0 first.head first.before (subst (λ (x : Noted). HasNoted x first.head first.before) c.self.view_is first.noted) in (
      first.head,
      first.before,
      es,
      c.in-Err.ensures.err first.head (first.before ++ es) (subst (λ (x : Noted). HasNoted x first.head (first.before ++ es)) (sym (c.found_next-found.ensures.same ∙ c.look_ahead.ensures)) here),
      first.noted.count,
    )

pub returns-in-Err-clause-err : goal.returns-in-Err-clause-err
returns-in-Err-clause-err c = λ head before h.
    let es : List Event = take c.loop-i.i c.args.events.now in
    let was : HasNoted (noted c.self.inside.past c.self.inside.count) head before = subst (λ (x : Noted). HasNoted x head before) (sym c.self.view_is) h in
    let here : HasNoted c.found_next-found.new.self head (before ++ es) = subst (λ (x : Noted). HasNoted x head (before ++ es)) (sym (c.found_next-found.ensures.same ∙ c.look_ahead.ensures)) (c.loop-i.invariant.0 head before h) in
    c.go_back.ensures head before es (c.in-Err.ensures.err head (before ++ es) here) was.count

pub returns-clause-ok : goal.returns-clause-ok
returns-clause-ok c = λ head before h.
    subst (λ (xs : List Event). HasNoted c.loop-i.self head (before ++ xs)) (take_all c.loop-i.i c.args.events.now c.loop-i-test.false) (c.loop-i.invariant.0 head before h)
