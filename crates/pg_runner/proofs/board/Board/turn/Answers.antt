use Rattle.std.proofs.Common.{◌∙◌, [], ◌∷◌, List, map, ap, sym, subst}
use Rattle.pg_guest.specs.Held.{Held, seen}
use Rattle.pg_guest.specs.Runs.{ArePlaced}
use Rattle.pg_guest.specs.CoreRun.{IsCoreRun}
use Rattle.pg_runner.specs.Seats.{Seated}
use Rattle.pg_runner.proofs.Whole.{front}
use Rattle.pg_runner.specs.Boards.{Desk, HasToldAll, IsBoard, IsRunOf}
use Rattle.pg_runner.proofs.GivenOut.{turn_grows}
use Rattle.pg_runner.proofs.GoesOn.{goes_on}
use Rattle.pg_runner.proofs.OfScripts.{board_open, turned_board, ended_told, script_kept}
use Rattle.pg_runner.proofs.board.Board.turn.Goals as goal

pub turn-answer-requires-clause-placed : goal.turn-answer-requires-clause-placed
turn-answer-requires-clause-placed c =
    subst (λ (hs : List Held). ArePlaced c.self.inside.world.head hs) (sym c.deref_mut.ensures.value) c.self.invariant.0.run.placed

pub invariant_of-self : goal.invariant_of-self
invariant_of-self c =
    let ys = c.turn-answer.new.processors in
    let end = c.turn-answer.new.world in
    let count = sym (c.turn-answer.auto.processors ∙ c.deref_mut.ensures.len) in
    let run : IsCoreRun c.self.inside.world (map seen c.self.inside.processors.items) (c.args.p ∷ []) (c.turn-answer.result ∷ []) end (map seen ys) =
    subst (λ (hs : List Held). IsCoreRun c.self.inside.world (map seen hs) (c.args.p ∷ []) (c.turn-answer.result ∷ []) end (map seen ys)) c.deref_mut.ensures.value c.turn-answer.ensures.turned in
    let there = turned_board c.self.inside.world end c.self.inside.processors.items ys c.args.p c.turn-answer.result c.self.invariant.0 run c.turn-answer.ensures.placed in (
      subst (λ (hs : List Held). IsBoard end hs) (sym (front _ ys _ count)) there,
      ap (λ (s : Seated). s.word) c.store.ensures,
    )

pub returns-clause-ended : goal.returns-clause-ended
returns-clause-ended c = λ ended.
    let ys = c.turn-answer.new.processors in
    let end = c.turn-answer.new.world in
    let count = sym (c.turn-answer.auto.processors ∙ c.deref_mut.ensures.len) in
    let run : IsCoreRun c.self.inside.world (map seen c.self.inside.processors.items) (c.args.p ∷ []) (c.turn-answer.result ∷ []) end (map seen ys) =
    subst (λ (hs : List Held). IsCoreRun c.self.inside.world (map seen hs) (c.args.p ∷ []) (c.turn-answer.result ∷ []) end (map seen ys)) c.deref_mut.ensures.value c.turn-answer.ensures.turned in
    subst (λ (hs : List Held). HasToldAll c.args.p (map seen hs)) (sym (front _ ys _ count)) (ended_told c.self.inside.world end c.self.inside.processors.items ys c.args.p c.turn-answer.result c.self.invariant.0 run ended)

pub returns-clause-script : goal.returns-clause-script
returns-clause-script c = λ script was.
    let ys = c.turn-answer.new.processors in
    let end = c.turn-answer.new.world in
    let count = sym (c.turn-answer.auto.processors ∙ c.deref_mut.ensures.len) in
    let run : IsCoreRun c.self.inside.world (map seen c.self.inside.processors.items) (c.args.p ∷ []) (c.turn-answer.result ∷ []) end (map seen ys) =
    subst (λ (hs : List Held). IsCoreRun c.self.inside.world (map seen hs) (c.args.p ∷ []) (c.turn-answer.result ∷ []) end (map seen ys)) c.deref_mut.ensures.value c.turn-answer.ensures.turned in
    let here : IsRunOf script c.self.inside.world c.self.inside.processors.items = subst (λ (d : Desk). IsRunOf script d.world d.processors) (sym c.self.view_is) was in
    subst (λ (hs : List Held). IsRunOf script end hs) (sym (front _ ys _ count)) (script_kept c.self.inside.world end c.self.inside.processors.items ys c.args.p c.turn-answer.result run c.turn-answer.ensures.placed script here)

pub returns-clause-going : goal.returns-clause-going
returns-clause-going c =
    let ys = c.turn-answer.new.processors in
    let end = c.turn-answer.new.world in
    let run : IsCoreRun c.self.inside.world (map seen c.self.inside.processors.items) (c.args.p ∷ []) (c.turn-answer.result ∷ []) end (map seen ys) =
    subst (λ (hs : List Held). IsCoreRun c.self.inside.world (map seen hs) (c.args.p ∷ []) (c.turn-answer.result ∷ []) end (map seen ys)) c.deref_mut.ensures.value c.turn-answer.ensures.turned in
    goes_on c.self.inside.world end (map seen c.self.inside.processors.items) (map seen ys) c.args.p c.turn-answer.result (board_open _ _ c.self.invariant.0) run

pub returns-clause-grows : goal.returns-clause-grows
returns-clause-grows c =
    let ys = c.turn-answer.new.processors in
    let end = c.turn-answer.new.world in
    let run : IsCoreRun c.self.inside.world (map seen c.self.inside.processors.items) (c.args.p ∷ []) (c.turn-answer.result ∷ []) end (map seen ys) =
    subst (λ (hs : List Held). IsCoreRun c.self.inside.world (map seen hs) (c.args.p ∷ []) (c.turn-answer.result ∷ []) end (map seen ys)) c.deref_mut.ensures.value c.turn-answer.ensures.turned in
    rw (← c.self.view_is) (turn_grows c.self.inside.world end c.self.inside.processors.items (map seen ys) c.args.p c.turn-answer.result c.self.invariant.0 run)
