use Rattle.std.proofs.Common.{◌≡◌, ◌∙◌, ◌<◌, length, Some, slice_get, refl, ap, sym, subst, arith}
use Rattle.std.proofs.lemmas.Option.{slice_get_read, slice_get_within}
use Rattle.pg_runner.specs.Boards.{Desk, IsRunOf}
use Rattle.pg_runner.proofs.OfScripts.{run_of_same, same_of_run, own_one_more, HaveInstructionsOf}
use Rattle.pg_runner.proofs.board.Board.is_of.Goals as goal

pub returns-then-not-is_same : goal.returns-then-not-is_same
returns-then-not-is_same c = (
  λ no. absurd (cc),
  λ run. c.if-not-is_same.ensures.1 (c.header.ensures.header ∙ (same_of_run _ _ _ run).0 ∙ sym c.header-2.ensures.header),
)

pub returns-then-not-has_instructions : goal.returns-then-not-has_instructions
returns-then-not-has_instructions c = (
  λ no. absurd (cc),
  λ run.
      let hs = c.self.inside.processors.items in
      let script = c.args.script.now in
      let here : IsRunOf script c.self.inside.world hs = subst (λ (d : Desk). IsRunOf script d.world d.processors) (sym c.self.view_is) run in
      let at : slice_get hs c.loop-p.p ≡ Some c.index.result.now = slice_get_read hs (length hs) c.loop-p.p c.index.result.now refl (omega arith) c.index.ensures in
      c.if-not-has_instructions.ensures.1 ((same_of_run script c.self.inside.world hs here).1 c.loop-p.p c.index.result.now at),
)

pub loop-p-preserved : goal.loop-p-preserved
loop-p-preserved c =
    let hs = c.self.inside.processors.items in
    let at : slice_get hs c.loop-p.p ≡ Some c.index.result.now = slice_get_read hs (length hs) c.loop-p.p c.index.result.now refl (omega arith) c.index.ensures in
    own_one_more c.args.script.now c.args.self.now.processors c.loop-p.p c.index.result.now c.loop-p.invariant (rw (← c.self.view_is) at) (c.if-not-has_instructions.ensures.0 refl)

pub returns : goal.returns
returns c = (
  λ yes.
      let hs = c.self.inside.processors.items in
      let script = c.args.script.now in
      let head : c.self.inside.world.head ≡ script.head = ap (λ (d : Desk). d.world.head) c.self.view_is ∙ sym c.header.ensures.header ∙ c.if-not-is_same.ensures.0 refl ∙ c.header-2.ensures.header in
      let own : HaveInstructionsOf script hs = λ p h at.
      let within : p < length hs = slice_get_within hs p h at in
      c.loop-p.invariant p h (omega (arith, within)) (rw (← c.self.view_is) at) in
      subst (λ (d : Desk). IsRunOf script d.world d.processors) c.self.view_is (run_of_same script c.self.inside.world hs c.self.invariant.0 head own),
  λ run. refl,
)
