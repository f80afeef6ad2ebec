use Rattle.std.proofs.Common.{◌+◌, ◌<◌, ◌++◌, ◌∷◌, [], length, arith, ap, sym, ◌∙◌}
use Rattle.std.proofs.lemmas.List.{append_assoc}
use Rattle.std.proofs.lemmas.Option.{slice_get_within, get_or_from_slice_get}
use Rattle.pg_machine.specs.declared.step.Step.TheVariants.{Do}
use Rattle.pg_run_of.specs.declared.fill.Fill.{Fill}
use Rattle.pg_run_of.specs.Places.{IsPlace}
use Rattle.pg_run_of.proofs.Places.{due_done, none_past}
use Rattle.pg_run_of.proofs.placer.push_moment.Goals.{then-loop-next-test+else-fills-next, else-loop-next-test}
use Rattle.pg_run_of.proofs.placer.push_moment.Goals as goal

-- the loop stops where a later fill stands, or none
stops : (c : goal.In_ok-push-2) → IsPlace c.args.fills.now (c.args.moment + 1) c.loop-next.next
stops c =
    due_done c.args.fills.now c.args.moment c.args.from c.loop-next.next c.requires.order c.requires.place c.loop-next.invariant.low c.loop-next.invariant.later
    (λ f h e. elim c.loop-next-test.branch [
      | then-loop-next-test+else-fills-next w ↦ w.if-fills-next.false (ap (λ (g : Fill). g.moment) (get_or_from_slice_get c.args.fills.now c.loop-next.next f _ h) ∙ e)
      | else-loop-next-test w ↦
          let within : c.loop-next.next < length c.args.fills.now = slice_get_within c.args.fills.now c.loop-next.next f h in
          absurd (omega (arith, within, w.loop-next-test.false))
    ])

pub returns-clause-place : goal.returns-clause-place
returns-clause-place c = stops c

pub returns-clause-steps : goal.returns-clause-steps
returns-clause-steps c =
    let due = sym (none_past c.args.moment c.args.fills.now c.loop-next.next (stops c).after) in
    c.in_ok-push-2.ensures.items ∙ ap (λ xs. xs ++ Do c.args.event.now ∷ []) (c.loop-next.invariant.steps ∙ ap (λ xs. c.args.steps.now.items ++ xs) due)
    ∙ append_assoc c.args.steps.now.items _ (Do c.args.event.now ∷ [])
