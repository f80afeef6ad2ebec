use Rattle.std.proofs.Common.{inl, inr, ◌≡◌, ◌∙◌, ◌<◌, ◌^◌, ℕ, Bool, Some, None, sym, refl, rules}
use Rattle.std.specs.Prelude.{Ok}
use Rattle.std.proofs.lemmas.List.{length_push}
use Rattle.std.proofs.lemmas.Result.{err_from_is_err_and}
use Rattle.pg_guest.specs.Reading.{next_start_at}
use Rattle.pg_guest.specs.Answers.{told_in, said_in}
use Rattle.pg_guest.proofs.Loops.{starts_go_on, starts_end, starts_full, starts_refused}
use Rattle.pg_guest.proofs.Pushing.{all_pushed}
use Rattle.pg_guest.proofs.Wants.{lacks_first, lacks_start, told_in_rising, adds_behind_first, adds_behind_start}
use Rattle.pg_guest.specs.Reading.{processors_at}
use Rattle.pg_guest.proofs.script_reader.processors_of.Goals as goal
use Rattle.pg_guest.proofs.script_reader.processors_of.Goals.{else-loop-test, then-loop-test+in_ok-start+in_default}

pub returns-in_err-start-clause-starts : goal.returns-in_err-start-clause-starts
returns-in_err-start-clause-starts c =
    let p = err_from_is_err_and c.from_residual-in_err-start.result c.from_residual-in_err-start.ensures.1 in
    let e = c.in_err-start.field-0.0 in
    let read = sym c.loop.invariant.so_far ∙ starts_refused c.args.maxphyaddr c.args.most c.loop.counter c.loop.starts.items (told_in c.loop.rest) e c.loop-test.true c.in_err-start.ensures.start in
    rw (p.1, p.2) (inl read)

pub loop-preserved : goal.loop-preserved
loop-preserved c =
    let m = c.args.maxphyaddr in
    let starts = c.loop.starts.items in
    let start = c.in-Some.start.value in
    let next : next_start_at m (told_in c.loop.rest) ≡ Ok (Some (said_in told_in c.in-Some.start)) =
    rw c.in-Some.is at c.in_ok-start.ensures.start in
    let pushed = c.in-Ok.ensures.items in
    let P : ℕ × Bool → Type 0 = λ x. x.0 < 2 ^ m in
    let range : P start = rw c.in-Some.is at c.in_ok-start.ensures.range in
    record {
      so_far = rw pushed (starts_go_on m c.args.most c.loop.counter starts (told_in c.loop.rest) (said_in told_in c.in-Some.start) c.loop-test.true next ∙ c.loop.invariant.so_far);
      within = λ n a. c.loop.invariant.within n (adds_behind_start m (told_in c.loop.rest) (said_in told_in c.in-Some.start) n next a);
      count = rw pushed (rw (length_push starts start, c.loop.invariant.count) refl);
      range = rw pushed (all_pushed P starts start c.loop.invariant.range range);
    }

pub returns-clause-starts : goal.returns-clause-starts
returns-clause-starts c =
    let m = c.args.maxphyaddr in
    let l = c.loop in
    elim c.loop-test.branch [
      | else-loop-test w ↦ sym l.invariant.so_far ∙ starts_full m c.args.most l.counter l.starts.items (told_in l.rest) w.loop-test.false
      | then-loop-test+in_ok-start+in_default w ↦
          let next : next_start_at m (told_in l.rest) ≡ Ok None = rw w.in_default.is at w.in_ok-start.ensures.start in
          sym l.invariant.so_far ∙ starts_end m c.args.most l.counter l.starts.items (told_in l.rest) w.loop-test.true next
    ]

pub returns-then-is_err-clause-starts : goal.returns-then-is_err-clause-starts
returns-then-is_err-clause-starts c =
    let lines = told_in c.args.text.now in
    let lacks = lacks_first c.args.maxphyaddr c.args.most lines (told_in c.in_ok-number.field-0.rest) c.in_ok-number.field-0.value c.in_ok-number.ensures.start (told_in_rising c.args.text.now) in
    rw c.out_of_memory.ensures (rw c.in_ok-number.ensures.number (inr lacks))

pub returns-in-Err-clause-starts : goal.returns-in-Err-clause-starts
returns-in-Err-clause-starts c =
    let m = c.args.maxphyaddr in
    let l = c.loop in
    let next : next_start_at m (told_in l.rest) ≡ Ok (Some (said_in told_in c.in-Some.start)) =
    rw c.in-Some.is at c.in_ok-start.ensures.start in
    rw c.out_of_memory-in-Err.ensures
    (inr (lacks_start m c.args.most l.counter l.starts.items (told_in c.args.text.now) (told_in l.rest) (said_in told_in c.in-Some.start) (processors_at m c.args.most (told_in c.args.text.now)) c.loop-test.true next (told_in_rising l.rest) l.invariant.within l.invariant.so_far))

pub loop-init : goal.loop-init
unfolding processors_at
loop-init c = record {
  so_far = search rules;
  within = λ n a. adds_behind_first c.args.maxphyaddr (told_in c.args.text.now) c.in_ok-number.field-0.value (told_in c.in_ok-number.field-0.rest) n c.in_ok-number.ensures.start a;
  count = search rules;
  range = search rules;
}
