use Rattle.std.proofs.Common.{All, ◌∙◌, ◌≡◌, ◌-◌, ◌+◌, ◌++◌, ℕ, length, take, refl, List, ap, sym, subst, arith}
use Rattle.std.proofs.Math.Seq.{take-append_seam}
use Rattle.std.proofs.lemmas.List.{length-map}
use Rattle.std.proofs.lemmas.List.Elements.{All-pop, All-push}
use Rattle.std.specs.declared.option.Option.TheVariants.{Some}
use Rattle.pg_event.specs.Spelling.{Recorded}
use Rattle.pg_pool.specs.declared.checker.Done.{Done}
use Rattle.pg_pool.specs.declared.round.Round.{Round}
use Rattle.pg_pool.specs.declared.numbered_verdict.NumberedVerdict.{NumberedVerdict}
use Rattle.pg_pool.specs.Rounds.{IsIn, round}
use Rattle.pg_pool.specs.Seats.{Checker, AreOfOneRound}
use Rattle.pg_pool.specs.Verdicts.{AreVerdicts, IsTold}
use Rattle.pg_pool.specs.Work.{IsDone}
use Rattle.pg_pool.proofs.Placed.{one_round, judged_within, done_within, told_within, judged_by, kept_by, gathered}
use Rattle.pg_pool.proofs.rounds.gather.Given.{Over}
use Rattle.pg_pool.proofs.rounds.gather.Goals as goal
use Rattle.pg_pool.proofs.rounds.gather.Goals.{After-deref_mut-2, In-Some, In_ok-seats}

-- a list that stood at a list's place, as the whole is read again
read_again : {V : Type 0} (n : ℕ) (xs more : List V) → length xs ≡ n → take n (xs ++ more) ≡ xs
read_again n xs more size = ap (λ k. take k (xs ++ more)) (sym size) ∙ take-append_seam xs more

-- there is a place for each segment
room_there : (g : Over) (c : After-deref_mut-2 g) → length c.deref_mut.result.now ≡ c.args.round.last - c.args.round.first
room_there g c = omega (arith, c.deref_mut.ensures.len, c.in_ok-verdicts.ensures.len)

-- the verdicts that were placed are all that there are
placed_all : (g : Over) (c : After-deref_mut-2 g) → length c.place_done.new.verdicts ≡ c.in_ok-verdicts.verdicts.len
placed_all g c = omega (arith, c.place_done.auto.verdicts, c.deref_mut.ensures.len)

-- the verdicts that were placed, as the next call sees them
placed_there : (g : Over) (c : After-deref_mut-2 g) → c.deref_mut-2.result.now ≡ c.place_done.new.verdicts
placed_there g c = c.deref_mut-2.ensures.value ∙ read_again c.in_ok-verdicts.verdicts.len c.place_done.new.verdicts _ (placed_all g c)

-- the checker that judges what was left keeps what it should, and so do the others
last_ends : (g : Over) (c : In-Some g) (run : Recorded) → All (IsDone (g.J.Segments.ends c.args.segments.now run) (g.J.Segments.tells c.args.segments.now run) c.args.round) c.args.done.items →
    All (g.J.Segments.ends c.args.segments.now run) c.pop.new.self.items × g.J.Segments.ends c.args.segments.now run c.in-Some.state
last_ends g c run all =
    let keeps = g.J.Segments.ends c.args.segments.now run in
    All-pop keeps c.in_ok-seats.states.items c.pop.new.self.items (Some c.in-Some.state) c.in-Some.ensures.items
    (subst (λ (l : List g.row.J-CheckerState.Denot). All keeps l) (sym c.in_ok-seats.ensures.states) (kept_by (g.J.Segments.tells c.args.segments.now run) c.args.round keeps c.args.done.items all))

-- and it may judge the run still
last_fits : (g : Over) (c : In-Some g) (run : Recorded) → All (IsDone (g.J.Segments.ends c.args.segments.now run) (g.J.Segments.tells c.args.segments.now run) c.args.round) c.args.done.items → g.J.Segments.fits c.args.segments.now run c.in-Some.state
last_fits g c run all = g.J.Segments.again c.args.segments.now run c.in-Some.state (last_ends g c run all).1

pub place_done-requires : goal.place_done-requires
place_done-requires g c =
    let run = c.requires.done.0 in
    let tells = g.J.Segments.tells c.args.segments.now run in
    let size : length c.deref_mut.result.now ≡ c.args.round.last - c.args.round.first = omega (arith, c.deref_mut.ensures.len, c.in_ok-verdicts.ensures.len) in
    let n = length c.deref_mut.result.now in
    subst (λ (l : List (Done g.row.J-CheckerState.Denot g.row.J-Verdict.Denot)). All (λ d. All (λ t. IsIn (round c.args.round.first (c.args.round.first + n)) t.number) d.told.items) l) (sym c.deref.ensures.value)
    (done_within tells c.args.round c.args.round.first n c.args.done.items refl size c.requires.ordered
    (judged_by tells c.args.round (g.J.Segments.ends c.args.segments.now run) c.args.done.items c.requires.done.1))

pub close_round-requires-clause-one : goal.close_round-requires-clause-one
close_round-requires-clause-one g c =
    let run = c.requires.done.0 in
    let tells = g.J.Segments.tells c.args.segments.now run in
    subst (λ (l : List Checker). AreOfOneRound l) (sym c.in_ok-seats.ensures.seats)
    (one_round tells c.args.round c.args.done.items (omega (arith, c.requires.some, c.args.done.ok.0))
    (judged_by tells c.args.round (g.J.Segments.ends c.args.segments.now run) c.args.done.items c.requires.done.1))

pub judge_left-requires-clause-round : goal.judge_left-requires-clause-round
judge_left-requires-clause-round g c κs within =
    let run = c.requires.done.0 in
    let tells = g.J.Segments.tells c.args.segments.now run in
    subst (λ (r : Round). All (IsIn r) c.deref-2.result.now) c.requires.round
    (judged_within tells c.args.round c.args.done.items c.in_ok-seats.seats.items c.deref-2.result.now (omega (arith, c.requires.some, c.args.done.ok.0))
    (judged_by tells c.args.round (g.J.Segments.ends c.args.segments.now run) c.args.done.items c.requires.done.1) c.in_ok-seats.ensures.seats (c.deref-2.ensures.value ∙ c.in_ok-left.ensures))

pub judge_left-requires-clause-fits : goal.judge_left-requires-clause-fits
judge_left-requires-clause-fits g c κs within =
    let at : In-Some g = (goal.at.judge_left-requires-clause-fits g c).In-Some in
    let run = c.requires.done.0 in
    (run, last_fits g at run c.requires.done.1)

pub place_all-requires : goal.place_all-requires
place_all-requires g c =
    let at : In-Some g = (goal.at.place_all-requires g c).In-Some in
    let there : After-deref_mut-2 g = (goal.at.place_all-requires g c).After-deref_mut-2 in
    let run = c.requires.done.0 in
    let tells = g.J.Segments.tells c.args.segments.now run in
    let right = c.in_ok-told.ensures.told run (last_fits g at run c.requires.done.1) in
    let n = length c.deref_mut-2.result.now in
    let size : n ≡ c.args.round.last - c.args.round.first = omega (arith, ap (λ (l : List g.row.J-Verdict.Denot). length l) (placed_there g there), placed_all g there, c.in_ok-verdicts.ensures.len) in
    subst (λ (l : List (NumberedVerdict g.row.J-Verdict.Denot)). All (λ t. IsIn (round c.args.round.first (c.args.round.first + n)) t.number) l) (sym c.deref-3.ensures.value)
    (told_within tells c.args.round c.args.round.first n c.in_ok-told.told.items refl size c.requires.ordered (subst (λ (r : Round). All (IsTold tells r) c.in_ok-told.told.items) (sym c.requires.round) right))

pub finish-requires : goal.finish-requires
finish-requires g c =
    let at : In-Some g = (goal.at.finish-requires g c).In-Some in
    let run = c.requires.done.0 in
    (run, c.in_ok-told.ensures.fits run (last_fits g at run c.requires.done.1))

pub returns : goal.returns
returns g c =
    let at : In-Some g = (goal.at.returns g c).In-Some in
    let there : After-deref_mut-2 g = (goal.at.returns g c).After-deref_mut-2 in
    let size : length c.place_all.new.verdicts ≡ c.in_ok-verdicts.verdicts.len = c.place_all.auto.verdicts ∙ ap (λ (l : List g.row.J-Verdict.Denot). length l) (placed_there g there) ∙ placed_all g there in
    record {
      verdicts = λ run all.
          let tells = g.J.Segments.tells c.args.segments.now run in
          let right = subst (λ (r : Round). All (IsTold tells r) c.in_ok-told.told.items) (sym c.requires.round) (c.in_ok-told.ensures.told run (last_fits g at run all)) in
          subst (λ (l : List g.row.J-Verdict.Denot). AreVerdicts tells c.args.round l) (sym (read_again c.in_ok-verdicts.verdicts.len c.place_all.new.verdicts _ size))
          (gathered tells c.args.round c.args.done.items c.deref.result.now c.in_ok-seats.seats.items c.deref_mut.result.now c.deref_mut-2.result.now c.place_all.new.verdicts c.in_ok-left.left.items c.deref-2.result.now c.in_ok-told.told.items c.deref-3.result.now
          (omega (arith, c.requires.some, c.args.done.ok.0)) (judged_by tells c.args.round (g.J.Segments.ends c.args.segments.now run) c.args.done.items all) (room_there g there) c.deref.ensures.value (placed_there g there ∙ c.place_done.ensures) c.in_ok-seats.ensures.seats
          c.in_ok-left.ensures c.deref-2.ensures.value c.in_ok-told.ensures.numbers right c.deref-3.ensures.value c.place_all.ensures);
      ends = λ run all.
          let keeps = g.J.Segments.ends c.args.segments.now run in
          let ends = last_ends g at run all in
          subst (λ (l : List g.row.J-CheckerState.Denot). All keeps l) (sym c.push_reserved.ensures.items)
          (All-push keeps c.pop.new.self.items c.finish.new.state ends.0 (c.in_ok-finish.ensures.ends run (c.in_ok-told.ensures.fits run (last_fits g at run all))));
      len = omega (arith, c.push_reserved.ensures.len, c.in-Some.ensures.len, c.in_ok-seats.states.ok.0, c.args.done.ok.0, ap (λ (l : List g.row.J-CheckerState.Denot). length l) c.in_ok-seats.ensures.states, length-map c.args.done.items (λ (d : Done g.row.J-CheckerState.Denot g.row.J-Verdict.Denot). d.state));
    }
