use Rattle.std.proofs.Common.{ℕ, ◌+◌, min, max, List, Option, Bool, subst, sym}
use Rattle.std.specs.List.{All}
use Rattle.std.proofs.lemmas.Result.{on_ok_weaker}
use Rattle.pg_entry.specs.declared.Level.{Level}
use Rattle.pg_entry.specs.declared.Level.TheVariants.{Four, Three, Two, One}
use Rattle.pg_event.specs.declared.event.Event.{Event}
use Rattle.pg_event.specs.Spelling.{Recorded}
use Rattle.pg_event.specs.Walk.{below}
use Rattle.pg_reach.specs.declared.walker.Walker.{Walker}
use Rattle.pg_inval.specs.Drops.{IsTableLevel}
use Rattle.pg_reach.specs.declared.reach.Reach.{Reach}
use Rattle.pg_reach.specs.Views.{Viewed}
use Rattle.pg_reach.specs.Reaching.{IsReach, AreRoots, AreBelow}
use Rattle.pg_reach.specs.Bounds.{bound_of}
use Rattle.pg_reach.specs.Placed.{with_outcome}
use Rattle.pg_reach.specs.Ends.{AreRefused}
use Rattle.pg_reach.specs.ByOutcome.{Findings, found_at, IsGrown}
use Rattle.pg_reach.proofs.Refusals.{all_better}
use Rattle.pg_reach.proofs.Whole.{AreWhole, all_under}
use Rattle.pg_reach.proofs.EveryOutcome.{on_ok_both, grown_on, well_placed, asks_placed}
use Rattle.pg_reach.proofs.every_outcome.every_under.Goals as goal

-- the reaches of each level
abbrev by_level : List Reach → List Reach → List Reach → List Reach → Level → List Reach
by_level fours threes twos ones Four = fours
by_level fours threes twos ones Three = threes
by_level fours threes twos ones Two = twos
by_level fours threes twos ones One = ones

pub returns-clause-grown : goal.returns-clause-grown
returns-clause-grown c =
    let r : Recorded = c.args.view.now.run in
    let n : ℕ = c.args.view.now.walker.number in
    let f : Bool = c.args.view.now.walker.freshest in
    let e : Event = c.args.view.now.event in
    let one : Findings = (found_at c.note_reaches.new.found) in
    let two : Findings = (found_at c.note_reaches-2.new.found) in
    let three : Findings = (found_at c.note_reaches-3.new.found) in
    on_ok_weaker c.note_reaches-4.result (λ four. grown_on r n f e (found_at c.args.found.now) three (found_at c.note_reaches-4.new.found) (grown_on r n f e (found_at c.args.found.now) two three
    (grown_on r n f e (found_at c.args.found.now) one two c.in_ok-note_reaches.ensures.grown c.in_ok-note_reaches-2.ensures.grown) c.in_ok-note_reaches-3.ensures.grown) four) c.note_reaches-4.ensures.grown

pub returns-clause-all : goal.returns-clause-all
returns-clause-all c = on_ok_both c.note_reaches-4.result (λ last_grown last_none o.
    let view : Viewed = c.args.view.now in
    let r : Recorded = view.run in
    let v : Walker = view.walker in
    let e : Event = with_outcome o view.event in
    let since : ℕ = c.args.bounds.one in
    let found : Option (List ℕ) = (found_at c.note_reaches-4.new.found) o in
    let refused : Level → List Reach → Option (List ℕ) → Type 0 = λ level xs found. All (λ x. AreRefused r v e level (max x.from since) (min x.to v.number + 1) x found) xs in
    let roots : AreRoots r v c.args.bounds.four c.in_ok-fours.fours = subst (λ low. AreRoots r v low c.in_ok-fours.fours) c.requires.low c.in_ok-fours.ensures in
    let threes : AreBelow r v Four c.args.bounds.four c.in_ok-fours.fours c.in_ok-threes.threes = subst (λ (xs : List Reach). AreBelow r v Four c.args.bounds.four xs c.in_ok-threes.threes) c.as_slice.ensures c.in_ok-threes.ensures in
    let twos : AreBelow r v Three c.args.bounds.three c.in_ok-threes.threes c.in_ok-twos.twos = subst (λ (xs : List Reach). AreBelow r v Three c.args.bounds.three xs c.in_ok-twos.twos) c.as_slice-2.ensures c.in_ok-twos.ensures in
    let ones : AreBelow r v Two c.args.bounds.two c.in_ok-twos.twos c.in_ok-ones.ones = subst (λ (xs : List Reach). AreBelow r v Two c.args.bounds.two xs c.in_ok-ones.ones) c.as_slice-3.ensures c.in_ok-ones.ensures in
    let one : refused One c.in_ok-ones.ones ((found_at c.note_reaches.new.found) o) = subst (λ (xs : List Reach). refused One xs ((found_at c.note_reaches.new.found) o)) c.as_slice-4.ensures (c.in_ok-note_reaches.ensures.none o) in
    let two : refused Two c.in_ok-twos.twos ((found_at c.note_reaches-2.new.found) o) = subst (λ (xs : List Reach). refused Two xs ((found_at c.note_reaches-2.new.found) o)) c.as_slice-5.ensures (c.in_ok-note_reaches-2.ensures.none o) in
    let three : refused Three c.in_ok-threes.threes ((found_at c.note_reaches-3.new.found) o) = subst (λ (xs : List Reach). refused Three xs ((found_at c.note_reaches-3.new.found) o)) c.as_slice-6.ensures (c.in_ok-note_reaches-3.ensures.none o) in
    let four : refused Four c.in_ok-fours.fours found = subst (λ (xs : List Reach). refused Four xs found) c.as_slice-7.ensures (last_none o) in
    let after_three : IsGrown r v.number v.freshest view.event (found_at c.note_reaches-3.new.found) (found_at c.note_reaches-4.new.found) = last_grown in
    let after_two : IsGrown r v.number v.freshest view.event (found_at c.note_reaches-2.new.found) (found_at c.note_reaches-4.new.found) = grown_on r v.number v.freshest view.event (found_at c.note_reaches-2.new.found) (found_at c.note_reaches-3.new.found) (found_at c.note_reaches-4.new.found) c.in_ok-note_reaches-3.ensures.grown after_three in
    let after_one : IsGrown r v.number v.freshest view.event (found_at c.note_reaches.new.found) (found_at c.note_reaches-4.new.found) = grown_on r v.number v.freshest view.event (found_at c.note_reaches.new.found) (found_at c.note_reaches-2.new.found) (found_at c.note_reaches-4.new.found) c.in_ok-note_reaches-2.ensures.grown after_two in
    let lists : Level → List Reach = by_level c.in_ok-fours.fours c.in_ok-threes.threes c.in_ok-twos.twos c.in_ok-ones.ones in
    let whole : AreWhole r v e since c.args.bounds lists found = record {
      bounds = c.requires.bounds;
      levels = record {
        roots = roots;
        below = λ level. elim level as (λ l. IsTableLevel l → AreBelow r v l (bound_of c.args.bounds l) (lists l) (lists (below l))) [ Four ↦ λ deep. threes | Three ↦ λ deep. twos | Two ↦ λ deep. ones | One ↦ λ deep. absurd deep ];
      };
      each = λ level. elim level as (λ l. All (IsReach r v l) (lists l)) [ Four ↦ roots.each | Three ↦ threes.each | Two ↦ twos.each | One ↦ ones.each ];
      refused = λ level. elim level as (λ l. refused l (lists l) found) [
        | Four ↦ four
        | Three ↦ all_better r v e Three since c.in_ok-threes.threes ((found_at c.note_reaches-3.new.found) o) found (after_three.fresher o) three
        | Two ↦ all_better r v e Two since c.in_ok-twos.twos ((found_at c.note_reaches-2.new.found) o) found (after_two.fresher o) two
        | One ↦ all_better r v e One since c.in_ok-ones.ones ((found_at c.note_reaches.new.found) o) found (after_one.fresher o) one
      ];
      small = c.requires.small;
      within = c.requires.within;
    } in
    all_under r v e since c.args.bounds lists found (well_placed r.head view.event o c.requires.well) (asks_placed v view.event o c.requires.asks) whole) c.note_reaches-4.ensures.grown c.note_reaches-4.ensures.none

pub note_reaches-requires-clause-each : goal.note_reaches-requires-clause-each
note_reaches-requires-clause-each c = subst (All (IsReach c.args.view.now.run c.args.view.now.walker One)) (sym c.as_slice-4.ensures) c.in_ok-ones.ensures.each

pub note_reaches-requires-2-clause-each : goal.note_reaches-requires-2-clause-each
note_reaches-requires-2-clause-each c = subst (All (IsReach c.args.view.now.run c.args.view.now.walker Two)) (sym c.as_slice-5.ensures) c.in_ok-twos.ensures.each

pub note_reaches-requires-3-clause-each : goal.note_reaches-requires-3-clause-each
note_reaches-requires-3-clause-each c = subst (All (IsReach c.args.view.now.run c.args.view.now.walker Three)) (sym c.as_slice-6.ensures) c.in_ok-threes.ensures.each

pub note_reaches-requires-4-clause-each : goal.note_reaches-requires-4-clause-each
note_reaches-requires-4-clause-each c = subst (All (IsReach c.args.view.now.run c.args.view.now.walker Four)) (sym c.as_slice-7.ensures) c.in_ok-fours.ensures.each
