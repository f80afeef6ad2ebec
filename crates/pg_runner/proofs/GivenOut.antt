-- What was given out of a board, after a turn and after a round.
use Rattle.std.proofs.Common.{◌≡◌, ℕ, suc, ◌+◌, ◌*◌, List, [], ◌∷◌, ◌++◌, take, drop, length, map, false, Option, Some, None, IfSome, inl, inr, refl, sym, ◌∙◌, ap, subst, arith, length-append}
use Rattle.std.proofs.Math.Nat.{suc-mul, zero-mod}
use Rattle.std.proofs.lemmas.List.{drop-drop}
use Rattle.std.specs.declared.alloc.Global.{Global}
use Rattle.std.specs.declared.vec.Vec.{Vec}
use mathlib.Core.List.{IsPrefix}
use Rattle.pg_check.specs.Kept.{AreWellFormed}
use Rattle.pg_event.proofs.Chunks.{all_append}
use Rattle.pg_event.specs.declared.event.Event.{Event}
use Rattle.pg_event.specs.Heads.{Head}
use Rattle.pg_guest.specs.declared.advance.Advance.{Advance}
use Rattle.pg_guest.specs.CoreRun.{IsCoreRun}
use Rattle.pg_guest.specs.Held.{Held, seen}
use Rattle.pg_guest.specs.Laws.{GrowsByOne}
use Rattle.pg_guest.specs.Turn.{Processor, Turned}
use Rattle.pg_guest.proofs.Leaves.{core_runs_leave}
use Rattle.pg_guest.proofs.Turns.{turns_keep_home}
use Rattle.pg_world.specs.Kept.{IsSegment}
use Rattle.pg_world.specs.Recording.{Recording, segment_of, with_taken}
use Rattle.pg_runner.specs.Boards.{Desk, IsBoard, after_take}
use Rattle.pg_runner.specs.Given.{AreGiven, batch, joined}
use Rattle.pg_runner.specs.declared.batch.Batch.{Batch}
use Rattle.pg_report.specs.declared.team.Team.{Team}
use Rattle.pg_report.specs.Teams.{IsTeam}
use Rattle.pg_runner.specs.Live.{AreNext, IsBegun, IsWatched}
use Rattle.pg_runner.proofs.Batches.{joined_more}
use Rattle.pg_runner.proofs.Beginnings.{begins_itself, begins_on, begins_more, front_begins}
use Rattle.pg_runner.proofs.OfScripts.{board_quiet}
use Rattle.pg_runner.proofs.WholeSegments.{full_more}

-- ---- a turn

grown : (p : ℕ) (old new : List Event) → GrowsByOne p old new → IsPrefix old new
grown p old new (inl same) = subst (IsPrefix old) (sym same) (begins_itself old)
grown p old new (inr one) = (one.0 ∷ [], sym one.2)

pub turn_grows : (r end : Recording) (hs : List Held) (ys : List Processor) (p : ℕ) (a : Advance) → IsBoard r hs → IsCoreRun r (map seen hs) (p ∷ []) (a ∷ []) end ys → IsPrefix r.events end.events
turn_grows r end hs ys p a board run =
    let x : Processor = run.0 in
    let t : Turned = run.1 in
    let quiet = board_quiet r hs board in
    let one : IsPrefix r.events t.world.events = grown p r.events t.world.events (turns_keep_home p r x t quiet.accepted (quiet.at_home p x run.3) run.4).grows in
    subst (λ (w : Recording). IsPrefix r.events w.events) (sym run.6.1) one

given_still : (old new : Desk) (log : List Batch) → new.world.head ≡ old.world.head → new.world.taken ≡ old.world.taken → IsPrefix old.world.events new.world.events → AreGiven old log → AreGiven new log
given_still old new log head taken grows was = record {
  begins = begins_on (joined log) old.world.events new.world.events was.begins grows;
  count = was.count ∙ ap (λ n. n * old.world.head.segment) (sym taken) ∙ ap (λ (h : Head). new.world.taken * h.segment) (sym head);
}

pub given_after_turn : (given : Option (List Batch)) (old new : Desk) (ps : List ℕ) (answers : List Advance) → IsCoreRun old.world (map seen old.processors) ps answers new.world (map seen new.processors) → IsPrefix old.world.events new.world.events
    → IfSome given (AreGiven old) → IfSome given (AreGiven new)
given_after_turn None old new ps answers run grows was = was
given_after_turn (Some log) old new ps answers run grows was =
    let left = core_runs_leave old.world (map seen old.processors) ps answers new.world (map seen new.processors) run in
    given_still old new log left.head left.taken grows was

-- ---- the next segments

pub none_next : (b : Desk) → AreNext b b []
none_next b = record {
  segments = record { well = tt; whole = zero-mod b.world.head.segment };
  next = (drop (b.world.taken * b.world.head.segment) b.world.events, refl);
  world = refl;
  taken = omega arith;
}

pub next_more : (taken : Option (Vec Event Global)) (segment : Vec Event Global) (start old new : Desk) (xs added ys : List Event) → new ≡ after_take taken old → taken ≡ Some segment
    → IfSome taken (λ s. s.items ≡ segment_of old.world old.world.taken) → IfSome taken (λ s. IsSegment old.world s.items) → old.world.finished ≡ false → AreNext start old xs
    → added ≡ segment.items → ys ≡ xs ++ added → (new.world.finished ≡ false) × AreNext start new ys
next_more taken segment start old new xs added ys is some items formed still was same sum =
    let evs : List Event = start.world.events in
    let size : ℕ = start.world.head.segment in
    let from : ℕ = start.world.taken * size in
    let own : segment.items ≡ segment_of old.world old.world.taken = subst (λ (o : Option (Vec Event Global)). IfSome o (λ s. s.items ≡ segment_of old.world old.world.taken)) some items in
    let one : IsSegment old.world segment.items = subst (λ (o : Option (Vec Event Global)). IfSome o (λ s. IsSegment old.world s.items)) some formed in
    let desk : new ≡ after_take (Some segment) old = subst (λ (o : Option (Vec Event Global)). new ≡ after_take o old) some is in
    let world : new.world ≡ with_taken old.world = ap (λ (b : Desk). b.world) desk in
    let head : old.world.head ≡ start.world.head = ap (λ (r : Recording). r.head) was.world in
    let events : old.world.events ≡ evs = ap (λ (r : Recording). r.events) was.world in
    let step : new.world.taken ≡ old.world.taken + 1 = ap (λ (r : Recording). r.taken) world in
    let full : length segment.items ≡ size = one.full still ∙ ap (λ (h : Head). h.segment) head in
    let well : AreWellFormed start.world.head segment.items = subst (λ (h : Head). AreWellFormed h segment.items) head one.well in
    let at : old.world.taken * old.world.head.segment ≡ from + length xs = ap (λ (h : Head). old.world.taken * h.segment) head ∙ was.taken in
    let rest : drop (old.world.taken * old.world.head.segment) old.world.events ≡ drop (length xs) (drop from evs) =
    ap (λ n. drop n old.world.events) at ∙ ap (drop (from + length xs)) events ∙ sym (drop-drop (length xs) from evs) in
    let front : segment.items ≡ take old.world.head.segment (drop (length xs) (drop from evs)) = own ∙ ap (take old.world.head.segment) rest in
    let begins : IsPrefix segment.items (drop (length xs) (drop from evs)) =
    subst (λ (es : List Event). IsPrefix es (drop (length xs) (drop from evs))) (sym front) (front_begins old.world.head.segment (drop (length xs) (drop from evs))) in
    let all : xs ++ segment.items ≡ ys = ap (λ es. xs ++ es) (sym same) ∙ sym sum in
    let more : new.world.taken * size ≡ old.world.taken * size + size = ap (λ n. n * size) (step ∙ (let s : old.world.taken + 1 ≡ suc old.world.taken = omega arith in s)) ∙ suc-mul old.world.taken size in
    let count : new.world.taken * size ≡ from + length (xs ++ segment.items) = omega (arith, more, was.taken, full, length-append xs segment.items) in
    let so : AreNext start new (xs ++ segment.items) = record {
      segments = record {
        well = all_append _ xs segment.items was.segments.well well;
        whole = full_more xs segment.items size was.segments.whole full;
      };
      next = begins_more xs segment.items (drop from evs) (length xs) refl was.next begins;
      world = world ∙ ap (λ (r : Recording). let w : Recording = record r { taken = old.world.taken + 1 } in w) was.world ∙ ap (λ (n : ℕ). let w : Recording = record start.world { taken = n } in w) (sym step);
      taken = count;
    } in (ap (λ (r : Recording). r.finished) world ∙ still, subst (AreNext start new) all so)

pub given_more : (old new : Desk) (log : List Batch) (events : List Event) → AreGiven old log → AreNext old new events → AreGiven new (log ++ batch events ∷ [])
given_more old new log events was next =
    let size : ℕ = old.world.head.segment in
    let head : new.world.head ≡ old.world.head = ap (λ (r : Recording). r.head) next.world in
    let same : new.world.events ≡ old.world.events = ap (λ (r : Recording). r.events) next.world in
    let all : joined (log ++ batch events ∷ []) ≡ joined log ++ events = joined_more log (batch events) in
    let begins : IsPrefix (joined log ++ events) old.world.events = begins_more (joined log) events old.world.events (old.world.taken * size) was.count was.begins next.next in
    let begun : IsPrefix (joined log ++ events) new.world.events = subst (IsPrefix (joined log ++ events)) (sym same) begins in
    let count : length (joined log ++ events) ≡ new.world.taken * size = omega (arith, length-append (joined log) events, was.count, next.taken) in
    record {
      begins = subst (λ (es : List Event). IsPrefix es new.world.events) (sym all) begun;
      count = ap length all ∙ count ∙ ap (λ (h : Head). new.world.taken * h.segment) (sym head);
    }

-- ---- the judges

pub fresh_watched : (t : Team) (head : Head) (log : List Batch) → IsTeam t head [] → log ≡ [] → IsWatched t (joined log)
fresh_watched t head log team same =
    let is : IsTeam t t.judged.head [] = subst (λ (h : Head). IsTeam t h []) (sym team.judged.settings) team in
    subst (λ (l : List Batch). IsWatched t (joined l)) (sym same) (record { team = is; whole = zero-mod t.judged.head.segment })

pub watched_given : (o : Option Team) (old new : List Batch) (events : List Event) → new ≡ old ++ batch events ∷ [] → IfSome o (λ t. IsWatched t (joined old ++ events)) → IfSome o (λ t. IsWatched t (joined new))
watched_given o old new events is was = subst (λ (es : List Event). IfSome o (λ t. IsWatched t es)) (sym (ap joined is ∙ joined_more old (batch events))) was

pub begun_of : (o : Option Team) (b : Desk) (log : List Batch) → AreGiven b log → IfSome o (λ t. IsWatched t (joined log)) → IfSome o (λ t. IsBegun t b.world.events)
begun_of None b log given watched = watched
begun_of (Some t) b log given watched = record { first = joined log; watched = watched; begins = given.begins }

pub begun_on : (o : Option Team) (old new : List Event) → IsPrefix old new → IfSome o (λ t. IsBegun t old) → IfSome o (λ t. IsBegun t new)
begun_on None old new grows was = was
begun_on (Some t) old new grows was = record { first = was.first; watched = was.watched; begins = begins_on was.first old new was.begins grows }
