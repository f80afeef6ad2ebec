use Rattle.std.proofs.Common.{◌≡◌, ℕ, ◌≤◌, List, Option, Some, None, true, ap, sym, ◌∙◌, subst, arith}
use Rattle.std.specs.Prelude.{IfSome}
use Rattle.pg_entry.specs.Kinds.{kind_of}
use Rattle.pg_event.specs.declared.event.Event.{Event}
use Rattle.pg_event.specs.Spelling.{Recorded}
use Rattle.pg_event.specs.Wants.{is_wanted}
use Rattle.pg_event.specs.Witness.{failing_event}
use Rattle.pg_search.specs.Law.{AreWitness, with_moments}
use Rattle.pg_reach.specs.declared.walker.Walker.{Walker}
use Rattle.pg_reach.specs.declared.view.Piece.{Piece}
use Rattle.pg_reach.specs.declared.reach.Reach.{Reach}
use Rattle.pg_entry.specs.declared.Level.{Level}
use Rattle.pg_reach.specs.Reaching.{up_to, IsReach}
use Rattle.pg_reach.specs.Views.{Viewed}
use Rattle.pg_reach.specs.Asking.{Asks, want_by, pcid_of}
use Rattle.pg_reach.specs.WitnessedUpTo.{IsLastUse, IsUpTo, HasWitnessUnder, IsReadIn, IsPassedBy}
use Rattle.pg_reach.proofs.Before.{found_there, reached_under}
use Rattle.pg_reach.proofs.Cases.{processor_there}
use Rattle.pg_reach.proofs.Passed.{up_to_less}
use Rattle.pg_reach.proofs.Passing.{passing, IsUsed}
use Rattle.pg_reach.proofs.view.View.last_by.Goals as goal

used : (r : Recorded) (v : Walker) (e : Event) (level : Level) (x : Reach) (piece : Piece) (read n m : ℕ) → IsReach r v level x → IfSome piece.read (IsReadIn r v level x piece) → piece.read ≡ Some read → read ≤ n →
    IsLastUse r v e (kind_of r.head.cfg level piece.entry) read n → piece.read ≡ Some m → is_wanted (want_by e) (kind_of r.head.cfg level piece.entry) ≡ true → IsUsed r v e level x m n
used r v e level x piece read n m reach reads is order last there wanted =
    let same : read ≡ m = cc (is, there) in
    let at : IsReadIn r v level x piece m = subst (λ o. IfSome o (IsReadIn r v level x piece)) there reads in
    record {
      reach = reach;
      from = at.from;
      to = at.to;
      under = at.under;
      order = omega (arith, order, same);
      wanted = ap (λ k. is_wanted (want_by e) (kind_of r.head.cfg level k)) at.entry ∙ wanted;
      last = subst (λ k. IsLastUse r v e (kind_of r.head.cfg level k) m n) (sym at.entry) (subst (λ k. IsLastUse r v e (kind_of r.head.cfg level piece.entry) k n) same last);
    }

-- what is not witnessed at the last number is witnessed at none
none_later : (r : Recorded) (v : Walker) (e : Event) (level : Level) (x : Reach) (piece : Piece) (n : ℕ) (found : Option ℕ) → Asks v e → ((m : ℕ) → piece.read ≡ Some m → is_wanted (want_by e) (kind_of r.head.cfg level piece.entry) ≡ true → IsUsed r v e level x m n) →
    ((m : ℕ) → piece.read ≡ Some m → failing_event r.head r.events n (with_moments (up_to m x.latest) e) ≡ None → IsUpTo found n) → IsPassedBy r v e level x piece found
none_later r v e level x piece n found asks use' none = λ m read wanted j low high good.
    let by = passing r v e level x m n asks (use' m read wanted) j low high good in
    up_to_less found n j by.0 (none m read by.1)

pub last_use-number-requires-clause-processor : goal.last_use-number-requires-clause-processor
last_use-number-requires-clause-processor c = processor_there c.args.self.now.run.head c.args.self.now.walker c.args.self.now.event c.requires.asks c.requires.well

pub returns-then-is_up_to-clause-passed : goal.returns-then-is_up_to-clause-passed
returns-then-is_up_to-clause-passed c =
    let r : Recorded = c.args.self.now.run in
    let v : Walker = c.args.self.now.walker in
    none_later r v c.args.self.now.event c.args.level c.args.x.now c.args.piece.now c.last_use-number.result c.args.found c.requires.asks
    (λ m. used r v c.args.self.now.event c.args.level c.args.x.now c.args.piece.now c.in-Some.read c.last_use-number.result m c.requires.reach c.requires.read c.in-Some.is c.last_use-number.ensures.order c.last_use-number.ensures.last)
    (λ m read good. c.is_up_to.ensures c.if-is_up_to.true)

-- the moments of a reading are under the walker's PCID
under_there : (r : Recorded) (v : Walker) (level : Level) (x : Reach) (piece : Piece) (read : ℕ) → IsReach r v level x → IfSome piece.read (IsReadIn r v level x piece) → piece.read ≡ Some read → pcid_of r v (up_to read x.latest) ≡ v.pcid
under_there r v level x piece read reach reads is =
    let at : IsReadIn r v level x piece read = subst (λ o. IfSome o (IsReadIn r v level x piece)) is reads in
    reached_under r v level x read reach at.from at.to at.under

pub returns-then-is_witness-clause-some : goal.returns-then-is_witness-clause-some
returns-then-is_witness-clause-some c =
    let r : Recorded = c.args.self.now.run in
    let v : Walker = c.args.self.now.walker in
    let e : Event = c.args.self.now.event in
    let n : ℕ = c.last_use-number.result in
    let ms : List ℕ = c.up_to-moments.result in
    let witness : AreWitness r.head r.events n e ms = subst (λ (v : Viewed). AreWitness v.run.head v.run.events n v.event ms) c.self.view_is (c.is_witness.ensures.some c.if-is_witness.true) in
    let under : pcid_of r v ms ≡ v.pcid = ap (pcid_of r v) c.up_to-moments.ensures ∙ under_there r v c.args.level c.args.x.now c.args.piece.now c.in-Some.read c.requires.reach c.requires.read c.in-Some.is in
    let new : HasWitnessUnder r v e n = record { within = c.last_use-number.ensures.within; moments = ms; witness = witness; under = under } in
    found_there r v e n c.args.found c.later.result new c.later.ensures.either

pub returns-then-is_witness-clause-passed : goal.returns-then-is_witness-clause-passed
returns-then-is_witness-clause-passed c =
    let r : Recorded = c.args.self.now.run in
    let v : Walker = c.args.self.now.walker in
    none_later r v c.args.self.now.event c.args.level c.args.x.now c.args.piece.now c.last_use-number.result c.later.result c.requires.asks
    (λ m. used r v c.args.self.now.event c.args.level c.args.x.now c.args.piece.now c.in-Some.read c.last_use-number.result m c.requires.reach c.requires.read c.in-Some.is c.last_use-number.ensures.order c.last_use-number.ensures.last)
    (λ m read good. c.later.ensures.new)

pub returns-else-is_witness-clause-passed : goal.returns-else-is_witness-clause-passed
returns-else-is_witness-clause-passed c =
    let r : Recorded = c.args.self.now.run in
    let v : Walker = c.args.self.now.walker in
    let e : Event = c.args.self.now.event in
    let n : ℕ = c.last_use-number.result in
    let none : failing_event r.head r.events n (with_moments c.up_to-moments.result e) ≡ None → ⊥ =
    subst (λ (v : Viewed). failing_event v.run.head v.run.events n (with_moments c.up_to-moments.result v.event) ≡ None → ⊥) c.self.view_is (c.is_witness.ensures.none c.if-is_witness.false) in
    none_later r v e c.args.level c.args.x.now c.args.piece.now n c.args.found c.requires.asks
    (λ m. used r v e c.args.level c.args.x.now c.args.piece.now c.in-Some.read n m c.requires.reach c.requires.read c.in-Some.is c.last_use-number.ensures.order c.last_use-number.ensures.last)
    (λ m read good.
    let same : c.in-Some.read ≡ m = cc (c.in-Some.is, read) in
    let moments : c.up_to-moments.result ≡ up_to m c.args.x.now.latest = c.up_to-moments.ensures ∙ ap (λ k. up_to k c.args.x.now.latest) same in
    absurd (none (ap (λ (ms : List ℕ). failing_event r.head r.events n (with_moments ms e)) moments ∙ good)))
