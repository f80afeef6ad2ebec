use Rattle.std.proofs.Common.{◌≡◌, ℕ, ◌+◌, List, length, take, get_or, sym, ap, subst, inl, inr, Vec, Global, ◌-◌, drop}
use Rattle.pg_machine.specs.Machine.{IsIn}
use Rattle.pg_event.specs.declared.event.Event.{Event}
use Rattle.pg_span_run.specs.Orders.{Spanned}
use Rattle.pg_span_refute.specs.declared.slot.Slot.{Slot}
use Rattle.pg_span_refute.specs.declared.words.Assisted.{Assisted}
use Rattle.pg_span_refute.specs.declared.words.Written.{Written}
use Rattle.pg_span_refute.specs.Words.{AreWritesTo, AreAssistsOf, AreAssistsBelow, AreBelow}
use Rattle.pg_span_refute.proofs.Listing.{IsSeen, are_below, held_value, seen_still, overwritten_in}
use Rattle.pg_span_refute.proofs.Taken.{in_get, one_more_get, take_all, in_part}
use Rattle.pg_span_refute.proofs.words.put_values.Goals as goal
use Rattle.pg_span_refute.proofs.words.put_values.Goals.{then-may_be_last+in_ok-push_held, else-may_be_last}

below : (events : List Event) (a : ℕ) (items writes : List Written) → writes ≡ items → AreWritesTo events a items → AreBelow (length events) writes
below events a items writes is are = subst (AreBelow (length events)) (sym is) (are_below events a items are)

pub overwritten_below-bound-requires : goal.overwritten_below-bound-requires
overwritten_below-bound-requires c = below c.args.run.now.events c.args.word.now.address c.args.word.now.writes.items c.as_slice-writes.result.now c.as_slice-writes.ensures.value c.requires.0

pub may_be_last-requires : goal.may_be_last-requires
may_be_last-requires c =
    let writes : List Written = c.as_slice-writes.result.now in
    let all : AreBelow (length c.args.run.now.events) writes = below c.args.run.now.events c.args.word.now.address c.args.word.now.writes.items writes c.as_slice-writes.ensures.value c.requires.0 in
    record { within = all _ (in_get writes c.loop-place.place (record { number = 0; value = 0 }) c.loop-place-test.true); writes = λ w h. all w (in_part writes c.loop-place.place (length writes - c.loop-place.place) w h) }

pub push_held-requires : goal.push_held-requires
push_held-requires c =
    let writes : List Written = c.as_slice-writes.result.now in
    let all : AreBelow (length c.args.run.now.events) writes = below c.args.run.now.events c.args.word.now.address c.args.word.now.writes.items writes c.as_slice-writes.ensures.value c.requires.0 in
    record {
      within = all _ (in_get writes c.loop-place.place (record { number = 0; value = 0 }) c.loop-place-test.true);
      assists = subst (AreAssistsBelow (length c.args.run.now.events)) (sym c.as_slice-assists.ensures.value) c.requires.1.below;
    }

pub loop-place-preserved : goal.loop-place-preserved
loop-place-preserved c =
    let writes : List Written = c.as_slice-writes.result.now in
    let assists : List Assisted = c.as_slice-assists.result.now in
    let n : ℕ = c.loop-place.place in
    let s : Spanned = c.args.run.now in
    let slot : Slot = c.args.slot in
    let old : List ℕ = c.loop-place.values.items in
    let w0 : Written = get_or writes n (record { number = 0; value = 0 }) in
    elim c.if-may_be_last.branch [
      | then-may_be_last+in_ok-push_held w ↦
          let new : List ℕ = w.push_held.new.values.items in
          let items : c.if-may_be_last.values.items ≡ new = ap (λ (v : Vec ℕ Global). v.items) w.values-is in
          subst (λ vs. (x : Written) → IsIn x (take (n + 1) writes) → IsSeen s slot writes assists vs x) (sym items)
          (one_more_get (IsSeen s slot writes assists new) writes n (record { number = 0; value = 0 }) c.loop-place-test.true
          (λ x h. seen_still s slot writes assists old new x w.in_ok-push_held.ensures.more (c.loop-place.invariant x h)) (inr (inr w.in_ok-push_held.ensures.held)))
      | else-may_be_last w ↦
          let items : c.if-may_be_last.values.items ≡ old = ap (λ (v : Vec ℕ Global). v.items) w.values-is in
          subst (λ vs. (x : Written) → IsIn x (take (n + 1) writes) → IsSeen s slot writes assists vs x) (sym items)
          (one_more_get (IsSeen s slot writes assists old) writes n (record { number = 0; value = 0 }) c.loop-place-test.true c.loop-place.invariant
          (elim (c.may_be_last.ensures w.if-may_be_last.false) [
            | inl low ↦ inr (inl (c.overwritten_below-bound.ensures w0.number low))
            | inr other ↦ elim other [
              | inl a ↦ inl a
              | inr b ↦ inr (inl (overwritten_in s slot writes (take (length writes - n) (drop n writes)) w0.number (λ x h. in_part writes n (length writes - n) x h) b))
            ]
          ]))
    ]

pub returns-in_ok-push_marked : goal.returns-in_ok-push_marked
returns-in_ok-push_marked c =
    let writes : List Written = c.as_slice-writes.result.now in
    let assists : List Assisted = c.as_slice-assists.result.now in
    let s : Spanned = c.args.run.now in
    let old : List ℕ = c.loop-place.values.items in
    let new : List ℕ = c.push_marked.new.values.items in
    let are : AreWritesTo s.events c.args.word.now.address writes = subst (AreWritesTo s.events c.args.word.now.address) (sym c.as_slice-writes.ensures.value) c.requires.0 in
    let sets : AreAssistsOf s.events c.args.word.now.address assists = subst (AreAssistsOf s.events c.args.word.now.address) (sym c.as_slice-assists.ensures.value) c.requires.1 in
    let whole : take c.loop-place.place writes ≡ writes = take_all writes c.loop-place.place c.loop-place-test.false in
    held_value s c.args.slot c.args.word.now.address writes assists new are sets
    (λ w h. seen_still s c.args.slot writes assists old new w c.in_ok-push_marked.ensures.more (c.loop-place.invariant w (subst (IsIn w) (sym whole) h)))
    (inr c.in_ok-push_marked.ensures.marked)

pub returns-else-not-is_written : goal.returns-else-not-is_written
returns-else-not-is_written c =
    let writes : List Written = c.as_slice-writes.result.now in
    let assists : List Assisted = c.as_slice-assists.result.now in
    let s : Spanned = c.args.run.now in
    let are : AreWritesTo s.events c.args.word.now.address writes = subst (AreWritesTo s.events c.args.word.now.address) (sym c.as_slice-writes.ensures.value) c.requires.0 in
    let sets : AreAssistsOf s.events c.args.word.now.address assists = subst (AreAssistsOf s.events c.args.word.now.address) (sym c.as_slice-assists.ensures.value) c.requires.1 in
    let whole : take c.loop-place.place writes ≡ writes = take_all writes c.loop-place.place c.loop-place-test.false in
    held_value s c.args.slot c.args.word.now.address writes assists c.loop-place.values.items are sets
    (λ w h. c.loop-place.invariant w (subst (IsIn w) (sym whole) h)) (inl (c.is_written.ensures.0 c.if-not-is_written.false))
