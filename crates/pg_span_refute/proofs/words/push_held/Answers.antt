use Rattle.std.proofs.Common.{◌∷◌, [], ℕ, Bool, true, false, List, sym, subst, refl, inl, inr}
use Rattle.pg_entry.specs.Kinds.{marked}
use Rattle.pg_machine.specs.Machine.{IsIn}
use Rattle.pg_span_run.specs.Orders.{Spanned}
use Rattle.pg_span_refute.specs.declared.slot.Slot.{Slot}
use Rattle.pg_span_refute.specs.declared.words.Assisted.{Assisted}
use Rattle.pg_span_refute.specs.declared.words.Written.{Written}
use Rattle.pg_span_refute.specs.Words.{AreAllIn, IsFlaggedIn}
use Rattle.pg_span_refute.proofs.Taken.{in_left, in_right}
use Rattle.pg_span_refute.proofs.words.push_held.Goals as goal

-- what is there in a list is there in a longer one
flagged_more : (s : Spanned) (slot : Slot) (assists : List Assisted) (w : Written) (values more : List ℕ) (d : Bool) → AreAllIn values more → IsFlaggedIn s slot assists w values d → IsFlaggedIn s slot assists w more d
flagged_more s slot assists w values more d all (inl none) = inl none
flagged_more s slot assists w values more d all (inr there) = inr (all (marked d w.value) there)

either_flag : (P : Bool → Type 0) → P false → P true → (d : Bool) → P d
either_flag P f t false = f
either_flag P f t true = t

pub returns-clause-more : goal.returns-clause-more
returns-clause-more c = λ x h.
    c.in_ok-push_flagged-2.ensures.more x (c.in_ok-push_flagged.ensures.more x
    (subst (IsIn x) (sym c.in_ok-push.ensures.items) (in_left x c.args.values.now.items (c.args.written.value ∷ []) h)))

pub returns-clause-held : goal.returns-clause-held
returns-clause-held c =
    let v : ℕ = c.args.written.value in
    let last : List ℕ = c.push_flagged-2.new.values.items in
    record {
      plain = c.in_ok-push_flagged-2.ensures.more v (c.in_ok-push_flagged.ensures.more v
          (subst (IsIn v) (sym c.in_ok-push.ensures.items) (in_right v c.args.values.now.items (v ∷ []) (inl refl))));
      flagged = either_flag (IsFlaggedIn c.args.run.now c.args.slot c.args.assists.now c.args.written last)
          (flagged_more c.args.run.now c.args.slot c.args.assists.now c.args.written c.push_flagged.new.values.items last false c.in_ok-push_flagged-2.ensures.more c.in_ok-push_flagged.ensures.flagged)
          c.in_ok-push_flagged-2.ensures.flagged;
    }
