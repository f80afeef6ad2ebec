-- Judges that go through a window.
use Rattle.std.proofs.Common.{All, ◌≡◌, ◌++◌, List, length, refl, sym, subst, Result, OnOk, Ok, Err, arith}
use Rattle.std.proofs.lemmas.List.{append-nil, take_all}
use Rattle.std.proofs.lemmas.List.Elements.{All-weaker}
use Rattle.pg_event.specs.declared.event.Event.{Event}
use Rattle.pg_event.specs.Heads.{Head}
use Rattle.pg_event.specs.Spelling.{Recorded}
use Rattle.pg_check.specs.declared.window.Window.{Window}
use Rattle.pg_check.specs.Judging.{Noted, HasNoted}
use Rattle.pg_check.specs.Windows.{IsAmid, IsNextWindow, with_window}
use Rattle.pg_pool.specs.Windows.{Fits, MayJudge}

on_ok : {A E : Type 0} {P Q : Type 0} (r : Result A E) → (P → Q) → OnOk r P → OnOk r Q
on_ok (Ok x) f h = f h
on_ok (Err e) f h = h

-- a window is noted to its end
amid_end : (head : Head) (before : List Event) (w : Window) (n : Noted) → HasNoted n head (before ++ w.events.now) → IsAmid n head before w
amid_end head before w n noted = record {
  place = length w.events.now;
  within = omega arith;
  noted = subst (λ (es : List Event). HasNoted n head (before ++ es)) (sym (take_all (length w.events.now) w.events.now (omega arith))) noted;
}

-- a window begins with no event noted
amid_start : (head : Head) (before : List Event) (w : Window) (n : Noted) → HasNoted n head before → IsAmid n head before w
amid_start head before w n noted = record {
  place = 0;
  within = omega arith;
  noted = subst (λ (es : List Event). HasNoted n head es) (sym (append-nil before)) noted;
}

pub fits_end : {A E : Type 0} (r : Result A E) (w : Window) (run : Recorded) (n : Noted) (head : Head) (before : List Event) → IsNextWindow head before w → run ≡ with_window head before w
    → OnOk r (HasNoted n head (before ++ w.events.now)) → OnOk r (Fits w run n)
fits_end r w run n head before next is noted =
    on_ok r (λ h. record { head = head; before = before; next = next; is = is; amid = amid_end head before w n h }) noted

pub all_noted : {A E : Type 0} (r : Result A E) (w : Window) (run : Recorded) (n : Noted) (head : Head) (before : List Event) → IsNextWindow head before w → run ≡ with_window head before w
    → OnOk r (HasNoted n head (before ++ w.events.now)) → OnOk r (Fits w run n × HasNoted n run.head run.events)
all_noted r w run n head before next is noted =
    on_ok r (λ h. (record { head = head; before = before; next = next; is = is; amid = amid_end head before w n h }, subst (λ (q : Recorded). HasNoted n q.head q.events) (sym is) h)) noted

-- judges that have noted what comes before a window may judge it
pub all_fit : (head : Head) (before : List Event) (w : Window) (judges : List Noted) → MayJudge head before w judges → All (Fits w (with_window head before w)) judges
all_fit head before w judges may =
    All-weaker (λ (n : Noted). HasNoted n head before) (Fits w (with_window head before w))
    (λ n noted. record { head = head; before = before; next = may.next; is = refl; amid = amid_start head before w n noted })
    judges may.noted
