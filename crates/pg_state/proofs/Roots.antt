-- A table lies within the physical addresses.
use Rattle.std.proofs.Common.{ℕ, ◌^◌, ◌<◌, ◌≤◌, Bool, true, false, nat_lt, nat_eq, cond, List, [], ◌∷◌, ◌++◌, Option, Some, None, arith}
use Rattle.std.specs.List.{fold}
use Rattle.pg_entry.proofs.Bounds.{field-below}
use Rattle.pg_event.specs.declared.event.Event.{Event}
use Rattle.pg_event.specs.declared.event.Event.TheVariants.{Write, Access, Assist, MovCr3, Invlpg, Invpcid, MovCr4Pge}
use Rattle.pg_event.specs.declared.control.Control.{Control}
use Rattle.pg_event.specs.Values.{loaded, started, controlled}
use Rattle.std.specs.Option.{unwrap_or}
use Rattle.std.proofs.lemmas.Bool.{cond_both}
use Rattle.pg_event.specs.Heads.{Head}
use Rattle.pg_timeline.specs.declared.timeline.Stamp.{Stamp}
use Rattle.pg_timeline.specs.Timelines.{last_before, cut_at}
use Rattle.pg_state.specs.Controls.{start_in, AreLow}

abbrev pub IsLow : Control → Type 0
IsLow c = c.root < 2 ^ 52

loaded-low : (m cr3 : ℕ) (pge : Bool) → 12 ≤ m → m ≤ 52 → IsLow (loaded m cr3 pge)
loaded-low m cr3 pge low h = field-below cr3 12 m low h

started-low : (m : ℕ) (start : Option (ℕ × Bool)) → 12 ≤ m → m ≤ 52 → IsLow (started m start)
started-low m None low h = omega arith
started-low m (Some start) low h = loaded-low m start.0 start.1 low h

either_low : (b : Bool) (c d : Control) → IsLow c → IsLow d → IsLow (cond b c d)
either_low true c d x y = x
either_low false c d x y = y

pub controlled-low : (m p : ℕ) (c : Control) (e : Event) → 12 ≤ m → m ≤ 52 → IsLow c → IsLow (controlled m p c e)
controlled-low m p c (Write q addr value) least h low = low
controlled-low m p c (Access q flags la outcome moments) least h low = low
controlled-low m p c (Assist q flags la word moments) least h low = low
controlled-low m p c (MovCr3 q operand) least h low = either_low (nat_eq q p) (loaded m operand c.pge) c (loaded-low m operand c.pge least h) low
controlled-low m p c (Invlpg q la) least h low = low
controlled-low m p c (Invpcid q kind pcid la) least h low = low
controlled-low m p c (MovCr4Pge q on) least h low = either_low (nat_eq q p) (record c { pge = on }) c low low

pub AreLow-push : (xs : List (Stamp Control)) (s : Stamp Control) → AreLow xs → IsLow s.value → AreLow (xs ++ s ∷ [])
AreLow-push [] s h low = (low, tt)
AreLow-push (x ∷ xs) s h low = (h.0, AreLow-push xs s h.1 low)

pub AreLow-cut_at : (m : ℕ) (xs : List (Stamp Control)) → AreLow xs → AreLow (cut_at m xs)
AreLow-cut_at m [] h = tt
AreLow-cut_at m (x ∷ xs) h = cond_both (nat_lt x.moment m) (x ∷ cut_at m xs) (cut_at m xs) AreLow (λ _. (h.0, AreLow-cut_at m xs h.1)) (λ _. AreLow-cut_at m xs h.1)

found-low : (w : ℕ) (xs : List (Stamp Control)) (found : Option Control) (start : Control) → AreLow xs → IsLow start → IsLow (unwrap_or found start) → IsLow (unwrap_or (fold (λ (o : Option Control) (s : Stamp Control). cond (nat_lt s.moment w) (Some s.value) o) found xs) start)
found-low w [] found start h low now = now
found-low w (x ∷ xs) found start h low now =
    found-low w xs (cond (nat_lt x.moment w) (Some x.value) found) start h.1 low
    (cond_both (nat_lt x.moment w) (Some x.value) found (λ o. IsLow (unwrap_or o start)) (λ _. h.0) (λ _. now))

-- the registers that are found have their table within the physical addresses
pub last_before-low : (w : ℕ) (xs : List (Stamp Control)) (start : Control) → AreLow xs → IsLow start → IsLow (unwrap_or (last_before w xs) start)
last_before-low w xs start h low = found-low w xs None start h low low

pub start-low : (head : Head) (p : ℕ) → 12 ≤ head.cfg.m → head.cfg.m ≤ 52 → IsLow (start_in head p)
start-low head p low h = started-low head.cfg.m _ low h
