-- Readings that witness an event only up to a number, one piece more.
use Rattle.std.proofs.Common.{◌≡◌, ℕ, ◌+◌, ◌≤◌, min, max, List, Option, Some, None, refl, inl, inr, ap, sym, ◌∙◌, subst, arith}
use Rattle.std.specs.Prelude.{IfSome}
use Rattle.std.specs.List.{All}
use Rattle.std.proofs.lemmas.Bool.{cases_lt}
use Rattle.std.proofs.lemmas.List.Elements.{All-weaker}
use Rattle.pg_entry.specs.declared.Level.{Level}
use Rattle.pg_entry.specs.Kinds.{kind_of}
use Rattle.pg_event.specs.declared.event.Event.{Event}
use Rattle.pg_event.specs.Spelling.{Recorded}
use Rattle.pg_event.specs.Wants.{is_wanted}
use Rattle.pg_reach.specs.declared.walker.Walker.{Walker}
use Rattle.pg_reach.specs.declared.view.Piece.{Piece}
use Rattle.pg_reach.specs.declared.reach.Reach.{Reach}
use Rattle.pg_reach.specs.Reaching.{entry_of, IsLastRead, IsPiece}
use Rattle.pg_reach.specs.Asking.{want_by}
use Rattle.pg_reach.specs.WitnessedUpTo.{IsUpTo, IsPassed, IsPassedBy, ArePassed, IsReadIn}

-- how a piece of the table of a reach is read

read_by : (r : Recorded) (v : Walker) (level : Level) (at last : ℕ) (x : Reach) (piece : Piece) (read : Option ℕ) → piece.read ≡ read → x.from ≤ at → last ≤ x.to → last ≤ v.number → IsPiece r v level x.table at last piece → IfSome read (IsReadIn r v level x piece)
read_by r v level at last x piece None is low within before h = tt
read_by r v level at last x piece (Some m) is low within before h =
    let read : IsLastRead r v at piece.to (Some m) = subst (IsLastRead r v at piece.to) is h.read in
    record { from = omega (arith, low, read.0); to = omega (arith, read.1, h.high, within); before = omega (arith, read.1, h.high, before); under = read.2; entry = h.same m read.0 read.1 }

pub read_in : (r : Recorded) (v : Walker) (level : Level) (at last : ℕ) (x : Reach) (piece : Piece) → x.from ≤ at → last ≤ x.to → last ≤ v.number → IsPiece r v level x.table at last piece → IfSome piece.read (IsReadIn r v level x piece)
read_in r v level at last x piece low within before h = read_by r v level at last x piece piece.read refl low within before h

passed_one : (r : Recorded) (v : Walker) (e : Event) (level : Level) (at last : ℕ) (x : Reach) (piece : Piece) (found : Option ℕ) (read : Option ℕ) → piece.read ≡ read → last ≤ x.to → last ≤ v.number → IsPiece r v level x.table at last piece →
    IsPassedBy r v e level x piece found → ArePassed r v e level at (piece.to + 1) x found
passed_one r v e level at last x piece found None is within before h none = λ w from lt under wanted.
    let unread : IsLastRead r v at piece.to None = subst (IsLastRead r v at piece.to) is h.read in
    absurd (unread w from (omega (arith, lt)) under)
passed_one r v e level at last x piece found (Some m) is within before h none = λ w from lt under wanted.
    let read : IsLastRead r v at piece.to (Some m) = subst (IsLastRead r v at piece.to) is h.read in
    let value : entry_of r v level x.table w ≡ piece.entry = h.same w from (omega (arith, lt)) in
    record {
      m = m;
      later = read.3 w from (omega (arith, lt)) under;
      within = omega (arith, read.1, h.high, within);
      before = omega (arith, read.1, h.high, before);
      under = read.2;
      same = h.same m read.0 read.1 ∙ sym value;
      none = none m is (ap (λ n. is_wanted (want_by e) (kind_of r.head.cfg level n)) (sym value) ∙ wanted);
    }

-- a later number was found
abbrev pub IsLater : Option ℕ → Option ℕ → Type 0
IsLater found later = (j : ℕ) → IsUpTo found j → IsUpTo later j

pub passed_later : (r : Recorded) (v : Walker) (e : Event) (level : Level) (since until : ℕ) (x : Reach) (found later : Option ℕ) → IsLater found later → ArePassed r v e level since until x found → ArePassed r v e level since until x later
passed_later r v e level since until x found later on h = λ w from lt under wanted.
    let is : IsPassed r v e level x found w = h w from lt under wanted in
    record { m = is.m; later = is.later; within = is.within; before = is.before; under = is.under; same = is.same; none = λ j low high good. on j (is.none j low high good) }

pub passed_more : (r : Recorded) (v : Walker) (e : Event) (level : Level) (low at last : ℕ) (x : Reach) (piece : Piece) (found later : Option ℕ) → last ≤ x.to → last ≤ v.number → IsLater found later → ArePassed r v e level low at x found →
    IsPiece r v level x.table at last piece → IsPassedBy r v e level x piece later → ArePassed r v e level low (piece.to + 1) x later
passed_more r v e level low at last x piece found later within before on h is none = λ w from lt under wanted.
    elim (cases_lt w at) as (λ _. IsPassed r v e level x later w) [
      | inl early ↦ passed_later r v e level low at x found later on h w from early under wanted
      | inr late ↦ passed_one r v e level at last x piece later piece.read refl within before is none w late lt under wanted
    ]

pub passed_less : (r : Recorded) (v : Walker) (e : Event) (level : Level) (low until more : ℕ) (x : Reach) (found : Option ℕ) → until ≤ more → ArePassed r v e level low more x found → ArePassed r v e level low until x found
passed_less r v e level low until more x found less h = λ w from lt under wanted. h w from (omega (arith, lt, less)) under wanted

pub passed_none : (r : Recorded) (v : Walker) (e : Event) (level : Level) (low : ℕ) (x : Reach) (found : Option ℕ) → ArePassed r v e level low low x found
passed_none r v e level low x found = λ w from lt under wanted. absurd (omega (arith, from, lt))

-- those of all reaches
pub all_later : (r : Recorded) (v : Walker) (e : Event) (level : Level) (xs : List Reach) (found later : Option ℕ) → IsLater found later →
    All (λ x. ArePassed r v e level (max x.from 0) (min x.to v.number + 1) x found) xs → All (λ x. ArePassed r v e level (max x.from 0) (min x.to v.number + 1) x later) xs
all_later r v e level xs found later on h =
    All-weaker (λ x. ArePassed r v e level (max x.from 0) (min x.to v.number + 1) x found) (λ x. ArePassed r v e level (max x.from 0) (min x.to v.number + 1) x later) (λ x old. passed_later r v e level (max x.from 0) (min x.to v.number + 1) x found later on old) xs h
