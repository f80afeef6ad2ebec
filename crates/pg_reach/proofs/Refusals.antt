-- Readings that do not witness an event, one piece more.
use Rattle.std.proofs.Common.{◌≡◌, ℕ, ◌+◌, ◌<◌, ◌≤◌, ◌^◌, min, max, Bool, List, Option, Some, None, refl, inl, inr, ap, sym, ◌∙◌, subst, arith}
use Rattle.std.specs.List.{All}
use Rattle.std.proofs.lemmas.Bool.{cases_lt}
use Rattle.std.proofs.lemmas.List.Elements.{All-weaker}
use Rattle.pg_entry.specs.declared.Level.{Level}
use Rattle.pg_entry.specs.Kinds.{kind_of}
use Rattle.pg_event.specs.declared.event.Event.{Event}
use Rattle.pg_event.specs.Spelling.{Recorded}
use Rattle.pg_event.specs.Wants.{is_wanted}
use Rattle.pg_reach.specs.declared.walker.Walker.{Walker}
use Rattle.pg_reach.specs.declared.view.Piece.{Piece}
use Rattle.pg_reach.specs.declared.reach.Reach.{Reach}
use Rattle.pg_reach.specs.Reaching.{entry_of, up_to, IsLastRead, IsPiece, IsFresher}
use Rattle.pg_reach.specs.Asking.{want_by}
use Rattle.pg_reach.specs.Given.{GivesBy}
use Rattle.pg_reach.proofs.Fresh.{within_fresh, up_to_later, fresher_on}
use Rattle.pg_reach.specs.Ends.{IsNoWitness, IsNoEnd, IsRefused, AreRefused}

refused_one : (r : Recorded) (v : Walker) (e : Event) (level : Level) (at last : ℕ) (x : Reach) (piece : Piece) (found : Option (List ℕ)) (read : Option ℕ) → piece.read ≡ read → last ≤ x.to → last ≤ v.number → v.number < 2 ^ 32 → IsPiece r v level x.table at last piece →
    IsNoEnd r v e level x piece found → AreRefused r v e level at (piece.to + 1) x found
refused_one r v e level at last x piece found None is within before small h none = λ w from lt under wanted gives.
    let unread : IsLastRead r v at piece.to None = subst (IsLastRead r v at piece.to) is h.read in
    absurd (unread w from (omega (arith, lt)) under)
refused_one r v e level at last x piece found (Some m) is within before small h none = λ w from lt under wanted gives.
    let read : IsLastRead r v at piece.to (Some m) = subst (IsLastRead r v at piece.to) is h.read in
    let value : entry_of r v level x.table w ≡ piece.entry = h.same w from (omega (arith, lt)) in
    record {
      m = m;
      later = read.3 w from (omega (arith, lt)) under;
      within = omega (arith, read.1, h.high, within);
      small = omega (arith, read.1, h.high, before, small);
      under = read.2;
      same = h.same m read.0 read.1 ∙ sym value;
      none =
          let now : v.number ≡ max m v.number = omega (arith, read.1, h.high, before) in
          subst (λ n. IsNoWitness r v e n x m found) now (none m is (ap (λ n. is_wanted (want_by e) (kind_of r.head.cfg level n)) (sym value) ∙ wanted) (subst (λ n. GivesBy r.head.cfg e (kind_of r.head.cfg level n)) value gives));
    }

-- what is found later is as fresh
abbrev pub IsBetter : Bool → Option (List ℕ) → Option (List ℕ) → Type 0
IsBetter freshest found better = (ws : List ℕ) → IsFresher freshest found ws → IsFresher freshest better ws

pub refused_better : (r : Recorded) (v : Walker) (e : Event) (level : Level) (since until : ℕ) (x : Reach) (found better : Option (List ℕ)) → IsBetter v.freshest found better → AreRefused r v e level since until x found → AreRefused r v e level since until x better
refused_better r v e level since until x found better on h = λ w from lt under wanted gives.
    let is : IsRefused r v e level x found w = h w from lt under wanted gives in
    record { m = is.m; later = is.later; within = is.within; small = is.small; under = is.under; same = is.same; none = λ good. on (up_to is.m x.latest) (is.none good) }

pub refused_more : (r : Recorded) (v : Walker) (e : Event) (level : Level) (low at last : ℕ) (x : Reach) (piece : Piece) (found better : Option (List ℕ)) → last ≤ x.to → last ≤ v.number → v.number < 2 ^ 32 → IsBetter v.freshest found better → AreRefused r v e level low at x found →
    IsPiece r v level x.table at last piece → IsNoEnd r v e level x piece better → AreRefused r v e level low (piece.to + 1) x better
refused_more r v e level low at last x piece found better within before small on h is none = λ w from lt under wanted gives.
    elim (cases_lt w at) as (λ _. IsRefused r v e level x better w) [
      | inl early ↦ refused_better r v e level low at x found better on h w from early under wanted gives
      | inr late ↦ refused_one r v e level at last x piece better piece.read refl within before small is none w late lt under wanted gives
    ]

-- nothing that is left is fresher than what was found
pub refused_rest : (r : Recorded) (v : Walker) (e : Event) (level : Level) (low at last until : ℕ) (x : Reach) (found : Option (List ℕ)) → last ≤ x.to → last ≤ v.number → v.number < 2 ^ 32 → until ≤ last + 1 → AreRefused r v e level low at x found →
    IsFresher v.freshest found (up_to last x.latest) → AreRefused r v e level low until x found
refused_rest r v e level low at last until x found within before small all h enough = λ w from lt under wanted gives.
    elim (cases_lt w at) as (λ _. IsRefused r v e level x found w) [
      | inl early ↦ h w from early under wanted gives
      | inr late ↦
          let high : w ≤ last = omega (arith, lt, all) in
          record {
            m = w;
            later = omega arith;
            within = omega (arith, high, within);
            small = omega (arith, high, before, small);
            under = under;
            same = refl;
            none = λ good. fresher_on v.freshest found (up_to last x.latest) (up_to w x.latest) enough (λ f. within_fresh (up_to w x.latest) (up_to last x.latest) (up_to_later w last x.latest high));
          }
    ]

pub refused_less : (r : Recorded) (v : Walker) (e : Event) (level : Level) (low until more : ℕ) (x : Reach) (found : Option (List ℕ)) → until ≤ more → AreRefused r v e level low more x found → AreRefused r v e level low until x found
refused_less r v e level low until more x found less h = λ w from lt under wanted gives. h w from (omega (arith, lt, less)) under wanted gives

-- nothing is refused yet
pub refused_none : (r : Recorded) (v : Walker) (e : Event) (level : Level) (low : ℕ) (x : Reach) (found : Option (List ℕ)) → AreRefused r v e level low low x found
refused_none r v e level low x found = λ w from lt under wanted gives. absurd (omega (arith, from, lt))

-- those of all reaches
pub all_better : (r : Recorded) (v : Walker) (e : Event) (level : Level) (since : ℕ) (xs : List Reach) (found better : Option (List ℕ)) → IsBetter v.freshest found better →
    All (λ x. AreRefused r v e level (max x.from since) (min x.to v.number + 1) x found) xs → All (λ x. AreRefused r v e level (max x.from since) (min x.to v.number + 1) x better) xs
all_better r v e level since xs found better on h =
    All-weaker (λ x. AreRefused r v e level (max x.from since) (min x.to v.number + 1) x found) (λ x. AreRefused r v e level (max x.from since) (min x.to v.number + 1) x better) (λ x old. refused_better r v e level (max x.from since) (min x.to v.number + 1) x found better on old) xs h
