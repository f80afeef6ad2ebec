-- The lists of a class and the log that they are made from.
use Rattle.std.proofs.Common.{◌≡◌, ℕ, length, take, drop, get_or, ◌+◌, ◌-◌, ◌<◌, ◌≤◌, min, ◌||◌, cond, List, [], ◌∷◌, ◌++◌, length-append, length-drop, refl, ap, sym, subst, ◌∙◌, arith, inl, inr}
use Rattle.std.proofs.lemmas.Bool.{cases_lt}
use Rattle.std.proofs.lemmas.List.{take_more, take_all, take-append-le}
use Rattle.pg_timeline.specs.declared.timeline.Stamp.{Stamp}
use Rattle.pg_timeline.specs.Timelines.{cut_at, has_moment}
use Rattle.pg_timeline.specs.Keyed.{stamps_in, AreBelow, EndsBefore, AreCut}
use Rattle.pg_inval.specs.declared.class.Class.{Class}
use Rattle.pg_inval.specs.declared.key.DropKey.{DropKey}
use Rattle.pg_inval.specs.declared.listed.Listed.{Listed}
use Rattle.pg_inval.specs.declared.log.LogEntry.{LogEntry}
use Rattle.pg_inval.specs.Keys.{is_same_key, has_key}
use Rattle.pg_inval.specs.Classes.{class_of, keys_in}
use Rattle.pg_inval.specs.Packed.{invalidation_of}
use Rattle.pg_inval.specs.Lists.{Moments, has_drop, cut_log, IsRisingFrom, ArePushed, AreSame, stamps_of, IsListed}
use Rattle.pg_inval.specs.Listed.{AreListed}
use Rattle.pg_inval.proofs.Logs.{has_drop-parts, stamps_of-push, stamps_of-drop, stamps_of-cut, stamps_of-below, taken-before, cut-take}

pub IsListed-start : (c : Class) (log : List LogEntry) → IsListed c log 0 []
IsListed-start c log = record { within = omega arith; at = λ k. refl }

-- the next entry is above all that are in the lists
pub IsListed-ends : (c : Class) (log : List LogEntry) (known : ℕ) (lists : Moments) (d : LogEntry) → IsListed c log known lists → IsRisingFrom 0 log → known < length log →
    EndsBefore is_same_key lists (get_or log known d).moment
IsListed-ends c log known lists d listed rising lt = record {
  below = λ k.
      let m : ℕ = (get_or log known d).moment in
      subst (λ (S : List (Stamp Unit)). AreBelow m S) (sym (listed.at k)) (stamps_of-below c k m (take known log) (taken-before 0 known log d rising lt));
}

pub IsListed-pushed : (c : Class) (log : List LogEntry) (known : ℕ) (old new : Moments) (d : LogEntry) → IsListed c log known old → known < length log →
    ArePushed old new (keys_in c (get_or log known d).p (invalidation_of (get_or log known d).packed)) (get_or log known d).moment → IsListed c log (known + 1) new
IsListed-pushed c log known old new d listed lt pushed = record {
  within = omega arith;
  at = λ k.
      let e : LogEntry = get_or log known d in
      let s : Stamp Unit = record { moment = e.moment; value = tt } in
      pushed.at k
      ∙ ap (λ S. cond (has_key (keys_in c e.p (invalidation_of e.packed)) k) (S ++ s ∷ []) S) (listed.at k)
      ∙ sym (stamps_of-push c k (take known log) e)
      ∙ sym (ap (stamps_of c k) (take_more log known d lt));
}

pub IsListed-same : (c : Class) (log : List LogEntry) (known : ℕ) (old new : Moments) → IsListed c log known old → AreSame old new → IsListed c log known new
IsListed-same c log known old new listed same = record { within = listed.within; at = λ k. same.at k ∙ listed.at k }

pub IsListed-longer : (c : Class) (log more : List LogEntry) (known : ℕ) (lists : Moments) → IsListed c log known lists → IsListed c (log ++ more) known lists
IsListed-longer c log more known lists listed =
    let within : known ≤ length log = listed.within in
    record {
      within = omega (arith, within, length-append log more);
      at = λ k. listed.at k ∙ sym (ap (stamps_of c k) (take-append-le known log more within));
    }

take_min : (i n : ℕ) (xs : List LogEntry) → n ≡ length xs → take i xs ≡ take (min i n) xs
take_min i n xs e =
    elim (cases_lt i n) [
      | inl lt ↦
          let same : min i n ≡ i = omega arith in
          ap (λ m. take m xs) (sym same)
      | inr ge ↦ take_all i xs (omega arith) ∙ sym (take_all (min i n) xs (omega arith))
    ]

pub take_rest : (n : ℕ) (xs : List LogEntry) → take (length xs - n) (drop n xs) ≡ drop n xs
take_rest n xs = take_all (length xs - n) (drop n xs) (omega (arith, length-drop n xs))

pub IsListed-cut : (c : Class) (log : List LogEntry) (known left w : ℕ) (old new : Moments) → IsRisingFrom 0 log → left ≡ length (cut_log w log) → IsListed c log known old →
    AreCut is_same_key old new w → IsListed c (cut_log w log) (min known left) new
IsListed-cut c log known left w old new rising count listed cut = record {
  within = omega arith;
  at = λ k.
      cut.at k ∙ ap (cut_at w) (listed.at k) ∙ stamps_of-cut c k w (take known log)
      ∙ ap (stamps_of c k) (cut-take w 0 known log rising ∙ take_min known left (cut_log w log) count);
}

-- what a key has in the lists it has in the entries that they were made from
pub IsListed-taken : (k : DropKey) (log : List LogEntry) (known : ℕ) (lists : Moments) (j : ℕ) → IsListed (class_of k) log known lists →
    has_drop (take known log) k j ≡ has_moment (stamps_in is_same_key lists k) j
IsListed-taken k log known lists j listed =
    sym (ap (λ S. has_moment S j) (listed.at k) ∙ stamps_of-drop k (take known log) j)

-- what a key has in the lists or in the rest of the log it has in the log
pub IsListed-parts : (k : DropKey) (log : List LogEntry) (known : ℕ) (lists : Moments) (j : ℕ) → IsListed (class_of k) log known lists →
    (has_moment (stamps_in is_same_key lists k) j || has_drop (drop known log) k j) ≡ has_drop log k j
IsListed-parts k log known lists j listed =
    ap (λ S. has_moment S j || has_drop (drop known log) k j) (listed.at k)
    ∙ ap (λ b. b || has_drop (drop known log) k j) (stamps_of-drop k (take known log) j)
    ∙ has_drop-parts log k known j

-- ---- all classes

pub AreListed-longer : (log more : List LogEntry) (l : Listed) → AreListed log l → AreListed (log ++ more) l
AreListed-longer log more l listed = record {
  pages = IsListed-longer _ log more _ _ listed.pages;
  large_pages = IsListed-longer _ log more _ _ listed.large_pages;
  global_pages = IsListed-longer _ log more _ _ listed.global_pages;
  regions = IsListed-longer _ log more _ _ listed.regions;
  spaces = IsListed-longer _ log more _ _ listed.spaces;
}
