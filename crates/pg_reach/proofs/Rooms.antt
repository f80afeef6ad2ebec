-- Reaches with one more, of which another may be cut.
use Rattle.std.proofs.Common.{◌≡◌, ℕ, zero, suc, ◌<◌, ◌≤◌, Bool, List, [], ◌∷◌, ◌++◌, ◌⊎◌, inl, inr, Some, length, slice_set, slice_index_or, sym, ◌∙◌, subst, arith}
use Rattle.std.specs.Prelude.{slice_get}
use Rattle.std.specs.List.{Contains}
use Rattle.std.proofs.lemmas.Bool.{cases_lt}
use Rattle.std.proofs.lemmas.List.{get_or-set_other, get_or-set_same, length-set}
use Rattle.std.proofs.lemmas.List.Elements.{All-push, All-set, All-contains, Contains-append_left, Contains-push}
use Rattle.std.proofs.lemmas.Option.{get_or_from_slice_get}
use Rattle.pg_entry.specs.declared.Level.{Level}
use Rattle.pg_event.specs.declared.walk.Parent.{Parent}
use Rattle.pg_event.specs.Spelling.{Recorded}
use Rattle.pg_reach.specs.declared.walker.Walker.{Walker}
use Rattle.pg_reach.specs.declared.reach.Reach.{Reach}
use Rattle.pg_reach.specs.Reaching.{IsReach, Has, AreAt, IsCovered, IsCut, HasRoom, IsAdded}
use Rattle.pg_reach.proofs.Fresh.{stands_at}

-- an element of a list that is changed at a place is there, or stood at the place
set_cases : (xs : List Reach) (place : ℕ) (c z : Reach) → Contains xs z → Contains (slice_set xs place c) z ⊎ (slice_index_or xs place z ≡ z)
set_cases xs place c z h =
    let k : ℕ = h.0 in
    let low : k < length (slice_set xs place c) = omega (arith, h.1, length-set xs place c) in
    elim (cases_lt k place) as (λ _. Contains (slice_set xs place c) z ⊎ (slice_index_or xs place z ≡ z)) [
      | inl lt ↦ inl (k, low, get_or-set_other xs place k c z (λ e. omega (arith, e, lt)) ∙ h.2)
      | inr le ↦ elim (cases_lt place k) as (λ _. Contains (slice_set xs place c) z ⊎ (slice_index_or xs place z ≡ z)) [
        | inl more ↦ inl (k, low, get_or-set_other xs place k c z (λ e. omega (arith, e, more)) ∙ h.2)
        | inr same ↦ let is : k ≡ place = omega (arith, le, same) in inr (subst (λ i. slice_index_or xs i z ≡ z) is h.2)
      ]
    ]

within : (xs : List Reach) (place : ℕ) (x : Reach) → slice_get xs place ≡ Some x → place < length xs
within [] place x h = absurd (cc)
within (y ∷ ys) zero x h = omega arith
within (y ∷ ys) (suc place) x h = let less = within ys place x h in omega (arith, less)

set_there : (xs : List Reach) (place : ℕ) (x c : Reach) → slice_get xs place ≡ Some x → Contains (slice_set xs place c) c
set_there xs place x c h =
    let lt : place < length xs = within xs place x h in
    (place, omega (arith, lt, length-set xs place c), get_or-set_same xs place c c lt)

shorter : (r : Recorded) (v : Walker) (level : Level) (x : Reach) (to : ℕ) → to ≤ x.to → IsReach r v level x → IsReach r v level (record x { to = to })
shorter r v level x to less h = record { within = h.within; few = h.few; next = h.next; way = λ w from high under. h.way w from (omega (arith, high, less)) under }

cut_reach : (freshest : Bool) (r : Recorded) (v : Walker) (level : Level) (x y c : Reach) → IsCut freshest x y c → IsReach r v level x → IsReach r v level c
cut_reach freshest r v level x y c is h = subst (IsReach r v level) (sym is.is) (shorter r v level x c.to is.less h)

cut_has : (freshest : Bool) (x y c : Reach) (table : Parent) (w : ℕ) (ws : List ℕ) → IsCut freshest x y c → w ≤ c.to → Has freshest table w ws x → Has freshest table w ws c
cut_has freshest x y c table w ws is low h = subst (Has freshest table w ws) (sym is.is) (record { table = h.table; from = h.from; to = low; fresh = h.fresh })

-- nothing is cut
pub room_as_is : (freshest : Bool) (xs : List Reach) (x : Reach) → HasRoom freshest xs xs x
room_as_is freshest xs x = record { each = λ r v level h. h; kept = λ t w ws h. (h.0, Contains-append_left xs (x ∷ []) h.0 h.1, h.2) }

-- the reach at a place is cut
pub room_cut : (freshest : Bool) (xs : List Reach) (place : ℕ) (other x c : Reach) → slice_get xs place ≡ Some other → IsCut freshest other x c → HasRoom freshest xs (slice_set xs place c) x
room_cut freshest xs place other x c there is =
    let news : List Reach = slice_set xs place c in
    record {
      each = λ r v level all.
          let old : IsReach r v level other = All-contains (IsReach r v level) xs other all (place, within xs place other there, get_or_from_slice_get xs place other other there) in
          All-set (IsReach r v level) xs place c (cut_reach freshest r v level other x c is old) all;
      kept = λ t w ws h. elim (set_cases xs place c h.0 h.1) as (λ _. AreAt freshest (news ++ x ∷ []) t w ws) [
        | inl here ↦ (h.0, Contains-append_left news (x ∷ []) h.0 here, h.2)
        | inr at ↦
            let same : h.0 ≡ other = sym at ∙ get_or_from_slice_get xs place other h.0 there in
            let has : Has freshest t w ws other = subst (Has freshest t w ws) same h.2 in
            elim (cases_lt c.to w) as (λ _. AreAt freshest (news ++ x ∷ []) t w ws) [
              | inl lt ↦ (x, Contains-push news x, stands_at freshest other x t w ws is.stands (omega (arith, is.before, lt)) (omega (arith, has.to, is.to)) has)
              | inr le ↦ (c, Contains-append_left news (x ∷ []) c (set_there xs place other c there), cut_has freshest other x c t w ws is le has)
            ]
      ];
    }

pub added_covered : (freshest : Bool) (olds news : List Reach) (x : Reach) → news ≡ olds → IsCovered freshest olds x → IsAdded freshest olds news x
added_covered freshest olds news x same h = subst (λ (ys : List Reach). IsAdded freshest olds ys x) (sym same) (record {
  each = λ r v level mine all. all;
  kept = λ t w ws here. here;
  new = λ t w ws has. (h.0, h.1, stands_at freshest x h.0 t w ws h.2.stands (omega (arith, h.2.from, has.from)) (omega (arith, h.2.to, has.to)) has);
})

pub added_room : (freshest : Bool) (olds mids news : List Reach) (x : Reach) → HasRoom freshest olds mids x → news ≡ mids ++ x ∷ [] → IsAdded freshest olds news x
added_room freshest olds mids news x room same = subst (λ (ys : List Reach). IsAdded freshest olds ys x) (sym same) (record {
  each = λ r v level mine all. All-push (IsReach r v level) mids x (room.each r v level all) mine;
  kept = room.kept;
  new = λ t w ws has. (x, Contains-push mids x, has);
})
