-- The table that an entry gives is one that a walk can come to.
use Rattle.std.proofs.Common.{◌≡◌, ℕ, ◌+◌, ◌-◌, ◌≤◌, ◌^◌, min, Bool, true, false, ◌&&◌, Some, None, List, [], ◌∷◌, ◌++◌, length, refl, ap, sym, ◌∙◌, subst, inl, inr, arith}
use Rattle.std.proofs.lemmas.Bool.{cases_lt, and_from}
use Rattle.std.proofs.lemmas.List.{length_push, length-map}
use Rattle.pg_entry.specs.declared.Level.{Level}
use Rattle.pg_entry.specs.declared.Level.TheVariants.{Four, Three, Two, One}
use Rattle.pg_entry.specs.Kinds.{kind_of}
use Rattle.pg_event.specs.declared.event.Event.{Event}
use Rattle.pg_event.specs.declared.walk.Parent.{Parent}
use Rattle.pg_event.specs.Heads.{Head}
use Rattle.pg_event.specs.Spelling.{Recorded}
use Rattle.pg_event.specs.Values.{control_at}
use Rattle.pg_event.specs.Walk.{below, root_of}
use Rattle.pg_event.specs.Wants.{is_table}
use Rattle.pg_machine.specs.Machine.{may_cache}
use Rattle.pg_inval.specs.Drops.{IsTableLevel}
use Rattle.pg_search.specs.ReachableTables as ways
use Rattle.pg_search.specs.ReachableTables.{entry_at, table_by, first_or, IsLink, IsChain, IsWayFromRoot}
use Rattle.pg_search.specs.Freshness.{is_as_fresh}
use Rattle.pg_search.proofs.Freshness.{fresh_more}
use Rattle.pg_reach.proofs.Fresh.{up_to-push, later_fresh}
use Rattle.pg_reach.proofs.Lasts.{lasts_now, lasts_within, lasts_from}
use Rattle.pg_reach.specs.declared.walker.Walker.{Walker}
use Rattle.pg_reach.specs.declared.reach.Reach.{Reach}
use Rattle.pg_reach.specs.declared.view.Piece.{Piece}
use Rattle.pg_reach.specs.Stays.{IsUnder}
use Rattle.pg_search.specs.Lasts.{IsEnd}
use Rattle.pg_reach.specs.Reaching.{entry_of, structure_lasts, IsLastRead, IsPiece, up_to, way_of, steps_to, IsReach, AreFresh, Has, AreAt, LeadsOn, next_at, IsFilled, IsAdded, IsNextOf}

-- one more link after a chain
chain_push : (head : Head) (events : List Event) (v : ways.Walker) (w y : ℕ) (level : Level) (from : Parent) (ws : List ℕ) (at : Level) (to : Parent) →
    IsChain head events v w level from ws at to → IsLink head events v y at to w →
    IsChain head events v y level from (ws ++ w ∷ []) (below at) (table_by head.cfg.m to (entry_at events v.la w at to))
chain_push head events v w y level from [] at to h link =
    subst (λ f. IsChain head events v y level f (w ∷ []) (below at) (table_by head.cfg.m to (entry_at events v.la w at to))) (sym h.1)
    (subst (λ l. IsChain head events v y l to (w ∷ []) (below at) (table_by head.cfg.m to (entry_at events v.la w at to))) (sym h.0) (link, (refl, refl)))
chain_push head events v w y level from (x ∷ []) at to h link =
    (h.0, chain_push head events v w y (below level) (table_by head.cfg.m from (entry_at events v.la x level from)) [] at to h.1 link)
chain_push head events v w y level from (x ∷ z ∷ zs) at to h link =
    (h.0, chain_push head events v w y (below level) (table_by head.cfg.m from (entry_at events v.la x level from)) (z ∷ zs) at to h.1 link)

pub first-push : (y w : ℕ) (ws : List ℕ) → first_or y (ws ++ w ∷ []) ≡ first_or w ws
first-push y w [] = refl
first-push y w (x ∷ xs) = refl

way_push : (r : Recorded) (v : ways.Walker) (w y : ℕ) (ws : List ℕ) (at : Level) (to : Parent) → IsWayFromRoot r.head r.events v w ws at to → IsLink r.head r.events v y at to w →
    IsWayFromRoot r.head r.events v y (ws ++ w ∷ []) (below at) (table_by r.head.cfg.m to (entry_at r.events v.la w at to))
way_push r v w y ws at to h link =
    subst (λ first. ((control_at r.head r.events v.p first).pcid ≡ v.pcid)
    × IsChain r.head r.events v y Four (root_of (control_at r.head r.events v.p first)) (ws ++ w ∷ []) (below at) (table_by r.head.cfg.m to (entry_at r.events v.la w at to)))
    (sym (first-push y w ws)) (h.0, chain_push r.head r.events v w y Four (root_of (control_at r.head r.events v.p (first_or w ws))) ws at to h.1 link)

-- moments up to one and up to another

min_assoc : (a b c : ℕ) → min a (min b c) ≡ min (min a b) c
min_assoc a b c = omega arith

up_to-twice : (a b : ℕ) (ws : List ℕ) → up_to a (up_to b ws) ≡ up_to (min a b) ws
up_to-twice a b [] = refl
up_to-twice a b (x ∷ xs) = ap (λ y. y ∷ up_to a (up_to b xs)) (min_assoc a b x) ∙ ap (λ ys. min (min a b) x ∷ ys) (up_to-twice a b xs)

deeper : (level : Level) → IsTableLevel level → steps_to (below level) ≡ steps_to level + 1
deeper Four h = refl
deeper Three h = refl
deeper Two h = refl
deeper One h = absurd h

-- the earlier of two moments at which the processor has the PCID
under_min : (r : Recorded) (v : Walker) (a b : ℕ) → IsUnder r v a → IsUnder r v b → IsUnder r v (min a b)
under_min r v a b h k =
    elim (cases_lt a b) as (λ _. IsUnder r v (min a b)) [
      | inl lt ↦ let is : a ≡ min a b = omega (arith, lt) in subst (IsUnder r v) is h
      | inr le ↦ let is : b ≡ min a b = omega (arith, le) in subst (IsUnder r v) is k
    ]

-- a structure entry that is read at the earlier of a moment and the last at which it may be lasts
-- to the moment, where it lasts from the last on
min_lasts : (r : Recorded) (v : Walker) (level : Level) (w read to : ℕ) → read ≤ to → structure_lasts r v level read to ≡ true → w ≤ to → structure_lasts r v level (min w read) w ≡ true
min_lasts r v level w read to order lasts low =
    elim (cases_lt w read) as (λ _. structure_lasts r v level (min w read) w ≡ true) [
      | inl lt ↦ let is : w ≡ min w read = omega (arith, lt) in subst (λ x. structure_lasts r v level x w ≡ true) is (lasts_now r v level w)
      | inr le ↦ let is : read ≡ min w read = omega (arith, le) in subst (λ x. structure_lasts r v level x w ≡ true) is (lasts_within r v level read w to low lasts)
    ]

pub next_reach : (r : Recorded) (v : Walker) (level : Level) (x : Reach) (entry start read : ℕ) (y : Reach) → IsTableLevel level → IsReach r v level x → x.from ≤ start → start ≤ read → read ≤ x.to → IsUnder r v read →
    ((w : ℕ) → start ≤ w → w ≤ read → entry_of r v level x.table w ≡ entry) → IsNextOf r v level x entry start read y → IsReach r v (below level) y
next_reach r v level x entry start read y deep h low order high under same next = record {
  within = next.within;
  few =
      let count : length y.latest ≡ length x.latest + 1 = ap length next.latest ∙ length_push (up_to read x.latest) (2 ^ 32 - 1) ∙ ap (λ n. n + 1) (length-map x.latest (min read)) in
      omega (arith, count, h.few, deeper level deep);
  next = (up_to read x.latest, next.latest);
  way = λ w from to here.
      let m : ℕ = min w read in
      let from' : start ≤ w = omega (arith, from, next.from) in
      let low' : start ≤ m = omega (arith, from', order) in
      let high' : m ≤ read = omega arith in
      let under' : IsUnder r v m = under_min r v w read here under in
      let by = h.way m (omega (arith, low, low')) (omega (arith, high, high')) under' in
      let value : entry_of r v level x.table m ≡ entry = same m low' high' in
      let link : IsLink r.head r.events (way_of v) w level x.table m = record {
        low = omega arith;
        alike = under';
        table = ap (λ e. is_table (kind_of r.head.cfg level e)) value ∙ next.is_table;
        cached = ap (may_cache r.head.version) value ∙ next.cached;
        kept = min_lasts r v level w read y.to next.to.order next.to.lasts to;
      } in
      let way = way_push r (way_of v) m w by.0 level x.table by.2 link in
      let table : table_by r.head.cfg.m x.table (entry_of r v level x.table m) ≡ y.table = ap (table_by r.head.cfg.m x.table) value ∙ sym next.table in
      let last : min w (2 ^ 32 - 1) ≡ w = omega (arith, to, next.small) in
      let moments : up_to w y.latest ≡ (by.0 ++ m ∷ []) ++ w ∷ [] = ap (up_to w) next.latest ∙ up_to-push w (2 ^ 32 - 1) (up_to read x.latest)
      ∙ ap (λ zs. zs ++ min w (2 ^ 32 - 1) ∷ []) (up_to-twice w read x.latest ∙ by.1) ∙ ap (λ z. (by.0 ++ m ∷ []) ++ z ∷ []) last in
      (by.0 ++ m ∷ [], moments, subst (λ (t : Parent). IsWayFromRoot r.head r.events (way_of v) w (by.0 ++ m ∷ []) (below level) t) table way);
}

-- what is added, one piece more

pub filled_none : (r : Recorded) (v : Walker) (level : Level) (at : ℕ) (x : Reach) (xs : List Reach) → IsFilled r v level at at x xs xs
filled_none r v level at x xs = record { each = λ h. h; kept = λ t w ws h. h; next = λ w y ws low lt. absurd (omega (arith, low, lt)) }

pub filled_more : (r : Recorded) (v : Walker) (level : Level) (low at until : ℕ) (x : Reach) (olds mids news : List Reach) → IsFilled r v level low at x olds mids → IsFilled r v level at until x mids news →
    IsFilled r v level low until x olds news
filled_more r v level low at until x olds mids news h k = record {
  each = λ all. k.each (h.each all);
  kept = λ t w ws here. k.kept t w ws (h.kept t w ws here);
  next = λ w y ws from lt leads fresh. elim (cases_lt w at) as (λ _. AreAt v.freshest news (next_at r v level x.table w) y (ws ++ w ∷ [])) [
    | inl before ↦ k.kept (next_at r v level x.table w) y (ws ++ w ∷ []) (h.next w y ws from before leads fresh)
    | inr after ↦ k.next w y ws after lt leads fresh
  ];
}

-- a piece that may not be read leads nowhere
pub filled_unread : (r : Recorded) (v : Walker) (level : Level) (at : ℕ) (x : Reach) (piece : Piece) (xs : List Reach) → piece.read ≡ None → IsPiece r v level x.table at x.to piece → IsFilled r v level at (piece.to + 1) x xs xs
filled_unread r v level at x piece xs none h = record {
  each = λ all. all;
  kept = λ t w ws here. here;
  next = λ w y ws low lt leads fresh.
      let unread : IsLastRead r v at piece.to None = subst (IsLastRead r v at piece.to) none h.read in
      absurd (unread w low (omega (arith, lt)) leads.under);
}

-- nor does one that refers to no table
pub filled_nowhere : (r : Recorded) (v : Walker) (level : Level) (at : ℕ) (x : Reach) (piece : Piece) (xs : List Reach) → (is_table (kind_of r.head.cfg level piece.entry) && may_cache r.head.version piece.entry) ≡ false →
    IsPiece r v level x.table at x.to piece → IsFilled r v level at (piece.to + 1) x xs xs
filled_nowhere r v level at x piece xs none h = record {
  each = λ all. all;
  kept = λ t w ws here. here;
  next = λ w y ws low lt leads fresh.
      let value : entry_of r v level x.table w ≡ piece.entry = h.same w low (omega (arith, lt)) in
      let both : (is_table (kind_of r.head.cfg level piece.entry) && may_cache r.head.version piece.entry) ≡ true =
      and_from _ _ (ap (λ e. is_table (kind_of r.head.cfg level e)) (sym value) ∙ leads.is_table) (ap (may_cache r.head.version) (sym value) ∙ leads.cached) in
      absurd (apart both none);
}
  where
    apart : {b : Bool} → b ≡ true → b ≡ false → ⊥
    apart h k = cc

-- what the next reach has where reading at a moment leads on
next_has : (r : Recorded) (v : Walker) (level : Level) (at read : ℕ) (x y : Reach) (piece : Piece) (w t : ℕ) (ws : List ℕ) → IsReach r v level x → IsNextOf r v level x piece.entry at read y → entry_of r v level x.table w ≡ piece.entry → at ≤ w → w ≤ read →
    LeadsOn r v level x.table w t → t ≤ y.to → AreFresh v.freshest x ws w → Has v.freshest (next_at r v level x.table w) t (ws ++ w ∷ []) y
next_has r v level at read x y piece w t ws reach next value from early leads to fresh = record {
  table = next.table ∙ ap (table_by r.head.cfg.m x.table) (sym value);
  from = omega (arith, next.from, from, leads.order);
  to = to;
  fresh = λ f.
      let q : ℕ = min t read in
      let last : min t (2 ^ 32 - 1) ≡ t = omega (arith, leads.small) in
      let is : up_to t y.latest ≡ up_to q x.latest ++ t ∷ [] = ap (up_to t) next.latest ∙ up_to-push t (2 ^ 32 - 1) (up_to read x.latest) ∙ ap (λ zs. zs ++ min t (2 ^ 32 - 1) ∷ []) (up_to-twice t read x.latest) ∙ ap (λ z. up_to q x.latest ++ z ∷ []) last in
      let mine : is_as_fresh (up_to q x.latest) (ws ++ w ∷ []) ≡ true = later_fresh x w q ws reach.next (omega (arith, leads.small)) (omega (arith, early, leads.order)) (fresh f) in
      ap (λ ms. is_as_fresh ms ((ws ++ w ∷ []) ++ t ∷ [])) is ∙ fresh_more (up_to q x.latest) (ws ++ w ∷ []) t mine;
}

pub filled_one : (r : Recorded) (v : Walker) (level : Level) (at read : ℕ) (x y : Reach) (piece : Piece) (olds news : List Reach) → IsTableLevel level → IsReach r v level x → x.from ≤ at → IsPiece r v level x.table at x.to piece →
    piece.read ≡ Some read → IsNextOf r v level x piece.entry at read y → IsAdded v.freshest olds news y → IsFilled r v level at (piece.to + 1) x olds news
filled_one r v level at read x y piece olds news deep reach low h is next added =
    let last : IsLastRead r v at piece.to (Some read) = subst (IsLastRead r v at piece.to) is h.read in
    let mine : IsReach r v (below level) y = next_reach r v level x piece.entry at read y deep reach low last.0 (omega (arith, last.1, h.high)) last.2 (λ w from to. h.same w from (omega (arith, to, last.1))) next in
    record {
      each = added.each r v (below level) mine;
      kept = added.kept;
      next = λ w t ws from lt leads fresh.
          let value : entry_of r v level x.table w ≡ piece.entry = h.same w from (omega (arith, lt)) in
          let early : w ≤ read = last.3 w from (omega (arith, lt)) leads.under in
          let to : t ≤ y.to = lasting_end r v level w read t y.to early next.to leads in
          added.new (next_at r v level x.table w) t (ws ++ w ∷ []) (next_has r v level at read x y piece w t ws reach next value from early leads to fresh);
    }
  where
    lasting_end : (r : Recorded) (v : Walker) (level : Level) (w read t end : ℕ) → w ≤ read → IsEnd (structure_lasts r v level read) read end → LeadsOn r v level x.table w t → t ≤ end
    lasting_end r v level w read t end early is leads =
        elim (cases_lt t read) as (λ _. t ≤ end) [
          | inl lt ↦ omega (arith, lt, is.order)
          | inr le ↦ is.most t leads.small (lasts_from r v level w read t early le leads.lasts)
        ]

pub filled_less : (r : Recorded) (v : Walker) (level : Level) (low until more : ℕ) (x : Reach) (olds news : List Reach) → until ≤ more → IsFilled r v level low more x olds news → IsFilled r v level low until x olds news
filled_less r v level low until more x olds news less h = record { each = h.each; kept = h.kept; next = λ w y ws from lt leads fresh. h.next w y ws from (omega (arith, lt, less)) leads fresh }

pub piece_within : (r : Recorded) (v : Walker) (level : Level) (table : Parent) (at last most : ℕ) (piece : Piece) → last ≤ most → IsPiece r v level table at last piece → IsPiece r v level table at most piece
piece_within r v level table at last most piece less h = record { low = h.low; high = omega (arith, h.high, less); same = h.same; read = h.read }
