-- A walk that goes by what is cached, for an instruction that is well formed, may read.
use Rattle.std.proofs.Common.{◌≡◌, ℕ, ◌%◌, ◌^◌, ◌<◌, ◌≤◌, Bool, true, false, not, ◌&&◌, ◌||◌, nat_lt, nat_eq, cond, List, length, Option, Some, None, refl, ◌∙◌, subst, eq-eqb, arith}
use Rattle.std.proofs.lemmas.Bool.{lt-ltb, eqb-true}
use lib.Pow.{pow_mono}
use Rattle.pg_entry.specs.declared.AccessKind.{AccessKind}
use Rattle.pg_entry.specs.declared.Level.{Level}
use Rattle.pg_entry.specs.declared.Level.TheVariants.{Four, Three, Two, One}
use Rattle.pg_entry.specs.declared.Rights.{Rights}
use Rattle.pg_event.specs.declared.control.Control.{Control}
use Rattle.pg_event.specs.declared.event.Malformed.{Malformed}
use Rattle.pg_event.specs.declared.event.Malformed.TheVariants as rules
use Rattle.pg_event.specs.Form.{is_canonical, broken_rule}
use Rattle.pg_event.specs.Heads.{Head}
use Rattle.pg_event.specs.Invalidation.{level_shift}
use Rattle.pg_event.specs.Walk.{below}
use Rattle.pg_guest.specs.declared.instruction.Instruction.TheVariants.{Access}
use Rattle.pg_guest.specs.Tasks.{event_of, IsWellFormed}
use Rattle.pg_shadow.specs.Caches.{is_page_shift, levels_to, IsBlock, IsTableAt, IsPageAt}
use Rattle.pg_world.specs.Walks.{levels_above, is_table_address, is_walk}
use Rattle.pg_guest.specs.Turn.{from_root, from_table}

-- ---- the address

-- no rule is broken: of two, the first is kept, and so is the other
kept_first : (b : Bool) (rule : Malformed) (others : Option Malformed) → cond (not b) (Some rule) others ≡ None → (b ≡ true) × (others ≡ None)
kept_first true rule others none = (refl, none)
kept_first false rule others none = absurd (cc)

record IsAsked (head : Head) (p la : ℕ) : Type 0 where
  processor : nat_lt p (length head.processors) ≡ true
  address : is_canonical la ≡ true

asked : (head : Head) (p flags la : ℕ) → IsWellFormed head p (Access flags la) → IsAsked head p la
asked head p flags la well =
    let none : broken_rule head (event_of p (Access flags la)) ≡ None = well (event_of p (Access flags la)) refl refl in
    let first = kept_first (nat_lt p (length head.processors)) rules.Processor _ none in
    record { processor = first.0; address = (kept_first (is_canonical la) rules.LinearAddress _ first.1).0 }

-- ---- the table

table_address : (m table : ℕ) → IsBlock m 12 table → is_table_address m table ≡ true
table_address m table block = λ i. eq-eqb (table % 4096) 0 block.aligned i && lt-ltb table (2 ^ m) block.below i

may_read : (a b c d : Bool) → a ≡ true → b ≡ true → c ≡ true → d ≡ true → (a && b && c && d) ≡ true
may_read a b c d p q r s = λ i. p i && q i && r i && s i

-- ---- a walk

pub root_walk : (head : Head) (p flags la width : ℕ) (c : Control) (kind : AccessKind) → IsWellFormed head p (Access flags la) → width ≡ head.cfg.m → IsBlock width 12 c.root → is_walk head p (from_root c kind la) ≡ true
root_walk head p flags la width c kind well same block =
    let is = asked head p flags la well in
    may_read _ _ _ true is.processor is.address (table_address head.cfg.m c.root (subst (λ m. IsBlock m 12 c.root) same block)) refl

-- as many levels are read as there are above the next
next_above : (level : Level) (width table : ℕ) (moments : List ℕ) → IsTableAt width level table moments → levels_to (level_shift level) ≡ levels_above (below level)
next_above Four width table moments h = refl
next_above Three width table moments h = refl
next_above Two width table moments h = refl
next_above One width table moments h = let no : false ≡ true = h.refers in absurd (cc)

pub table_walk : (head : Head) (p flags la width : ℕ) (kind : AccessKind) (level : Level) (table : ℕ) (rights : Rights) (moments : List ℕ) →
    IsWellFormed head p (Access flags la) → width ≡ head.cfg.m → IsTableAt width level table moments → is_walk head p (from_table kind la level table rights moments) ≡ true
table_walk head p flags la width kind level table rights moments well same h =
    let is = asked head p flags la well in
    may_read _ _ _ _ is.processor is.address (table_address head.cfg.m table (subst (λ m. IsBlock m 12 table) same h.block))
    (eq-eqb (length moments) (levels_above (below level)) (h.count ∙ next_above level width table moments h))

-- ---- a page

shift_small : (shift : ℕ) → is_page_shift shift ≡ true → shift ≤ 30
shift_small shift h = go (nat_eq shift 12) (nat_eq shift 21) (nat_eq shift 30) refl refl refl h
  where
    go : (a b c : Bool) → nat_eq shift 12 ≡ a → nat_eq shift 21 ≡ b → nat_eq shift 30 ≡ c → (a || b || c) ≡ true → shift ≤ 30
    go true b c p q r h = omega (arith, eqb-true shift 12 p)
    go false true c p q r h = omega (arith, eqb-true shift 21 q)
    go false false true p q r h = omega (arith, eqb-true shift 30 r)
    go false false false p q r h = absurd (cc)

-- a page's frame lies below 2 ^ 52, and its size is 1 GB at most
pub record IsSmallPage (shift frame : ℕ) : Type 0 where
  pub size : shift ≤ 30
  pub frame_below : frame < 2 ^ 52

pub small_page : (width shift frame : ℕ) (moments : List ℕ) → width ≤ 52 → IsPageAt width shift frame moments → IsSmallPage shift frame
small_page width shift frame moments most h =
    let within : 2 ^ width ≤ 2 ^ 52 = pow_mono most in
    record { size = shift_small shift h.size; frame_below = omega (arith, h.block.below, within) }
