-- What a memo of walks keeps true.
use Rattle.std.specs.Prelude.{◌≡◌, ℕ, ◌-◌, ◌%◌, ◌^◌, ◌≤◌, ◌==◌, Bool, true, if◌then◌else◌}
use Rattle.std.specs.Prelude.{List, length, Option, Some, None, Ok}
use Rattle.std.specs.List.{AllByRecursion}
use Rattle.pg_entry.specs.declared.Kind.TheVariants as kinds
use Rattle.pg_entry.specs.Kinds.{kind_of, IsPageShift}
use Rattle.pg_event.specs.declared.event.Event.{Event}
use Rattle.pg_event.specs.declared.event.Want.TheVariants as wants
use Rattle.pg_event.specs.Heads.{Head}
use Rattle.pg_event.specs.Witness.{is_in_order}
use Rattle.pg_chain.specs.declared.past.Past.{Past}
use Rattle.pg_chain.specs.Standing.{IsPast}
use Rattle.pg_chain.specs.Walked.{chain_of}
use Rattle.pg_check.specs.declared.memo.Slot.{Slot}
use Rattle.pg_check.specs.declared.lasting.Lasting.{Lasting}
use Rattle.pg_check.specs.Lasting.{IsLasting}

-- the binary logarithm of the size of the page that the last entry maps where so many levels are
-- read, if that is a leaf
abbrev pub page_bits : ℕ → ℕ
page_bits levels = if levels == 4 then 12 else if levels == 3 then 21 else 30

-- the first address of a page of 2 ^ k bytes
abbrev pub page_start : ℕ → ℕ → ℕ
page_start k la = la - la % 2 ^ k

-- the first physical address of the page that the leaf of a slot maps
abbrev pub frame_in : Slot → ℕ
frame_in s = page_start s.shift (s.value % 2 ^ 52)

-- what the walk of a slot came to
abbrev pub walk_in : Slot → Lasting
walk_in s = record {
  chain = record {
    pcid = s.pcid;
    tables = s.tables;
    end = record {
      level = s.level;
      address = s.address;
      value = s.value;
      moment = s.moment;
      rights = s.rights;
    };
  };
  global = s.global;
  asked = s.asked;
  dropped = if s.dropped then Some (s.asked - 1) else None;
}

-- the same walk, of which it is known that nothing drops its translation before a number
abbrev pub lasting_to : ℕ → Slot → Lasting
lasting_to number s = record {
  chain = (walk_in s).chain;
  global = s.global;
  asked = number;
  dropped = None;
}

-- the walk of a slot ends with a leaf, which maps the page that the slot names
pub record IsLeaf (head : Head) (s : Slot) : Type 0 where
  pub global_bit : Bool
  pub kind : kind_of head.cfg s.level s.value ≡ kinds.Leaf (frame_in s) s.shift global_bit

-- what a slot says rests on the first so many events alone
pub record IsWithin (limit : ℕ) (s : Slot) : Type 0 where
  pub few : length s.moments ≤ 4
  pub ordered : is_in_order s.moments limit ≡ true
  pub read : s.moment ≤ limit
  pub asked : s.asked ≤ limit
  pub shift : IsPageShift s.shift

-- a slot has what the walk comes to that it names, of every run that the past stands for, and goes
-- on having it while events are added
abbrev pub HasWalk : Past → ℕ → Option Slot → Type 0
HasWalk past limit None = Unit {0}
HasWalk past limit (Some s) =
    IsWithin limit s
    × ((head : Head) (events : List Event) → IsPast past head events →
    (chain_of head events s.p s.page s.moments wants.Leaf ≡ Ok (walk_in s).chain)
    × IsLasting head events s.p s.page (walk_in s))
    × ((head : Head) (events : List Event) → IsPast past head events → IsLeaf head s)

abbrev pub HaveWalks : Past → ℕ → List (Option Slot) → Type 0
HaveWalks past limit slots = AllByRecursion (HasWalk past limit) slots
