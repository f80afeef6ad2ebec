-- What a reader of a past keeps true.
use Rattle.std.specs.Prelude.{◌≡◌, ℕ, ◌<◌, ◌≤◌, ◌^◌, ◌-◌, List, Option, Some, None}
use Rattle.std.specs.List.{AllByRecursion}
use Rattle.pg_event.specs.Values.{mem_at, control_at}
use Rattle.pg_chain.specs.declared.past.Past.{Past}
use Rattle.pg_chain.specs.declared.reader.Word.{Word}
use Rattle.pg_chain.specs.declared.reader.ControlSpan.{ControlSpan}
use Rattle.pg_chain.specs.declared.reader.SpaceDrop.{SpaceDrop}
use Rattle.pg_chain.specs.Standing.{InEachRun}
use Rattle.pg_inval.specs.Spaces.{IsSpaceDrop}

-- a word has its value at each moment of its span, in every run that the past stands for
abbrev pub IsWord : Past → Word → Type 0
IsWord past word =
    InEachRun past (λ head events. (w : ℕ) → word.span.from ≤ w → w ≤ word.span.to →
    mem_at events w word.address ≡ word.span.value)

-- a processor has its control registers at each moment of their span, and its table lies within the
-- physical addresses
pub record IsControlSpan (past : Past) (kept : ControlSpan) : Type 0 where
  pub root : kept.span.value.root < 2 ^ 52
  pub same : InEachRun past (λ head events. (w : ℕ) → kept.span.from ≤ w → w ≤ kept.span.to →
      control_at head events kept.p w ≡ kept.span.value)

-- what is kept of a space is its first drop from a moment on
abbrev pub IsDropOfSpace : Past → SpaceDrop → Type 0
IsDropOfSpace past drop = IsSpaceDrop past.drops drop.space drop.from (2 ^ 32 - 1) drop.first

-- what each place has, if it has anything
abbrev pub IfKept : {T : Type 0} → (T → Type 0) → Option T → Type 0
IfKept P None = Unit {0}
IfKept P (Some x) = P x

pub record AreKnown (past : Past) (words : List (Option Word))
    (control_spans : List (Option ControlSpan)) (space_drops : List (Option SpaceDrop)) :
    Type 0 where
  pub values : AllByRecursion (IfKept (IsWord past)) words
  pub controls : AllByRecursion (IfKept (IsControlSpan past)) control_spans
  pub drops : AllByRecursion (IfKept (IsDropOfSpace past)) space_drops
