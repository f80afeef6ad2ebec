-- How long the translation lasts that a walk gives.
use Rattle.std.specs.Prelude.{◌≡◌, ℕ, ◌≤◌, ◌-◌, Bool, not, ◌&&◌, List, Option}
use Rattle.std.specs.Prelude.{Result, Ok, Err}
use Rattle.std.specs.Prelude.{MatchResult, MatchOption}
use Rattle.pg_entry.specs.declared.Kind.{Kind}
use Rattle.pg_entry.specs.declared.Kind.TheVariants as kinds
use Rattle.pg_entry.specs.Kinds.{kind_of}
use Rattle.pg_event.specs.declared.event.Event.{Event}
use Rattle.pg_event.specs.declared.event.Reason.{Reason}
use Rattle.pg_event.specs.declared.event.Want.{Want}
use Rattle.pg_event.specs.Heads.{Head}
use Rattle.pg_event.specs.Values.{control_at}
use Rattle.pg_event.specs.Invalidation.{translation_key}
use Rattle.pg_event.specs.declared.keys.TranslationKey.{TranslationKey}
use Rattle.pg_event.specs.Witness.{any_from, translation_survives}
use Rattle.pg_inval.specs.Lists.{IsFirstDrop}
use Rattle.pg_chain.specs.Walked.{chain_of}
use Rattle.pg_check.specs.declared.lasting.Lasting.{Lasting}

-- no event from one moment up to, not with, another passes a test: what only such an event drops
-- outlives them
abbrev pub outlives : (ℕ → Bool) → ℕ → ℕ → Bool
outlives test from to = not (any_from test from (to - from))

-- the first event from a moment up to, not with, another that passes a test, in the form of
-- `IsDroppedAt`, so that a `survives` fits in
abbrev pub IsFirstToPass : (ℕ → Bool) → ℕ → ℕ → Option ℕ → Type 0
IsFirstToPass test from to first = IsFirstDrop (λ a b. not (outlives test a b)) from to first

-- the first event from a moment up to, not with, another that drops a translation
abbrev pub IsDroppedAt : Head → List Event → ℕ → TranslationKey → ℕ → ℕ → Option ℕ → Type 0
IsDroppedAt head events p key moment to dropped =
    IsFirstDrop
    (λ a b. not (translation_survives head events p key a b))
    moment to dropped

-- whether the translation that a leaf gives is global and, as far as that was asked, the first
-- event from its reading on that drops it; nothing is said of what gives no translation
abbrev pub LastsTo : Head → List Event → ℕ → ℕ → Lasting → Kind → Type 0
LastsTo head events p la l (kinds.Leaf frame shift global_bit) =
    (l.global ≡ (global_bit && (control_at head events p l.chain.end.moment).pge))
    × IsDroppedAt head events p (translation_key l.chain.pcid shift l.global la)
    l.chain.end.moment l.asked l.dropped
LastsTo head events p la l (kinds.Table addr) = Unit {0}
LastsTo head events p la l kinds.Absent = Unit {0}
LastsTo head events p la l kinds.Reserved = Unit {0}

-- the same of the end of a walk
abbrev pub IsLasting : Head → List Event → ℕ → ℕ → Lasting → Type 0
IsLasting head events p la l =
    LastsTo head events p la l (kind_of head.cfg l.chain.end.level l.chain.end.value)

-- it is known if an event before the one with this number drops the translation: one does, or that
-- was asked so far
abbrev pub IsAsked : ℕ → Lasting → Type 0
IsAsked number l = MatchOption l.dropped (number ≤ l.asked) (λ first. Unit {0})

-- what the moments of an access to an address by processor p come to, and how long it lasts
abbrev pub IsWalk : Head → List Event → ℕ → ℕ → Want → List ℕ → Result Lasting Reason → Type 0
IsWalk head events p la want ws result =
    MatchResult result
    (λ l. (chain_of head events p la ws want ≡ Ok l.chain) × IsLasting head events p la l)
    (λ reason. chain_of head events p la ws want ≡ Err reason)
