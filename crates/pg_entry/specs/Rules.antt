-- Which of the model's rules a processor is held to.
use Rattle.std.specs.Prelude.{◌≡◌, ℕ, ◌-◌, Bool, true, ◌==◌, bit_and, List, [], ◌∷◌, codes}
use Rattle.pg_entry.specs.declared.Rules.{Rules}

-- the rules that may be left out, each by its flag. A page fault drops the translations of its page
-- under the current PCID that are not global
abbrev pub fault_translations : ℕ
fault_translations = 1

-- it drops the global translations of its page, whatever their PCID (profile)
abbrev pub fault_globals : ℕ
fault_globals = 2

-- it drops the structure entries that would be used for its address (profile)
abbrev pub fault_structures : ℕ
fault_structures = 4

-- INVLPG drops the structure entries of the current PCID that would not be used for its address
-- (profile)
abbrev pub invlpg_structures : ℕ
invlpg_structures = 8

-- INVPCID of type 0 drops the structure entries that would be used for its address (profile)
abbrev pub invpcid_structures : ℕ
invpcid_structures = 16

-- the rules by their names, each with its flag
abbrev pub rule_names : List (List ℕ × ℕ)
rule_names =
    (codes "FAULT_TRANSLATIONS", fault_translations) ∷ (codes "FAULT_GLOBALS", fault_globals)
    ∷ (codes "FAULT_STRUCTURES", fault_structures) ∷ (codes "INVLPG_STRUCTURES", invlpg_structures)
    ∷ (codes "INVPCID_STRUCTURES", invpcid_structures) ∷ []

-- all of them
abbrev pub all_rules : Rules
all_rules = record { 0 = 31 }

-- none of those that can be left out
abbrev pub lax_rules : Rules
lax_rules = record { 0 = 0 }

-- all of some rules but one
abbrev pub without : ℕ → Rules → Rules
without rule rules = record { 0 = bit_and rules.0 (31 - rule) }

-- whether they hold a processor to a rule
abbrev pub holds : Rules → ℕ → Bool
holds rules rule = bit_and rules.0 rule == rule

-- the one holds a processor to no rule that the other does not
abbrev pub AreAmong : Rules → Rules → Type 0
AreAmong fewer more = (rule : ℕ) → holds fewer rule ≡ true → holds more rule ≡ true
