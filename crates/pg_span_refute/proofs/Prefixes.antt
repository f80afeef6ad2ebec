-- Addresses that agree down to a level.
use Rattle.std.proofs.Common.{◌≡◌, ℕ, ◌+◌, ◌*◌, ◌/◌, ◌%◌, ◌^◌, Bool, cond, not, true, false, Some, None, ap, sym, ◌∙◌}
use Rattle.std.proofs.lemmas.Nat.{field_of, shr-shr}
use Rattle.std.proofs.Math.Pow.{mod-mod-pow}
use Rattle.pg_entry.specs.declared.Cfg.{Cfg}
use Rattle.pg_entry.specs.declared.Kind.{Kind}
use Rattle.pg_entry.specs.declared.Kind.TheVariants as kinds
use Rattle.pg_entry.specs.declared.Level.{Level}
use Rattle.pg_entry.specs.declared.Level.TheVariants.{Four, Three, Two, One}
use Rattle.pg_entry.specs.Bits.{has_bit}
use Rattle.pg_entry.specs.Kinds.{kind_of, is_reserved, target, leaf_shift}
use Rattle.pg_event.specs.Invalidation.{level_shift, bits_from}
use Rattle.pg_event.specs.Walk.{entry_address, below}

-- the addresses pick the same entries down to this level
abbrev pub Agree : Level → ℕ → ℕ → Type 0
Agree level a b = bits_from (level_shift level) a ≡ bits_from (level_shift level) b

pub agree_above : (level : Level) (a b : ℕ) → Agree (below level) a b → Agree level a b
agree_above Four a b h = sym (shr-shr (a % 2 ^ 48) 30 9) ∙ ap (λ v. v / 2 ^ 9) h ∙ shr-shr (b % 2 ^ 48) 30 9
agree_above Three a b h = sym (shr-shr (a % 2 ^ 48) 21 9) ∙ ap (λ v. v / 2 ^ 9) h ∙ shr-shr (b % 2 ^ 48) 21 9
agree_above Two a b h = sym (shr-shr (a % 2 ^ 48) 12 9) ∙ ap (λ v. v / 2 ^ 9) h ∙ shr-shr (b % 2 ^ 48) 12 9
agree_above One a b h = h

index : (a j k : ℕ) → a % 2 ^ (j + 9 + k) / 2 ^ k % 2 ^ 9 ≡ a / 2 ^ k % 2 ^ 9
index a j k = ap (λ v. v % 2 ^ 9) (field_of a (j + 9) k) ∙ mod-mod-pow (a / 2 ^ k) j 9

same_index : (level : Level) (a b : ℕ) → Agree level a b → a / 2 ^ level_shift level % 512 ≡ b / 2 ^ level_shift level % 512
same_index Four a b h = sym (index a 0 39) ∙ ap (λ v. v % 2 ^ 9) h ∙ index b 0 39
same_index Three a b h = sym (index a 9 30) ∙ ap (λ v. v % 2 ^ 9) h ∙ index b 9 30
same_index Two a b h = sym (index a 18 21) ∙ ap (λ v. v % 2 ^ 9) h ∙ index b 18 21
same_index One a b h = sym (index a 27 12) ∙ ap (λ v. v % 2 ^ 9) h ∙ index b 27 12

pub same_address : (table : ℕ) (level : Level) (a b : ℕ) → Agree level a b → entry_address table level a ≡ entry_address table level b
same_address table level a b h = ap (λ v. table + 8 * v) (same_index level a b h)

-- the size of a page is its level's
chosen : (b c : Bool) (k l : Kind) (frame shift : ℕ) (g : Bool) → cond b kinds.Absent (cond c kinds.Reserved k) ≡ kinds.Leaf frame shift g → k ≡ kinds.Leaf frame shift g
chosen true c k l frame shift g h = absurd (cc)
chosen false true k l frame shift g h = absurd (cc)
chosen false false k l frame shift g h = h

targeted : (m e n : ℕ) (b : Bool) (frame shift : ℕ) (g : Bool) → target m e (cond b (Some n) None) ≡ kinds.Leaf frame shift g → shift ≡ n
targeted m e n true frame shift g h = cc
targeted m e n false frame shift g h = absurd (cc)

pub shift_is : (cfg : Cfg) (level : Level) (e frame shift : ℕ) (g : Bool) → kind_of cfg level e ≡ kinds.Leaf frame shift g → shift ≡ level_shift level
shift_is cfg Four e frame shift g h = targeted cfg.m e 39 false frame shift g (chosen (not (has_bit e 0)) (is_reserved cfg Four e) (target cfg.m e (leaf_shift Four e)) kinds.Absent frame shift g h)
shift_is cfg Three e frame shift g h = targeted cfg.m e 30 (has_bit e 7) frame shift g (chosen (not (has_bit e 0)) (is_reserved cfg Three e) (target cfg.m e (leaf_shift Three e)) kinds.Absent frame shift g h)
shift_is cfg Two e frame shift g h = targeted cfg.m e 21 (has_bit e 7) frame shift g (chosen (not (has_bit e 0)) (is_reserved cfg Two e) (target cfg.m e (leaf_shift Two e)) kinds.Absent frame shift g h)
shift_is cfg One e frame shift g h = targeted cfg.m e 12 true frame shift g (chosen (not (has_bit e 0)) (is_reserved cfg One e) (target cfg.m e (leaf_shift One e)) kinds.Absent frame shift g h)
