-- Where the page of a leaf lies, by its entry alone.
use Rattle.std.proofs.Common.{◌≡◌, ℕ, ◌+◌, ◌-◌, ◌%◌, ◌^◌, ◌≤◌, Bool, true, false, not, cond, ◌&&◌, ◌||◌, ◌==◌, Some, None, refl, sym, ap, subst, ◌∙◌, arith}
use Rattle.std.proofs.Math.Pow.{mod-mod-pow}
use Rattle.std.proofs.lemmas.Bool.{eqb-true, false≢true, or_parts}
use Rattle.std.proofs.lemmas.Nat.{mod-pow-add}
use Rattle.pg_entry.specs.declared.Cfg.{Cfg}
use Rattle.pg_entry.specs.declared.Level.{Level}
use Rattle.pg_entry.specs.declared.Level.TheVariants.{Four, Three, Two, One}
use Rattle.pg_entry.specs.declared.Kind.{Kind}
use Rattle.pg_entry.specs.declared.Kind.TheVariants.{Leaf, Table, Absent, Reserved}
use Rattle.pg_entry.specs.Bits.{has_bit, field}
use Rattle.pg_entry.specs.Kinds.{kind_of, is_reserved, is_reserved_at, leaf_shift, nxe, target}
use Rattle.pg_check.specs.Remembered.{page_start}

the_rest : (k m : ℕ) → k ≤ m → m - k + k ≡ m
the_rest k m le = omega (arith, le)

-- the bits below m are those from k on, and those below
two_fields : (e k m : ℕ) → k ≤ m → e % 2 ^ m ≡ field e k m + e % 2 ^ k
two_fields e k m le = subst (λ (n : ℕ). e % 2 ^ n ≡ field e k m + e % 2 ^ k) (the_rest k m le) (mod-pow-add e (m - k) k)

same_low : (e k m : ℕ) → k ≤ m → e % 2 ^ m % 2 ^ k ≡ e % 2 ^ k
same_low e k m le = subst (λ (n : ℕ). e % 2 ^ n % 2 ^ k ≡ e % 2 ^ k) (the_rest k m le) (mod-mod-pow e (m - k) k)

taken_off : (whole none low high bits rest : ℕ) → whole ≡ none + low → none ≡ 0 → low ≡ high + bits → rest ≡ bits → high ≡ whole - rest
taken_off whole none low high bits rest e z f g = omega (arith, e, z, f, g)

-- a field up to bit m, where those from there up to bit 52 are 0
upper_field : (e k m : ℕ) → k ≤ m → m ≤ 52 → field e m 52 ≡ 0 → field e k m ≡ page_start k (e % 2 ^ 52)
upper_field e k m low high none =
    taken_off (e % 2 ^ 52) (field e m 52) (e % 2 ^ m) (field e k m) (e % 2 ^ k) (e % 2 ^ 52 % 2 ^ k) (two_fields e m 52 high) none (two_fields e k m low)
    (same_low e k 52 (omega (arith, low, high)))

-- ---- a leaf

abbrev IsFramed : ℕ → Kind → Type 0
IsFramed e (Leaf frame shift global_bit) = frame ≡ page_start shift (e % 2 ^ 52)
IsFramed e (Table addr) = Unit {0}
IsFramed e Absent = Unit {0}
IsFramed e Reserved = Unit {0}

chosen_framed : (m e shift : ℕ) (b : Bool) → field e shift m ≡ page_start shift (e % 2 ^ 52) → IsFramed e (target m e (cond b (Some shift) None))
chosen_framed m e shift true is = is
chosen_framed m e shift false is = tt

target_framed : (m e : ℕ) (level : Level) → 30 ≤ m → m ≤ 52 → field e m 52 ≡ 0 → IsFramed e (target m e (leaf_shift level e))
target_framed m e Four low high none = tt
target_framed m e Three low high none = chosen_framed m e 30 (has_bit e 7) (upper_field e 30 m low high none)
target_framed m e Two low high none = chosen_framed m e 21 (has_bit e 7) (upper_field e 21 m (omega (arith, low)) high none)
target_framed m e One low high none = upper_field e 12 m (omega (arith, low)) high none

either_framed : (e : ℕ) (b : Bool) (k l : Kind) → IsFramed e k → (b ≡ false → IsFramed e l) → IsFramed e (cond b k l)
either_framed e true k l x y = x
either_framed e false k l x y = y refl

from_not : (b : Bool) → not b ≡ false → b ≡ true
from_not true h = refl
from_not false h = absurd (false≢true (sym h))

none_above : (cfg : Cfg) (level : Level) (e : ℕ) → is_reserved cfg level e ≡ false → field e cfg.m 52 ≡ 0
none_above cfg level e free =
    let above : Bool = not (field e cfg.m 52 == 0) in
    let xd : Bool = has_bit e 63 && not (nxe cfg) in
    eqb-true (field e cfg.m 52) 0 (from_not (field e cfg.m 52 == 0) (or_parts above xd (or_parts (above || xd) (is_reserved_at level e) free).0).0)

kind_framed : (cfg : Cfg) (level : Level) (e : ℕ) → 36 ≤ cfg.m → cfg.m ≤ 52 → IsFramed e (kind_of cfg level e)
kind_framed cfg level e low high =
    either_framed e (not (has_bit e 0)) Absent (cond (is_reserved cfg level e) Reserved (target cfg.m e (leaf_shift level e))) tt
    (λ present. either_framed e (is_reserved cfg level e) Reserved (target cfg.m e (leaf_shift level e)) tt
    (λ free. target_framed cfg.m e level (omega (arith, low)) high (none_above cfg level e free)))

-- the frame of a leaf, without the settings of the run
pub framed : (cfg : Cfg) (level : Level) (e frame shift : ℕ) (global_bit : Bool) → (36 ≤ cfg.m) × (cfg.m ≤ 52) → kind_of cfg level e ≡ Leaf frame shift global_bit →
    kind_of cfg level e ≡ Leaf (page_start shift (e % 2 ^ 52)) shift global_bit
framed cfg level e frame shift global_bit range kind =
    let is : frame ≡ page_start shift (e % 2 ^ 52) = subst (λ (k : Kind). IsFramed e k) kind (kind_framed cfg level e range.0 range.1) in
    kind ∙ ap (λ n. Leaf n shift global_bit) is
