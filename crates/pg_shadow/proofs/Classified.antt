-- What entries refer to may be kept.
use Rattle.std.proofs.Common.{ℕ, ◌≤◌, not, cond, Some, None, refl, subst, arith}
use Rattle.std.proofs.lemmas.Bool.{cond_both}
use Rattle.pg_entry.specs.declared.Cfg.{Cfg}
use Rattle.pg_entry.specs.declared.Kind.{Kind}
use Rattle.pg_entry.specs.declared.Kind.TheVariants.{Absent, Reserved, Table, Leaf}
use Rattle.pg_entry.specs.declared.Level.{Level}
use Rattle.pg_entry.specs.declared.Level.TheVariants.{Four, Three, Two, One}
use Rattle.pg_entry.specs.Bits.{has_bit}
use Rattle.pg_entry.specs.Kinds.{leaf_shift, is_reserved, target, kind_of}
use Rattle.pg_shadow.specs.Laws.{IsTableOf, IsPageOf, EntriesMayBeKept}
use Rattle.pg_shadow.proofs.Ranges.{field-block}

-- what a kind that is a table or a page is of
abbrev IsKept : ℕ → Level → Kind → Type 0
IsKept m level Absent = Unit {0}
IsKept m level Reserved = Unit {0}
IsKept m level (Table addr) = IsTableOf m level addr
IsKept m level (Leaf frame shift global_bit) = IsPageOf m level shift frame

target_kept : (m : ℕ) (level : Level) (e : ℕ) → 36 ≤ m → IsKept m level (target m e (leaf_shift level e))
target_kept m Four e low = record { refers = refl; block = field-block m e 12 (omega (arith, low)) }
target_kept m Three e low =
    cond_both (has_bit e 7) (Some 30) None (λ o. IsKept m Three (target m e o))
    (λ _. record { shift_is = refl; size = refl; block = field-block m e 30 (omega (arith, low)) })
    (λ _. record { refers = refl; block = field-block m e 12 (omega (arith, low)) })
target_kept m Two e low =
    cond_both (has_bit e 7) (Some 21) None (λ o. IsKept m Two (target m e o))
    (λ _. record { shift_is = refl; size = refl; block = field-block m e 21 (omega (arith, low)) })
    (λ _. record { refers = refl; block = field-block m e 12 (omega (arith, low)) })
target_kept m One e low = record { shift_is = refl; size = refl; block = field-block m e 12 (omega (arith, low)) }

kind_kept : (cfg : Cfg) (level : Level) (e : ℕ) → 36 ≤ cfg.m → IsKept cfg.m level (kind_of cfg level e)
kind_kept cfg level e low =
    let found : Kind = target cfg.m e (leaf_shift level e) in
    let P : Kind → Type 0 = IsKept cfg.m level in
    cond_both (not (has_bit e 0)) Absent (cond (is_reserved cfg level e) Reserved found) P (λ _. tt)
    (λ _. cond_both (is_reserved cfg level e) Reserved found P (λ _. tt) (λ _. target_kept cfg.m level e low))

pub entries_may_be_kept : EntriesMayBeKept
entries_may_be_kept = record {
  tables = λ cfg level e addr low is. subst (IsKept cfg.m level) is (kind_kept cfg level e low);
  leaves = λ cfg level e frame shift global_bit low is. subst (IsKept cfg.m level) is (kind_kept cfg level e low);
}
