-- Physical addresses in registers and entries are below 2 ^ 52, and a page has at most 2 ^ 30
-- bytes.
use Rattle.std.proofs.Common.{◌≡◌, ℕ, ◌^◌, ◌<◌, ◌≤◌, Bool, true, false, if◌then◌else◌, ◌==◌, Option, Some, None, ap, subst, arith}
use Rattle.pg_entry.specs.declared.Cfg.{Cfg}
use Rattle.pg_entry.specs.declared.Level.{Level}
use Rattle.pg_entry.specs.declared.Level.TheVariants.{Four, Three, Two, One}
use Rattle.pg_entry.specs.declared.Kind.TheVariants.{Absent, Reserved, Leaf}
use Rattle.pg_entry.specs.Bits.{has_bit, field}
use Rattle.pg_entry.specs.Kinds.{leaf_shift, target, kind_of}
use Rattle.pg_entry.proofs.Bounds.{field-below}
use Rattle.pg_event.specs.declared.event.Event.{Event}
use Rattle.pg_event.specs.declared.event.Event.TheVariants.{Write, Access, Assist, MovCr3, Invlpg, Invpcid, MovCr4Pge}
use Rattle.pg_event.specs.declared.control.Control.{Control}
use Rattle.pg_event.specs.Values.{loaded, controlled}

loaded_or : (b : Bool) (m operand : ℕ) (c : Control) → 12 ≤ m → m ≤ 52 → c.root < 2 ^ 52 → (if b then loaded m operand c.pge else c).root < 2 ^ 52
loaded_or true m operand c low high h = field-below operand 12 m low high
loaded_or false m operand c low high h = h

root_kept : (b on : Bool) (c : Control) → c.root < 2 ^ 52 → (if b then record c { pge = on } else c).root < 2 ^ 52
root_kept true on c h = h
root_kept false on c h = h

pub root-controlled : (m p : ℕ) (c : Control) (e : Event) → 12 ≤ m → m ≤ 52 → c.root < 2 ^ 52 → (controlled m p c e).root < 2 ^ 52
root-controlled m p c (MovCr3 q operand) low high h = loaded_or (q == p) m operand c low high h
root-controlled m p c (MovCr4Pge q on) low high h = root_kept (q == p) on c h
root-controlled m p c (Write q addr value) low high h = h
root-controlled m p c (Access q flags la outcome moments) low high h = h
root-controlled m p c (Assist q flags la word moments) low high h = h
root-controlled m p c (Invlpg q la) low high h = h
root-controlled m p c (Invpcid q kind pcid la) low high h = h

-- the page that an entry refers to
leaf_at : (absent reserved : Bool) (m e : ℕ) (given : Option ℕ) (frame shift : ℕ) (global : Bool) → (if absent then Absent else if reserved then Reserved else target m e given) ≡ Leaf frame shift global → (given ≡ Some shift) × (frame ≡ field e shift m)
leaf_at true reserved m e given frame shift global h = cc
leaf_at false true m e given frame shift global h = cc
leaf_at false false m e None frame shift global h = cc
leaf_at false false m e (Some n) frame shift global h =
    let same : n ≡ shift = cc in
    let there : field e n m ≡ frame = cc in
    (ap Some same, subst (λ (k : ℕ). frame ≡ field e k m) same cc)

shift_at : (b : Bool) (n shift : ℕ) → n ≤ 30 → (if b then Some n else None) ≡ Some shift → shift ≤ 30
shift_at true n shift small h = let same : n ≡ shift = cc in omega (arith, same)
shift_at false n shift small h = cc

leaf_shift_small : (level : Level) (e shift : ℕ) → leaf_shift level e ≡ Some shift → shift ≤ 30
leaf_shift_small Four e shift h = cc
leaf_shift_small Three e shift h = shift_at (has_bit e 7) 30 shift (omega arith) h
leaf_shift_small Two e shift h = shift_at (has_bit e 7) 21 shift (omega arith) h
leaf_shift_small One e shift h = let same : 12 ≡ shift = cc in omega (arith, same)

pub leaf_within : (cfg : Cfg) (level : Level) (e frame shift : ℕ) (global : Bool) → 36 ≤ cfg.m → cfg.m ≤ 52 → kind_of cfg level e ≡ Leaf frame shift global → (shift ≤ 30) × (frame < 2 ^ 52)
leaf_within cfg level e frame shift global low high h =
    let parts = leaf_at _ _ cfg.m e (leaf_shift level e) frame shift global h in
    let small : shift ≤ 30 = leaf_shift_small level e shift parts.0 in
    let below : field e shift cfg.m < 2 ^ 52 = field-below e shift cfg.m (omega arith) high in
    (small, omega (arith, below, parts.1))
