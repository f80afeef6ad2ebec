-- What is cached lies within the physical addresses.
use Rattle.std.proofs.Common.{◌≡◌, ℕ, ◌+◌, ◌-◌, ◌*◌, ◌/◌, ◌%◌, ◌^◌, ◌<◌, ◌≤◌, Bool, true, false, nat_eq, ◌&&◌, Option, Some, None, refl, subst, arith}
use Rattle.std.specs.Option.{IfSome}
use Rattle.std.proofs.lemmas.Bool.{eqb-true, cond_both, and_parts}
use Rattle.std.proofs.lemmas.Nat.{shl_below, mod_below, pow_pos}
use Rattle.std.proofs.Math.Nat.{mul-mod_left}
use Rattle.pg_entry.specs.declared.AccessKind.{AccessKind}
use Rattle.pg_entry.specs.Bits.{field}
use Rattle.pg_entry.specs.declared.Level.{Level}
use Rattle.pg_entry.specs.Rules.{all_rules}
use Rattle.pg_entry.specs.declared.Level.TheVariants.{Four, Three, Two}
use Rattle.pg_event.specs.declared.event.Event.{Event}
use Rattle.pg_event.specs.declared.event.Event.TheVariants.{Write, Access, Assist, MovCr3, Invlpg, Invpcid, MovCr4Pge}
use Rattle.pg_event.specs.declared.control.Control.{Control}
use Rattle.pg_event.specs.declared.keys.StructureKey.{StructureKey}
use Rattle.pg_event.specs.declared.keys.TranslationKey.{TranslationKey}
use Rattle.pg_event.specs.Heads.{Head}
use Rattle.pg_event.specs.Form.{processor_of}
use Rattle.pg_event.specs.Values.{loaded, started, controlled}
use Rattle.pg_event.specs.Invalidation.{level_shift, translation_key, structure_key, must_drop_structure, must_drop_translation}
use Rattle.pg_shadow.specs.declared.entries.KeptTable.{KeptTable}
use Rattle.pg_shadow.specs.declared.entries.KeptLeaf.{KeptLeaf}
use Rattle.pg_shadow.specs.declared.entries.Found.{Found}
use Rattle.pg_shadow.specs.declared.entries.Found.TheVariants.{Hit, Miss}
use Rattle.pg_shadow.specs.Caches.{Caches, empty, same_structure, same_space, same_translation, with_table, with_leaf, after, IsBlock, IsTableAt, IsPageAt, AreInRange}
use Rattle.pg_shadow.proofs.Levels.{level_same}
use Rattle.pg_shadow.specs.Find.{is_usable, leaf_or, page_or, table_or, structure_or, found, IsInRange}

-- ---- control registers

-- the bits of a word from a shift up to MAXPHYADDR are the address of a block
pub field-block : (m word shift : ℕ) → shift ≤ m → IsBlock m shift (field word shift m)
field-block m word shift low =
    let bits : ℕ = word / 2 ^ shift % 2 ^ (m - shift) in
    let few : bits < 2 ^ (m - shift) = mod_below (word / 2 ^ shift) (2 ^ (m - shift)) (pow_pos (m - shift)) in
    let sum : (m - shift) + shift ≡ m = omega arith in
    let P : ℕ → Type 0 = λ n. bits * 2 ^ shift < 2 ^ n in
    record { below = subst P sum (shl_below bits (m - shift) shift few); aligned = mul-mod_left bits (2 ^ shift) }

loaded-block : (m cr3 : ℕ) (pge : Bool) → 12 ≤ m → IsBlock m 12 (loaded m cr3 pge).root
loaded-block m cr3 pge low = field-block m cr3 12 low

pub started-block : (m : ℕ) (start : Option (ℕ × Bool)) → 12 ≤ m → IsBlock m 12 (started m start).root
started-block m None low = record { below = pow_pos m; aligned = refl }
started-block m (Some start) low = loaded-block m start.0 start.1 low

controlled-block : (m p : ℕ) (c : Control) (e : Event) → 12 ≤ m → IsBlock m 12 c.root → IsBlock m 12 (controlled m p c e).root
controlled-block m p c (Write q addr value) low h = h
controlled-block m p c (Access q flags la outcome moments) low h = h
controlled-block m p c (Assist q flags la word moments) low h = h
controlled-block m p c (MovCr3 q operand) low h =
    let P : Control → Type 0 = λ d. IsBlock m 12 d.root in
    cond_both (nat_eq q p) (loaded m operand c.pge) c P (λ _. loaded-block m operand c.pge low) (λ _. h)
controlled-block m p c (Invlpg q la) low h = h
controlled-block m p c (Invpcid q kind pcid la) low h = h
controlled-block m p c (MovCr4Pge q on) low h =
    let P : Control → Type 0 = λ d. IsBlock m 12 d.root in
    cond_both (nat_eq q p) (record c { pge = on }) c P (λ _. h) (λ _. h)

-- ---- caches

pub AreInRange-empty : (m : ℕ) (c : Control) → 36 ≤ m → m ≤ 52 → IsBlock m 12 c.root → AreInRange (empty m c)
AreInRange-empty m c low high root = record { least = low; most = high; root = root; tables = λ k. tt; leaves = λ k. tt }

pub AreInRange-with_table : (key : StructureKey) (kept : KeptTable) (s : Caches) → AreInRange s → IsTableAt s.width key.level kept.table kept.moments → AreInRange (with_table key kept s)
AreInRange-with_table key kept s h table = record {
  least = h.least;
  most = h.most;
  root = h.root;
  tables = λ k.
      let P : Option KeptTable → Type 0 = λ o. IfSome o (λ t. IsTableAt s.width k.level t.table t.moments) in
      let Q : Level → Type 0 = λ l. IsTableAt s.width l kept.table kept.moments in
      cond_both (same_structure key k) (Some kept) (s.tables k) P
      (λ same.
      let parts = and_parts (nat_eq key.pcid k.pcid && nat_eq (level_shift key.level) (level_shift k.level)) (nat_eq key.prefix k.prefix) same in
      let levels = and_parts (nat_eq key.pcid k.pcid) (nat_eq (level_shift key.level) (level_shift k.level)) parts.0 in
      subst Q (level_same key.level k.level (eqb-true (level_shift key.level) (level_shift k.level) levels.1)) table)
      (λ _. h.tables k);
  leaves = h.leaves;
}

pub AreInRange-with_leaf : (key : TranslationKey) (kept : KeptLeaf) (s : Caches) → AreInRange s → IsPageAt s.width key.shift kept.frame kept.moments → AreInRange (with_leaf key kept s)
AreInRange-with_leaf key kept s h page = record {
  least = h.least;
  most = h.most;
  root = h.root;
  tables = h.tables;
  leaves = λ k.
      let P : Option KeptLeaf → Type 0 = λ o. IfSome o (λ l. IsPageAt s.width k.shift l.frame l.moments) in
      let Q : ℕ → Type 0 = λ n. IsPageAt s.width n kept.frame kept.moments in
      cond_both (same_translation key k) (Some kept) (s.leaves k) P
      (λ same.
      let parts = and_parts (same_space key k && nat_eq key.shift k.shift) (nat_eq key.number k.number) same in
      let shifts = and_parts (same_space key k) (nat_eq key.shift k.shift) parts.0 in
      subst Q (eqb-true key.shift k.shift shifts.1) page)
      (λ _. h.leaves k);
}

pub AreInRange-after : (e : Event) (s : Caches) → AreInRange s → AreInRange (after e s)
AreInRange-after e s h = record {
  least = h.least;
  most = h.most;
  root = controlled-block s.width (processor_of e) s.control e (omega (arith, h.least)) h.root;
  tables = λ k.
      let P : Option KeptTable → Type 0 = λ o. IfSome o (λ t. IsTableAt s.width k.level t.table t.moments) in
      cond_both (must_drop_structure all_rules s.control e k) None (s.tables k) P (λ _. tt) (λ _. h.tables k);
  leaves = λ k.
      let P : Option KeptLeaf → Type 0 = λ o. IfSome o (λ l. IsPageAt s.width k.shift l.frame l.moments) in
      cond_both (must_drop_translation all_rules s.control e k) None (s.leaves k) P (λ _. tt) (λ _. h.leaves k);
}

-- ---- what is found

leaf_or-range : (head : Head) (kind : AccessKind) (width shift : ℕ) (global : Bool) (leaf : Option KeptLeaf) (other : Found) → IfSome leaf (λ l. IsPageAt width shift l.frame l.moments) → IsInRange width other → IsInRange width (leaf_or head kind shift global leaf other)
leaf_or-range head kind width shift global None other h rest = rest
leaf_or-range head kind width shift global (Some leaf) other h rest =
    cond_both (is_usable head kind leaf) (Hit leaf.frame shift leaf.rights global leaf.moments) other (IsInRange width) (λ _. h) (λ _. rest)

page_or-range : (s : Caches) (la : ℕ) (head : Head) (kind : AccessKind) (shift : ℕ) (other : Found) → AreInRange s → IsInRange s.width other → IsInRange s.width (page_or s la head kind shift other)
page_or-range s la head kind shift other h rest =
    leaf_or-range head kind s.width shift false (s.leaves (translation_key s.control.pcid shift false la)) _ (h.leaves (translation_key s.control.pcid shift false la))
    (leaf_or-range head kind s.width shift true (s.leaves (translation_key s.control.pcid shift true la)) other (h.leaves (translation_key s.control.pcid shift true la)) rest)

table_or-range : (width : ℕ) (level : Level) (table : Option KeptTable) (other : Found) → IfSome table (λ t. IsTableAt width level t.table t.moments) → IsInRange width other → IsInRange width (table_or level table other)
table_or-range width level None other h rest = rest
table_or-range width level (Some t) other h rest = h

structure_or-range : (s : Caches) (la : ℕ) (level : Level) (other : Found) → AreInRange s → IsInRange s.width other → IsInRange s.width (structure_or s la level other)
structure_or-range s la level other h rest = table_or-range s.width level (s.tables (structure_key s.control.pcid level la)) other (h.tables (structure_key s.control.pcid level la)) rest

pub found-range : (s : Caches) (la : ℕ) (head : Head) (kind : AccessKind) → AreInRange s → IsInRange s.width (found s la head kind)
found-range s la head kind h =
    let four = structure_or-range s la Four Miss h tt in
    let three = structure_or-range s la Three _ h four in
    let two = structure_or-range s la Two _ h three in
    let giant = page_or-range s la head kind 30 _ h two in
    let large = page_or-range s la head kind 21 _ h giant in
    page_or-range s la head kind 12 _ h large
