-- After an assist the entry is used.
use Rattle.std.proofs.Common.{◌≡◌, ℕ, ◌+◌, ◌-◌, ◌*◌, ◌/◌, ◌%◌, ◌^◌, ◌<◌, ◌≤◌, Bool, true, false, not, ◌&&◌, ◌||◌, nat_eq, cond, List, [], ◌∷◌, ◌++◌, length, take, fold, Some, None, bit_or, lit<, eq-eqb, refl, sym, ◌∙◌, ap, subst, arith}
use Rattle.std.proofs.lemmas.List.{take_all}
use Rattle.std.proofs.lemmas.List.Sums.{fold_push}
use Rattle.std.proofs.lemmas.Nat.{or_shr, mod_below}
use Rattle.std.proofs.Math.Nat.{div-eq_of_lt}
use Rattle.std.specs.Int.Bits.{or_zero_r}
use Rattle.std.proofs.lemmas.Nat.Bits.{bit_at_or}
use lib.Pow.{pow_mono}
use Rattle.pg_entry.specs.declared.Cfg.{Cfg}
use Rattle.pg_entry.specs.declared.Kind.{Kind}
use Rattle.pg_entry.specs.declared.Kind.TheVariants as kinds
use Rattle.pg_entry.specs.declared.Level.{Level}
use Rattle.pg_entry.specs.declared.Level.TheVariants.{Four, Three, Two, One}
use Rattle.pg_entry.specs.declared.Op.{Op}
use Rattle.pg_entry.specs.declared.Op.TheVariants as ops
use Rattle.pg_entry.specs.declared.Rights.{Rights}
use Rattle.pg_entry.specs.Bits.{has_bit, field}
use Rattle.pg_entry.specs.Kinds.{accessed, marked, leaf_shift, is_reserved_at, is_reserved, target, kind_of, nxe}
use Rattle.pg_entry.specs.Permission.{is_write, joined}
use Rattle.pg_event.specs.declared.event.Event.{Event}
use Rattle.pg_event.specs.Heads.{Head, judges_accessed}
use Rattle.pg_event.specs.Form.{op_bits, flags_of, says_dirty}
use Rattle.pg_event.specs.Spelling.{bit}
use Rattle.pg_event.specs.Values.{written}
use Rattle.pg_event.specs.Wants.{may_dirty}
use Rattle.pg_world.specs.declared.receipt.Receipt.{Receipt}
use Rattle.pg_world.specs.declared.walk.Walk.{Walk}
use Rattle.pg_world.specs.declared.walk.LevelRead.TheVariants.{Entry, Assisted}
use Rattle.pg_world.specs.Laws.{AnAssistIsEnough}
use Rattle.pg_world.specs.Recording.{receipt_of}
use Rattle.pg_world.specs.Walks.{address_of, word_now, lacks_dirty, lacks_flags, assist_of, found_entry, found_by}

-- ---- the entry with its flags set

-- a bit that is not set beside is as it was
pub bit_stays : (e more k : ℕ) → more / 2 ^ k % 2 ≡ 0 → has_bit (bit_or e more) k ≡ has_bit e k
bit_stays e more k none =
    let same : bit_or e more / 2 ^ k % 2 ≡ e / 2 ^ k % 2 = omega (arith, bit_at_or e more k, none) in
    ap (λ n. nat_eq n 1) same

pub bit_comes : (e more k : ℕ) → more / 2 ^ k % 2 ≡ 1 → has_bit (bit_or e more) k ≡ true
bit_comes e more k one =
    let set : bit_or e more / 2 ^ k % 2 ≡ 1 = omega (arith, bit_at_or e more k, one, mod_below (e / 2 ^ k) 2 (omega arith)) in
    ap (λ n. nat_eq n 1) set

-- the bits from 7 on are as they were
above_stays : (e more k : ℕ) → more < 128 → 7 ≤ k → bit_or e more / 2 ^ k ≡ e / 2 ^ k
above_stays e more k small high =
    let most : 2 ^ 7 ≤ 2 ^ k = pow_mono high in
    let none : more / 2 ^ k ≡ 0 = div-eq_of_lt (omega (arith, small, most)) in
    or_shr e more k ∙ ap (λ n. bit_or (e / 2 ^ k) n) none ∙ or_zero_r (e / 2 ^ k)

marked_above : (with_dirty : Bool) (e k : ℕ) → 7 ≤ k → marked with_dirty e / 2 ^ k ≡ e / 2 ^ k
marked_above true e k high = above_stays e 96 k (lit< tt) high
marked_above false e k high = above_stays e 32 k (lit< tt) high

pub marked_bit : (with_dirty : Bool) (e k : ℕ) → 96 / 2 ^ k % 2 ≡ 0 → 32 / 2 ^ k % 2 ≡ 0 → has_bit (marked with_dirty e) k ≡ has_bit e k
marked_bit true e k both one = bit_stays e 96 k both
marked_bit false e k both one = bit_stays e 32 k one

marked_high : (with_dirty : Bool) (e k : ℕ) → 7 ≤ k → has_bit (marked with_dirty e) k ≡ has_bit e k
marked_high with_dirty e k high = ap (λ n. nat_eq (n % 2) 1) (marked_above with_dirty e k high)

marked_field : (with_dirty : Bool) (e low high : ℕ) → 7 ≤ low → field (marked with_dirty e) low high ≡ field e low high
marked_field with_dirty e low high h = ap (λ n. n % 2 ^ (high - low) * 2 ^ low) (marked_above with_dirty e low h)

marked_at : (level : Level) (with_dirty : Bool) (e : ℕ) → is_reserved_at level (marked with_dirty e) ≡ is_reserved_at level e
marked_at Four with_dirty e = marked_high with_dirty e 7 (omega arith)
marked_at Three with_dirty e = λ i. marked_high with_dirty e 7 (omega arith) i && not (nat_eq (marked_field with_dirty e 13 30 (omega arith) i) 0)
marked_at Two with_dirty e = λ i. marked_high with_dirty e 7 (omega arith) i && not (nat_eq (marked_field with_dirty e 13 21 (omega arith) i) 0)
marked_at One with_dirty e = refl

marked_shift : (level : Level) (with_dirty : Bool) (e : ℕ) → leaf_shift level (marked with_dirty e) ≡ leaf_shift level e
marked_shift Four with_dirty e = refl
marked_shift Three with_dirty e = ap (λ b. cond b (Some 30) None) (marked_high with_dirty e 7 (omega arith))
marked_shift Two with_dirty e = ap (λ b. cond b (Some 21) None) (marked_high with_dirty e 7 (omega arith))
marked_shift One with_dirty e = refl

marked_reserved : (cfg : Cfg) (level : Level) (with_dirty : Bool) (e : ℕ) → 12 ≤ cfg.m → is_reserved cfg level (marked with_dirty e) ≡ is_reserved cfg level e
marked_reserved cfg level with_dirty e low = λ i.
    not (nat_eq (marked_field with_dirty e cfg.m 52 (omega arith) i) 0) || (marked_high with_dirty e 63 (omega arith) i && not (nxe cfg)) || marked_at level with_dirty e i

leaf_at : (m : ℕ) (with_dirty : Bool) (e shift : ℕ) → 7 ≤ shift → target m (marked with_dirty e) (Some shift) ≡ target m e (Some shift)
leaf_at m with_dirty e shift high = λ i. kinds.Leaf (marked_field with_dirty e shift m high i) shift (marked_high with_dirty e 8 (omega arith) i)

table_at : (m : ℕ) (with_dirty : Bool) (e : ℕ) → target m (marked with_dirty e) None ≡ target m e None
table_at m with_dirty e = ap kinds.Table (marked_field with_dirty e 12 m (omega arith))

either_at : (m : ℕ) (with_dirty : Bool) (e shift : ℕ) (b : Bool) → 7 ≤ shift → target m (marked with_dirty e) (cond b (Some shift) None) ≡ target m e (cond b (Some shift) None)
either_at m with_dirty e shift true high = leaf_at m with_dirty e shift high
either_at m with_dirty e shift false high = table_at m with_dirty e

marked_target : (m : ℕ) (level : Level) (with_dirty : Bool) (e : ℕ) → target m (marked with_dirty e) (leaf_shift level (marked with_dirty e)) ≡ target m e (leaf_shift level e)
marked_target m Four with_dirty e = table_at m with_dirty e
marked_target m Three with_dirty e = ap (target m (marked with_dirty e)) (marked_shift Three with_dirty e) ∙ either_at m with_dirty e 30 (has_bit e 7) (omega arith)
marked_target m Two with_dirty e = ap (target m (marked with_dirty e)) (marked_shift Two with_dirty e) ∙ either_at m with_dirty e 21 (has_bit e 7) (omega arith)
marked_target m One with_dirty e = leaf_at m with_dirty e 12 (omega arith)

-- setting A and D leaves what the entry is
kind_stays : (cfg : Cfg) (level : Level) (with_dirty : Bool) (e : ℕ) → 12 ≤ cfg.m → kind_of cfg level (marked with_dirty e) ≡ kind_of cfg level e
kind_stays cfg level with_dirty e low = λ i.
    cond (not (marked_bit with_dirty e 0 refl refl i)) kinds.Absent
    (cond (marked_reserved cfg level with_dirty e low i) kinds.Reserved
    (marked_target cfg.m level with_dirty e i))

rights_stay : (rights : Rights) (with_dirty : Bool) (e : ℕ) → joined rights (marked with_dirty e) ≡ joined rights e
rights_stay rights with_dirty e = λ i. record {
  write = rights.write && marked_bit with_dirty e 1 refl refl i;
  user = rights.user && marked_bit with_dirty e 2 refl refl i;
  xd = rights.xd || marked_high with_dirty e 63 (omega arith) i;
}

pub accessed_comes : (with_dirty : Bool) (e : ℕ) → accessed (marked with_dirty e) ≡ true
accessed_comes true e = bit_comes e 96 5 refl
accessed_comes false e = bit_comes e 32 5 refl

-- ---- what it lacks then

never : (a b : Bool) → (a && false && b) ≡ false
never true b = refl
never false b = refl

nothing : (a : Bool) → (a && (not true || false)) ≡ false
nothing true = refl
nothing false = refl

dirty_done : (cfg : Cfg) (walk : Walk) (value : ℕ) (kind : Kind) (with_dirty : Bool) → with_dirty ≡ lacks_dirty cfg walk value kind → lacks_dirty cfg walk (marked with_dirty value) kind ≡ false
dirty_done cfg walk value kind true h =
    let allowed : Bool = may_dirty cfg walk.kind (joined walk.rights (marked true value)) kind in
    ap (λ b. is_write walk.kind.op && not b && allowed) (bit_comes value 96 6 refl) ∙ never (is_write walk.kind.op) allowed
dirty_done cfg walk value kind false h =
    let same : lacks_dirty cfg walk (marked false value) kind ≡ lacks_dirty cfg walk value kind = λ i.
    is_write walk.kind.op && not (bit_stays value 32 6 refl i) && may_dirty cfg walk.kind (rights_stay walk.rights false value i) kind in
    same ∙ sym h

flags_done : (head : Head) (walk : Walk) (value : ℕ) (kind : Kind) → lacks_flags head walk (marked (lacks_dirty head.cfg walk value kind) value) kind ≡ false
flags_done head walk value kind =
    let with_dirty : Bool = lacks_dirty head.cfg walk value kind in
    let judged : Bool = judges_accessed head.version in
    ap (λ b. judged && (not b || lacks_dirty head.cfg walk (marked with_dirty value) kind)) (accessed_comes with_dirty value)
    ∙ ap (λ b. judged && (not true || b)) (dirty_done head.cfg walk value kind with_dirty refl)
    ∙ nothing judged

-- ---- the word after the assist

op_few : (op : Op) → op_bits op ≤ 2
op_few ops.Read = omega arith
op_few ops.Write = omega arith
op_few ops.Fetch = omega arith

few_flags : (op : Op) (user ac : Bool) → op_bits op + cond user 4 0 + cond ac 8 0 < 16
few_flags op false false = omega (arith, op_few op)
few_flags op false true = omega (arith, op_few op)
few_flags op true false = omega (arith, op_few op)
few_flags op true true = omega (arith, op_few op)

dirty_by : (flags : ℕ) (with_dirty : Bool) → flags < 16 → says_dirty (flags + 16 * bit with_dirty) ≡ with_dirty
dirty_by flags true few =
    let one : (flags + 16 * bit true) / 2 ^ 4 % 2 ≡ 1 = omega (arith, few) in
    ap (λ n. nat_eq n 1) one
dirty_by flags false few =
    let none : (flags + 16 * bit false) / 2 ^ 4 % 2 ≡ 0 = omega (arith, few) in
    ap (λ n. nat_eq n 1) none

word_after : (es : List Event) (e : Event) (a : ℕ) → word_now (es ++ e ∷ []) a ≡ written a (word_now es a) e
word_after es e a =
    let all : take (length (es ++ e ∷ [])) (es ++ e ∷ []) ≡ es ++ e ∷ [] = take_all (length (es ++ e ∷ [])) (es ++ e ∷ []) (omega arith) in
    let before : take (length es) es ≡ es = take_all (length es) es (omega arith) in
    ap (fold (written a) 0) all ∙ fold_push (written a) 0 es e ∙ ap (λ fs. written a (fold (written a) 0 fs) e) (sym before)

word_assisted : (es : List Event) (p : ℕ) (walk : Walk) (with_dirty : Bool) → word_now (es ++ assist_of es p walk with_dirty ∷ []) (address_of walk) ≡ marked with_dirty (word_now es (address_of walk))
word_assisted es p walk with_dirty =
    let a : ℕ = address_of walk in
    let value : ℕ = word_now es a in
    word_after es (assist_of es p walk with_dirty) a
    ∙ ap (λ b. cond b (marked (says_dirty (flags_of walk.kind + 16 * bit with_dirty)) value) value) (eq-eqb a a refl)
    ∙ ap (λ b. marked b value) (dirty_by (flags_of walk.kind) with_dirty (few_flags walk.kind.op walk.kind.user walk.kind.ac))

-- ---- what is found then

-- an assist is what an entry lacks, and one that lacks nothing is used
record IsAssisted (head : Head) (es : List Event) (p : ℕ) (walk : Walk) (value : ℕ) (kind : Kind) (receipt : Receipt) : Type 0 where
  event : receipt.event ≡ assist_of es p walk (lacks_dirty head.cfg walk value kind)
  used : (fs : List Event) (v : ℕ) → lacks_flags head walk v kind ≡ false → found_entry head fs p walk v kind ≡ Entry v (length fs)

assisted_by : (b : Bool) (value moment : ℕ) (r receipt : Receipt) → cond b (Assisted r) (Entry value moment) ≡ Assisted receipt → receipt.event ≡ r.event
assisted_by true value moment r receipt h = let same : r ≡ receipt = cc in ap (λ (s : Receipt). s.event) (sym same)
assisted_by false value moment r receipt h = absurd (cc)

is_assisted : (head : Head) (es : List Event) (p : ℕ) (walk : Walk) (value : ℕ) (kind : Kind) (receipt : Receipt) → found_entry head es p walk value kind ≡ Assisted receipt → IsAssisted head es p walk value kind receipt
is_assisted head es p walk value kinds.Absent receipt h = absurd (cc)
is_assisted head es p walk value kinds.Reserved receipt h = absurd (cc)
is_assisted head es p walk value (kinds.Table addr) receipt h =
    let lacks : Bool = lacks_dirty head.cfg walk value (kinds.Table addr) in
    record {
      event = assisted_by (lacks_flags head walk value (kinds.Table addr)) value (length es) (receipt_of es (assist_of es p walk lacks)) receipt h;
      used = λ fs v none. ap (λ b. cond b (Assisted (receipt_of fs (assist_of fs p walk (lacks_dirty head.cfg walk v (kinds.Table addr))))) (Entry v (length fs))) none;
    }
is_assisted head es p walk value (kinds.Leaf frame shift global_bit) receipt h =
    let leaf : Kind = kinds.Leaf frame shift global_bit in
    record {
      event = assisted_by (lacks_flags head walk value leaf) value (length es) (receipt_of es (assist_of es p walk (lacks_dirty head.cfg walk value leaf))) receipt h;
      used = λ fs v none. ap (λ b. cond b (Assisted (receipt_of fs (assist_of fs p walk (lacks_dirty head.cfg walk v leaf)))) (Entry v (length fs))) none;
    }

pub an_assist_is_enough : AnAssistIsEnough
an_assist_is_enough r p walk receipt head h =
    let a : ℕ = address_of walk in
    let value : ℕ = word_now r.events a in
    let kind : Kind = kind_of r.head.cfg walk.level value in
    let with_dirty : Bool = lacks_dirty r.head.cfg walk value kind in
    let assist : Event = assist_of r.events p walk with_dirty in
    let after : List Event = r.events ++ assist ∷ [] in
    let now : ℕ = word_now after a in
    let was = is_assisted r.head r.events p walk value kind receipt h in
    let word : now ≡ marked with_dirty value = word_assisted r.events p walk with_dirty in
    let same : kind_of r.head.cfg walk.level now ≡ kind = ap (kind_of r.head.cfg walk.level) word ∙ kind_stays r.head.cfg walk.level with_dirty value (omega (arith, head.low)) in
    let done : lacks_flags r.head walk now kind ≡ false = ap (λ v. lacks_flags r.head walk v kind) word ∙ flags_done r.head walk value kind in
    let P : Event → Type 0 = λ e. let fs = r.events ++ e ∷ [] in found_by r.head fs p walk ≡ Entry (word_now fs a) (length fs) in
    subst P (sym was.event) (ap (found_entry r.head after p walk now) same ∙ was.used after now done)
