-- A walk depends on the page of its address alone, of the size that its last entry maps.
use Rattle.std.proofs.Common.{◌≡◌, ℕ, zero, suc, ◌+◌, ◌-◌, ◌*◌, ◌/◌, ◌%◌, ◌^◌, ◌≤◌, Bool, true, false, not, cond, ◌&&◌, List, [], ◌∷◌, length, Some, None, Result, Ok, Err, MatchResult, inl, inr, refl, sym, ap, subst, ◌∙◌, arith}
use Rattle.std.proofs.Math.Nat.{div-div-eq-div-mul, mod-lt}
use Rattle.std.proofs.lemmas.Nat.{div-mul-add, div-add-mod', mod-pow-add, pow_pos, pow-add}
use Rattle.pg_entry.specs.declared.Cfg.{Cfg}
use Rattle.pg_entry.specs.declared.Level.{Level}
use Rattle.pg_entry.specs.declared.Level.TheVariants.{Four, Three, Two, One}
use Rattle.pg_entry.specs.declared.Rights.{Rights}
use Rattle.pg_entry.specs.declared.Kind.{Kind}
use Rattle.pg_entry.specs.declared.Kind.TheVariants.{Leaf, Table, Absent, Reserved}
use Rattle.pg_entry.specs.Bits.{has_bit}
use Rattle.pg_entry.specs.Kinds.{kind_of, is_reserved, leaf_shift, target, table_of}
use Rattle.pg_entry.specs.Permission.{joined}
use Rattle.pg_event.specs.declared.event.Event.{Event}
use Rattle.pg_event.specs.declared.event.Reason.{Reason}
use Rattle.pg_event.specs.declared.event.Reason.TheVariants as reasons
use Rattle.pg_event.specs.declared.event.Want.{Want}
use Rattle.pg_event.specs.declared.keys.StructureKey.{StructureKey}
use Rattle.pg_event.specs.declared.keys.TranslationKey.{TranslationKey}
use Rattle.pg_event.specs.declared.control.Control.{Control}
use Rattle.pg_event.specs.Heads.{Head}
use Rattle.pg_event.specs.Values.{mem_at, control_at}
use Rattle.pg_event.specs.Invalidation.{bits_from, level_shift, structure_key}
use Rattle.pg_event.specs.Walk.{Reading, readings, below, entry_address, root_of}
use Rattle.pg_event.specs.Witness.{leads_to, last_or, structures_survive, is_one_context, tables_accessed, walked, structure_survives}
use Rattle.pg_entry.specs.Kinds.{IsPageShift}
use Rattle.pg_chain.specs.Walked.{chain_of, chain_through, ended}
use Rattle.pg_check.specs.declared.lasting.Lasting.{Lasting}
use Rattle.pg_chain.specs.declared.steps.Chain.{Chain}
use Rattle.pg_check.specs.Remembered.{page_bits, page_start}
use Rattle.pg_check.specs.Lasting.{IsDroppedAt, LastsTo, IsWalk}

-- what the remainder is taken from
less : (a b c : ℕ) → a + b ≡ c → c - b ≡ a + 0
less a b c e = omega (arith, e)

the_rest : (k m : ℕ) → k ≤ m → k + (m - k) ≡ m
the_rest k m le = omega (arith, le)

page_number : (k la : ℕ) → page_start k la / 2 ^ k ≡ la / 2 ^ k
page_number k la =
    ap (λ n. n / 2 ^ k) (less (la / 2 ^ k * 2 ^ k) (la % 2 ^ k) la (div-add-mod' la (2 ^ k)))
    ∙ div-mul-add (la / 2 ^ k) (2 ^ k) 0 (pow_pos k)

region_from : (k la s : ℕ) → page_start k la / 2 ^ (k + s) ≡ la / 2 ^ (k + s)
region_from k la s =
    ap (λ n. page_start k la / n) (pow-add 2 k s) ∙ sym (div-div-eq-div-mul (page_start k la) (2 ^ k) (2 ^ s))
    ∙ ap (λ n. n / 2 ^ s) (page_number k la)
    ∙ div-div-eq-div-mul la (2 ^ k) (2 ^ s) ∙ ap (λ n. la / n) (sym (pow-add 2 k s))

-- an address and the first one of its page are of the same region of 2 ^ m bytes
same_region : (k la m : ℕ) → k ≤ m → page_start k la / 2 ^ m ≡ la / 2 ^ m
same_region k la m le = subst (λ (n : ℕ). page_start k la / 2 ^ n ≡ la / 2 ^ n) (the_rest k m le) (region_from k la (m - k))

-- the bits of a number from k + s on, below j + k
low_bits : (k j n s : ℕ) → n % 2 ^ (j + k) / 2 ^ (k + s) ≡ n / 2 ^ k % 2 ^ j / 2 ^ s
low_bits k j n s =
    ap (λ x. n % 2 ^ (j + k) / x) (pow-add 2 k s) ∙ sym (div-div-eq-div-mul (n % 2 ^ (j + k)) (2 ^ k) (2 ^ s))
    ∙ ap (λ x. x / 2 ^ k / 2 ^ s) (mod-pow-add n j k)
    ∙ ap (λ x. x / 2 ^ s) (div-mul-add (n / 2 ^ k % 2 ^ j) (2 ^ k) (n % 2 ^ k) (mod-lt n (pow_pos k)))

bits_alike : (k j la s : ℕ) → page_start k la % 2 ^ (j + k) / 2 ^ (k + s) ≡ la % 2 ^ (j + k) / 2 ^ (k + s)
bits_alike k j la s = low_bits k j (page_start k la) s ∙ ap (λ x. x % 2 ^ j / 2 ^ s) (page_number k la) ∙ sym (low_bits k j la s)

all_bits : (k : ℕ) → k ≤ 48 → 48 - k + k ≡ 48
all_bits k le = omega (arith, le)

same_bits : (k la m : ℕ) → k ≤ 48 → k ≤ m → bits_from m (page_start k la) ≡ bits_from m la
same_bits k la m small le =
    subst (λ (w : ℕ). page_start k la % 2 ^ w / 2 ^ m ≡ la % 2 ^ w / 2 ^ m) (all_bits k small)
    (subst (λ (n : ℕ). page_start k la % 2 ^ (48 - k + k) / 2 ^ n ≡ la % 2 ^ (48 - k + k) / 2 ^ n) (the_rest k m le)
    (bits_alike k (48 - k) la (m - k)))

same_address : (k table la : ℕ) (level : Level) → k ≤ level_shift level → entry_address table level (page_start k la) ≡ entry_address table level la
same_address k table la level le = ap (λ n. table + 8 * (n % 512)) (same_region k la (level_shift level) le)

abbrev with_prefix : ℕ → Level → ℕ → StructureKey
with_prefix pcid level n = record { pcid = pcid; level = level; prefix = n }

same_structure : (k pcid la : ℕ) (level : Level) → k ≤ 48 → k ≤ level_shift level → structure_key pcid level (page_start k la) ≡ structure_key pcid level la
same_structure k pcid la level small le = ap (λ n. with_prefix pcid level n) (same_bits k la (level_shift level) small le)

abbrev with_number : ℕ → ℕ → Bool → ℕ → TranslationKey
with_number pcid shift global n = record { pcid = pcid; shift = shift; number = n; global = global }

-- ---- levels whose entries map as much as a page

abbrev IsCoarse : ℕ → Level → List ℕ → Type 0
IsCoarse k level [] = Unit {0}
IsCoarse k level (w ∷ ws) = (k ≤ level_shift level) × IsCoarse k (below level) ws

abbrev AreCoarse : ℕ → List Reading → Type 0
AreCoarse k [] = Unit {0}
AreCoarse k (r ∷ rs) = (k ≤ level_shift r.level) × AreCoarse k rs

coarse_levels : (k : ℕ) (ws : List ℕ) → 12 ≤ k → k + 9 * length ws ≤ 48 → IsCoarse k Four ws
coarse_levels k [] low le = tt
coarse_levels k (a ∷ []) low le = (omega (arith, le), tt)
coarse_levels k (a ∷ b ∷ []) low le = (omega (arith, le), (omega (arith, le), tt))
coarse_levels k (a ∷ b ∷ c ∷ []) low le = (omega (arith, le), (omega (arith, le), (omega (arith, le), tt)))
coarse_levels k (a ∷ b ∷ c ∷ d ∷ []) low le = (omega (arith, le), (omega (arith, le), (omega (arith, le), (omega (arith, le), tt))))
coarse_levels k (a ∷ b ∷ c ∷ d ∷ e ∷ ws) low le = absurd (omega (arith, low, le))

coarse_readings : (k m : ℕ) (look : ℕ → ℕ → ℕ) (la : ℕ) (level : Level) (table : ℕ) (rights : Rights) (ws : List ℕ) → IsCoarse k level ws →
    AreCoarse k (readings m look la level table rights ws)
coarse_readings k m look la level table rights [] coarse = tt
coarse_readings k m look la level table rights (w ∷ ws) coarse =
    let value : ℕ = look w (entry_address table level la) in
    (coarse.0, coarse_readings k m look la (below level) (table_of m value) (joined rights value) ws coarse.1)

coarse_last : (k : ℕ) (r : Reading) (rs : List Reading) → AreCoarse k (r ∷ rs) → k ≤ level_shift (last_or r rs).level
coarse_last k r [] coarse = coarse.0
coarse_last k r (s ∷ rs) coarse = coarse_last k s rs coarse.1

-- ---- what a walk reads

same_readings : (k m : ℕ) (look : ℕ → ℕ → ℕ) (la : ℕ) (level : Level) (table : ℕ) (rights : Rights) (ws : List ℕ) → IsCoarse k level ws →
    readings m look (page_start k la) level table rights ws ≡ readings m look la level table rights ws
same_readings k m look la level table rights [] coarse = refl
same_readings k m look la level table rights (w ∷ ws) coarse =
    ap (λ address. record {
      level = level;
      address = address;
      value = look w address;
      moment = w;
      rights = joined rights (look w address);
    } ∷ readings m look (page_start k la) (below level) (table_of m (look w address)) (joined rights (look w address)) ws) (same_address k table la level coarse.0)
    ∙ (let value : ℕ = look w (entry_address table level la) in
    ap (λ (rs : List Reading). record {
      level = level;
      address = entry_address table level la;
      value = value;
      moment = w;
      rights = joined rights value;
    } ∷ rs) (same_readings k m look la (below level) (table_of m value) (joined rights value) ws coarse.1))

same_survival : (k : ℕ) (head : Head) (events : List Event) (p pcid la : ℕ) (rs : List Reading) → k ≤ 48 → AreCoarse k rs →
    structures_survive head events p pcid (page_start k la) rs ≡ structures_survive head events p pcid la rs
same_survival k head events p pcid la [] small coarse = refl
same_survival k head events p pcid la (r ∷ []) small coarse = refl
same_survival k head events p pcid la (r ∷ s ∷ rs) small coarse =
    ap (λ (key : StructureKey). structure_survives head events p key r.moment s.moment && structures_survive head events p pcid (page_start k la) (s ∷ rs)) (same_structure k pcid la r.level small coarse.0)
    ∙ ap (λ b. structure_survives head events p (structure_key pcid r.level la) r.moment s.moment && b) (same_survival k head events p pcid la (s ∷ rs) small coarse.1)

same_through : (k : ℕ) (head : Head) (events : List Event) (p la : ℕ) (want : Want) (pcid : ℕ) (ws : List ℕ) (rs : List Reading) → k ≤ 48 → AreCoarse k rs →
    chain_through head events p (page_start k la) want pcid ws rs ≡ chain_through head events p la want pcid ws rs
same_through k head events p la want pcid ws [] small coarse = refl
same_through k head events p la want pcid ws (r ∷ rs) small coarse =
    ap (λ kept. cond (not (leads_to head.cfg want (r ∷ rs))) (Err reasons.Entry) (cond (not (is_one_context head events p pcid ws)) (Err reasons.Context)
    (cond (not kept) (Err reasons.StructureDropped) (Ok (ended pcid (tables_accessed (r ∷ rs)) (last_or r rs)))))) (same_survival k head events p pcid la (r ∷ rs) small coarse)

same_chain : (k : ℕ) (head : Head) (events : List Event) (p la : ℕ) (ws : List ℕ) (want : Want) → k ≤ 48 → IsCoarse k Four ws →
    chain_of head events p (page_start k la) ws want ≡ chain_of head events p la ws want
same_chain k head events p la [] want small coarse = refl
same_chain k head events p la (w ∷ ws) want small coarse =
    let start : Control = control_at head events p w in
    let root = root_of start in
    ap (λ (rs : List Reading). chain_through head events p (page_start k la) want start.pcid (w ∷ ws) rs)
    (same_readings k head.cfg.m (mem_at events) la Four root.table root.rights (w ∷ ws) coarse)
    ∙ same_through k head events p la want start.pcid (w ∷ ws) (walked head events la start (w ∷ ws)) small
    (coarse_readings k head.cfg.m (mem_at events) la Four root.table root.rights (w ∷ ws) coarse)

-- what a walk reads last maps as much
abbrev EndsCoarse : ℕ → Result Chain Reason → Type 0
EndsCoarse k result = MatchResult result (λ c. k ≤ level_shift c.end.level) (λ reason. Unit {0})

either_ends : (k : ℕ) (b : Bool) (x y : Result Chain Reason) → EndsCoarse k x → EndsCoarse k y → EndsCoarse k (cond b x y)
either_ends k true x y here there = here
either_ends k false x y here there = there

through_ends : (k : ℕ) (head : Head) (events : List Event) (p la : ℕ) (want : Want) (pcid : ℕ) (ws : List ℕ) (rs : List Reading) → AreCoarse k rs →
    EndsCoarse k (chain_through head events p la want pcid ws rs)
through_ends k head events p la want pcid ws [] coarse = tt
through_ends k head events p la want pcid ws (r ∷ rs) coarse =
    either_ends k (not (leads_to head.cfg want (r ∷ rs))) (Err reasons.Entry) _ tt
    (either_ends k (not (is_one_context head events p pcid ws)) (Err reasons.Context) _ tt
    (either_ends k (not (structures_survive head events p pcid la (r ∷ rs))) (Err reasons.StructureDropped) _ tt (coarse_last k r rs coarse)))

chain_ends : (k : ℕ) (head : Head) (events : List Event) (p la : ℕ) (ws : List ℕ) (want : Want) → IsCoarse k Four ws →
    EndsCoarse k (chain_of head events p la ws want)
chain_ends k head events p la [] want coarse = tt
chain_ends k head events p la (w ∷ ws) want coarse =
    let start : Control = control_at head events p w in
    let root = root_of start in
    through_ends k head events p la want start.pcid (w ∷ ws) (walked head events la start (w ∷ ws))
    (coarse_readings k head.cfg.m (mem_at events) la Four root.table root.rights (w ∷ ws) coarse)

-- ---- how long it lasts

-- a leaf is of one of the three sizes
abbrev pub IsPaged : Kind → Type 0
IsPaged (Leaf frame shift global_bit) = IsPageShift shift
IsPaged (Table addr) = Unit {0}
IsPaged Absent = Unit {0}
IsPaged Reserved = Unit {0}

chosen_paged : (m e shift : ℕ) (b : Bool) → IsPageShift shift → IsPaged (target m e (cond b (Some shift) None))
chosen_paged m e shift true page = page
chosen_paged m e shift false page = tt

target_paged : (m e : ℕ) (level : Level) → IsPaged (target m e (leaf_shift level e))
target_paged m e Four = tt
target_paged m e Three = chosen_paged m e 30 (has_bit e 7) (inr (inr refl))
target_paged m e Two = chosen_paged m e 21 (has_bit e 7) (inr (inl refl))
target_paged m e One = inl refl

either_paged : (b : Bool) (k l : Kind) → IsPaged k → IsPaged l → IsPaged (cond b k l)
either_paged true k l x y = x
either_paged false k l x y = y

pub kind_paged : (cfg : Cfg) (level : Level) (e : ℕ) → IsPaged (kind_of cfg level e)
kind_paged cfg level e =
    either_paged (not (has_bit e 0)) Absent (cond (is_reserved cfg level e) Reserved (target cfg.m e (leaf_shift level e))) tt
    (either_paged (is_reserved cfg level e) Reserved (target cfg.m e (leaf_shift level e)) tt (target_paged cfg.m e level))

-- a leaf's page has 2 ^ k bytes or more
abbrev IsWide : ℕ → Kind → Type 0
IsWide k (Leaf frame shift global_bit) = k ≤ shift
IsWide k (Table addr) = Unit {0}
IsWide k Absent = Unit {0}
IsWide k Reserved = Unit {0}

chosen_wide : (k m e shift : ℕ) (b : Bool) → k ≤ shift → IsWide k (target m e (cond b (Some shift) None))
chosen_wide k m e shift true le = le
chosen_wide k m e shift false le = tt

target_wide : (k m e : ℕ) (level : Level) → k ≤ level_shift level → IsWide k (target m e (leaf_shift level e))
target_wide k m e Four le = tt
target_wide k m e Three le = chosen_wide k m e 30 (has_bit e 7) le
target_wide k m e Two le = chosen_wide k m e 21 (has_bit e 7) le
target_wide k m e One le = le

either_wide : (k : ℕ) (b : Bool) (x y : Kind) → IsWide k x → IsWide k y → IsWide k (cond b x y)
either_wide k true x y here there = here
either_wide k false x y here there = there

kind_wide : (k : ℕ) (cfg : Cfg) (level : Level) (e : ℕ) → k ≤ level_shift level → IsWide k (kind_of cfg level e)
kind_wide k cfg level e le =
    either_wide k (not (has_bit e 0)) Absent (cond (is_reserved cfg level e) Reserved (target cfg.m e (leaf_shift level e))) tt
    (either_wide k (is_reserved cfg level e) Reserved (target cfg.m e (leaf_shift level e)) tt (target_wide k cfg.m e level le))

-- no event drops a translation for one of its addresses alone
same_lasting : (k : ℕ) (head : Head) (events : List Event) (p la : ℕ) (l : Lasting) (kind : Kind) → k ≤ 48 → IsWide k kind →
    LastsTo head events p (page_start k la) l kind → LastsTo head events p la l kind
same_lasting k head events p la l (Leaf frame shift global_bit) small wide lasts =
    (lasts.0, subst (λ (n : ℕ). IsDroppedAt head events p (with_number l.chain.pcid shift l.global n) l.chain.end.moment l.asked l.dropped) (same_bits k la shift small wide) lasts.1)
same_lasting k head events p la l (Table addr) small wide lasts = tt
same_lasting k head events p la l Absent small wide lasts = tt
same_lasting k head events p la l Reserved small wide lasts = tt

small_page : (k n : ℕ) → k + 9 * n ≤ 48 → k ≤ 48
small_page k n le = omega (arith, le)

-- what a walk to the first address of a page comes to, a walk to each of its addresses does, where
-- each entry that it reads maps as much
walk_of_region : (k : ℕ) (head : Head) (events : List Event) (p la : ℕ) (want : Want) (ws : List ℕ) (result : Result Lasting Reason) → 12 ≤ k → k + 9 * length ws ≤ 48 →
    IsWalk head events p (page_start k la) want ws result → IsWalk head events p la want ws result
walk_of_region k head events p la want ws (Ok l) low le walk =
    let end = l.chain.end in
    let small = small_page k (length ws) le in
    let coarse = coarse_levels k ws low le in
    let ends : EndsCoarse k (Ok l.chain) = subst (λ (x : Result Chain Reason). EndsCoarse k x) walk.0 (chain_ends k head events p (page_start k la) ws want coarse) in (
      sym (same_chain k head events p la ws want small coarse) ∙ walk.0,
      same_lasting k head events p la l (kind_of head.cfg end.level end.value) small (kind_wide k head.cfg end.level end.value ends) walk.1,
    )
walk_of_region k head events p la want ws (Err reason) low le walk =
    sym (same_chain k head events p la ws want (small_page k (length ws) le) (coarse_levels k ws low le)) ∙ walk

page_fits : (n : ℕ) → n ≤ 4 → (12 ≤ page_bits n) × (page_bits n + 9 * n ≤ 48)
page_fits zero le = (omega arith, omega arith)
page_fits (suc zero) le = (omega arith, omega arith)
page_fits (suc (suc zero)) le = (omega arith, omega arith)
page_fits (suc (suc (suc zero))) le = (omega arith, omega arith)
page_fits (suc (suc (suc (suc zero)))) le = (omega arith, omega arith)
page_fits (suc (suc (suc (suc (suc n))))) le = absurd (omega (arith, le))

-- the same of the page that the last of its entries maps
pub walk_of_page : (head : Head) (events : List Event) (p la : ℕ) (want : Want) (ws : List ℕ) (result : Result Lasting Reason) → length ws ≤ 4 →
    IsWalk head events p (page_start (page_bits (length ws)) la) want ws result → IsWalk head events p la want ws result
walk_of_page head events p la want ws result few walk =
    let fits = page_fits (length ws) few in
    walk_of_region (page_bits (length ws)) head events p la want ws result fits.0 fits.1 walk

-- the walk itself, to the first address of the page
pub chain_of_page : (head : Head) (events : List Event) (p la : ℕ) (want : Want) (ws : List ℕ) → length ws ≤ 4 →
    chain_of head events p (page_start (page_bits (length ws)) la) ws want ≡ chain_of head events p la ws want
chain_of_page head events p la want ws few =
    let k = page_bits (length ws) in
    let fits = page_fits (length ws) few in
    same_chain k head events p la ws want (small_page k (length ws) fits.1) (coarse_levels k ws fits.0 fits.1)
