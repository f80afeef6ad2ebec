-- A walk comes to the same in runs that read alike at its moments.
use Rattle.std.proofs.Common.{◌≡◌, ℕ, zero, suc, ◌+◌, ◌-◌, ◌<◌, ◌≤◌, Bool, true, not, cond, leb, ◌&&◌, ◌||◌, ◌==◌, List, [], ◌∷◌, ◌++◌, length, Option, Some, None, Ok, Err, refl, sym, ap, ◌∙◌, arith}
use Rattle.std.specs.Prelude.{slice_get, fold}
use Rattle.std.specs.List.{AllByRecursion}
use Rattle.std.proofs.lemmas.Bool.{and_parts, and_from, leb-true, le-leb}
use Rattle.std.proofs.lemmas.List.{take-append-le}
use Rattle.pg_entry.specs.declared.Rights.{Rights}
use Rattle.pg_entry.specs.declared.Level.{Level}
use Rattle.pg_entry.specs.declared.Level.TheVariants.{Four, Three, Two, One}
use Rattle.pg_entry.specs.declared.Kind.{Kind}
use Rattle.pg_entry.specs.declared.Kind.TheVariants.{Leaf, Table, Absent, Reserved}
use Rattle.pg_entry.specs.Kinds.{table_of}
use Rattle.pg_entry.specs.Permission.{joined}
use Rattle.pg_event.specs.declared.event.Event.{Event}
use Rattle.pg_event.specs.declared.event.Reason.TheVariants as reasons
use Rattle.pg_event.specs.declared.event.Want.{Want}
use Rattle.pg_event.specs.declared.control.Control.{Control}
use Rattle.pg_event.specs.Heads.{Head}
use Rattle.pg_event.specs.Values.{written, controlled, started, mem_at, control_at}
use Rattle.pg_event.specs.Invalidation.{structure_key, translation_key}
use Rattle.pg_event.specs.Walk.{Reading, readings, below, entry_address, root_of}
use Rattle.pg_event.specs.Witness.{leads_to, is_in_order, is_one_context, last_or, any_from, takes_out, survives, structures_survive, tables_accessed, walked, structure_survives, translation_survives}
use Rattle.pg_inval.specs.Drops.{CacheEntry, Structure, Translation, MayBeCached, IsTableLevel, must_drop}
use Rattle.pg_inval.specs.Lists.{IsFirstDrop}
use Rattle.pg_inval.proofs.AnyFrom.{not-not}
use Rattle.pg_chain.specs.declared.past.Past.{Past}
use Rattle.pg_chain.specs.Standing.{IsPast}
use Rattle.pg_chain.specs.Walked.{chain_of, chain_through, ended}
use Rattle.pg_check.specs.declared.lasting.Lasting.{Lasting}
use Rattle.pg_check.specs.Lasting.{LastsTo}
use Rattle.pg_check.proofs.Pages.{IsPaged}

-- two runs under one header read alike at the moments up to one
pub record AreAlike (n : ℕ) (head : Head) (xs ys : List Event) : Type 0 where
  pub memory : (w a : ℕ) → w ≤ n → mem_at xs w a ≡ mem_at ys w a
  pub controls : (p w : ℕ) → w ≤ n → control_at head xs p w ≡ control_at head ys p w
  pub drops : (p : ℕ) (entry : CacheEntry) (from to : ℕ) → from ≤ n → to ≤ n → MayBeCached entry →
      survives head xs p (must_drop head.cfg.rules entry) from to ≡ survives head ys p (must_drop head.cfg.rules entry) from to

pub alike-next : (n : ℕ) (head : Head) (xs ys zs : List Event) → AreAlike n head xs ys → AreAlike n head ys zs → AreAlike n head xs zs
alike-next n head xs ys zs h k = record {
  memory = λ w a le. h.memory w a le ∙ k.memory w a le;
  controls = λ p w le. h.controls p w le ∙ k.controls p w le;
  drops = λ p entry from to low high may. h.drops p entry from to low high may ∙ k.drops p entry from to low high may;
}

-- ---- runs that a past stands for

not_same : (a b c : Bool) → c ≡ not a → c ≡ not b → a ≡ b
not_same a b c h k = sym (not-not a) ∙ ap not (sym h ∙ k) ∙ not-not b

pub alike-past : (past : Past) (n : ℕ) (head : Head) (xs ys : List Event) → IsPast past head xs → IsPast past head ys → AreAlike n head xs ys
alike-past past n head xs ys h k = record {
  memory = λ w a le. sym (h.versions.values w a) ∙ k.versions.values w a;
  controls = λ p w le. sym (h.controls.controls p w) ∙ k.controls.controls p w;
  drops = λ p entry from to low high may. not_same (survives head xs p (must_drop head.cfg.rules entry) from to) (survives head ys p (must_drop head.cfg.rules entry) from to) _ (h.drops.drops p entry from to may) (k.drops.drops p entry from to may);
}

pub same-head : (past : Past) (head other : Head) (xs ys : List Event) → IsPast past head xs → IsPast past other ys → head ≡ other
same-head past head other xs ys h k = sym h.controls.settings ∙ k.controls.settings

-- ---- a run and a longer one

got : (xs ys : List Event) (j : ℕ) → j < length xs → slice_get xs j ≡ slice_get (xs ++ ys) j
got [] ys j lt = absurd (omega arith)
got (x ∷ xs) ys zero lt = refl
got (x ∷ xs) ys (suc j) lt = got xs ys j (omega arith)

same_any : (f g : ℕ → Bool) (from n i : ℕ) → ((j : ℕ) → j < i → f j ≡ g j) → from + n ≤ i → any_from f from n ≡ any_from g from n
same_any f g from zero i h le = refl
same_any f g from (suc n) i h le =
    let here : f from ≡ g from = h from (omega arith) in
    let others : any_from f (from + 1) n ≡ any_from g (from + 1) n = same_any f g (from + 1) n i h (omega arith) in
    ap (λ (b : Bool). b || any_from f (from + 1) n) here ∙ ap (λ (b : Bool). g from || b) others

longer_controls : (head : Head) (xs more : List Event) (p w : ℕ) → w ≤ length xs → control_at head xs p w ≡ control_at head (xs ++ more) p w
longer_controls head xs more p w le = ap (λ (es : List Event). fold (controlled head.cfg.m p) (started head.cfg.m (slice_get head.processors p)) es) (sym (take-append-le w xs more le))

longer_drops : (head : Head) (xs more : List Event) (p : ℕ) (test : Control → Event → Bool) (from to : ℕ) → from ≤ length xs → to ≤ length xs →
    survives head xs p test from to ≡ survives head (xs ++ more) p test from to
longer_drops head xs more p test from to low high =
    let at : (j : ℕ) → j < length xs → takes_out p test (control_at head xs p j) (slice_get xs j) ≡ takes_out p test (control_at head (xs ++ more) p j) (slice_get (xs ++ more) j) = λ j lt.
    ap (λ (c : Control). takes_out p test c (slice_get xs j)) (longer_controls head xs more p j (omega (arith, lt)))
    ∙ ap (takes_out p test (control_at head (xs ++ more) p j)) (got xs more j lt) in
    let within : from + (to - from) ≤ length xs = omega (arith, low, high) in
    ap not (same_any (λ j. takes_out p test (control_at head xs p j) (slice_get xs j)) (λ j. takes_out p test (control_at head (xs ++ more) p j) (slice_get (xs ++ more) j)) from (to - from) (length xs) at within)

pub alike-longer : (n : ℕ) (head : Head) (xs more : List Event) → n ≤ length xs → AreAlike n head xs (xs ++ more)
alike-longer n head xs more within = record {
  memory = λ w a le. ap (λ (es : List Event). fold (written a) 0 es) (sym (take-append-le w xs more (omega (arith, le, within))));
  controls = λ p w le. longer_controls head xs more p w (omega (arith, le, within));
  drops = λ p entry from to low high may. longer_drops head xs more p (must_drop head.cfg.rules entry) from to (omega (arith, low, within)) (omega (arith, high, within));
}

-- ---- what a walk reads

-- moments, none above the last
abbrev AreUpTo : ℕ → List ℕ → Type 0
AreUpTo n ws = AllByRecursion (λ w. w ≤ n) ws

in_order : (ws : List ℕ) (n : ℕ) → is_in_order ws n ≡ true → AreUpTo n ws
in_order [] n h = tt
in_order (w ∷ []) n h = (leb-true _ _ h, tt)
in_order (w ∷ x ∷ ws) n h =
    let p = and_parts (leb w x) (is_in_order (x ∷ ws) n) h in
    let others = in_order (x ∷ ws) n p.1 in
    let le : w ≤ x = leb-true _ _ p.0 in
    let next : x ≤ n = others.0 in
    (omega arith, others)

-- moments up to one are also up to a later one
pub in_order-later : (ws : List ℕ) (n m : ℕ) → n ≤ m → is_in_order ws n ≡ true → is_in_order ws m ≡ true
in_order-later [] n m le h = refl
in_order-later (w ∷ []) n m le h = let low : w ≤ n = leb-true _ _ h in le-leb w m (omega (arith, le, low))
in_order-later (w ∷ x ∷ ws) n m le h =
    let p = and_parts (leb w x) (is_in_order (x ∷ ws) n) h in
    and_from (leb w x) (is_in_order (x ∷ ws) m) p.0 (in_order-later (x ∷ ws) n m le p.1)

abbrev read_here : Level → ℕ → ℕ → Rights → ℕ → Reading
read_here level address w rights value = record { level = level; address = address; value = value; moment = w; rights = joined rights value }

alike_readings : (n : ℕ) (head : Head) (xs ys : List Event) (la : ℕ) (level : Level) (table : ℕ) (rights : Rights) (ws : List ℕ) → AreAlike n head xs ys → AreUpTo n ws →
    readings head.cfg.m (mem_at xs) la level table rights ws ≡ readings head.cfg.m (mem_at ys) la level table rights ws
alike_readings n head xs ys la level table rights [] alike up = refl
alike_readings n head xs ys la level table rights (w ∷ ws) alike up =
    let m : ℕ = head.cfg.m in
    let address : ℕ = entry_address table level la in
    let v : ℕ = mem_at ys w address in
    let value : mem_at xs w address ≡ v = alike.memory w address up.0 in
    ap (λ (v : ℕ). read_here level address w rights v ∷ readings m (mem_at xs) la (below level) (table_of m v) (joined rights v) ws) value
    ∙ ap (λ (rs : List Reading). read_here level address w rights v ∷ rs) (alike_readings n head xs ys la (below level) (table_of m v) (joined rights v) ws alike up.1)

-- so many levels are read from one on
abbrev levels_from : Level → ℕ
levels_from Four = 4
levels_from Three = 3
levels_from Two = 2
levels_from One = 1

table_level : (level : Level) (n : ℕ) → suc (suc n) ≤ levels_from level → IsTableLevel level
table_level Four n h = tt
table_level Three n h = tt
table_level Two n h = tt
table_level One n h = absurd (omega arith)

fewer_below : (level : Level) (n : ℕ) → suc (suc n) ≤ levels_from level → suc n ≤ levels_from (below level)
fewer_below Four n h = omega arith
fewer_below Three n h = omega arith
fewer_below Two n h = omega arith
fewer_below One n h = absurd (omega arith)

alike_structures : (n : ℕ) (head : Head) (xs ys : List Event) (p pcid la m : ℕ) (look : ℕ → ℕ → ℕ) (level : Level) (table : ℕ) (rights : Rights) (ws : List ℕ) →
    AreAlike n head xs ys → AreUpTo n ws → length ws ≤ levels_from level →
    structures_survive head xs p pcid la (readings m look la level table rights ws) ≡ structures_survive head ys p pcid la (readings m look la level table rights ws)
alike_structures n head xs ys p pcid la m look level table rights [] alike up few = refl
alike_structures n head xs ys p pcid la m look level table rights (w ∷ []) alike up few = refl
alike_structures n head xs ys p pcid la m look level table rights (w ∷ x ∷ ws) alike up few =
    let value : ℕ = look w (entry_address table level la) in
    let rest : List Reading = readings m look la (below level) (table_of m value) (joined rights value) (x ∷ ws) in
    ap (λ (b : Bool). b && structures_survive head xs p pcid la rest)
    (alike.drops p (Structure (structure_key pcid level la)) w x up.0 up.1.0 (table_level level (length ws) few))
    ∙ ap (λ (b : Bool). structure_survives head ys p (structure_key pcid level la) w x && b)
    (alike_structures n head xs ys p pcid la m look (below level) (table_of m value) (joined rights value) (x ∷ ws) alike up.1 (fewer_below level (length ws) few))

alike_context : (n : ℕ) (head : Head) (xs ys : List Event) (p pcid : ℕ) (ws : List ℕ) → AreAlike n head xs ys → AreUpTo n ws →
    is_one_context head xs p pcid ws ≡ is_one_context head ys p pcid ws
alike_context n head xs ys p pcid [] alike up = refl
alike_context n head xs ys p pcid (w ∷ ws) alike up =
    ap (λ (c : Control). (c.pcid == pcid) && is_one_context head xs p pcid ws) (alike.controls p w up.0)
    ∙ ap (λ (b : Bool). ((control_at head ys p w).pcid == pcid) && b) (alike_context n head xs ys p pcid ws alike up.1)

alike_through : (head : Head) (xs ys : List Event) (p la : ℕ) (want : Want) (pcid : ℕ) (ws : List ℕ) (rs : List Reading) →
    is_one_context head xs p pcid ws ≡ is_one_context head ys p pcid ws →
    structures_survive head xs p pcid la rs ≡ structures_survive head ys p pcid la rs →
    chain_through head xs p la want pcid ws rs ≡ chain_through head ys p la want pcid ws rs
alike_through head xs ys p la want pcid ws [] context kept = refl
alike_through head xs ys p la want pcid ws (r ∷ rs) context kept =
    ap (λ (b : Bool). cond (not (leads_to head.cfg want (r ∷ rs))) (Err reasons.Entry) (cond (not b) (Err reasons.Context)
    (cond (not (structures_survive head xs p pcid la (r ∷ rs))) (Err reasons.StructureDropped) (Ok (ended pcid (tables_accessed (r ∷ rs)) (last_or r rs)))))) context
    ∙ ap (λ (b : Bool). cond (not (leads_to head.cfg want (r ∷ rs))) (Err reasons.Entry) (cond (not (is_one_context head ys p pcid ws)) (Err reasons.Context)
    (cond (not b) (Err reasons.StructureDropped) (Ok (ended pcid (tables_accessed (r ∷ rs)) (last_or r rs)))))) kept

-- a walk comes to the same
pub alike_chain : (n : ℕ) (head : Head) (xs ys : List Event) (p la : ℕ) (ws : List ℕ) (want : Want) →
    AreAlike n head xs ys → is_in_order ws n ≡ true → length ws ≤ 4 → chain_of head xs p la ws want ≡ chain_of head ys p la ws want
alike_chain n head xs ys p la [] want alike ordered few = refl
alike_chain n head xs ys p la (w ∷ ws) want alike ordered few =
    let up : AreUpTo n (w ∷ ws) = in_order (w ∷ ws) n ordered in
    let start : Control = control_at head ys p w in
    let root = root_of start in
    ap (λ (c : Control). chain_through head xs p la want c.pcid (w ∷ ws) (walked head xs la c (w ∷ ws))) (alike.controls p w up.0)
    ∙ ap (λ (rs : List Reading). chain_through head xs p la want start.pcid (w ∷ ws) rs) (alike_readings n head xs ys la Four root.table root.rights (w ∷ ws) alike up)
    ∙ alike_through head xs ys p la want start.pcid (w ∷ ws) (walked head ys la start (w ∷ ws)) (alike_context n head xs ys p start.pcid (w ∷ ws) alike up)
    (alike_structures n head xs ys p start.pcid la head.cfg.m (mem_at ys) Four root.table root.rights (w ∷ ws) alike up few)

-- ---- how long it lasts

alike_drop : (f g : ℕ → ℕ → Bool) (n from to : ℕ) (found : Option ℕ) → ((a b : ℕ) → a ≤ n → b ≤ n → f a b ≡ g a b) → from ≤ n → to ≤ n → IsFirstDrop f from to found → IsFirstDrop g from to found
alike_drop f g n from to None same low high first = sym (same from to low high) ∙ first
alike_drop f g n from to (Some m) same low high first =
    let here : m < to = first.1 in
    let at : m ≤ n = omega (arith, here, high) in
    let after : m + 1 ≤ n = omega (arith, here, high) in
    (first.0, first.1, sym (same from m low at) ∙ first.2, sym (same m (m + 1) at after) ∙ first.3)

-- the translation that it gives lasts as long, as far as that was asked
pub alike_lasts : (n : ℕ) (head : Head) (xs ys : List Event) (p la : ℕ) (l : Lasting) (k : Kind) → AreAlike n head xs ys → l.chain.end.moment ≤ n → l.asked ≤ n → IsPaged k →
    LastsTo head xs p la l k → LastsTo head ys p la l k
alike_lasts n head xs ys p la l (Leaf frame shift global_bit) alike read asked paged lasts = (
  lasts.0 ∙ ap (λ (c : Control). global_bit && c.pge) (alike.controls p l.chain.end.moment read),
  let key = translation_key l.chain.pcid shift l.global la in
      alike_drop (λ a b. not (translation_survives head xs p key a b)) (λ a b. not (translation_survives head ys p key a b))
      n l.chain.end.moment l.asked l.dropped (λ a b low high. ap not (alike.drops p (Translation key) a b low high paged)) read asked lasts.1,
)
alike_lasts n head xs ys p la l (Table addr) alike read asked paged lasts = tt
alike_lasts n head xs ys p la l Absent alike read asked paged lasts = tt
alike_lasts n head xs ys p la l Reserved alike read asked paged lasts = tt
