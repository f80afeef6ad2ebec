-- An invalidation takes out an entry where one of the entry's keys is among its own.
use Rattle.std.proofs.Common.{◌≡◌, ℕ, Bool, true, false, ◌&&◌, ◌||◌, nat_eq, List, ◌++◌, refl, ap, sym, subst, ◌∙◌, inl, inr}
use Rattle.std.specs.List.{list_any}
use Rattle.std.proofs.lemmas.List.Folds.{list_any-append}
use Rattle.std.proofs.lemmas.Bool.{eqb-true, eq-eqb, cases_Bool, false_from_ne_true, false≢true}
use Rattle.pg_entry.specs.declared.Level.{Level}
use Rattle.pg_entry.specs.declared.Level.TheVariants.{Four, Three, Two, One}
use Rattle.pg_event.specs.declared.keys.StructureKey.{StructureKey}
use Rattle.pg_event.specs.declared.keys.TranslationKey.{TranslationKey}
use Rattle.pg_event.specs.declared.invalidation.Invalidation.{Invalidation}
use Rattle.pg_event.specs.declared.invalidation.Invalidation.TheVariants.{Nothing, Address, Page, Pcid, Everything}
use Rattle.pg_event.specs.Invalidation.{level_shift, bits_from}
use Rattle.pg_event.specs.Meaning.{takes_structure, takes_translation}
use Rattle.pg_inval.specs.declared.key.DropKey.{DropKey}
use Rattle.pg_inval.specs.declared.key.DropKey.TheVariants as keys
use Rattle.pg_inval.specs.Keys.{is_same_key, has_key, structure_keys, translation_keys, structures_for, locals_for, globals_for, given, dropped_keys}
use Rattle.pg_entry.specs.Kinds.{IsPageShift}
use Rattle.pg_inval.specs.Drops.{CacheEntry, Structure, Translation, MayBeCached, keys_of}

abbrev pub is_hit : List DropKey → List DropKey → Bool
is_hit own ks = list_any (has_key own) ks

or_false : (b : Bool) → (b || false) ≡ b
or_false true = refl
or_false false = refl

never : (b : Bool) → (b && false) ≡ false
never true = refl
never false = refl

and_true : (b : Bool) → (b && true) ≡ b
and_true true = refl
and_true false = refl

pub flip : (x y : ℕ) → nat_eq x y ≡ nat_eq y x
flip x y =
    elim (cases_Bool (nat_eq x y)) [
      | inl same ↦ same ∙ sym (eq-eqb y x (sym (eqb-true x y same)))
      | inr other ↦ other ∙ sym (false_from_ne_true (nat_eq y x) (λ h. false≢true (sym other ∙ eq-eqb x y (sym (eqb-true y x h)))))
    ]

-- whether the entry of one event is that of one key
flips : (a : Bool) (c d x y : ℕ) → (a && (nat_eq c d && nat_eq x y)) ≡ (a && (nat_eq d c && nat_eq y x))
flips a c d x y = ap (λ b. a && (b && nat_eq x y)) (flip c d) ∙ ap (λ b. a && (nat_eq d c && b)) (flip x y)

-- ---- what goes at an address, by its parts

pub has_given : (go : Bool) (ks : List DropKey) (k : DropKey) → has_key (given go ks) k ≡ (go && has_key ks k)
has_given true ks k = refl
has_given false ks k = refl

pub address_has : (p pcid la : ℕ) (s t g : Bool) (k : DropKey) →
    has_key (dropped_keys p (Address pcid la s t g)) k
    ≡ ((s && has_key (structures_for p pcid la) k) || ((t && has_key (locals_for p pcid la) k) || (g && has_key (globals_for p la) k)))
address_has p pcid la s t g k =
    let own : DropKey → Bool = λ d. is_same_key d k in
    let structures : List DropKey = given s (structures_for p pcid la) in
    let locals : List DropKey = given t (locals_for p pcid la) in
    let globals : List DropKey = given g (globals_for p la) in
    list_any-append own structures (locals ++ globals)
    ∙ ap (λ b. has_key structures k || b) (list_any-append own locals globals)
    ∙ ap (λ b. b || (has_key locals k || has_key globals k)) (has_given s (structures_for p pcid la) k)
    ∙ ap (λ b. (s && has_key (structures_for p pcid la) k) || (b || has_key globals k)) (has_given t (locals_for p pcid la) k)
    ∙ ap (λ b. (s && has_key (structures_for p pcid la) k) || ((t && has_key (locals_for p pcid la) k) || b)) (has_given g (globals_for p la) k)

-- a key that is of none of the parts, or of one alone
pub of_none : (s t g : Bool) → ((s && false) || ((t && false) || (g && false))) ≡ false
of_none s t g = ap (λ b. b || ((t && false) || (g && false))) (never s) ∙ ap (λ b. b || (g && false)) (never t) ∙ never g

pub of_structures : (s t g x : Bool) → ((s && x) || ((t && false) || (g && false))) ≡ (s && x)
of_structures s t g x = ap (λ b. (s && x) || (b || (g && false))) (never t) ∙ ap (λ b. (s && x) || b) (never g) ∙ or_false (s && x)

pub of_locals : (s t g x : Bool) → ((s && false) || ((t && x) || (g && false))) ≡ (t && x)
of_locals s t g x = ap (λ b. b || ((t && x) || (g && false))) (never s) ∙ ap (λ b. (t && x) || b) (never g) ∙ or_false (t && x)

pub of_globals : (s t g x : Bool) → ((s && false) || ((t && false) || (g && x))) ≡ (g && x)
of_globals s t g x = ap (λ b. b || ((t && false) || (g && x))) (never s) ∙ ap (λ b. b || (g && x)) (never t)

-- ---- the entries that would be used for an address

structures_hit : (q p c pcid la prefix : ℕ) (level : Level) → MayBeCached (Structure (record { pcid = pcid; level = level; prefix = prefix })) →
    has_key (structures_for q c la) (keys.Structure (level_shift level) p pcid prefix) ≡ (nat_eq q p && (nat_eq pcid c && nat_eq prefix (bits_from (level_shift level) la)))
structures_hit q p c pcid la prefix Four may = or_false _ ∙ flips (nat_eq q p) c pcid (bits_from 39 la) prefix
structures_hit q p c pcid la prefix Three may = or_false _ ∙ flips (nat_eq q p) c pcid (bits_from 30 la) prefix
structures_hit q p c pcid la prefix Two may = or_false _ ∙ flips (nat_eq q p) c pcid (bits_from 21 la) prefix
structures_hit q p c pcid la prefix One may = absurd may

locals_hit : (q p c pcid la number shift : ℕ) → IsPageShift shift →
    has_key (locals_for q c la) (keys.Local shift p pcid number) ≡ (nat_eq q p && (nat_eq pcid c && nat_eq number (bits_from shift la)))
locals_hit q p c pcid la number shift (inl e) =
    subst (λ (s : ℕ). has_key (locals_for q c la) (keys.Local s p pcid number) ≡ (nat_eq q p && (nat_eq pcid c && nat_eq number (bits_from s la)))) (sym e)
    (or_false _ ∙ flips (nat_eq q p) c pcid (bits_from 12 la) number)
locals_hit q p c pcid la number shift (inr (inl e)) =
    subst (λ (s : ℕ). has_key (locals_for q c la) (keys.Local s p pcid number) ≡ (nat_eq q p && (nat_eq pcid c && nat_eq number (bits_from s la)))) (sym e)
    (or_false _ ∙ flips (nat_eq q p) c pcid (bits_from 21 la) number)
locals_hit q p c pcid la number shift (inr (inr e)) =
    subst (λ (s : ℕ). has_key (locals_for q c la) (keys.Local s p pcid number) ≡ (nat_eq q p && (nat_eq pcid c && nat_eq number (bits_from s la)))) (sym e)
    (or_false _ ∙ flips (nat_eq q p) c pcid (bits_from 30 la) number)

one_flip : (a : Bool) (x y : ℕ) → (a && nat_eq x y) ≡ (a && nat_eq y x)
one_flip a x y = ap (λ b. a && b) (flip x y)

globals_hit : (q p la number shift : ℕ) → IsPageShift shift →
    has_key (globals_for q la) (keys.Global shift p number) ≡ (nat_eq q p && nat_eq number (bits_from shift la))
globals_hit q p la number shift (inl e) =
    subst (λ (s : ℕ). has_key (globals_for q la) (keys.Global s p number) ≡ (nat_eq q p && nat_eq number (bits_from s la))) (sym e)
    (or_false _ ∙ one_flip (nat_eq q p) (bits_from 12 la) number)
globals_hit q p la number shift (inr (inl e)) =
    subst (λ (s : ℕ). has_key (globals_for q la) (keys.Global s p number) ≡ (nat_eq q p && nat_eq number (bits_from s la))) (sym e)
    (or_false _ ∙ one_flip (nat_eq q p) (bits_from 21 la) number)
globals_hit q p la number shift (inr (inr e)) =
    subst (λ (s : ℕ). has_key (globals_for q la) (keys.Global s p number) ≡ (nat_eq q p && nat_eq number (bits_from s la))) (sym e)
    (or_false _ ∙ one_flip (nat_eq q p) (bits_from 30 la) number)

-- ---- structure entries

first_none : (x y z : Bool) → x ≡ false → y ≡ false → (x || (y || (z || false))) ≡ z
first_none x y z a b = ap (λ v. v || (y || (z || false))) a ∙ ap (λ v. v || (z || false)) b ∙ or_false z

moved : (s q a b : Bool) → (s && (q && (a && b))) ≡ (q && (s && a && b))
moved true q a b = refl
moved false q a b = sym (never q)

abbrev structure_of : ℕ → Level → ℕ → StructureKey
structure_of pcid level prefix = record { pcid = pcid; level = level; prefix = prefix }

structure_table : (i : Invalidation) (q p pcid prefix : ℕ) (level : Level) → MayBeCached (Structure (structure_of pcid level prefix)) →
    is_hit (dropped_keys q i) (structure_keys p (structure_of pcid level prefix)) ≡ (nat_eq q p && takes_structure i (structure_of pcid level prefix))
structure_table Nothing q p pcid prefix level may = sym (never (nat_eq q p))
structure_table (Address c la s t g) q p pcid prefix level may =
    let own : DropKey = keys.Structure (level_shift level) p pcid prefix in
    first_none _ _ _ (address_has q c la s t g (keys.NotGlobal p) ∙ of_none s t g) (address_has q c la s t g (keys.StructuresOf p pcid) ∙ of_none s t g)
    ∙ address_has q c la s t g own ∙ of_structures s t g (has_key (structures_for q c la) own)
    ∙ ap (λ b. s && b) (structures_hit q p c pcid la prefix level may)
    ∙ moved s (nat_eq q p) (nat_eq pcid c) (nat_eq prefix (bits_from (level_shift level) la))
structure_table (Page c la) q p pcid prefix level may = or_false _ ∙ or_false _ ∙ one_flip (nat_eq q p) c pcid
structure_table (Pcid c) q p pcid prefix level may = or_false _ ∙ or_false _ ∙ one_flip (nat_eq q p) c pcid
structure_table (Everything true) q p pcid prefix level may = or_false _ ∙ or_false _ ∙ sym (and_true (nat_eq q p))
structure_table (Everything false) q p pcid prefix level may = or_false _ ∙ or_false _ ∙ sym (and_true (nat_eq q p))

-- ---- translations

abbrev translation_of : ℕ → ℕ → ℕ → Bool → TranslationKey
translation_of pcid shift number global = record { pcid = pcid; shift = shift; number = number; global = global }

second_none : (x z : Bool) → x ≡ false → (x || (z || false)) ≡ z
second_none x z a = ap (λ v. v || (z || false)) a ∙ or_false z

moved_in : (t q n x : Bool) → (t && (q && (n && x))) ≡ (q && (n && (t && x)))
moved_in true q n x = refl
moved_in false q n x = sym (ap (λ b. q && b) (never n) ∙ never q)

swapped_in : (g q n : Bool) → (g && (q && n)) ≡ (q && (n && g))
swapped_in true q n = ap (λ b. q && b) (sym (and_true n))
swapped_in false q n = sym (ap (λ b. q && b) (never n) ∙ never q)

swapped : (a x y : Bool) → (a && (x && y)) ≡ (a && (y && x))
swapped true true y = sym (and_true y)
swapped true false y = sym (never y)
swapped false x y = refl

-- those of the page of an address, of one PCID or global
own_global : (q p la number shift : ℕ) → IsPageShift shift →
    (has_key (globals_for q la) (keys.Global shift p number) || false) ≡ (nat_eq q p && (nat_eq number (bits_from shift la) && true))
own_global q p la number shift page =
    or_false _ ∙ globals_hit q p la number shift page ∙ ap (λ b. nat_eq q p && b) (sym (and_true (nat_eq number (bits_from shift la))))

own_local : (q p c pcid la number shift : ℕ) → IsPageShift shift →
    (has_key (locals_for q c la) (keys.Local shift p pcid number) || false) ≡ (nat_eq q p && (nat_eq number (bits_from shift la) && nat_eq pcid c))
own_local q p c pcid la number shift page =
    or_false _ ∙ locals_hit q p c pcid la number shift page ∙ swapped (nat_eq q p) (nat_eq pcid c) (nat_eq number (bits_from shift la))

translation_table : (i : Invalidation) (q p pcid number shift : ℕ) (g : Bool) → IsPageShift shift →
    is_hit (dropped_keys q i) (translation_keys p (translation_of pcid shift number g)) ≡ (nat_eq q p && takes_translation i (translation_of pcid shift number g))
translation_table Nothing q p pcid number shift true page = sym (never (nat_eq q p))
translation_table Nothing q p pcid number shift false page = sym (never (nat_eq q p))
translation_table (Address c la s t g) q p pcid number shift true page =
    let own : DropKey = keys.Global shift p number in
    second_none _ _ (address_has q c la s t g (keys.Globals p) ∙ of_none s t g)
    ∙ address_has q c la s t g own ∙ of_globals s t g (has_key (globals_for q la) own)
    ∙ ap (λ b. g && b) (globals_hit q p la number shift page)
    ∙ swapped_in g (nat_eq q p) (nat_eq number (bits_from shift la))
translation_table (Address c la s t g) q p pcid number shift false page =
    let own : DropKey = keys.Local shift p pcid number in
    first_none _ _ _ (address_has q c la s t g (keys.NotGlobal p) ∙ of_none s t g) (address_has q c la s t g (keys.LocalsOf p pcid) ∙ of_none s t g)
    ∙ address_has q c la s t g own ∙ of_locals s t g (has_key (locals_for q c la) own)
    ∙ ap (λ b. t && b) (locals_hit q p c pcid la number shift page ∙ swapped (nat_eq q p) (nat_eq pcid c) (nat_eq number (bits_from shift la)))
    ∙ moved_in t (nat_eq q p) (nat_eq number (bits_from shift la)) (nat_eq pcid c)
translation_table (Page c la) q p pcid number shift true page = own_global q p la number shift page
translation_table (Page c la) q p pcid number shift false page = own_local q p c pcid la number shift page
translation_table (Pcid c) q p pcid number shift true page = sym (never (nat_eq q p))
translation_table (Pcid c) q p pcid number shift false page = or_false _ ∙ or_false _ ∙ one_flip (nat_eq q p) c pcid
translation_table (Everything true) q p pcid number shift true page = or_false _ ∙ or_false _ ∙ sym (and_true (nat_eq q p))
translation_table (Everything true) q p pcid number shift false page = or_false _ ∙ or_false _ ∙ sym (and_true (nat_eq q p))
translation_table (Everything false) q p pcid number shift true page = sym (never (nat_eq q p))
translation_table (Everything false) q p pcid number shift false page = or_false _ ∙ or_false _ ∙ sym (and_true (nat_eq q p))

-- ---- entries

-- whether an invalidation takes out an entry
abbrev pub takes : CacheEntry → Invalidation → Bool
takes (Structure key) i = takes_structure i key
takes (Translation key) i = takes_translation i key

-- an invalidation on q takes out an entry of p where one of the entry's keys is among its own
pub entry_table : (i : Invalidation) (q p : ℕ) (x : CacheEntry) → MayBeCached x → is_hit (dropped_keys q i) (keys_of p x) ≡ (nat_eq q p && takes x i)
entry_table i q p (Structure s) may = structure_table i q p s.pcid s.prefix s.level may
entry_table i q p (Translation t) may = translation_table i q p t.pcid t.number t.shift t.global may
