-- What a log has of each key, as it grows or is cut.
use Rattle.std.proofs.Common.{◌≡◌, ℕ, zero, suc, length, take, drop, get_or, ◌+◌, ◌<◌, ◌≤◌, Bool, true, false, ◌&&◌, ◌||◌, nat_lt, nat_eq, min, cond, List, [], ◌∷◌, ◌++◌, refl, ap, sym, subst, ◌∙◌, arith, inl, inr}
use Rattle.std.specs.List.{list_any}
use Rattle.std.proofs.lemmas.Bool.{cases_Bool, cases_lt, lt-ltb, le-ltb, eqb-true}
use Rattle.std.proofs.lemmas.List.{take_more, take-append-drop}
use Rattle.std.proofs.lemmas.List.Folds.{list_any-append}
use Rattle.pg_event.specs.declared.invalidation.Invalidation.{Invalidation}
use Rattle.pg_event.specs.declared.invalidation.Invalidation.TheVariants.{Nothing, Address, Page, Pcid, Everything}
use Rattle.pg_timeline.specs.declared.timeline.Stamp.{Stamp}
use Rattle.pg_timeline.specs.Timelines.{cut_at, has_moment}
use Rattle.pg_timeline.specs.Keyed.{AreBelow}
use Rattle.pg_timeline.proofs.Least.{has_moment-cut_at}
use Rattle.pg_inval.specs.declared.class.Class.{Class}
use Rattle.pg_inval.specs.declared.class.Class.TheVariants.{Pages, LargePages}
use Rattle.pg_inval.specs.declared.key.DropKey.{DropKey}
use Rattle.pg_inval.specs.declared.key.DropKey.TheVariants as keys
use Rattle.pg_inval.specs.declared.log.LogEntry.{LogEntry}
use Rattle.pg_event.specs.Invalidation.{translation_key}
use Rattle.pg_inval.specs.Keys.{has_key, local_at, structures_for, locals_for, globals_for, dropped_keys}
use Rattle.pg_inval.specs.Classes.{class_of, keys_in, large_pages_for}
use Rattle.pg_inval.specs.Packed.{invalidation_of}
use Rattle.pg_inval.specs.Lists.{has_drop, has_among, cut_log, IsRisingFrom, AreBefore, stamps_of}
use Rattle.pg_inval.proofs.Table.{flip, has_given, address_has, of_none, of_structures, of_locals, of_globals}

or_false : (b : Bool) → (b || false) ≡ b
or_false true = refl
or_false false = refl

never : (b : Bool) → (b && false) ≡ false
never true = refl
never false = refl

and_true : (b : Bool) → (b && true) ≡ b
and_true true = refl
and_true false = refl

abbrev pub keys_at : LogEntry → List DropKey
keys_at e = dropped_keys e.p (invalidation_of e.packed)

abbrev stamp : LogEntry → Stamp Unit
stamp e = record { moment = e.moment; value = tt }

-- ---- one more entry

pub has_drop-push : (log : List LogEntry) (e : LogEntry) (k : DropKey) (j : ℕ) → has_drop (log ++ e ∷ []) k j ≡ (has_drop log k j || (nat_eq e.moment j && has_key (keys_at e) k))
has_drop-push log e k j =
    list_any-append (λ x. nat_eq x.moment j && has_key (keys_at x) k) log (e ∷ []) ∙ ap (λ b. has_drop log k j || b) (or_false (nat_eq e.moment j && has_key (keys_at e) k))

spread : (a h r t e : Bool) → (a || (e && h) || (r || (e && t))) ≡ (a || r || (e && (h || t)))
spread true h r t e = refl
spread false h r t false = refl
spread false true true t true = refl
spread false true false t true = refl
spread false false r t true = refl

pub has_among-push : (log : List LogEntry) (e : LogEntry) (ks : List DropKey) (j : ℕ) →
    has_among (log ++ e ∷ []) ks j ≡ (has_among log ks j || (nat_eq e.moment j && list_any (has_key (keys_at e)) ks))
has_among-push log e [] j = sym (never (nat_eq e.moment j))
has_among-push log e (k ∷ ks) j =
    ap (λ b. b || has_among (log ++ e ∷ []) ks j) (has_drop-push log e k j)
    ∙ ap (λ b. (has_drop log k j || (nat_eq e.moment j && has_key (keys_at e) k)) || b) (has_among-push log e ks j)
    ∙ spread (has_drop log k j) (has_key (keys_at e) k) (has_among log ks j) (list_any (has_key (keys_at e)) ks) (nat_eq e.moment j)

pub has_among-none : (ks : List DropKey) (j : ℕ) → has_among [] ks j ≡ false
has_among-none [] j = refl
has_among-none (k ∷ ks) j = has_among-none ks j

-- what one key more brings
pub has_among-more : (log : List LogEntry) (ks : List DropKey) (i : ℕ) (d : DropKey) (j : ℕ) → i < length ks →
    (has_among log (take i ks) j || has_drop log (get_or ks i d) j) ≡ has_among log (take (i + 1) ks) j
has_among-more log ks i d j h =
    let test : DropKey → Bool = λ k. has_drop log k j in
    sym (ap (λ zs. has_among log zs j) (take_more ks i d h)
    ∙ list_any-append test (take i ks) (get_or ks i d ∷ [])
    ∙ ap (λ b. has_among log (take i ks) j || b) (or_false (has_drop log (get_or ks i d) j)))

pub has_drop-parts : (log : List LogEntry) (k : DropKey) (i j : ℕ) → (has_drop (take i log) k j || has_drop (drop i log) k j) ≡ has_drop log k j
has_drop-parts log k i j =
    sym (list_any-append (λ x. nat_eq x.moment j && has_key (keys_at x) k) (take i log) (drop i log)) ∙ ap (λ es. has_drop es k j) (take-append-drop i log)

-- ---- the keys of a class

-- a page of 4 KiB
small_in : (q c n p : ℕ) (i : Invalidation) → has_key (keys_in Pages p i) (keys.Local 12 q c n) ≡ has_key (dropped_keys p i) (keys.Local 12 q c n)
small_in q c n p Nothing = refl
small_in q c n p (Address pcid la s t g) =
    let own : DropKey = keys.Local 12 q c n in
    has_given t (local_at p (translation_key pcid 12 false la) ∷ []) own ∙ sym (address_has p pcid la s t g own ∙ of_locals s t g (has_key (locals_for p pcid la) own))
small_in q c n p (Page pcid la) = refl
small_in q c n p (Pcid pcid) = refl
small_in q c n p (Everything true) = refl
small_in q c n p (Everything false) = refl

-- another page
passed_over : (b x y : Bool) → b ≡ false → x ≡ ((b && y) || x)
passed_over b x y h = sym (ap (λ z. (z && y) || x) h)

large_in : (s q c n p : ℕ) (i : Invalidation) → nat_eq 12 s ≡ false → has_key (keys_in LargePages p i) (keys.Local s q c n) ≡ has_key (dropped_keys p i) (keys.Local s q c n)
large_in s q c n p Nothing h = refl
large_in z q c n p (Address pcid la s t g) h =
    let own : DropKey = keys.Local z q c n in
    has_given t (large_pages_for p pcid la) own ∙ ap (λ b. t && b) (passed_over (nat_eq 12 z) _ _ h)
    ∙ sym (address_has p pcid la s t g own ∙ of_locals s t g (has_key (locals_for p pcid la) own))
large_in s q c n p (Page pcid la) h = passed_over (nat_eq 12 s) _ _ h
large_in s q c n p (Pcid pcid) h = refl
large_in s q c n p (Everything true) h = refl
large_in s q c n p (Everything false) h = refl

local_in : (s q c n p : ℕ) (i : Invalidation) → has_key (keys_in (cond (nat_eq s 12) Pages LargePages) p i) (keys.Local s q c n) ≡ has_key (dropped_keys p i) (keys.Local s q c n)
local_in s q c n p i =
    elim (cases_Bool (nat_eq s 12)) [
      | inl small ↦
          subst (λ (t : ℕ). has_key (keys_in (cond (nat_eq t 12) Pages LargePages) p i) (keys.Local t q c n) ≡ has_key (dropped_keys p i) (keys.Local t q c n))
          (sym (eqb-true s 12 small)) (small_in q c n p i)
      | inr large ↦ ap (λ b. has_key (keys_in (cond b Pages LargePages) p i) (keys.Local s q c n)) large ∙ large_in s q c n p i (flip 12 s ∙ large)
    ]

-- a key that an invalidation has is among those of its class
pub in_class : (k : DropKey) (p : ℕ) (i : Invalidation) → has_key (keys_in (class_of k) p i) k ≡ has_key (dropped_keys p i) k
in_class (keys.Local s q c n) p i = local_in s q c n p i
in_class (keys.NotGlobal q) p Nothing = refl
in_class (keys.NotGlobal q) p (Address pcid la s t g) = sym (address_has p pcid la s t g (keys.NotGlobal q) ∙ of_none s t g)
in_class (keys.NotGlobal q) p (Page pcid la) = refl
in_class (keys.NotGlobal q) p (Pcid pcid) = refl
in_class (keys.NotGlobal q) p (Everything true) = refl
in_class (keys.NotGlobal q) p (Everything false) = refl
in_class (keys.Globals q) p Nothing = refl
in_class (keys.Globals q) p (Address pcid la s t g) = sym (address_has p pcid la s t g (keys.Globals q) ∙ of_none s t g)
in_class (keys.Globals q) p (Page pcid la) = refl
in_class (keys.Globals q) p (Pcid pcid) = refl
in_class (keys.Globals q) p (Everything true) = refl
in_class (keys.Globals q) p (Everything false) = refl
in_class (keys.StructuresOf q c) p Nothing = refl
in_class (keys.StructuresOf q c) p (Address pcid la s t g) = sym (address_has p pcid la s t g (keys.StructuresOf q c) ∙ of_none s t g)
in_class (keys.StructuresOf q c) p (Page pcid la) = refl
in_class (keys.StructuresOf q c) p (Pcid pcid) = refl
in_class (keys.StructuresOf q c) p (Everything true) = refl
in_class (keys.StructuresOf q c) p (Everything false) = refl
in_class (keys.Structure s q c n) p Nothing = refl
in_class (keys.Structure z q c n) p (Address pcid la s t g) =
    let own : DropKey = keys.Structure z q c n in
    has_given s (structures_for p pcid la) own ∙ sym (address_has p pcid la s t g own ∙ of_structures s t g (has_key (structures_for p pcid la) own))
in_class (keys.Structure s q c n) p (Page pcid la) = refl
in_class (keys.Structure s q c n) p (Pcid pcid) = refl
in_class (keys.Structure s q c n) p (Everything true) = refl
in_class (keys.Structure s q c n) p (Everything false) = refl
in_class (keys.LocalsOf q c) p Nothing = refl
in_class (keys.LocalsOf q c) p (Address pcid la s t g) = sym (address_has p pcid la s t g (keys.LocalsOf q c) ∙ of_none s t g)
in_class (keys.LocalsOf q c) p (Page pcid la) = refl
in_class (keys.LocalsOf q c) p (Pcid pcid) = refl
in_class (keys.LocalsOf q c) p (Everything true) = refl
in_class (keys.LocalsOf q c) p (Everything false) = refl
in_class (keys.Global s q n) p Nothing = refl
in_class (keys.Global z q n) p (Address pcid la s t g) =
    let own : DropKey = keys.Global z q n in
    has_given g (globals_for p la) own ∙ sym (address_has p pcid la s t g own ∙ of_globals s t g (has_key (globals_for p la) own))
in_class (keys.Global s q n) p (Page pcid la) = refl
in_class (keys.Global s q n) p (Pcid pcid) = refl
in_class (keys.Global s q n) p (Everything true) = refl
in_class (keys.Global s q n) p (Everything false) = refl

-- ---- the moments that a log has of a key

push_cond : (b x : Bool) (e s : Stamp Unit) (S : List (Stamp Unit)) →
    cond x (e ∷ cond b (S ++ s ∷ []) S) (cond b (S ++ s ∷ []) S) ≡ cond b (cond x (e ∷ S) S ++ s ∷ []) (cond x (e ∷ S) S)
push_cond true true e s S = refl
push_cond true false e s S = refl
push_cond false true e s S = refl
push_cond false false e s S = refl

pub stamps_of-push : (c : Class) (k : DropKey) (log : List LogEntry) (e : LogEntry) →
    stamps_of c k (log ++ e ∷ []) ≡ cond (has_key (keys_in c e.p (invalidation_of e.packed)) k) (stamps_of c k log ++ stamp e ∷ []) (stamps_of c k log)
stamps_of-push c k [] e = refl
stamps_of-push c k (x ∷ xs) e =
    let own : Bool = has_key (keys_in c x.p (invalidation_of x.packed)) k in
    ap (λ ys. cond own (stamp x ∷ ys) ys) (stamps_of-push c k xs e)
    ∙ push_cond (has_key (keys_in c e.p (invalidation_of e.packed)) k) own (stamp x) (stamp e) (stamps_of c k xs)

one_more : (b : Bool) (s : Stamp Unit) (S : List (Stamp Unit)) (j : ℕ) → has_moment (cond b (s ∷ S) S) j ≡ ((nat_eq s.moment j && b) || has_moment S j)
one_more true s S j = ap (λ x. x || has_moment S j) (sym (and_true (nat_eq s.moment j)))
one_more false s S j = ap (λ x. x || has_moment S j) (sym (never (nat_eq s.moment j)))

pub stamps_of-drop : (k : DropKey) (log : List LogEntry) (j : ℕ) → has_moment (stamps_of (class_of k) k log) j ≡ has_drop log k j
stamps_of-drop k [] j = refl
stamps_of-drop k (e ∷ es) j =
    one_more (has_key (keys_in (class_of k) e.p (invalidation_of e.packed)) k) (stamp e) (stamps_of (class_of k) k es) j
    ∙ ap (λ b. (nat_eq e.moment j && b) || has_moment (stamps_of (class_of k) k es) j) (in_class k e.p (invalidation_of e.packed))
    ∙ ap (λ b. (nat_eq e.moment j && has_key (keys_at e) k) || b) (stamps_of-drop k es j)

cut_one : (w : ℕ) (s : Stamp Unit) (S T : List (Stamp Unit)) (b t : Bool) → cut_at w S ≡ T → nat_lt s.moment w ≡ t → cut_at w (cond b (s ∷ S) S) ≡ cond t (cond b (s ∷ T) T) T
cut_one w s S T true true same lt = ap (λ b. cond b (s ∷ cut_at w S) (cut_at w S)) lt ∙ ap (λ l. s ∷ l) same
cut_one w s S T true false same lt = ap (λ b. cond b (s ∷ cut_at w S) (cut_at w S)) lt ∙ same
cut_one w s S T false true same lt = same
cut_one w s S T false false same lt = same

of_cond : (c : Class) (k : DropKey) (t : Bool) (xs ys : List LogEntry) → stamps_of c k (cond t xs ys) ≡ cond t (stamps_of c k xs) (stamps_of c k ys)
of_cond c k true xs ys = refl
of_cond c k false xs ys = refl

pub stamps_of-cut : (c : Class) (k : DropKey) (w : ℕ) (log : List LogEntry) → cut_at w (stamps_of c k log) ≡ stamps_of c k (cut_log w log)
stamps_of-cut c k w [] = refl
stamps_of-cut c k w (e ∷ es) =
    cut_one w (stamp e) (stamps_of c k es) (stamps_of c k (cut_log w es)) (has_key (keys_in c e.p (invalidation_of e.packed)) k) (nat_lt e.moment w) (stamps_of-cut c k w es) refl
    ∙ sym (of_cond c k (nat_lt e.moment w) (e ∷ cut_log w es) (cut_log w es))

pub stamps_of-below : (c : Class) (k : DropKey) (n : ℕ) (log : List LogEntry) → AreBefore n log → AreBelow n (stamps_of c k log)
stamps_of-below c k n [] b = tt
stamps_of-below c k n (e ∷ es) b =
    elim (has_key (keys_in c e.p (invalidation_of e.packed)) k) as (λ x. AreBelow n (cond x (stamp e ∷ stamps_of c k es) (stamps_of c k es))) [
      | true ↦ (b.0, stamps_of-below c k n es b.1)
      | false ↦ stamps_of-below c k n es b.1
    ]

-- ---- a cut

pub has_drop-cut : (log : List LogEntry) (w : ℕ) (k : DropKey) (j : ℕ) → has_drop (cut_log w log) k j ≡ (has_drop log k j && nat_lt j w)
has_drop-cut log w k j =
    sym (stamps_of-drop k (cut_log w log) j)
    ∙ ap (λ S. has_moment S j) (sym (stamps_of-cut (class_of k) k w log))
    ∙ has_moment-cut_at w (stamps_of (class_of k) k log) j
    ∙ ap (λ b. b && nat_lt j w) (stamps_of-drop k log j)

both_below : (a r c : Bool) → ((a && c) || (r && c)) ≡ ((a || r) && c)
both_below true r true = refl
both_below true r false = never r
both_below false r c = refl

pub has_among-cut : (log : List LogEntry) (w : ℕ) (ks : List DropKey) (j : ℕ) → has_among (cut_log w log) ks j ≡ (has_among log ks j && nat_lt j w)
has_among-cut log w [] j = refl
has_among-cut log w (k ∷ ks) j =
    ap (λ b. b || has_among (cut_log w log) ks j) (has_drop-cut log w k j)
    ∙ ap (λ b. (has_drop log k j && nat_lt j w) || b) (has_among-cut log w ks j)
    ∙ both_below (has_drop log k j) (has_among log ks j) (nat_lt j w)

-- ---- moments that rise

pub IsRisingFrom-less : (n m : ℕ) (log : List LogEntry) → n ≤ m → IsRisingFrom m log → IsRisingFrom n log
IsRisingFrom-less n m [] le rising = tt
IsRisingFrom-less n m (e ∷ es) le rising =
    let first : m ≤ e.moment = rising.0 in
    (omega (arith, le, first), rising.1)

pub IsRisingFrom-push : (n next : ℕ) (log : List LogEntry) (e : LogEntry) → IsRisingFrom n log → AreBefore next log → next ≤ e.moment → n ≤ e.moment → IsRisingFrom n (log ++ e ∷ [])
IsRisingFrom-push n next [] e rising before le low = (low, tt)
IsRisingFrom-push n next (x ∷ xs) e rising before le low =
    let below : x.moment < next = before.0 in
    (rising.0, IsRisingFrom-push (x.moment + 1) next xs e rising.1 before.1 le (omega (arith, below, le)))

pub AreBefore-weaker : (n m : ℕ) (log : List LogEntry) → n ≤ m → AreBefore n log → AreBefore m log
AreBefore-weaker n m [] le before = tt
AreBefore-weaker n m (e ∷ es) le before =
    let below : e.moment < n = before.0 in
    (omega (arith, le, below), AreBefore-weaker n m es le before.1)

pub AreBefore-push : (next : ℕ) (log : List LogEntry) (e : LogEntry) → AreBefore next log → next ≤ e.moment → AreBefore (e.moment + 1) (log ++ e ∷ [])
AreBefore-push next [] e before le = (omega arith, tt)
AreBefore-push next (x ∷ xs) e before le =
    let below : x.moment < next = before.0 in
    (omega (arith, below, le), AreBefore-push next xs e before.1 le)

-- where all are late, none is left
cut_late : (w n : ℕ) (log : List LogEntry) → w ≤ n → IsRisingFrom n log → cut_log w log ≡ []
cut_late w n [] le rising = refl
cut_late w n (e ∷ es) le rising =
    let first : n ≤ e.moment = rising.0 in
    ap (λ b. cond b (e ∷ cut_log w es) (cut_log w es)) (le-ltb e.moment w (omega (arith, le, first)))
    ∙ cut_late w (e.moment + 1) es (omega (arith, le, first)) rising.1

pub IsRisingFrom-cut : (n w : ℕ) (log : List LogEntry) → IsRisingFrom n log → IsRisingFrom n (cut_log w log)
IsRisingFrom-cut n w [] rising = tt
IsRisingFrom-cut n w (e ∷ es) rising =
    let first : n ≤ e.moment = rising.0 in
    elim (nat_lt e.moment w) as (λ b. IsRisingFrom n (cond b (e ∷ cut_log w es) (cut_log w es))) [
      | true ↦ (first, IsRisingFrom-cut (e.moment + 1) w es rising.1)
      | false ↦ IsRisingFrom-less n (e.moment + 1) (cut_log w es) (omega (arith, first)) (IsRisingFrom-cut (e.moment + 1) w es rising.1)
    ]

pub AreBefore-cut : (next w : ℕ) (log : List LogEntry) → AreBefore next log → AreBefore (min next w) (cut_log w log)
AreBefore-cut next w [] before = tt
AreBefore-cut next w (e ∷ es) before =
    let below : e.moment < next = before.0 in
    elim (cases_lt e.moment w) [
      | inl early ↦
          subst (λ (b : Bool). AreBefore (min next w) (cond b (e ∷ cut_log w es) (cut_log w es))) (sym (lt-ltb e.moment w early))
          (omega (arith, below, early), AreBefore-cut next w es before.1)
      | inr late ↦
          subst (λ (b : Bool). AreBefore (min next w) (cond b (e ∷ cut_log w es) (cut_log w es))) (sym (le-ltb e.moment w late))
          (AreBefore-cut next w es before.1)
    ]

take_none : (i : ℕ) → take {A = LogEntry} i [] ≡ []
take_none zero = refl
take_none (suc i) = refl

-- the first entries of a log, cut, are the first of what is left
pub cut-take : (w n i : ℕ) (log : List LogEntry) → IsRisingFrom n log → cut_log w (take i log) ≡ take i (cut_log w log)
cut-take w n zero log rising = refl
cut-take w n (suc i) [] rising = refl
cut-take w n (suc i) (e ∷ es) rising =
    elim (cases_lt e.moment w) [
      | inl early ↦
          ap (λ b. cond b (e ∷ cut_log w (take i es)) (cut_log w (take i es))) (lt-ltb e.moment w early)
          ∙ ap (λ ys. e ∷ ys) (cut-take w (e.moment + 1) i es rising.1)
          ∙ ap (λ b. take (suc i) (cond b (e ∷ cut_log w es) (cut_log w es))) (sym (lt-ltb e.moment w early))
      | inr late ↦
          ap (λ b. cond b (e ∷ cut_log w (take i es)) (cut_log w (take i es))) (le-ltb e.moment w late)
          ∙ cut-take w (e.moment + 1) i es rising.1
          ∙ ap (take i) (cut_late w (e.moment + 1) es (omega (arith, late)) rising.1)
          ∙ take_none i
          ∙ ap (take (suc i)) (sym (cut_late w (e.moment + 1) es (omega (arith, late)) rising.1))
          ∙ ap (λ b. take (suc i) (cond b (e ∷ cut_log w es) (cut_log w es))) (sym (le-ltb e.moment w late))
    ]

-- the entries before one are below it
rising_at : (n i : ℕ) (log : List LogEntry) (d : LogEntry) → IsRisingFrom n log → i < length log → n ≤ (get_or log i d).moment
rising_at n i [] d rising lt = absurd (omega arith)
rising_at n zero (e ∷ es) d rising lt = rising.0
rising_at n (suc i) (e ∷ es) d rising lt =
    let first : n ≤ e.moment = rising.0 in
    let rest : e.moment + 1 ≤ (get_or es i d).moment = rising_at (e.moment + 1) i es d rising.1 (omega arith) in
    omega (arith, first, rest)

pub taken-before : (n i : ℕ) (log : List LogEntry) (d : LogEntry) → IsRisingFrom n log → i < length log → AreBefore (get_or log i d).moment (take i log)
taken-before n i [] d rising lt = absurd (omega arith)
taken-before n zero (e ∷ es) d rising lt = tt
taken-before n (suc i) (e ∷ es) d rising lt =
    let rest : e.moment + 1 ≤ (get_or es i d).moment = rising_at (e.moment + 1) i es d rising.1 (omega arith) in
    (omega (arith, rest), taken-before (e.moment + 1) i es d rising.1 (omega arith))
