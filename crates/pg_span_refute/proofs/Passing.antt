-- What is known grows in a slot, and is left by an event.
use Rattle.std.proofs.Common.{◌≡◌, ℕ, ◌+◌, ◌<◌, ◌≤◌, Bool, true, false, not, List, [], ◌∷◌, ◌++◌, filter, take, get_or, length, refl, ap, sym, ◌∙◌, subst, arith, inl, inr}
use Rattle.std.proofs.lemmas.List.{append-nil, append_assoc, take-append-le, length-append}
use Rattle.std.proofs.lemmas.Bool.{cases_Bool}
use Rattle.pg_entry.specs.declared.Cfg.{Cfg}
use Rattle.pg_entry.specs.declared.Level.{Level}
use Rattle.pg_entry.specs.declared.Level.TheVariants.{Four, Three, Two, One}
use Rattle.pg_entry.specs.Kinds.{kind_of}
use Rattle.pg_entry.specs.Permission.{joined}
use Rattle.pg_entry.specs.declared.Rules.{Rules}
use Rattle.pg_event.specs.declared.control.Control.{Control}
use Rattle.pg_event.specs.declared.event.Event.{Event}
use Rattle.pg_event.specs.declared.version.Version.{Version}
use Rattle.pg_event.specs.declared.walk.Parent.{Parent}
use Rattle.pg_event.specs.Invalidation.{structure_key, must_drop_structure, must_drop_translation}
use Rattle.pg_machine.specs.declared.step.Translation.{Translation}
use Rattle.pg_machine.specs.Machine.{IsIn, translation_at}
use Rattle.pg_event.specs.Walk.{root_of}
use Rattle.pg_span_run.specs.Orders.{Spanned}
use Rattle.pg_span_refute.specs.declared.slot.Slot.{Slot}
use Rattle.pg_span_refute.specs.declared.table.Table.{Table}
use Rattle.pg_span_refute.specs.Caches.{Known, Extends, Grows, IsTaken, IsFilled, IsLeft, may_stay, table_below, word_in}
use Rattle.pg_span_refute.specs.Memory.{MayHold}
use Rattle.pg_span_refute.proofs.Taken.{in_left, in_right, one_more, take_all}

pub in_filter : {X : Type 0} (test : X → Bool) (x : X) (xs : List X) → IsIn x xs → test x ≡ true → IsIn x (filter test xs)
in_filter test x [] h e = absurd h
in_filter test x (y ∷ ys) (inl same) e = rw (ap test same ∙ e) (inl same)
in_filter test x (y ∷ ys) (inr h) e =
    elim (cases_Bool (test y)) [
      | inl t ↦ rw t (inr (in_filter test x ys h e))
      | inr f ↦ rw f (in_filter test x ys h e)
    ]

stays_below : (rules : Rules) (c : Control) (e : Event) (la : ℕ) (up : Level) (pcid : ℕ) (from : Parent) → (up ≡ One → ⊥) → must_drop_structure rules c e (structure_key pcid up la) ≡ false →
    may_stay rules c e la (table_below up pcid from) ≡ true
stays_below rules c e la Four pcid from high h = ap not h
stays_below rules c e la Three pcid from high h = ap not h
stays_below rules c e la Two pcid from high h = ap not h
stays_below rules c e la One pcid from high h = absurd (high refl)

pub is_left : (rules : Rules) (la : ℕ) (e : Event) (k l : Known) → l.tables ≡ filter (λ t. may_stay rules k.control e la t) k.tables → l.translations ≡ filter (λ x. not (must_drop_translation rules k.control e x.key)) k.translations →
    IsLeft rules la e k l
is_left rules la e k l tables translations = record {
  tables = λ up pcid from high h i. subst (IsIn (table_below up pcid from)) (sym tables)
      (in_filter (λ t. may_stay rules k.control e la t) (table_below up pcid from) k.tables i (stays_below rules k.control e la up pcid from high h));
  translations = λ x h i. subst (IsIn x) (sym translations) (in_filter (λ y. not (must_drop_translation rules k.control e y.key)) x k.translations i (ap not h));
}

pub extends_refl : (k : Known) → Extends k k
extends_refl k = record { control = refl; more_tables = []; tables = sym (append-nil k.tables); more_translations = []; translations = sym (append-nil k.translations) }

pub extends_on : (k l m : Known) → Extends k l → Extends l m → Extends k m
extends_on k l m a b = record {
  control = b.control ∙ a.control;
  more_tables = a.more_tables ++ b.more_tables;
  tables = b.tables ∙ (ap (λ xs. xs ++ b.more_tables) a.tables ∙ append_assoc k.tables a.more_tables b.more_tables);
  more_translations = a.more_translations ++ b.more_translations;
  translations = b.translations ∙ (ap (λ xs. xs ++ b.more_translations) a.translations ∙ append_assoc k.translations a.more_translations b.more_translations);
}

pub extends_table : (k l : Known) (t : Table) → l.control ≡ k.control → l.tables ≡ k.tables ++ t ∷ [] → l.translations ≡ k.translations → Extends k l
extends_table k l t c tables translations = record { control = c; more_tables = t ∷ []; tables = tables; more_translations = []; translations = translations ∙ sym (append-nil k.translations) }

pub extends_translation : (k l : Known) (x : Translation) → l.control ≡ k.control → l.tables ≡ k.tables → l.translations ≡ k.translations ++ x ∷ [] → Extends k l
extends_translation k l x c tables translations = record { control = c; more_tables = []; tables = tables ∙ sym (append-nil k.tables); more_translations = x ∷ []; translations = translations }

pub in_last : {X : Type 0} (x : X) (xs ys : List X) → ys ≡ xs ++ x ∷ [] → IsIn x ys
in_last x xs ys e = subst (IsIn x) (sym e) (in_right x xs (x ∷ []) (inl refl))

pub table_still : (k l : Known) → Extends k l → (t : Table) → IsIn t k.tables → IsIn t l.tables
table_still k l more t h = subst (IsIn t) (sym more.tables) (in_left t k.tables more.more_tables h)

pub translation_still : (k l : Known) → Extends k l → (x : Translation) → IsIn x k.translations → IsIn x l.translations
translation_still k l more x h = subst (IsIn x) (sym more.translations) (in_left x k.translations more.more_translations h)

pub grows_by : (k l : Known) → Extends k l → Grows k l
grows_by k l more = record { control = more.control; tables = table_still k l more; translations = translation_still k l more }

-- what was taken stays taken
pub taken_still : (version : Version) (cfg : Cfg) (la : ℕ) (k l : Known) (t : Table) (entry : ℕ) → Extends k l → IsTaken version cfg la k t entry → IsTaken version cfg la l t entry
taken_still version cfg la k l t entry more taken = record {
  table = λ cached h. table_still k l more _ (taken.table cached h);
  leaf = λ cached x h. translation_still k l more x (taken.leaf cached x (ap (λ (c : Control). translation_at c la (joined t.from.rights entry) entry (kind_of cfg t.level entry)) (sym more.control) ∙ h));
}

-- the first tables stay where they are
pub front_still : (k l : Known) (n : ℕ) → Extends k l → n ≤ length k.tables → take n l.tables ≡ take n k.tables
front_still k l n more le = ap (take n) more.tables ∙ take-append-le n k.tables more.more_tables le

pub longer : (k l : Known) (n : ℕ) → Extends k l → n ≤ length k.tables → n ≤ length l.tables
longer k l n more le = omega (arith, ap length more.tables, length-append k.tables more.more_tables, le)

pub got_at : {X : Type 0} (xs : List X) (i : ℕ) (x y : X) → x ≡ y → y ≡ get_or xs i y → x ≡ get_or xs i x
got_at xs i x y e h = subst (λ z. z ≡ get_or xs i z) (sym e) h

-- what the first tables give is known
abbrev pub AreTaken : Spanned → Slot → ℕ → ℕ → Known → List Table → Type 0
AreTaken s slot la pcid k tables = (t : Table) → IsIn t tables → t.pcid ≡ pcid → (entry : ℕ) → MayHold s slot (word_in la t) entry → IsTaken s.head.version s.head.cfg la k t entry

pub taken_more : (s : Spanned) (slot : Slot) (la pcid : ℕ) (a b : Known) (n : ℕ) (x : Table) → Extends a b → n < length a.tables → x ≡ get_or a.tables n x → AreTaken s slot la pcid a (take n a.tables) →
    (x.pcid ≡ pcid → (entry : ℕ) → MayHold s slot (word_in la x) entry → IsTaken s.head.version s.head.cfg la b x entry) → AreTaken s slot la pcid b (take (n + 1) b.tables)
taken_more s slot la pcid a b n x more lt is before here t h =
    let front : take (n + 1) b.tables ≡ take (n + 1) a.tables = front_still a b (n + 1) more (omega (arith, lt)) in
    one_more (λ (y : Table). y.pcid ≡ pcid → (entry : ℕ) → MayHold s slot (word_in la y) entry → IsTaken s.head.version s.head.cfg la b y entry) a.tables n x lt is
    (λ y i p entry may. taken_still s.head.version s.head.cfg la a b y entry more (before y i p entry may)) here t (subst (IsIn t) front h)

pub filled_by : (s : Spanned) (slot : Slot) (la : ℕ) (k l : Known) (n : ℕ) → Extends k l → IsIn (record { level = Four; pcid = k.control.pcid; from = root_of k.control }) l.tables →
    length l.tables ≤ n → AreTaken s slot la k.control.pcid l (take n l.tables) → IsFilled s slot la l
filled_by s slot la k l n more root short taken =
    let at : Control → Table = λ c. record { level = Four; pcid = c.pcid; from = root_of c } in
    record {
      root = subst (λ c. IsIn (at c) l.tables) (sym more.control) root;
      each = λ t entry h p may. taken t (subst (IsIn t) (sym (take_all l.tables n short)) h) (p ∙ ap (λ (c : Control). c.pcid) more.control) entry may;
    }
