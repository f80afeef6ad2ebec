-- What keeps all that a processor caches sound.
use Rattle.std.proofs.Common.{◌≡◌, ℕ, ◌==◌, Bool, true, false, cond, ◌&&◌, ◌⊎◌, inl, inr, List, [], ◌∷◌, ◌++◌, length, refl, ap, sym, ◌∙◌, subst, Option, Some, None}
use Rattle.pg_entry.specs.Rules.{all_rules}
use Rattle.pg_event.specs.declared.control.Control.{Control}
use Rattle.pg_event.specs.declared.event.Event.{Event}
use Rattle.pg_event.specs.declared.event.Event.TheVariants.{Write, Access, Assist, MovCr3, Invlpg, Invpcid, MovCr4Pge}
use Rattle.pg_event.specs.declared.keys.StructureKey.{StructureKey}
use Rattle.pg_event.specs.declared.keys.TranslationKey.{TranslationKey}
use Rattle.pg_event.specs.Heads.{Head}
use Rattle.pg_event.specs.Form.{processor_of}
use Rattle.pg_event.specs.Values.{controlled, loaded, control_at}
use Rattle.pg_event.specs.Invalidation.{must_drop_structure, must_drop_translation}
use Rattle.pg_event.proofs.FewerRules.{structure_kept, translation_kept}
use Rattle.pg_shadow.specs.declared.entries.KeptLeaf.{KeptLeaf}
use Rattle.pg_shadow.specs.declared.entries.KeptTable.{KeptTable}
use Rattle.pg_shadow.specs.Caches.{Caches, same_structure, same_space, same_translation, with_table, with_leaf, after}
use Rattle.pg_guest.specs.Home.{WalkPosition, at_root, Along, FromRoot, EndsInLeaf, IsSoundTable, IsSoundLeaf, AreSound, position_below}
use Rattle.pg_guest.proofs.Longer.{control_pushed}
use Rattle.pg_guest.proofs.Stays.{table_stays, leaf_stays}
use Rattle.pg_guest.proofs.Keys.{key_of, survives_alike, space_joins, IsSamePage, structure_is, translation_is}

-- ---- walks whose end says more

along_map : (head : Head) (es : List Event) (p la pcid : ℕ) (Ends Ends2 : WalkPosition → ℕ → Type 0) → ((at : WalkPosition) (w : ℕ) → Ends at w → Ends2 at w) →
    (at : WalkPosition) (w : ℕ) (ws : List ℕ) → Along head es p la pcid Ends at w ws → Along head es p la pcid Ends2 at w ws
along_map head es p la pcid Ends Ends2 f at w [] h = f at w h
along_map head es p la pcid Ends Ends2 f at w (x ∷ ws) h = (h.0, along_map head es p la pcid Ends Ends2 f (position_below head.cfg.m es la at w) x ws h.1)

pub from_root_map : (head : Head) (es : List Event) (p la pcid : ℕ) (Ends Ends2 : WalkPosition → ℕ → Type 0) → ((at : WalkPosition) (w : ℕ) → Ends at w → Ends2 at w) →
    (ws : List ℕ) → FromRoot head es p la pcid Ends ws → FromRoot head es p la pcid Ends2 ws
from_root_map head es p la pcid Ends Ends2 f [] h = absurd h
from_root_map head es p la pcid Ends Ends2 f (w ∷ ws) h = along_map head es p la pcid Ends Ends2 f (at_root (control_at head es p w)) w ws h

-- ---- one entry by two keys

alike_by_parts : (head : Head) (es : List Event) (p a b shift number : ℕ) (g h : Bool) (kept : KeptLeaf) → same_space (key_of a shift number g) (key_of b shift number h) ≡ true →
    IsSoundLeaf head es p (key_of a shift number g) kept → IsSoundLeaf head es p (key_of b shift number h) kept
alike_by_parts head es p a b shift number g h kept same sound = record {
  some = sound.some;
  each = λ la matches.
      let given = sound.each la matches in (
        given.0,
        from_root_map head es p la given.0 (EndsInLeaf head es p la given.0 (key_of a shift number g) kept) (EndsInLeaf head es p la given.0 (key_of b shift number h) kept)
            (λ at w ends. record {
              global_bit = ends.global_bit;
              leaf = ends.leaf;
              usable = ends.usable;
              dirty_is = ends.dirty_is;
              rights_are = ends.rights_are;
              own = ends.own;
              space_is = space_joins a b given.0 shift number g h (ends.global_bit && (control_at head es p w).pge) same ends.space_is;
              order = ends.order;
              stands = sym (survives_alike head es p w (length es) a b shift number g h same) ∙ ends.stands;
            })
            kept.moments given.1,
      );
}

-- a sound translation is sound by each key that names it
sound_alike : (head : Head) (es : List Event) (p : ℕ) (a b : TranslationKey) (kept : KeptLeaf) → IsSamePage a b → IsSoundLeaf head es p a kept → IsSoundLeaf head es p b kept
sound_alike head es p a b kept same sound =
    let moved : TranslationKey = key_of a.pcid b.shift b.number a.global in
    let is : a ≡ moved = λ i. key_of a.pcid (same.shift i) (same.number i) a.global in
    alike_by_parts head es p a.pcid b.pcid b.shift b.number a.global b.global kept same.space (subst (λ k. IsSoundLeaf head es p k kept) is sound)

-- ---- an entry more

one_of : {X : Type 0} (b : Bool) (x y : X) (o : Option X) → cond b (Some x) o ≡ Some y → ((b ≡ true) × (x ≡ y)) ⊎ (o ≡ Some y)
one_of true x y o h = inl (refl, cc)
one_of false x y o h = inr h

pub table_kept : (head : Head) (es : List Event) (p : ℕ) (s : Caches) (key : StructureKey) (kept : KeptTable) → AreSound head es p s → IsSoundTable head es p key kept →
    AreSound head es p (with_table key kept s)
table_kept head es p s key kept all sound = record {
  width = all.width;
  control = all.control;
  tables = λ k t h.
      elim (one_of (same_structure key k) kept t (s.tables k) h) [
        | inl new ↦ subst (λ t. IsSoundTable head es p k t) new.1 (subst (λ k. IsSoundTable head es p k kept) (structure_is key k new.0) sound)
        | inr old ↦ all.tables k t old
      ];
  leaves = all.leaves;
}

pub leaf_kept : (head : Head) (es : List Event) (p : ℕ) (s : Caches) (key : TranslationKey) (kept : KeptLeaf) → AreSound head es p s → IsSoundLeaf head es p key kept →
    AreSound head es p (with_leaf key kept s)
leaf_kept head es p s key kept all sound = record {
  width = all.width;
  control = all.control;
  tables = all.tables;
  leaves = λ k t h.
      elim (one_of (same_translation key k) kept t (s.leaves k) h) [
        | inl new ↦ subst (λ t. IsSoundLeaf head es p k t) new.1 (sound_alike head es p key k kept (translation_is key k new.0) sound)
        | inr old ↦ all.leaves k t old
      ];
}

-- ---- an event more

none_or : {X : Type 0} (b : Bool) (o : Option X) (x : X) → cond b None o ≡ Some x → (o ≡ Some x) × (b ≡ false)
none_or true o x h = absurd (cc)
none_or false o x h = (h, refl)

and_with_false : (a b : Bool) → a ≡ false → (a && b) ≡ false
and_with_false a b h = ap (λ x. x && b) h

false_right : (b : Bool) → (b && false) ≡ false
false_right true = refl
false_right false = refl

untouched : (m q : ℕ) (c : Control) (e : Event) → (processor_of e == q) ≡ false → controlled m q c e ≡ c
untouched m q c (Write p addr value) h = refl
untouched m q c (Access p flags la outcome moments) h = refl
untouched m q c (Assist p flags la word moments) h = refl
untouched m q c (MovCr3 p operand) h = ap (λ b. cond b (loaded m operand c.pge) c) h
untouched m q c (Invlpg p la) h = refl
untouched m q c (Invpcid p kind pcid la) h = refl
untouched m q c (MovCr4Pge p on) h = ap (λ b. let d : Control = record c { pge = on } in cond b d c) h

-- of another processor
pub others_sound : (head : Head) (es : List Event) (e : Event) (q : ℕ) (s : Caches) → (processor_of e == q) ≡ false → AreSound head es q s → AreSound head (es ++ e ∷ []) q s
others_sound head es e q s other all = record {
  width = all.width;
  control = all.control ∙ sym (control_pushed head es e q ∙ untouched head.cfg.m q (control_at head es q (length es)) e other);
  tables = λ key kept h. table_stays head es e q key kept (all.tables key kept h) (and_with_false _ _ other);
  leaves = λ key kept h. leaf_stays head es e q key kept (all.leaves key kept h) (and_with_false _ _ other);
}

spared : (c d : Control) (b : Bool) (test : Control → Bool) → c ≡ d → test c ≡ false → (b && test d) ≡ false
spared c d b test same h = ap (λ x. b && x) (ap test (sym same) ∙ h) ∙ false_right b

-- of its own
pub own_sound : (head : Head) (es : List Event) (e : Event) (p : ℕ) (s : Caches) → processor_of e ≡ p → AreSound head es p s → AreSound head (es ++ e ∷ []) p (after e s)
own_sound head es e p s own all = record {
  width = all.width;
  control = ap (λ m. controlled m (processor_of e) s.control e) all.width
      ∙ ap (λ q. controlled head.cfg.m q s.control e) own
      ∙ ap (λ c. controlled head.cfg.m p c e) all.control ∙ sym (control_pushed head es e p);
  tables = λ key kept h.
      let parts = none_or (must_drop_structure all_rules s.control e key) (s.tables key) kept h in
      table_stays head es e p key kept (all.tables key kept parts.0)
      (spared s.control (control_at head es p (length es)) (processor_of e == p) (λ c. must_drop_structure head.cfg.rules c e key) all.control (structure_kept head.cfg.rules s.control e key parts.1));
  leaves = λ key kept h.
      let parts = none_or (must_drop_translation all_rules s.control e key) (s.leaves key) kept h in
      leaf_stays head es e p key kept (all.leaves key kept parts.0)
      (spared s.control (control_at head es p (length es)) (processor_of e == p) (λ c. must_drop_translation head.cfg.rules c e key) all.control (translation_kept head.cfg.rules s.control e key parts.1));
}
