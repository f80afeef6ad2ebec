-- What the caches hold was read by moments, and nothing took it out since.
use Rattle.std.proofs.Common.{◌≡◌, ℕ, zero, suc, ◌+◌, ◌-◌, ◌≤◌, ◌==◌, ◌&&◌, Bool, List, [], ◌∷◌, ◌++◌, refl, ap, sym, ◌∙◌, subst, true, false, not, arith, Some, None, cond, inl, inr, ◌⊎◌}
use Rattle.pg_event.specs.declared.control.Control.{Control}
use Rattle.pg_machine.specs.declared.step.Structure.{Structure}
use Rattle.pg_machine.specs.declared.step.Translation.{Translation}
use Rattle.std.proofs.lemmas.Bool.{cases_Bool, or_from, or_parts, not-true, eqb-true, not_from_false}
use Rattle.std.specs.Prelude.{slice_get, filter}
use Rattle.pg_entry.specs.declared.Level.{Level}
use Rattle.pg_entry.specs.declared.Level.TheVariants.{Four, Three, Two, One}
use Rattle.pg_entry.specs.declared.Kind.{Kind}
use Rattle.pg_entry.specs.declared.Kind.TheVariants as kinds
use Rattle.pg_entry.specs.declared.Cfg.{Cfg}
use Rattle.pg_entry.specs.Bits.{has_bit}
use Rattle.pg_entry.specs.Kinds.{dirty, kind_of, is_reserved, table_of, target, leaf_shift}
use Rattle.pg_entry.specs.Permission.{joined}
use Rattle.pg_event.specs.declared.event.Event.{Event}
use Rattle.pg_event.specs.Heads.{Head}
use Rattle.pg_event.specs.Form.{processor_of}
use Rattle.pg_event.specs.Values.{mem_at, control_at}
use Rattle.pg_event.specs.Invalidation.{bits_from, level_shift, structure_key, must_drop_structure, must_drop_translation}
use Rattle.pg_event.specs.declared.keys.StructureKey.{StructureKey}
use Rattle.pg_event.specs.Walk.{below, entry_address, root_of}
use Rattle.pg_event.specs.Wants.{is_table}
use Rattle.pg_event.specs.Witness.{any_from, takes_out, survives, structure_survives, translation_survives}
use Rattle.pg_event.specs.declared.walk.Parent.{Parent}
use Rattle.pg_machine.specs.declared.step.Member.{Member}
use Rattle.pg_machine.specs.declared.step.Member.TheVariants as members
use Rattle.pg_machine.specs.Machine.{State, IsIn, MayRead, FindsTable, FindsLeaf, start, entry_now, may_cache, structure_at, translation_at, with_structure, with_translation, with_table, with_leaf, without, same_structure, same_translation, changed_at, after_event}
use Rattle.pg_run_of.proofs.Standing.{At, seen, given, translation_of}
use Rattle.pg_run_of.proofs.Walks.{next}
use Rattle.pg_run_of.proofs.Prefixes.{Agree, agree_above, same_address}
use Rattle.pg_run_of.proofs.Chains.{next_or, IsHop, Comes, come_on, next_or-push}
use Rattle.pg_run_of.specs.Plan.{root_at}

-- for one address that an entry matches: how it was read
pub record StructureRead (head : Head) (all : List Event) (p : ℕ) (x : Structure) (ws : List ℕ) (last : ℕ) (from : Parent) (la : ℕ) : Type 0 where
  pub walk : Comes head all p la x.key.pcid last Four (root_at head all p (next_or last ws)) ws x.key.level from
  pub table : is_table (kind_of head.cfg x.key.level (seen (mem_at all) la x.key.level from last)) ≡ true
  pub cached : may_cache head.version (seen (mem_at all) la x.key.level from last) ≡ true
  pub same : given head.cfg.m (mem_at all) la x.key.level from last ≡ record { table = x.table; rights = x.rights }

-- the moments of a structure entry that p has at moment w
pub record StructureKept (head : Head) (all : List Event) (p w : ℕ) (x : Structure) : Type 0 where
  pub ws : List ℕ
  pub last : ℕ
  pub from : Parent
  pub low : last ≤ w
  pub alike : (control_at head all p last).pcid ≡ x.key.pcid
  pub kept : structure_survives head all p x.key last w ≡ true
  pub read : (la : ℕ) → x.key.prefix ≡ bits_from (level_shift x.key.level) la → StructureRead head all p x ws last from la

pub record TranslationRead (head : Head) (all : List Event) (p : ℕ) (t : Translation) (ws : List ℕ) (last : ℕ) (level : Level) (from : Parent) (g : Bool) (la : ℕ) : Type 0 where
  pub walk : Comes head all p la t.key.pcid last Four (root_at head all p (next_or last ws)) ws level from
  pub leaf : kind_of head.cfg level (seen (mem_at all) la level from last) ≡ kinds.Leaf t.frame t.key.shift g
  pub cached : may_cache head.version (seen (mem_at all) la level from last) ≡ true
  pub rights : joined from.rights (seen (mem_at all) la level from last) ≡ t.rights
  pub dirty : dirty (seen (mem_at all) la level from last) ≡ t.dirty

pub record TranslationKept (head : Head) (all : List Event) (p w : ℕ) (t : Translation) : Type 0 where
  pub ws : List ℕ
  pub last : ℕ
  pub level : Level
  pub from : Parent
  pub g : Bool
  pub low : last ≤ w
  pub alike : (control_at head all p last).pcid ≡ t.key.pcid
  pub global : (g && (control_at head all p last).pge) ≡ t.key.global
  pub kept : translation_survives head all p t.key last w ≡ true
  pub read : (la : ℕ) → t.key.number ≡ bits_from t.key.shift la → TranslationRead head all p t ws last level from g la

pub record Sound (head : Head) (all : List Event) (s : State) (w : ℕ) : Type 0 where
  pub structures : (p : ℕ) (x : Structure) → IsIn x (s.structures p) → StructureKept head all p w x
  pub translations : (p : ℕ) (t : Translation) → IsIn t (s.translations p) → TranslationKept head all p w t

pub sound_start : (head : Head) (all : List Event) → Sound head all (start head) 0
sound_start head all = record { structures = λ p x h. absurd h; translations = λ p t h. absurd h }

-- the moments of a parent that a walk may go on from at moment w
pub record Chain (head : Head) (all : List Event) (p pcid la w : ℕ) (level : Level) (from : Parent) : Type 0 where
  pub ws : List ℕ
  pub walk : (b : ℕ) → Agree level la b → Comes head all p b pcid w Four (root_at head all p (next_or w ws)) ws level from

chain_below : (head : Head) (all : List Event) (s : State) (w : ℕ) → Sound head all s w → (p la : ℕ) (level : Level) (from : Parent) →
    IsIn (structure_at s p la level from) (s.structures p) → Chain head all p (s.control p).pcid la w (below level) from
chain_below head all s w sound p la level from i =
    let x : Structure = structure_at s p la level from in
    let k = sound.structures p x i in
    record {
      ws = k.ws ++ k.last ∷ [];
      walk = λ b h.
          let agree : x.key.prefix ≡ bits_from (level_shift level) b = agree_above level la b h in
          let r = k.read b agree in
          let it : Parent = given head.cfg.m (mem_at all) b level k.from k.last in
          let whole : structure_key x.key.pcid level b ≡ x.key =
          ap (λ v. let y : StructureKey = record { pcid = x.key.pcid; level = level; prefix = v } in y) (sym agree) in
          let hop : IsHop head all p b x.key.pcid w level k.from k.last = record {
            low = k.low;
            alike = k.alike;
            table = r.table;
            cached = r.cached;
            kept = ap (λ (y : StructureKey). structure_survives head all p y k.last w) whole ∙ k.kept;
          } in
          let on = come_on head all p b x.key.pcid k.last w Four (root_at head all p (next_or k.last k.ws)) k.ws level k.from r.walk hop in
          subst (λ (f : Parent). Comes head all p b x.key.pcid w Four (root_at head all p (next_or w (k.ws ++ k.last ∷ []))) (k.ws ++ k.last ∷ []) (below level) f) r.same
          (subst (λ v. Comes head all p b x.key.pcid w Four (root_at head all p v) (k.ws ++ k.last ∷ []) (below level) it) (sym (next_or-push w k.last k.ws)) on);
    }

pub chain : (head : Head) (all : List Event) (s : State) (w : ℕ) → At head all s w → Sound head all s w → (p la : ℕ) (level : Level) (from : Parent) →
    MayRead s p la level from → Chain head all p (s.control p).pcid la w level from
chain head all s w now sound p la Four from may =
    record { ws = []; walk = λ b h. (refl, ap (λ (c : Control). root_of c) (now.control p) ∙ sym may) }
chain head all s w now sound p la Three from may = chain_below head all s w sound p la Four from may
chain head all s w now sound p la Two from may = chain_below head all s w sound p la Three from may
chain head all s w now sound p la One from may = chain_below head all s w sound p la Two from may

-- what is in a cache after a step
in_pushed : {X : Type 0} (p q : ℕ) (x y : X) (old : ℕ → List X) → IsIn x (changed_at p (λ xs. y ∷ xs) old q) → ((q ≡ p) × (y ≡ x)) ⊎ IsIn x (old q)
in_pushed p q x y old h =
    elim (cases_Bool (q == p)) [
      | inl t ↦ elim (rw t at h) as (λ _. ((q ≡ p) × (y ≡ x)) ⊎ IsIn x (old q)) [ inl e ↦ inl (eqb-true q p t, e) | inr i ↦ inr i ]
      | inr f ↦ inr (rw f at h)
    ]

pub in_filtered : {X : Type 0} (test : X → Bool) (x : X) (xs : List X) → IsIn x (filter test xs) → IsIn x xs × (test x ≡ true)
in_filtered test x [] h = absurd h
in_filtered test x (y ∷ ys) h =
    elim (cases_Bool (test y)) [
      | inl t ↦ elim (rw t at h) as (λ _. IsIn x (y ∷ ys) × (test x ≡ true)) [
        | inl e ↦ (inl e, ap test (sym e) ∙ t)
        | inr i ↦ let more = in_filtered test x ys i in (inr more.0, more.1)
      ]
      | inr f ↦ let more = in_filtered test x ys (rw f at h) in (inr more.0, more.1)
    ]

in_dropped : {X : Type 0} (p q : ℕ) (test : X → Bool) (x : X) (old : ℕ → List X) → IsIn x (changed_at p (filter test) old q) → IsIn x (old q)
in_dropped p q test x old h =
    elim (cases_Bool (q == p)) [
      | inl t ↦ (in_filtered test x (old q) (rw t at h)).0
      | inr f ↦ rw f at h
    ]

sound_structure : (head : Head) (all : List Event) (s : State) (w : ℕ) → Sound head all s w → (p : ℕ) (y : Structure) → StructureKept head all p w y → Sound head all (with_structure s p y) w
sound_structure head all s w sound p y k = record {
  structures = λ q x h. elim (in_pushed p q x y s.structures h) [
    | inl e ↦ subst (λ z. StructureKept head all q w z) e.1 (subst (λ r. StructureKept head all r w y) (sym e.0) k)
    | inr i ↦ sound.structures q x i
  ];
  translations = sound.translations;
}

sound_translation : (head : Head) (all : List Event) (s : State) (w : ℕ) → Sound head all s w → (p : ℕ) (y : Translation) → TranslationKept head all p w y → Sound head all (with_translation s p y) w
sound_translation head all s w sound p y k = record {
  structures = sound.structures;
  translations = λ q x h. elim (in_pushed p q x y s.translations h) [
    | inl e ↦ subst (λ z. TranslationKept head all q w z) e.1 (subst (λ r. TranslationKept head all r w y) (sym e.0) k)
    | inr i ↦ sound.translations q x i
  ];
}

-- nothing is taken out of an entry's time that has not begun
pub survives_none : (head : Head) (all : List Event) (p : ℕ) (test : Control → Event → Bool) (w : ℕ) → survives head all p test w w ≡ true
survives_none head all p test w =
    let none : w - w ≡ 0 = omega arith in
    ap (λ n. not (any_from (λ j. takes_out p test (control_at head all p j) (slice_get all j)) w n)) none

-- what a walk reads now, for each address that agrees with its own
value_now : (head : Head) (all : List Event) (s : State) (w : ℕ) → At head all s w → (la b : ℕ) (level : Level) (from : Parent) → Agree level la b →
    seen (mem_at all) b level from w ≡ entry_now s la level from
value_now head all s w now la b level from h = now.memory (entry_address from.table level b) ∙ ap s.memory (sym (same_address from.table level la b h))

pub table_sound : (head : Head) (all : List Event) (s : State) (w : ℕ) → At head all s w → Sound head all s w → (p la : ℕ) (level : Level) (from : Parent) →
    FindsTable head s p la level from → Sound head all (with_table head s p la level from) w
table_sound head all s w now sound p la level from found =
    let c = chain head all s w now sound p la level from found.1.1 in
    let y : Structure = structure_at s p la level (next head s la level from) in
    sound_structure head all s w sound p y (record {
      ws = c.ws;
      last = w;
      from = from;
      low = omega arith;
      alike = ap (λ (c : Control). c.pcid) (now.control p);
      kept = survives_none head all p (λ c e. must_drop_structure head.cfg.rules c e y.key) w;
      read = λ b h.
          let value = value_now head all s w now la b level from h in
          record {
            walk = c.walk b h;
            table = ap (λ v. is_table (kind_of head.cfg level v)) value ∙ ap is_table found.1.3;
            cached = ap (may_cache head.version) value ∙ found.1.2;
            same = ap (λ v. let f : Parent = record { table = table_of head.cfg.m v; rights = joined from.rights v } in f) value;
          };
    })

-- the size of a page is its level's
chosen : (b c : Bool) (k l : Kind) (frame shift : ℕ) (g : Bool) → cond b kinds.Absent (cond c kinds.Reserved k) ≡ kinds.Leaf frame shift g → k ≡ kinds.Leaf frame shift g
chosen true c k l frame shift g h = absurd (cc)
chosen false true k l frame shift g h = absurd (cc)
chosen false false k l frame shift g h = h

targeted : (m e n : ℕ) (b : Bool) (frame shift : ℕ) (g : Bool) → target m e (cond b (Some n) None) ≡ kinds.Leaf frame shift g → shift ≡ n
targeted m e n true frame shift g h = cc
targeted m e n false frame shift g h = absurd (cc)

shift_is : (cfg : Cfg) (level : Level) (e frame shift : ℕ) (g : Bool) → kind_of cfg level e ≡ kinds.Leaf frame shift g → shift ≡ level_shift level
shift_is cfg Four e frame shift g h = targeted cfg.m e 39 false frame shift g (chosen (not (has_bit e 0)) (is_reserved cfg Four e) (target cfg.m e (leaf_shift Four e)) kinds.Absent frame shift g h)
shift_is cfg Three e frame shift g h = targeted cfg.m e 30 (has_bit e 7) frame shift g (chosen (not (has_bit e 0)) (is_reserved cfg Three e) (target cfg.m e (leaf_shift Three e)) kinds.Absent frame shift g h)
shift_is cfg Two e frame shift g h = targeted cfg.m e 21 (has_bit e 7) frame shift g (chosen (not (has_bit e 0)) (is_reserved cfg Two e) (target cfg.m e (leaf_shift Two e)) kinds.Absent frame shift g h)
shift_is cfg One e frame shift g h = targeted cfg.m e 12 true frame shift g (chosen (not (has_bit e 0)) (is_reserved cfg One e) (target cfg.m e (leaf_shift One e)) kinds.Absent frame shift g h)

pub leaf_sound : (head : Head) (all : List Event) (s : State) (w : ℕ) → At head all s w → Sound head all s w → (p la : ℕ) (level : Level) (from : Parent) →
    FindsLeaf head s p la level from →
    Sound head all (with_leaf s p (translation_at (s.control p) la (joined from.rights (entry_now s la level from)) (entry_now s la level from) (kind_of head.cfg level (entry_now s la level from)))) w
leaf_sound head all s w now sound p la level from found =
    let frame : ℕ = found.0 in
    let shift : ℕ = found.1 in
    let g : Bool = found.2 in
    let finds = found.3 in
    let c = chain head all s w now sound p la level from finds.1 in
    let entry : ℕ = entry_now s la level from in
    let size : shift ≡ level_shift level = shift_is head.cfg level entry frame shift g finds.3 in
    let t : Translation = translation_of (s.control p).pcid shift (g && (s.control p).pge) la frame (joined from.rights entry) entry in
    subst (λ k. Sound head all (with_leaf s p (translation_at (s.control p) la (joined from.rights entry) entry k)) w) (sym finds.3)
    (sound_translation head all s w sound p t (record {
      ws = c.ws;
      last = w;
      level = level;
      from = from;
      g = g;
      low = omega arith;
      alike = ap (λ (c : Control). c.pcid) (now.control p);
      global = ap (λ (c : Control). g && c.pge) (now.control p);
      kept = survives_none head all p (λ c e. must_drop_translation head.cfg.rules c e t.key) w;
      read = λ b h.
          let agree : Agree level la b = subst (λ v. bits_from v la ≡ bits_from v b) size h in
          let value = value_now head all s w now la b level from agree in
          record {
            walk = c.walk b agree;
            leaf = ap (kind_of head.cfg level) value ∙ finds.3;
            cached = ap (may_cache head.version) value ∙ finds.2;
            rights = ap (joined from.rights) value;
            dirty = ap dirty value;
          };
    }))

pub drop_sound : (head : Head) (all : List Event) (s : State) (w : ℕ) → Sound head all s w → (p : ℕ) (member : Member) → Sound head all (without s p member) w
drop_sound head all s w sound p (members.Structure x) =
    record { structures = λ q y h. sound.structures q y (in_dropped p q (λ y. not (same_structure x y)) y s.structures h); translations = sound.translations }
drop_sound head all s w sound p (members.Translation x) =
    record { structures = sound.structures; translations = λ q y h. sound.translations q y (in_dropped p q (λ y. not (same_translation x y)) y s.translations h) }

-- one more moment
pub any_more : (test : ℕ → Bool) (from n : ℕ) → any_from test from n ≡ false → test (from + n) ≡ false → any_from test from (suc n) ≡ false
any_more test from zero h last = or_from _ _ (let e : from ≡ from + 0 = omega arith in ap test e ∙ last) refl
any_more test from (suc n) h last =
    let e : from + 1 + n ≡ from + suc n = omega arith in
    let parts = or_parts (test from) (any_from test (from + 1) n) h in
    or_from _ _ parts.0 (any_more test (from + 1) n parts.1 (ap test e ∙ last))

lasts : (head : Head) (all : List Event) (p : ℕ) (test : Control → Event → Bool) (from w : ℕ) (e : Event) → from ≤ w → slice_get all w ≡ Some e →
    (processor_of e == p && test (control_at head all p w) e) ≡ false → survives head all p test from w ≡ true → survives head all p test from (w + 1) ≡ true
lasts head all p test from w e low at out h =
    let takes : ℕ → Bool = λ j. takes_out p test (control_at head all p j) (slice_get all j) in
    let there : from + (w - from) ≡ w = omega (arith, low) in
    let count : w + 1 - from ≡ suc (w - from) = omega (arith, low) in
    let last : takes (from + (w - from)) ≡ false = ap takes there ∙ ap (takes_out p test (control_at head all p w)) at ∙ out in
    let more : any_from takes from (suc (w - from)) ≡ false = any_more takes from (w - from) (not-true _ h) last in
    not_from_false _ (ap (any_from takes from) count ∙ more)

pub event_sound : (head : Head) (all : List Event) (s : State) (w : ℕ) (e : Event) → At head all s w → slice_get all w ≡ Some e → Sound head all s w →
    Sound head all (after_event head s e) (w + 1)
event_sound head all s w e now at sound = record {
  structures = λ p x h.
      let there = in_filtered (λ x. not (processor_of e == p && must_drop_structure head.cfg.rules (s.control p) e x.key)) x (s.structures p) h in
      let k = sound.structures p x there.0 in
      let low : k.last ≤ w = k.low in
      record {
        ws = k.ws;
        last = k.last;
        from = k.from;
        low = omega (arith, low);
        alike = k.alike;
        kept = lasts head all p (λ c e. must_drop_structure head.cfg.rules c e x.key) k.last w e low at
            (ap (λ c. processor_of e == p && must_drop_structure head.cfg.rules c e x.key) (now.control p) ∙ not-true _ there.1) k.kept;
        read = k.read;
      };
  translations = λ p x h.
      let there = in_filtered (λ x. not (processor_of e == p && must_drop_translation head.cfg.rules (s.control p) e x.key)) x (s.translations p) h in
      let k = sound.translations p x there.0 in
      let low : k.last ≤ w = k.low in
      record {
        ws = k.ws;
        last = k.last;
        level = k.level;
        from = k.from;
        g = k.g;
        low = omega (arith, low);
        alike = k.alike;
        global = k.global;
        kept = lasts head all p (λ c e. must_drop_translation head.cfg.rules c e x.key) k.last w e low at
            (ap (λ c. processor_of e == p && must_drop_translation head.cfg.rules c e x.key) (now.control p) ∙ not-true _ there.1) k.kept;
        read = k.read;
      };
}
