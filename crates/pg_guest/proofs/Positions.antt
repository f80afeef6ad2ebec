-- What is read now at a position of a walk: it is sound where it is kept, and it proves the
-- fault or the assist that it gives.
use Rattle.std.proofs.Common.{◌≡◌, ℕ, ◌+◌, ◌*◌, ◌==◌, Bool, List, [], ◌∷◌, ◌++◌, length, refl, ap, sym, ◌∙◌, subst, true, false, not, cond, ◌&&◌, ◌||◌, arith, Some, None}
use Rattle.std.proofs.lemmas.Bool.{eq-eqb, eqb-true, and_from}
use Rattle.pg_entry.specs.declared.AccessKind.{AccessKind}
use Rattle.pg_entry.specs.declared.Cause.TheVariants as causes
use Rattle.pg_entry.specs.declared.Level.{Level}
use Rattle.pg_entry.specs.declared.Kind.TheVariants as kinds
use Rattle.pg_entry.specs.Kinds.{kind_of, accessed, dirty, table_of}
use Rattle.pg_entry.specs.Permission.{joined, fault_code}
use Rattle.pg_event.specs.declared.claim.Claim.{Claim}
use Rattle.pg_event.specs.declared.claim.Update.{Update}
use Rattle.pg_event.specs.declared.control.Control.{Control}
use Rattle.pg_event.specs.declared.event.Event.{Event}
use Rattle.pg_event.specs.declared.event.Outcome.TheVariants.{Fault}
use Rattle.pg_event.specs.declared.event.Reason.TheVariants as reasons
use Rattle.pg_event.specs.declared.event.Want.TheVariants as wants
use Rattle.pg_event.specs.declared.keys.StructureKey.{StructureKey}
use Rattle.pg_event.specs.declared.keys.TranslationKey.{TranslationKey}
use Rattle.pg_event.specs.Heads.{Head, judges_accessed, may_cache}
use Rattle.pg_event.specs.Values.{mem_at, control_at}
use Rattle.pg_event.specs.Invalidation.{bits_from, level_shift, structure_key, translation_key, must_drop_structure, must_drop_translation}
use Rattle.pg_event.specs.Walk.{below, entry_address}
use Rattle.pg_event.specs.Wants.{want_of, is_wanted, is_table, uses_last, may_dirty}
use Rattle.pg_event.specs.Witness.{asked_by, asked_of, failing_end, is_updated, failing_access, failing_assist}
use Rattle.pg_shadow.specs.declared.entries.KeptLeaf.{KeptLeaf}
use Rattle.pg_shadow.specs.declared.entries.KeptTable.{KeptTable}
use Rattle.pg_shadow.specs.Caches.{same_space}
use Rattle.pg_guest.specs.Home.{WalkPosition, at_root, word_at, position_below, Along, FromRoot, EndsInTable, EndsInLeaf, IsSoundTable, IsSoundLeaf}
use Rattle.pg_guest.proofs.Longer.{survives_now}
use Rattle.pg_guest.proofs.Entries.{coarser, index_same, table_is, shift_is, want_of_absent, want_of_reserved}
use Rattle.pg_guest.proofs.Keys.{space_self, and_false}
use Rattle.pg_guest.proofs.Witnesses.{reading_at, IsLast, IsServed, access_witnessed, assist_witnessed, passed, none_to_use}

-- ---- where a walk comes to

-- one more reading, at the present moment, in the table that the walk ends in
along_on : (head : Head) (es : List Event) (p la : ℕ) (key : StructureKey) (kept : KeptTable) (Ends : WalkPosition → ℕ → Type 0) →
    Ends (record { level = below key.level; table = kept.table; rights = kept.rights }) (length es) →
    (at : WalkPosition) (w : ℕ) (ws : List ℕ) → Along head es p la key.pcid (EndsInTable head es p la key kept) at w ws → Along head es p la key.pcid Ends at w (ws ++ length es ∷ [])
along_on head es p la key kept Ends end at w [] h = (h.link, subst (λ to. Ends to (length es)) (sym h.position_is) end)
along_on head es p la key kept Ends end at w (x ∷ ws) h =
    (h.0, along_on head es p la key kept Ends end (position_below head.cfg.m es la at w) x ws h.1)

from_root_on : (head : Head) (es : List Event) (p la : ℕ) (key : StructureKey) (kept : KeptTable) (Ends : WalkPosition → ℕ → Type 0) →
    Ends (record { level = below key.level; table = kept.table; rights = kept.rights }) (length es) →
    (ws : List ℕ) → FromRoot head es p la key.pcid (EndsInTable head es p la key kept) ws → FromRoot head es p la key.pcid Ends (ws ++ length es ∷ [])
from_root_on head es p la key kept Ends end [] h = absurd h
from_root_on head es p la key kept Ends end (w ∷ ws) h = along_on head es p la key kept Ends end (at_root (control_at head es p w)) w ws h

-- for the addresses with the key of a position, a walk by these moments comes to it, and goes
-- on by a reading now
abbrev pub Comes : Head → List Event → ℕ → ℕ → ℕ → WalkPosition → List ℕ → Type 1
Comes head es p la pcid at ws =
    (a : ℕ) → bits_from (level_shift at.level) a ≡ bits_from (level_shift at.level) la →
    (Ends : WalkPosition → ℕ → Type 0) → Ends at (length es) → FromRoot head es p a pcid Ends (ws ++ length es ∷ [])

pub comes_at_root : (head : Head) (es : List Event) (p la pcid : ℕ) (c : Control) → c ≡ control_at head es p (length es) → Comes head es p la pcid (at_root c) []
comes_at_root head es p la pcid c now a same Ends end = subst (λ c. Ends (at_root c) (length es)) now end

pub comes_in_table : (head : Head) (es : List Event) (p la pcid : ℕ) (level : Level) (kept : KeptTable) → IsSoundTable head es p (structure_key pcid level la) kept →
    Comes head es p la pcid (record { level = below level; table = kept.table; rights = kept.rights }) kept.moments
comes_in_table head es p la pcid level kept sound a same Ends end =
    let key : StructureKey = structure_key pcid level la in
    from_root_on head es p a key kept Ends end kept.moments (sound.each a (eq-eqb _ _ (sym (coarser level a la same))))

word_same : (es : List Event) (a la : ℕ) (at : WalkPosition) (w : ℕ) → bits_from (level_shift at.level) a ≡ bits_from (level_shift at.level) la → word_at es a at w ≡ word_at es la at w
word_same es a la at w h = ap (λ i. mem_at es w (at.table + 8 * i)) (index_same at.level a la h)

-- ---- what is kept

-- a table that is read now and kept is sound
pub table_now : (head : Head) (es : List Event) (p la pcid : ℕ) (at : WalkPosition) (ws : List ℕ) → (control_at head es p (length es)).pcid ≡ pcid → Comes head es p la pcid at ws →
    may_cache head.version (word_at es la at (length es)) ≡ true → (addr : ℕ) → kind_of head.cfg at.level (word_at es la at (length es)) ≡ kinds.Table addr →
    IsSoundTable head es p (structure_key pcid at.level la) (record { table = addr; rights = joined at.rights (word_at es la at (length es)); moments = ws ++ length es ∷ [] })
table_now head es p la pcid at ws own comes usable addr kind = record {
  some = (la, eq-eqb _ _ refl);
  each = λ a matches.
      let key : StructureKey = structure_key pcid at.level la in
      let kept : KeptTable = record { table = addr; rights = joined at.rights (word_at es la at (length es)); moments = ws ++ length es ∷ [] } in
      let same : bits_from (level_shift at.level) a ≡ bits_from (level_shift at.level) la = sym (eqb-true _ _ matches) in
      let word : word_at es a at (length es) ≡ word_at es la at (length es) = word_same es a la at (length es) same in
      comes a same (EndsInTable head es p a key kept) (record {
        link = record {
          table = ap (λ v. is_table (kind_of head.cfg at.level v)) word ∙ ap is_table kind;
          usable = ap (may_cache head.version) word ∙ usable;
          own = own;
          order = omega arith;
          stands = survives_now head es p (λ c e. must_drop_structure head.cfg.rules c e (structure_key pcid at.level a)) (length es);
        };
        level_is = refl;
        position_is = ap (λ (v : ℕ). let to : WalkPosition = record { level = below at.level; table = table_of head.cfg.m v; rights = joined at.rights v } in to) word
            ∙ ap (λ (v : ℕ). let to : WalkPosition = record { level = below at.level; table = v; rights = kept.rights } in to) (table_is head.cfg at.level (word_at es la at (length es)) addr kind);
      });
}

-- so is a page
pub leaf_now : (head : Head) (es : List Event) (p la : ℕ) (c : Control) (at : WalkPosition) (ws : List ℕ) → c ≡ control_at head es p (length es) → Comes head es p la c.pcid at ws →
    may_cache head.version (word_at es la at (length es)) ≡ true → (frame shift : ℕ) (g : Bool) → kind_of head.cfg at.level (word_at es la at (length es)) ≡ kinds.Leaf frame shift g →
    let value = word_at es la at (length es) in
    IsSoundLeaf head es p (translation_key c.pcid shift (g && c.pge) la) (record { frame = frame; rights = joined at.rights value; dirty = dirty value; moments = ws ++ length es ∷ [] })
leaf_now head es p la c at ws now comes usable frame shift g kind = record {
  some = (la, eq-eqb _ _ refl);
  each = λ a matches.
      let n : ℕ = length es in
      let value : ℕ = word_at es la at n in
      let key : TranslationKey = translation_key c.pcid shift (g && c.pge) la in
      let kept : KeptLeaf = record { frame = frame; rights = joined at.rights value; dirty = dirty value; moments = ws ++ n ∷ [] } in
      let size : level_shift at.level ≡ shift = shift_is head.cfg at.level value frame shift g kind in
      let same : bits_from (level_shift at.level) a ≡ bits_from (level_shift at.level) la = subst (λ s. bits_from s a ≡ bits_from s la) (sym size) (sym (eqb-true _ _ matches)) in
      let word : word_at es a at n ≡ value = word_same es a la at n same in (
        c.pcid,
        comes a same (EndsInLeaf head es p a c.pcid key kept) (record {
          global_bit = g;
          leaf = ap (kind_of head.cfg at.level) word ∙ kind;
          usable = ap (may_cache head.version) word ∙ usable;
          dirty_is = ap dirty word;
          rights_are = ap (joined at.rights) word;
          own = ap (λ (d : Control). d.pcid) (sym now);
          space_is = ap (λ (d : Control). same_space key (translation_key c.pcid shift (g && d.pge) a)) (sym now) ∙ space_self c.pcid (g && c.pge);
          order = omega arith;
          stands = survives_now head es p (λ d e. must_drop_translation head.cfg.rules d e key) n;
        }),
      );
}

-- ---- what is recorded

pub last_passed : {X : Type 0} (b : Bool) (x : X) → b ≡ true → cond b None (Some x) ≡ None
last_passed true x h = refl
last_passed false x h = absurd (cc)

-- the flags pass, where they are not judged, or are good
pub flags_pass : (judged tables last without_dirty : Bool) → (not judged || tables) ≡ true → (not judged || last) ≡ true → (judged && without_dirty) ≡ false →
    cond (not judged) None (cond (not (tables && last)) (Some reasons.Accessed) (cond without_dirty (Some reasons.Dirty) None)) ≡ None
flags_pass false tables last without_dirty a b c = refl
flags_pass true true true false a b c = refl
flags_pass true true true true a b c = absurd (cc)
flags_pass true true false without_dirty a b c = absurd (cc)
flags_pass true false last without_dirty a b c = absurd (cc)

abbrev faulting : List Event → ℕ → AccessKind → ℕ → ℕ → Claim
faulting es p kind la code = record { number = length es; p = p; kind = kind; la = la; outcome = Fault code }

-- an absent entry that is read now is a proof of its fault
pub absent_now : (head : Head) (es : List Event) (p la pcid : ℕ) (kind : AccessKind) (at : WalkPosition) (ws : List ℕ) → (control_at head es p (length es)).pcid ≡ pcid → Comes head es p la pcid at ws →
    kind_of head.cfg at.level (word_at es la at (length es)) ≡ kinds.Absent →
    failing_access head es (faulting es p kind la (fault_code head.cfg kind causes.Absent)) (ws ++ length es ∷ []) ≡ None
absent_now head es p la pcid kind at ws own comes is =
    let n : ℕ = length es in
    let code : ℕ = fault_code head.cfg kind causes.Absent in
    let c : Claim = faulting es p kind la code in
    let value : ℕ = word_at es la at n in
    let judged : Bool = judges_accessed head.version in
    access_witnessed head es c pcid (ws ++ n ∷ [])
    (comes la refl (IsLast head es (asked_by c) pcid (IsServed head es c pcid)) (record {
      order = omega arith;
      own = own;
      wanted = ap (λ w. is_wanted w (kind_of head.cfg at.level value)) (want_of_absent head.cfg kind) ∙ ap (is_wanted wants.Absent) is;
      ends = record {
        ends = ap (failing_end head es c pcid (reading_at es la at n)) is
            ∙ passed (n == n) reasons.NotAtEvent _ (eq-eqb n n refl) (last_passed (code == code) reasons.Code (eq-eqb code code refl));
        flags = λ tables good. flags_pass judged tables (not (uses_last (want_of (Fault code))) || accessed value) false good
            (ap (λ w. not judged || (not (uses_last w) || accessed value)) (want_of_absent head.cfg kind) ∙ none_to_use judged) (and_false judged);
      };
    }))

-- so is a reserved one
pub reserved_now : (head : Head) (es : List Event) (p la pcid : ℕ) (kind : AccessKind) (at : WalkPosition) (ws : List ℕ) → (control_at head es p (length es)).pcid ≡ pcid → Comes head es p la pcid at ws →
    kind_of head.cfg at.level (word_at es la at (length es)) ≡ kinds.Reserved →
    failing_access head es (faulting es p kind la (fault_code head.cfg kind causes.Reserved)) (ws ++ length es ∷ []) ≡ None
reserved_now head es p la pcid kind at ws own comes is =
    let n : ℕ = length es in
    let code : ℕ = fault_code head.cfg kind causes.Reserved in
    let c : Claim = faulting es p kind la code in
    let value : ℕ = word_at es la at n in
    let judged : Bool = judges_accessed head.version in
    access_witnessed head es c pcid (ws ++ n ∷ [])
    (comes la refl (IsLast head es (asked_by c) pcid (IsServed head es c pcid)) (record {
      order = omega arith;
      own = own;
      wanted = ap (λ w. is_wanted w (kind_of head.cfg at.level value)) (want_of_reserved head.cfg kind) ∙ ap (is_wanted wants.Reserved) is;
      ends = record {
        ends = ap (failing_end head es c pcid (reading_at es la at n)) is
            ∙ passed (n == n) reasons.NotAtEvent _ (eq-eqb n n refl) (last_passed (code == code) reasons.Code (eq-eqb code code refl));
        flags = λ tables good. flags_pass judged tables (not (uses_last (want_of (Fault code))) || accessed value) false good
            (ap (λ w. not judged || (not (uses_last w) || accessed value)) (want_of_reserved head.cfg kind) ∙ none_to_use judged) (and_false judged);
      };
    }))

-- an assist of a processor at a moment
abbrev pub assisting : List Event → ℕ → AccessKind → ℕ → ℕ → Bool → Update
assisting es p kind la word with_dirty = record { number = length es; p = p; kind = kind; la = la; word = word; dirty = with_dirty }

-- an entry that is read now, present and unreserved, is a proof of its assist
pub assist_now : (head : Head) (es : List Event) (p la pcid : ℕ) (kind : AccessKind) (at : WalkPosition) (ws : List ℕ) (with_dirty : Bool) → judges_accessed head.version ≡ true →
    (control_at head es p (length es)).pcid ≡ pcid → Comes head es p la pcid at ws →
    is_wanted wants.Present (kind_of head.cfg at.level (word_at es la at (length es))) ≡ true →
    (not with_dirty || may_dirty head.cfg kind (joined at.rights (word_at es la at (length es))) (kind_of head.cfg at.level (word_at es la at (length es)))) ≡ true →
    failing_assist head es (assisting es p kind la (entry_address at.table at.level la) with_dirty) (ws ++ length es ∷ []) ≡ None
assist_now head es p la pcid kind at ws with_dirty judged own comes present may =
    let n : ℕ = length es in
    let address : ℕ = entry_address at.table at.level la in
    let u : Update = assisting es p kind la address with_dirty in
    assist_witnessed head es u pcid (ws ++ n ∷ []) judged
    (comes la refl (IsLast head es (asked_of u) pcid (λ r. is_updated head.cfg u r ≡ true)) (record {
      order = omega arith;
      own = own;
      wanted = present;
      ends = and_from _ _ (and_from _ _ (eq-eqb n n refl) (eq-eqb address address refl)) may;
    }))
