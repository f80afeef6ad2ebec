-- What is kept stays sound over an event that does not take it out.
use Rattle.std.proofs.Common.{◌≡◌, ℕ, ◌+◌, ◌≤◌, ◌==◌, Bool, List, [], ◌∷◌, ◌++◌, length, ap, sym, ◌∙◌, subst, true, false, ◌&&◌, arith}
use Rattle.std.proofs.lemmas.Bool.{eqb-true}
use Rattle.std.proofs.lemmas.List.{length_push}
use Rattle.pg_entry.specs.declared.Rules.{Rules}
use Rattle.pg_entry.specs.declared.Level.{Level}
use Rattle.pg_entry.specs.Kinds.{kind_of, dirty, table_of}
use Rattle.pg_entry.specs.Permission.{joined}
use Rattle.pg_event.specs.declared.control.Control.{Control}
use Rattle.pg_event.specs.declared.event.Event.{Event}
use Rattle.pg_event.specs.declared.keys.StructureKey.{StructureKey}
use Rattle.pg_event.specs.declared.keys.TranslationKey.{TranslationKey}
use Rattle.pg_event.specs.Heads.{Head, may_cache}
use Rattle.pg_event.specs.Form.{processor_of}
use Rattle.pg_event.specs.Values.{control_at}
use Rattle.pg_event.specs.Invalidation.{bits_from, level_shift, structure_key, translation_key, structure_matches, must_drop_structure, must_drop_translation}
use Rattle.pg_event.specs.Walk.{below, entry_address}
use Rattle.pg_event.specs.Wants.{is_table}
use Rattle.pg_shadow.specs.declared.entries.KeptLeaf.{KeptLeaf}
use Rattle.pg_shadow.specs.declared.entries.KeptTable.{KeptTable}
use Rattle.pg_shadow.specs.Caches.{same_space}
use Rattle.pg_guest.specs.Home.{WalkPosition, at_root, word_at, position_below, IsLink, Along, FromRoot, EndsInTable, EndsInLeaf, IsSoundTable, IsSoundLeaf}
use Rattle.pg_guest.proofs.Longer.{mem_longer, control_longer, survives_longer, survives_event}

word_longer : (es rest : List Event) (la : ℕ) (at : WalkPosition) (w : ℕ) → w ≤ length es → word_at (es ++ rest) la at w ≡ word_at es la at w
word_longer es rest la at w h = mem_longer es rest w (entry_address at.table at.level la) h

position_longer : (m : ℕ) (es rest : List Event) (la : ℕ) (at : WalkPosition) (w : ℕ) → w ≤ length es → position_below m (es ++ rest) la at w ≡ position_below m es la at w
position_longer m es rest la at w h =
    ap (λ (v : ℕ). let to : WalkPosition = record { level = below at.level; table = table_of m v; rights = joined at.rights v } in to) (word_longer es rest la at w h)

-- the test by which an event takes out the structure entry of a level
abbrev takes_structure : Rules → ℕ → ℕ → Level → Control → Event → Bool
takes_structure rules pcid la level c e = must_drop_structure rules c e (structure_key pcid level la)

abbrev takes_translation : Rules → TranslationKey → Control → Event → Bool
takes_translation rules key c e = must_drop_translation rules c e key

link_longer : (head : Head) (es rest : List Event) (p la pcid : ℕ) (at : WalkPosition) (w x : ℕ) → x ≤ length es →
    IsLink head es p la pcid at w x → IsLink head (es ++ rest) p la pcid at w x
link_longer head es rest p la pcid at w x past h =
    let early : w ≤ length es = omega (arith, h.order) in
    let word : word_at (es ++ rest) la at w ≡ word_at es la at w = word_longer es rest la at w early in record {
      table = ap (λ v. is_table (kind_of head.cfg at.level v)) word ∙ h.table;
      usable = ap (may_cache head.version) word ∙ h.usable;
      own = ap (λ (c : Control). c.pcid) (control_longer head es rest p w early) ∙ h.own;
      order = h.order;
      stands = survives_longer head es rest p (takes_structure head.cfg.rules pcid la at.level) w x past h.stands;
    }

-- no moment of a walk is above a bound of its last one
along_bound : (head : Head) (es : List Event) (p la pcid : ℕ) (Ends : WalkPosition → ℕ → Type 0) (n : ℕ) → ((at : WalkPosition) (w : ℕ) → Ends at w → w ≤ n) →
    (at : WalkPosition) (w : ℕ) (ws : List ℕ) → Along head es p la pcid Ends at w ws → w ≤ n
along_bound head es p la pcid Ends n bound at w [] h = bound at w h
along_bound head es p la pcid Ends n bound at w (x ∷ ws) h =
    let rest : x ≤ n = along_bound head es p la pcid Ends n bound (position_below head.cfg.m es la at w) x ws h.1 in
    let order : w ≤ x = h.0.order in omega arith

along_longer : (head : Head) (es rest : List Event) (p la pcid : ℕ) (Ends Ends2 : WalkPosition → ℕ → Type 0) →
    ((at : WalkPosition) (w : ℕ) → Ends at w → w ≤ length es) → ((at : WalkPosition) (w : ℕ) → Ends at w → Ends2 at w) →
    (at : WalkPosition) (w : ℕ) (ws : List ℕ) → Along head es p la pcid Ends at w ws → Along head (es ++ rest) p la pcid Ends2 at w ws
along_longer head es rest p la pcid Ends Ends2 bound grow at w [] h = grow at w h
along_longer head es rest p la pcid Ends Ends2 bound grow at w (x ∷ ws) h =
    let past : x ≤ length es = along_bound head es p la pcid Ends (length es) bound (position_below head.cfg.m es la at w) x ws h.1 in
    let order : w ≤ x = h.0.order in
    let early : w ≤ length es = omega arith in (
      link_longer head es rest p la pcid at w x past h.0,
      subst (λ to. Along head (es ++ rest) p la pcid Ends2 to x ws) (sym (position_longer head.cfg.m es rest la at w early))
          (along_longer head es rest p la pcid Ends Ends2 bound grow (position_below head.cfg.m es la at w) x ws h.1),
    )

-- a walk by past moments is the same walk with more events, where its end is
from_root_longer : (head : Head) (es rest : List Event) (p la pcid : ℕ) (Ends Ends2 : WalkPosition → ℕ → Type 0) →
    ((at : WalkPosition) (w : ℕ) → Ends at w → w ≤ length es) → ((at : WalkPosition) (w : ℕ) → Ends at w → Ends2 at w) →
    (ws : List ℕ) → FromRoot head es p la pcid Ends ws → FromRoot head (es ++ rest) p la pcid Ends2 ws
from_root_longer head es rest p la pcid Ends Ends2 bound grow [] h = absurd h
from_root_longer head es rest p la pcid Ends Ends2 bound grow (w ∷ ws) h =
    let early : w ≤ length es = along_bound head es p la pcid Ends (length es) bound (at_root (control_at head es p w)) w ws h in
    subst (λ c. Along head (es ++ rest) p la pcid Ends2 (at_root c) w ws) (sym (control_longer head es rest p w early))
    (along_longer head es rest p la pcid Ends Ends2 bound grow (at_root (control_at head es p w)) w ws h)

-- the structure entry of the last reading has the key
pub key_is : (key : StructureKey) (level : Level) (la : ℕ) → level ≡ key.level → structure_matches key la ≡ true → structure_key key.pcid level la ≡ key
key_is key level la same matches =
    ap (λ (l : Level). structure_key key.pcid l la) same
    ∙ ap (λ (n : ℕ). let k : StructureKey = record { pcid = key.pcid; level = key.level; prefix = n } in k) (sym (eqb-true key.prefix (bits_from (level_shift key.level) la) matches))

pub table_stays : (head : Head) (es : List Event) (e : Event) (p : ℕ) (key : StructureKey) (kept : KeptTable) → IsSoundTable head es p key kept →
    (processor_of e == p && must_drop_structure head.cfg.rules (control_at head es p (length es)) e key) ≡ false → IsSoundTable head (es ++ e ∷ []) p key kept
table_stays head es e p key kept sound spared = record {
  some = sound.some;
  each = λ la matches.
      from_root_longer head es (e ∷ []) p la key.pcid (EndsInTable head es p la key kept) (EndsInTable head (es ++ e ∷ []) p la key kept)
      (λ at w h. h.link.order)
      (λ at w h.
      let early : w ≤ length es = h.link.order in
      let more : length (es ++ e ∷ []) ≡ length es + 1 = length_push es e in
      let word : word_at (es ++ e ∷ []) la at w ≡ word_at es la at w = word_longer es (e ∷ []) la at w early in
      let spared2 : (processor_of e == p && takes_structure head.cfg.rules key.pcid la at.level (control_at head es p (length es)) e) ≡ false =
      ap (λ k. processor_of e == p && must_drop_structure head.cfg.rules (control_at head es p (length es)) e k) (key_is key at.level la h.level_is matches) ∙ spared in
      record {
        link = record {
          table = ap (λ v. is_table (kind_of head.cfg at.level v)) word ∙ h.link.table;
          usable = ap (may_cache head.version) word ∙ h.link.usable;
          own = ap (λ (c : Control). c.pcid) (control_longer head es (e ∷ []) p w early) ∙ h.link.own;
          order = omega arith;
          stands = survives_event head es e p (takes_structure head.cfg.rules key.pcid la at.level) w h.link.stands spared2;
        };
        level_is = h.level_is;
        position_is = position_longer head.cfg.m es (e ∷ []) la at w early ∙ h.position_is;
      })
      kept.moments (sound.each la matches);
}

pub leaf_stays : (head : Head) (es : List Event) (e : Event) (p : ℕ) (key : TranslationKey) (kept : KeptLeaf) → IsSoundLeaf head es p key kept →
    (processor_of e == p && must_drop_translation head.cfg.rules (control_at head es p (length es)) e key) ≡ false → IsSoundLeaf head (es ++ e ∷ []) p key kept
leaf_stays head es e p key kept sound spared = record {
  some = sound.some;
  each = λ la matches.
      let given = sound.each la matches in (
        given.0,
        from_root_longer head es (e ∷ []) p la given.0 (EndsInLeaf head es p la given.0 key kept) (EndsInLeaf head (es ++ e ∷ []) p la given.0 key kept)
            (λ at w h. h.order)
            (λ at w h.
            let early : w ≤ length es = h.order in
            let more : length (es ++ e ∷ []) ≡ length es + 1 = length_push es e in
            let word : word_at (es ++ e ∷ []) la at w ≡ word_at es la at w = word_longer es (e ∷ []) la at w early in
            let then : control_at head (es ++ e ∷ []) p w ≡ control_at head es p w = control_longer head es (e ∷ []) p w early in
            record {
              global_bit = h.global_bit;
              leaf = ap (kind_of head.cfg at.level) word ∙ h.leaf;
              usable = ap (may_cache head.version) word ∙ h.usable;
              dirty_is = ap dirty word ∙ h.dirty_is;
              rights_are = ap (joined at.rights) word ∙ h.rights_are;
              own = ap (λ (c : Control). c.pcid) then ∙ h.own;
              space_is = ap (λ (c : Control). same_space key (translation_key given.0 key.shift (h.global_bit && c.pge) la)) then ∙ h.space_is;
              order = omega arith;
              stands = survives_event head es e p (takes_translation head.cfg.rules key) w h.stands spared;
            })
            kept.moments given.1,
      );
}
