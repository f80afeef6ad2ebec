-- What an event does is told without its moments.
use Rattle.std.proofs.Common.{◌≡◌, ℕ, refl, ap, sym, ◌∙◌}
use Rattle.pg_entry.specs.declared.Rules.{Rules}
use Rattle.pg_event.specs.declared.control.Control.{Control}
use Rattle.pg_event.specs.declared.event.Event.{Event}
use Rattle.pg_event.specs.declared.event.Event.TheVariants.{Write, Access, Assist, MovCr3, Invlpg, Invpcid, MovCr4Pge}
use Rattle.pg_event.specs.declared.event.Outcome.TheVariants.{Page, Fault}
use Rattle.pg_event.specs.declared.keys.StructureKey.{StructureKey}
use Rattle.pg_event.specs.declared.keys.TranslationKey.{TranslationKey}
use Rattle.pg_event.specs.Form.{processor_of}
use Rattle.pg_event.specs.Invalidation.{must_drop_structure, must_drop_translation}
use Rattle.pg_event.specs.Values.{written, controlled}
use Rattle.pg_run_of.specs.Converse.{without_moments}

written_bare : (a v : ℕ) (e : Event) → written a v (without_moments e) ≡ written a v e
written_bare a v (Access p flags la outcome ws) = refl
written_bare a v (Write p addr value) = refl
written_bare a v (MovCr3 p operand) = refl
written_bare a v (Invlpg p la) = refl
written_bare a v (Invpcid p kind pcid la) = refl
written_bare a v (MovCr4Pge p on) = refl
written_bare a v (Assist p flags la word ws) = refl

controlled_bare : (m p : ℕ) (c : Control) (e : Event) → controlled m p c (without_moments e) ≡ controlled m p c e
controlled_bare m p c (Access q flags la outcome ws) = refl
controlled_bare m p c (Write q addr value) = refl
controlled_bare m p c (MovCr3 q operand) = refl
controlled_bare m p c (Invlpg q la) = refl
controlled_bare m p c (Invpcid q kind pcid la) = refl
controlled_bare m p c (MovCr4Pge q on) = refl
controlled_bare m p c (Assist q flags la word ws) = refl

processor_bare : (e : Event) → processor_of (without_moments e) ≡ processor_of e
processor_bare (Access q flags la outcome ws) = refl
processor_bare (Write q addr value) = refl
processor_bare (MovCr3 q operand) = refl
processor_bare (Invlpg q la) = refl
processor_bare (Invpcid q kind pcid la) = refl
processor_bare (MovCr4Pge q on) = refl
processor_bare (Assist q flags la word ws) = refl

structure_bare : (rules : Rules) (x : StructureKey) (c : Control) (e : Event) → must_drop_structure rules c (without_moments e) x ≡ must_drop_structure rules c e x
structure_bare rules x c (Access q flags la (Page page) ws) = refl
structure_bare rules x c (Access q flags la (Fault code) ws) = refl
structure_bare rules x c (Write q addr value) = refl
structure_bare rules x c (MovCr3 q operand) = refl
structure_bare rules x c (Invlpg q la) = refl
structure_bare rules x c (Invpcid q kind pcid la) = refl
structure_bare rules x c (MovCr4Pge q on) = refl
structure_bare rules x c (Assist q flags la word ws) = refl

translation_bare : (rules : Rules) (x : TranslationKey) (c : Control) (e : Event) → must_drop_translation rules c (without_moments e) x ≡ must_drop_translation rules c e x
translation_bare rules x c (Access q flags la (Page page) ws) = refl
translation_bare rules x c (Access q flags la (Fault code) ws) = refl
translation_bare rules x c (Write q addr value) = refl
translation_bare rules x c (MovCr3 q operand) = refl
translation_bare rules x c (Invlpg q la) = refl
translation_bare rules x c (Invpcid q kind pcid la) = refl
translation_bare rules x c (MovCr4Pge q on) = refl
translation_bare rules x c (Assist q flags la word ws) = refl

module _ (e x : Event) (same : without_moments e ≡ without_moments x) where
  pub written_same : (a v : ℕ) → written a v e ≡ written a v x
  written_same a v = sym (written_bare a v e) ∙ (ap (written a v) same ∙ written_bare a v x)

  pub controlled_same : (m p : ℕ) (c : Control) → controlled m p c e ≡ controlled m p c x
  controlled_same m p c = sym (controlled_bare m p c e) ∙ (ap (controlled m p c) same ∙ controlled_bare m p c x)

  pub processor_same : processor_of e ≡ processor_of x
  processor_same = sym (processor_bare e) ∙ (ap processor_of same ∙ processor_bare x)

  pub structure_same : (rules : Rules) (c : Control) (k : StructureKey) → must_drop_structure rules c e k ≡ must_drop_structure rules c x k
  structure_same rules c k = sym (structure_bare rules k c e) ∙ (ap (λ y. must_drop_structure rules c y k) same ∙ structure_bare rules k c x)

  pub translation_same : (rules : Rules) (c : Control) (k : TranslationKey) → must_drop_translation rules c e k ≡ must_drop_translation rules c x k
  translation_same rules c k = sym (translation_bare rules k c e) ∙ (ap (λ y. must_drop_translation rules c y k) same ∙ translation_bare rules k c x)
