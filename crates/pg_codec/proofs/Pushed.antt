-- What is pushed field by field: what stands before the processors of a header, and an event.
use Rattle.std.proofs.Common.{◌≡◌, List, [], ◌∷◌, ◌++◌, ℕ, length, codes, refl, ap, ◌∙◌, append_assoc}
use Rattle.std.proofs.lemmas.List.{append-nil}
use Rattle.std.specs.List.{flat_map}
use Rattle.std.specs.Int.{w16, w32, to_le_bytes}
use Rattle.pg_event.specs.declared.event.Event.{Event}
use Rattle.pg_event.specs.declared.event.Event.TheVariants.{Write, Access, Assist, MovCr3, Invlpg, Invpcid, MovCr4Pge}
use Rattle.pg_event.specs.declared.version.Version.{Version}
use Rattle.pg_event.specs.Heads.{Head}
use Rattle.pg_event.specs.Form.{processor_of}
use Rattle.pg_event.specs.Spelling.{processor_bytes, start_bytes, header_bytes, tag_of, field_bytes, event_bytes}
use Rattle.pg_codec.specs.Bare.{bare_bytes, named_bytes}
use Rattle.pg_codec.specs.Writing.{numbered_bytes, settings_bytes}

in_order : (old a b c d e f : List ℕ) → ((((((old ++ a) ++ b) ++ c) ++ d) ++ e) ++ f) ≡ old ++ (a ++ (b ++ ((c ++ d) ++ (e ++ f))))
in_order old a b c d e f = simp append_assoc

pub settings_in_order : (number : ℕ) (head : Head) (old magic version m flags count size : List ℕ) → magic ≡ old ++ codes "PGRECORD" → version ≡ magic ++ to_le_bytes w16 number
    → m ≡ version ++ head.cfg.m ∷ [] → flags ≡ m ++ head.cfg.flags.0 ∷ [] → count ≡ flags ++ processor_bytes head.version (length head.processors) → size ≡ count ++ to_le_bytes w32 head.segment
    → size ≡ old ++ numbered_bytes number head
settings_in_order number head old magic version m flags count size a b c d e f =
    rw (f, e, d, c, b, a) (in_order old (codes "PGRECORD") (to_le_bytes w16 number) (head.cfg.m ∷ []) (head.cfg.flags.0 ∷ []) (processor_bytes head.version (length head.processors)) (to_le_bytes w32 head.segment))

-- a header is what stands before its processors, and then each of them
pub header_in_order : (head : Head) → settings_bytes head ++ flat_map start_bytes head.processors ≡ header_bytes head
header_in_order head = simp append_assoc

-- ---- an event

fields_in_parts : (e : Event) → bare_bytes e ++ named_bytes e ≡ field_bytes e
fields_in_parts (Write p addr value) = append-nil _
fields_in_parts (Access p flags la outcome moments) = refl
fields_in_parts (Assist p flags la word moments) = refl
fields_in_parts (MovCr3 p operand) = append-nil _
fields_in_parts (Invlpg p la) = append-nil _
fields_in_parts (Invpcid p kind pcid la) = append-nil _
fields_in_parts (MovCr4Pge p on) = append-nil _

-- an event is its head, its fields, and its moments
pub event_in_order : (version : Version) (e : Event) (old head bare named : List ℕ) → head ≡ old ++ tag_of e ∷ processor_bytes version (processor_of e) → bare ≡ head ++ bare_bytes e → named ≡ bare ++ named_bytes e
    → named ≡ old ++ event_bytes version e
event_in_order version e old head bare named a b c =
    let tagged : List ℕ = tag_of e ∷ processor_bytes version (processor_of e) in
    c
    ∙ ap (λ (l : List ℕ). l ++ named_bytes e) b
    ∙ append_assoc head (bare_bytes e) (named_bytes e)
    ∙ ap (λ (l : List ℕ). head ++ l) (fields_in_parts e)
    ∙ ap (λ (l : List ℕ). l ++ field_bytes e) a
    ∙ append_assoc old tagged (field_bytes e)
