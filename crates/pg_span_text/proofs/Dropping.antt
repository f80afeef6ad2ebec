-- What must drop a page's translation of 4 KB must drop all that is cached of the page.
use Rattle.std.proofs.Common.{◌≡◌, ℕ, ◌/◌, ◌%◌, ◌^◌, Bool, true, false, not, ◌&&◌, ◌||◌, eqb, refl, ap, sym, ◌∙◌}
use Rattle.std.specs.Prelude.{if◌then◌else◌, ◌==◌}
use Rattle.std.proofs.lemmas.Bool.{eqb-true, eq-eqb, and_parts, and_from, or_right}
use Rattle.std.proofs.lemmas.Nat.{shr-shr}
use Rattle.pg_entry.specs.Rules.{holds, fault_translations, fault_structures, invlpg_structures, invpcid_structures}
use Rattle.pg_entry.specs.declared.Level.{Level}
use Rattle.pg_entry.specs.declared.Level.TheVariants.{Four, Three, Two, One}
use Rattle.pg_event.specs.declared.event.Event.TheVariants.{Write, Access, Assist, MovCr3, Invlpg, Invpcid, MovCr4Pge}
use Rattle.pg_event.specs.declared.event.Outcome.TheVariants.{Page, Fault}
use Rattle.pg_event.specs.Invalidation.{level_shift, bits_from}
use Rattle.pg_span_text.specs.Laws.{DropsAllOfAPage}

-- addresses in one page of 4 KB are in one page of each size
agree : (level : Level) (a b : ℕ) → bits_from 12 a ≡ bits_from 12 b → bits_from (level_shift level) a ≡ bits_from (level_shift level) b
agree One a b h = h
agree Two a b h = sym (shr-shr (a % 2 ^ 48) 12 9) ∙ ap (λ v. v / 2 ^ 9) h ∙ shr-shr (b % 2 ^ 48) 12 9
agree Three a b h = sym (shr-shr (a % 2 ^ 48) 12 18) ∙ ap (λ v. v / 2 ^ 18) h ∙ shr-shr (b % 2 ^ 48) 12 18
agree Four a b h = sym (shr-shr (a % 2 ^ 48) 12 27) ∙ ap (λ v. v / 2 ^ 27) h ∙ shr-shr (b % 2 ^ 48) 12 27

matches : (level : Level) (a b : ℕ) → eqb (bits_from 12 a) (bits_from 12 b) ≡ true → eqb (bits_from (level_shift level) a) (bits_from (level_shift level) b) ≡ true
matches level a b h = eq-eqb (bits_from (level_shift level) a) (bits_from (level_shift level) b) (agree level a b (eqb-true (bits_from 12 a) (bits_from 12 b) h))

-- of one address, under the PCID: by a page fault, by INVLPG, by INVPCID
by_fault : (near far translations own structures two : Bool) → (near ≡ true → far ≡ true) → ((near && (translations && own)) && (structures && own && two)) ≡ true
    → ((far && (translations && own)) ≡ true) × ((structures && own && far) ≡ true)
by_fault near far translations own structures two f h =
    let both = and_parts (near && (translations && own)) (structures && own && two) h in
    let first = and_parts near (translations && own) both.0 in
    let second = and_parts (structures && own) two both.1 in
    (and_from far (translations && own) (f first.0) first.1, and_from (structures && own) far second.0 (f first.0))

by_address : (near far own all two : Bool) → (near ≡ true → far ≡ true) → ((near && (own || false)) && (own && (all || two))) ≡ true → ((far && (own || false)) ≡ true) × ((own && (all || far)) ≡ true)
by_address near far own all two f h =
    let both = and_parts (near && (own || false)) (own && (all || two)) h in
    let first = and_parts near (own || false) both.0 in
    let second = and_parts own (all || two) both.1 in
    (and_from far (own || false) (f first.0) first.1, and_from own (all || far) second.0 (or_right all far (f first.0)))

by_kind : (one pcid all near far own structures two : Bool) → (near ≡ true → far ≡ true) →
    ((if one then own && near && not false else if pcid then own && not false else if all then true else not false)
    && (if one then structures && own && two else if pcid then own else true)) ≡ true →
    ((if one then own && far && not false else if pcid then own && not false else if all then true else not false) ≡ true)
    × ((if one then structures && own && far else if pcid then own else true) ≡ true)
by_kind true pcid all near far own structures two f h =
    let both = and_parts (own && near && not false) (structures && own && two) h in
    let first = and_parts own near (and_parts (own && near) (not false) both.0).0 in
    let second = and_parts (structures && own) two both.1 in
    (and_from (own && far) (not false) (and_from own far first.0 (f first.1)) refl, and_from (structures && own) far second.0 (f first.1))
by_kind false true all near far own structures two f h = and_parts (own && not false) own h
by_kind false false true near far own structures two f h = (refl, refl)
by_kind false false false near far own structures two f h = (refl, refl)

pub drops_all_of_a_page : DropsAllOfAPage
drops_all_of_a_page rules c pcid la (Write p addr value) level h = absurd (cc)
drops_all_of_a_page rules c pcid la (Access p flags b (Page page) moments) level h = absurd (cc)
drops_all_of_a_page rules c pcid la (Access p flags b (Fault code) moments) level h =
    by_fault (bits_from 12 la == bits_from 12 b) (bits_from (level_shift level) la == bits_from (level_shift level) b) (holds rules fault_translations) (pcid == c.pcid) (holds rules fault_structures)
    (bits_from 21 la == bits_from 21 b) (matches level la b) h
drops_all_of_a_page rules c pcid la (Assist p flags b word moments) level h = absurd (cc)
drops_all_of_a_page rules c pcid la (MovCr3 p operand) level h = and_parts _ _ h
drops_all_of_a_page rules c pcid la (Invlpg p b) level h =
    by_address (bits_from 12 la == bits_from 12 b) (bits_from (level_shift level) la == bits_from (level_shift level) b) (pcid == c.pcid) (holds rules invlpg_structures) (bits_from 21 la == bits_from 21 b) (matches level la b) h
drops_all_of_a_page rules c pcid la (Invpcid p kind q b) level h =
    by_kind (kind == 0) (kind == 1) (kind == 2) (bits_from 12 la == bits_from 12 b) (bits_from (level_shift level) la == bits_from (level_shift level) b) (pcid == q) (holds rules invpcid_structures)
    (bits_from 21 la == bits_from 21 b) (matches level la b) h
drops_all_of_a_page rules c pcid la (MovCr4Pge p on) level h = and_parts _ _ h
