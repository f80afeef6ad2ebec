-- Which events a page is shown with, and the marks of its processors.
use Rattle.std.proofs.Common.{◌≡◌, ℕ, ◌+◌, ◌<◌, Bool, true, false, cond, ◌&&◌, ◌||◌, not, eqb, List, length, take, get_or, Some, refl, sym, ◌∙◌, subst}
use Rattle.std.proofs.lemmas.Bool.{eqb-true, eq-eqb}
use Rattle.std.proofs.lemmas.List.Folds.{list_any_more}
use Rattle.pg_event.specs.declared.event.Event.{Event}
use Rattle.pg_event.specs.declared.event.Event.TheVariants.{Write, Access, Assist, MovCr3, Invlpg, Invpcid, MovCr4Pge}
use Rattle.pg_event.specs.declared.event.Outcome.TheVariants.{Page, Fault}
use Rattle.pg_event.specs.declared.keys.TranslationKey.{TranslationKey}
use Rattle.pg_event.specs.Form.{processor_of}
use Rattle.pg_event.specs.Invalidation.{bits_from, translation_matches}
use Rattle.pg_explain.specs.Filters.{is_in_page, names_page, is_user, PagesShowTheirDrops}

left_of : (a b : Bool) → (a && b) ≡ true → a ≡ true
left_of true b h = refl
left_of false b h = h

right_of : (a b : Bool) → (a && b) ≡ true → b ≡ true
right_of true b h = h
right_of false b h = absurd cc

-- two addresses on the page of one translation by 4 KB
in_page : (page la : ℕ) (t : TranslationKey) → t.shift ≡ 12 → translation_matches t page ≡ true → translation_matches t la ≡ true → is_in_page page la ≡ true
in_page page la t s p l =
    let here : t.number ≡ bits_from t.shift page = eqb-true t.number (bits_from t.shift page) p in
    let there : t.number ≡ bits_from t.shift la = eqb-true t.number (bits_from t.shift la) l in
    let same : bits_from t.shift la ≡ bits_from t.shift page = sym there ∙ here in
    eq-eqb (bits_from 12 la) (bits_from 12 page) (subst (λ (k : ℕ). bits_from k la ≡ bits_from k page) s same)

-- INVPCID, of type 0 or another
by_type : (is_zero pcid matches local others inside : Bool) → (matches ≡ true → inside ≡ true) → cond is_zero ((pcid && matches) && local) others ≡ true → (not is_zero || inside) ≡ true
by_type true pcid matches local others inside f d = f (right_of pcid matches (left_of (pcid && matches) local d))
by_type false pcid matches local others inside f d = refl

pub pages_show : PagesShowTheirDrops
pages_show rules page t c (Write p addr value) s m d = absurd cc
pages_show rules page t c (Access p flags la (Page answer) moments) s m d = absurd cc
pages_show rules page t c (Access p flags la (Fault code) moments) s m d = in_page page la t s m (left_of (translation_matches t la) _ d)
pages_show rules page t c (Assist p flags la word moments) s m d = absurd cc
pages_show rules page t c (MovCr3 p operand) s m d = refl
pages_show rules page t c (Invlpg p la) s m d = in_page page la t s m (left_of (translation_matches t la) (eqb t.pcid c.pcid || t.global) d)
pages_show rules page t c (Invpcid p kind pcid la) s m d =
    by_type (eqb kind 0) (eqb t.pcid pcid) (translation_matches t la) (not t.global)
    (cond (eqb kind 1) (eqb t.pcid pcid && not t.global) (cond (eqb kind 2) true (not t.global)))
    (is_in_page page la) (in_page page la t s m) d
pages_show rules page t c (MovCr4Pge p on) s m d = refl

-- one more event
pub user_more : (events : List Event) (page i p : ℕ) (d : Event) → i < length events →
    is_user (take (i + 1) events) (Some page) p ≡ (is_user (take i events) (Some page) p || (eqb (processor_of (get_or events i d)) p && names_page page (get_or events i d)))
user_more events page i p d l = list_any_more (λ e. eqb (processor_of e) p && names_page page e) events i d l
