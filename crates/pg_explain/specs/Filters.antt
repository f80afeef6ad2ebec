-- Which events are shown.
--
-- A page is one of 4 KB, by a linear address in it. With it are shown the accesses, their faults
-- among them, the assists, INVLPG and INVPCID of type 0 whose linear address is in it; each INVPCID
-- of types 1 to 3, which name no address; and, where loads are asked for, each load of CR3 and of
-- CR4 of its processors, those of which an event of the run names an address in it.
use Rattle.std.specs.Prelude.{◌≡◌, ℕ, ◌+◌, ◌^◌, ◌<◌, Bool, true, false, not, ◌&&◌, ◌||◌, ◌==◌}
use Rattle.std.specs.Prelude.{nat_le, if◌then◌else◌, List, [], ◌∷◌, ◌++◌, Option, Some, None}
use Rattle.std.specs.Prelude.{codes, slice_index_or}
use Rattle.std.specs.List.{list_any}
use Rattle.pg_entry.specs.declared.Rules.{Rules}
use Rattle.pg_event.specs.declared.control.Control.{Control}
use Rattle.pg_event.specs.declared.event.Event.{Event}
use Rattle.pg_event.specs.declared.event.Event.TheVariants.{Write, Access, Assist, MovCr3, Invlpg}
use Rattle.pg_event.specs.declared.event.Event.TheVariants.{Invpcid, MovCr4Pge}
use Rattle.pg_event.specs.declared.keys.TranslationKey.{TranslationKey}
use Rattle.pg_event.specs.Form.{processor_of}
use Rattle.pg_event.specs.Invalidation.{bits_from, translation_matches, must_drop_translation}
use Rattle.pg_event.specs.declared.selection.Selection.{Selection}
use Rattle.pg_explain.specs.Line.{event_line}
use Rattle.pg_search.specs.Writers.{writes}

-- whether a linear address lies in the page of 4 KB that has another: bits 47:12 are alike
abbrev pub is_in_page : ℕ → ℕ → Bool
is_in_page page la = bits_from 12 la == bits_from 12 page

-- whether an event names an address of a page
abbrev pub names_page : ℕ → Event → Bool
names_page page (Write p addr value) = false
names_page page (Access p flags la outcome moments) = is_in_page page la
names_page page (Assist p flags la word moments) = is_in_page page la
names_page page (MovCr3 p operand) = false
names_page page (Invlpg p la) = is_in_page page la
names_page page (Invpcid p kind pcid la) = kind == 0 && is_in_page page la
names_page page (MovCr4Pge p on) = false

-- whether an event has to do with a page, where the first says whether its processor is one of the
-- page's
abbrev pub concerns : ℕ → Bool → Event → Bool
concerns page is_its (Write p addr value) = false
concerns page is_its (Access p flags la outcome moments) = is_in_page page la
concerns page is_its (Assist p flags la word moments) = is_in_page page la
concerns page is_its (MovCr3 p operand) = is_its
concerns page is_its (Invlpg p la) = is_in_page page la
concerns page is_its (Invpcid p kind pcid la) = not (kind == 0) || is_in_page page la
concerns page is_its (MovCr4Pge p on) = is_its

-- whether some event of p names the page that is asked for
abbrev pub is_user : List Event → Option ℕ → ℕ → Bool
is_user events None p = false
is_user events (Some page) p = list_any (λ e. processor_of e == p && names_page page e) events

-- ---- what is asked, where it is

abbrev pub fits_processor : Option ℕ → Event → Bool
fits_processor None e = true
fits_processor (Some p) e = processor_of e == p

abbrev pub fits_page : Option ℕ → Bool → Event → Bool
fits_page None is_its e = true
fits_page (Some page) is_its e = concerns page is_its e

abbrev pub fits_word : Option ℕ → Event → Bool
fits_word None e = true
fits_word (Some word) e = writes word e

-- whether an event with this number is shown, where this says whether its processor is one of the
-- page's
abbrev pub fits : Selection → Bool → ℕ → Event → Bool
fits asked is_its number e =
    nat_le asked.from number && nat_le number asked.to && fits_processor asked.cpu e
    && fits_page asked.page (is_its && asked.loads) e && fits_word asked.word e

-- whether an event of a run is shown
abbrev pub is_shown : Selection → List Event → ℕ → Event → Bool
is_shown asked events number e =
    fits asked (is_user events asked.page (processor_of e)) number e

-- ---- the text

abbrev pub shown_line : Bool → ℕ → Event → List ℕ
shown_line is_shown number e = if is_shown then event_line number e ++ codes "\n" else []

-- the lines of those events of which a test holds, where the first has this number
abbrev pub lines_where : (ℕ → Event → Bool) → ℕ → List Event → List ℕ
lines_where test number [] = []
lines_where test number (e ∷ events) =
    shown_line (test number e) number e ++ lines_where test (number + 1) events

-- the lines of a run's events that are shown
abbrev pub shown_text : Selection → List Event → List ℕ
shown_text asked events = lines_where (is_shown asked events) 0 events

-- ---- marks of processors, and a law

-- whether each processor is one of the page's that is asked for
abbrev pub AreMarks : List Event → Option ℕ → List Bool → Type 0
AreMarks events page marks =
    (p : ℕ) → p < 2 ^ 16 → slice_index_or marks p false ≡ is_user events page p

-- an event by which a translation of a page by one of 4 KB has to go has to do with the page, if
-- its processor is one of the page's
abbrev pub PagesShowTheirDrops : Type 0
PagesShowTheirDrops = (rules : Rules) (page : ℕ) (t : TranslationKey) (c : Control)
    (e : Event) → t.shift ≡ 12 → translation_matches t page ≡ true →
    must_drop_translation rules c e t ≡ true → concerns page true e ≡ true
