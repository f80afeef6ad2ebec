-- The outcomes of an event of a record with no one order, in an order that has a run.
use Rattle.std.specs.Prelude.{◌≡◌, ◌≢◌, ℕ, true, false, List, [], ◌++◌, codes, decimal}
use Rattle.std.specs.Prelude.{Option, Some, None, slice_get}
use Rattle.pg_event.specs.declared.event.Event.{Event}
use Rattle.pg_event.specs.Spelling.{Recorded}
use Rattle.pg_search.specs.Law.{names_moments}
use Rattle.pg_outcomes.specs.Placed.{is_access}
use Rattle.pg_outcomes.specs.Allowing.{AreOutcomes}
use Rattle.pg_outcomes.specs.Asked.{MayCome}
use Rattle.pg_answers.specs.declared.answer.EventOutcomes.{EventOutcomes}
use Rattle.pg_answers.specs.declared.answer.EventOutcomes.TheVariants.{Access, Assist, NoAccess}
use Rattle.pg_answers.specs.Giving.{AreTold}
use Rattle.pg_answers.specs.Outcomes.{IsAskedEvent}
use Rattle.pg_answers.specs.OutcomeTexts.{event_outcomes_text}
use Rattle.pg_span_run.specs.Orders.{Spanned, ordered}
use Rattle.pg_span_answers.specs.declared.outcomes.OrderedOutcomes.{OrderedOutcomes}

-- the events in an order, as those of a record with one order
abbrev pub in_order : Spanned → List ℕ → Recorded
in_order s order = record { head = s.head; events = ordered s.events order }

-- where a number stands, if it stands anywhere
abbrev pub IsPlaceOf : List ℕ → ℕ → Option ℕ → Type 0
IsPlaceOf order number None = (k : ℕ) → slice_get order k ≢ Some number
IsPlaceOf order number (Some place) = slice_get order place ≡ Some number

-- of the event at a place, which is told with this number: of an access every outcome that it may
-- have, and what gives those that are told, of an assist whether it may come, of another event
-- nothing
abbrev pub IsAtPlace : Recorded → ℕ → ℕ → ℕ → EventOutcomes → Type 0
IsAtPlace r number place most (Access x) =
    (x.number ≡ number) × (slice_get r.events place ≡ Some x.event) × (is_access x.event ≡ true)
    × AreOutcomes r place x.event x.found.items
    × AreTold r x.event most x.found.items x.told.items × (x.most ≡ most)
IsAtPlace r number place most (Assist x) =
    (x.number ≡ number) × (slice_get r.events place ≡ Some x.event)
    × (is_access x.event ≡ false) × (names_moments x.event ≡ true)
    × MayCome r place x.event x.moments
IsAtPlace r number place most (NoAccess told) =
    (told ≡ Some number)
    × ((e : Event) × (slice_get r.events place ≡ Some e) × (names_moments e ≡ false))

abbrev pub IsPlaced : Recorded → ℕ → ℕ → Option ℕ → EventOutcomes → Type 0
IsPlaced r number most None x = x ≡ NoAccess (Some number)
IsPlaced r number most (Some place) x = IsAtPlace r number place most x

-- of the event with this number, which stands once in an order of all events
abbrev pub IsOfEvent : Recorded → List ℕ → ℕ → ℕ → OrderedOutcomes → Type 0
IsOfEvent r order most number x =
    IsPlaceOf order number x.place × IsPlaced r number most x.place x.outcomes

-- of the event that is asked about; or there is no such event
abbrev pub IsOfAsked : Spanned → List ℕ → Option ℕ → ℕ → Option ℕ → OrderedOutcomes → Type 0
IsOfAsked s order asked most None x = (x.place ≡ None) × (x.outcomes ≡ NoAccess asked)
IsOfAsked s order asked most (Some number) x = IsOfEvent (in_order s order) order most number x

abbrev pub AreInOrder : Spanned → List ℕ → Option ℕ → ℕ → OrderedOutcomes → Type 0
AreInOrder s order asked most x = (found : Option ℕ)
    × IsAskedEvent s.events asked found × IsOfAsked s order asked most found x

-- ---- text: the place in the order, and the outcomes

abbrev pub place_line : Option ℕ → List ℕ
place_line None = []
place_line (Some place) = codes "place: " ++ (decimal place ++ codes "\n")

abbrev pub ordered_outcomes_text : OrderedOutcomes → List ℕ
ordered_outcomes_text x = place_line x.place ++ event_outcomes_text x.outcomes
