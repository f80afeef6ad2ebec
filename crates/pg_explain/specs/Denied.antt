-- Why no moments witness an event, and the text that says so, a fact a line.
--
--     event: LINE                             the event, as it is shown, without its moments
--     now: level L [HEX] = HEX KIND, WRITTEN  for each entry that the processor would read at the
--                                             event, down to the first that is no table
--     now: would give OUTCOME                 what the access would get by these, by the rights
--     now: FLAG of [HEX] = HEX is 0           the flag that it lacks there, where it is what it got
--     last: ..                                when it would last have been witnessed (`Lasts`)
--     last: dropped by LINE                   a later event that had to drop its translation
use Rattle.std.specs.Prelude.{◌≡◌, ℕ, ◌≤◌, ◌==◌, true, if◌then◌else◌}
use Rattle.std.specs.Prelude.{List, [], ◌∷◌, ◌++◌, length, Option, Some, None}
use Rattle.std.specs.Prelude.{codes, decimal, slice_get, IfSome, IfNone}
use Rattle.std.specs.List.{flat_map}
use Rattle.pg_entry.specs.declared.Level.{Level}
use Rattle.pg_event.specs.declared.event.Event.{Event}
use Rattle.pg_event.specs.declared.event.Event.TheVariants.{Write, Access, Assist, MovCr3, Invlpg}
use Rattle.pg_event.specs.declared.event.Event.TheVariants.{Invpcid, MovCr4Pge}
use Rattle.pg_event.specs.declared.event.Outcome.{Outcome}
use Rattle.pg_event.specs.Heads.{Head}
use Rattle.pg_event.specs.Form.{processor_of}
use Rattle.pg_search.specs.declared.last.Last.{Last}
use Rattle.pg_search.specs.Last.{NoneWitness, IsLastOf, IsLast, HasNoLast}
use Rattle.pg_search.specs.Changes.{AreKeptOf}
use Rattle.pg_search.specs.Law.{names_moments}
use Rattle.pg_explain.specs.declared.entry.WalkEntry.{WalkEntry}
use Rattle.pg_explain.specs.declared.denial.Denial.{Denial}
use Rattle.pg_explain.specs.declared.finding.Finding.{Finding}
use Rattle.pg_explain.specs.declared.last_lines.Takers.{Takers}
use Rattle.pg_explain.specs.Given.{given_now}
use Rattle.pg_explain.specs.TranslationDrops.{IsDropFor}
use Rattle.pg_explain.specs.Lacking.{lacking_now}
use Rattle.pg_explain.specs.Lasts.{last_seen_by, taken_in, dropped_in}
use Rattle.pg_explain.specs.Line.{line_at, outcome_text, claim_text}
use Rattle.pg_explain.specs.Names.{level_number}
use Rattle.pg_explain.specs.Text.{held_text, writer_text, finding_text}
use Rattle.pg_explain.specs.Walk.{IsWalk, down_to_end}

-- these are the entries of a walk at the event
abbrev pub IsWalkNow : Head → List Event → ℕ → Event → List WalkEntry → Type 0
IsWalkNow head events i (Write p addr value) walk = walk ≡ []
IsWalkNow head events i (Access p flags la outcome moments) walk =
    IsWalk head events p la (i ∷ i ∷ i ∷ i ∷ []) walk
IsWalkNow head events i (Assist p flags la word moments) walk =
    IsWalk head events p la (i ∷ i ∷ i ∷ i ∷ []) walk
IsWalkNow head events i (MovCr3 p operand) walk = walk ≡ []
IsWalkNow head events i (Invlpg p la) walk = walk ≡ []
IsWalkNow head events i (Invpcid p kind pcid la) walk = walk ≡ []
IsWalkNow head events i (MovCr4Pge p on) walk = walk ≡ []

-- this says why no moments witness an event as event i
pub record IsDenialFor (head : Head) (events : List Event) (i : ℕ) (e : Event)
    (x : Denial) : Type 0 where
  pub number : x.number ≡ i
  pub walk : IsWalkNow head events i e x.walk.items
  pub given : x.given ≡ given_now head events i e
  pub lacking : x.lacking ≡ lacking_now head events i e
  pub last : IfSome x.last (IsLastOf head events i e)
  pub never : IfNone x.last (NoneWitness head events e 0 i)
  pub dropped : IsDropFor head events i e x.last x.dropped

-- this says why no moments witness event i, where none do
pub record IsDenialOf (head : Head) (events : List Event) (i : ℕ) (x : Denial) : Type 0 where
  pub number : x.number ≡ i
  pub walk : IfSome (slice_get events i) (λ e. IsWalkNow head events i e x.walk.items)
  pub given : IfSome (slice_get events i) (λ e. x.given ≡ given_now head events i e)
  pub lacking : IfSome (slice_get events i) (λ e. x.lacking ≡ lacking_now head events i e)
  pub last : IfSome x.last (IsLast head events i)
  pub never : IfNone x.last (HasNoLast head events i)
  pub dropped : IfSome (slice_get events i) (λ e. IsDropFor head events i e x.last x.dropped)

-- what is kept of the events before an event tells why no moments witness it
abbrev pub DenialsAmongKept : Type 0
DenialsAmongKept = (head : Head) (kept events : List Event) (i : ℕ) (e : Event) (x : Denial) →
    names_moments e ≡ true → AreKeptOf kept events → i ≤ length kept → slice_get events i ≡ Some e →
    IsDenialFor head kept i e x → IsDenialOf head events i x

-- ---- its text

abbrev pub claim_line : ℕ → Event → List ℕ
claim_line number e =
    decimal number ++ (codes " cpu " ++ (decimal (processor_of e) ++ (codes " " ++ claim_text e)))

abbrev pub claim_at : ℕ → Option Event → List ℕ
claim_at number None = []
claim_at number (Some e) = claim_line number e

abbrev pub claimed_text : ℕ → Option Event → List ℕ
claimed_text number event = codes "event: " ++ (claim_at number event ++ codes "\n")

abbrev pub now_level_text : Level → List ℕ
now_level_text level = codes "now: level " ++ (decimal (level_number level) ++ codes " ")

abbrev pub now_entry_text : WalkEntry → List ℕ
now_entry_text x =
    now_level_text x.step.level
    ++ (held_text x.step.address x.step.value x.kind ++ writer_text x.writer)

abbrev pub now_walk_text : List WalkEntry → List ℕ
now_walk_text walk = flat_map now_entry_text (down_to_end walk)

abbrev pub given_text : Option Outcome → List ℕ
given_text None = []
given_text (Some outcome) = codes "now: would give " ++ (outcome_text outcome ++ codes "\n")

-- the flag of an entry that an access lacks
abbrev pub lacking_text : Option Finding → List ℕ
lacking_text None = []
lacking_text (Some found) = codes "now: " ++ (finding_text [] found ++ codes "\n")

-- the event that had to drop a translation, where it is another than that at a number
abbrev pub dropped_text : ℕ → Option ℕ → Option Event → List ℕ
dropped_text number None event = []
dropped_text number (Some at) event =
    if at == number then [] else
    codes "last: dropped by " ++ (line_at at event ++ codes "\n")

-- when it would last have been witnessed, what took that away, and what had to drop a translation
abbrev pub takers_text : Takers → Option Last → Option ℕ → List ℕ
takers_text by None dropped = codes "last: never\n"
takers_text by (Some last) dropped =
    last_seen_by by.taken last ++ dropped_text last.number dropped by.dropped

-- the text of why no moments witness this event, where these took its last moments away
abbrev pub denial_text_by : Option Event → Takers → Denial → List ℕ
denial_text_by event by x =
    claimed_text x.number event
    ++ (now_walk_text x.walk.items
    ++ (given_text x.given ++ (lacking_text x.lacking ++ takers_text by x.last x.dropped)))

-- what took the last moments of an event away, where these are the events of its run
abbrev pub takers_in : List Event → Denial → Takers
takers_in events x =
    record { taken = taken_in events x.last; dropped = dropped_in events x.dropped }

-- the text of why no moments witness an event, where these are the events of its run
abbrev pub denial_text : List Event → Denial → List ℕ
denial_text events x = denial_text_by (slice_get events x.number) (takers_in events x) x
