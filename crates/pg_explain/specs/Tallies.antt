-- What the bad events of a run have in common, reason by reason, and its text: a line for each
-- reason, in the order of their numbers.
--
--     NUMBER NAME: COUNT, first EVENT, cpus PROCESSOR .., pages HEX ..
--
-- Processors and pages ascend, each once. Of the processors as many are named as fit 60 columns of
-- the line, and of the pages as many as fit 100, with how many more there are: ` and COUNT more`.
use Rattle.std.specs.Prelude.{◌≡◌, ℕ, ◌+◌, ◌-◌, Bool, not, ◌==◌, nat_le, if◌then◌else◌}
use Rattle.std.specs.Prelude.{List, [], ◌∷◌, ◌++◌, length, map, Some, option_map, slice_get}
use Rattle.std.specs.Prelude.{codes, decimal}
use Rattle.std.specs.List.{AllByRecursion, Contains, filter, sum_by}
use Rattle.std.specs.List.Sorted.{IsStrictlyIncreasing}
use Rattle.pg_event.specs.declared.event.Reason.{Reason}
use Rattle.pg_event.specs.declared.event.Reason.TheVariants.{Order, Entry, Context}
use Rattle.pg_event.specs.declared.event.Reason.TheVariants.{StructureDropped, TranslationDropped}
use Rattle.pg_event.specs.declared.event.Reason.TheVariants.{ForeignPcid, NotAtEvent, Rights}
use Rattle.pg_event.specs.declared.event.Reason.TheVariants.{Answer, Code, Accessed, Dirty, Assist}
use Rattle.pg_explain.specs.declared.bad_events.Bad.{Bad}
use Rattle.pg_explain.specs.declared.tallier.Tally.{Tally}
use Rattle.pg_explain.specs.declared.tally_lines.Style.{Style}
use Rattle.pg_explain.specs.declared.tally_lines.Style.TheVariants.{Decimal, Hex}
use Rattle.pg_explain.specs.Line.{hex}

-- ---- tallies

-- the place of a reason in their order
abbrev pub place : Reason → ℕ
place Order = 1
place Entry = 2
place Context = 3
place StructureDropped = 4
place TranslationDropped = 5
place ForeignPcid = 6
place NotAtEvent = 7
place Rights = 8
place Answer = 9
place Code = 10
place Accessed = 11
place Dirty = 12
place Assist = 13

abbrev pub reasons : List Reason
reasons =
    Order ∷ Entry ∷ Context ∷ StructureDropped ∷ TranslationDropped ∷ ForeignPcid ∷ NotAtEvent
    ∷ Rights ∷ Answer ∷ Code ∷ Accessed ∷ Dirty ∷ Assist ∷ []

abbrev pub has_reason : Reason → Bad → Bool
has_reason reason x = place x.reason == place reason

-- the bad events with a reason
abbrev pub having : Reason → List Bad → List Bad
having reason xs = filter (has_reason reason) xs

-- whether some bad event has a reason
abbrev pub is_met : List Bad → Reason → Bool
is_met xs reason = not (length (having reason xs) == 0)

-- the second are the numbers of the first, ascending, each once
pub record AreAscending (xs ys : List ℕ) : Type 0 where
  pub rise : IsStrictlyIncreasing ys
  pub all : (x : ℕ) → Contains xs x → Contains ys x
  pub alone : (x : ℕ) → Contains ys x → Contains xs x

-- this is told of the bad events with the tally's reason: how many there are, the number of the
-- first, and their processors and pages
pub record IsTally (xs : List Bad) (t : Tally) : Type 0 where
  pub count : t.count ≡ length (having t.reason xs)
  pub first : option_map (λ (x : Bad). x.number) (slice_get (having t.reason xs) 0) ≡ Some t.first
  pub processors : AreAscending (map (λ (x : Bad). x.p) (having t.reason xs)) t.processors.items
  pub pages : AreAscending (map (λ (x : Bad). x.page) (having t.reason xs)) t.pages.items

-- a tally for each of these reasons that some bad event has, in their order
pub record AreTalliesOf (rs : List Reason) (xs : List Bad) (ts : List Tally) : Type 0 where
  pub reasons : map (λ (t : Tally). t.reason) ts ≡ filter (is_met xs) rs
  pub each : AllByRecursion (IsTally xs) ts

abbrev pub AreTallies : List Bad → List Tally → Type 0
AreTallies = AreTalliesOf reasons

-- the tallies count each bad event once
abbrev pub CountsAddUp : Type 0
CountsAddUp = (xs : List Bad) (ts : List Tally) → AreTallies xs ts →
    sum_by (λ (t : Tally). t.count) ts ≡ length xs

-- ---- their text

abbrev pub item_text : Style → ℕ → List ℕ
item_text Decimal n = codes " " ++ decimal n
item_text Hex n = codes " " ++ hex n

abbrev pub items_text : Style → List ℕ → List ℕ
items_text style [] = []
items_text style (n ∷ ns) = item_text style n ++ items_text style ns

-- how many are not named
abbrev pub more_text : ℕ → List ℕ
more_text n = if n == 0 then [] else codes " and " ++ (decimal n ++ codes " more")

-- of numbers that do not all fit so many columns as many as do, with how many more there are
abbrev pub beginning_text : ℕ → Style → List ℕ → List ℕ
beginning_text room style [] = []
beginning_text room style (n ∷ ns) =
    if nat_le (length (item_text style n) + length (more_text (length ns))) room
    then item_text style n ++ beginning_text (room - length (item_text style n)) style ns
    else more_text (length (n ∷ ns))

-- as many numbers as fit so many columns
abbrev pub listed_text : ℕ → Style → List ℕ → List ℕ
listed_text room style ns =
    if nat_le (length (items_text style ns)) room then items_text style ns
    else beginning_text room style ns

-- a line that goes on with numbers, up to a column
abbrev pub with_list : List ℕ → ℕ → Style → List ℕ → List ℕ
with_list line columns style ns = line ++ listed_text (columns - length line) style ns

abbrev pub head_of : ℕ → List ℕ → Tally → List ℕ
head_of number name t =
    decimal number ++ (codes " " ++ (name ++ (codes ": " ++ (decimal t.count
    ++ (codes ", first " ++ (decimal t.first ++ codes ", cpus"))))))

abbrev pub with_processors : ℕ → List ℕ → Tally → List ℕ
with_processors number name t =
    with_list (head_of number name t) 60 Decimal t.processors.items ++ codes ", pages"

-- the line of a tally, whose reason has this number and this name
abbrev pub tally_text : ℕ → List ℕ → Tally → List ℕ
tally_text number name t =
    with_list (with_processors number name t) 100 Hex t.pages.items ++ codes "\n"
