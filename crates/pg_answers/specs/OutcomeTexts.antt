-- What may come of an event, as text:
--
--     event: NUMBER cpu PROCESSOR EVENT        as the record has it, without its moments
--     OUTCOME by MOMENT ..                     of an access: for each outcome that is told
--       level L: ..                            the entries that give it, as `explain` writes them
--       cached since MOMENT, dropped by nothing    where the last of them is a leaf
--       needs: accessed in [HEX] .., dirty in [HEX]    version 2: the words that need these flags
--     more: COUNT                              how many are not told, where some are not
--     outcomes: COUNT                          how many there are
--     may come by MOMENT ..                    of an assist, or
--     may not come
--
-- or of an event that is no access and no assist
--
--     no access: event NUMBER
--
-- An OUTCOME is the physical address, or fault and the error code.
use Rattle.std.specs.Prelude.{ℕ, ◌-◌, List, [], ◌∷◌, ◌++◌, length, Option, Some, None, codes}
use Rattle.std.specs.Prelude.{decimal, nat_lt, ◌==◌, if◌then◌else◌}
use Rattle.pg_event.specs.declared.event.Event.{Event}
use Rattle.pg_event.specs.declared.event.Outcome.{Outcome}
use Rattle.pg_event.specs.declared.event.Outcome.TheVariants.{Page, Fault}
use Rattle.pg_event.specs.Wants.{is_table}
use Rattle.pg_explain.specs.declared.entry.WalkEntry.{WalkEntry}
use Rattle.pg_explain.specs.Denied.{claim_line}
use Rattle.pg_explain.specs.Line.{hex, numbers_text, word_text}
use Rattle.pg_explain.specs.Text.{entry_text}
use Rattle.pg_outcomes.specs.declared.allowed.Allowed.{Allowed}
use Rattle.pg_answers.specs.declared.answer.AssistOutcome.{AssistOutcome}
use Rattle.pg_answers.specs.declared.answer.AccessOutcomes.{AccessOutcomes}
use Rattle.pg_answers.specs.declared.answer.NeededFlags.{NeededFlags}
use Rattle.pg_answers.specs.declared.answer.OutcomeWalk.{OutcomeWalk}
use Rattle.pg_answers.specs.declared.answer.EventOutcomes.{EventOutcomes}
use Rattle.pg_answers.specs.declared.answer.EventOutcomes.TheVariants.{Access, Assist, NoAccess}

-- the event, with its number
abbrev pub asked_line : ℕ → Event → List ℕ
asked_line number e = codes "event: " ++ (claim_line number e ++ codes "\n")

abbrev pub result_text : Outcome → List ℕ
result_text (Page page) = hex page
result_text (Fault code) = codes "fault " ++ hex code

-- an outcome, and the moments by which it comes
abbrev pub allowed_line : Allowed → List ℕ
allowed_line x =
    result_text x.outcome ++ (codes " by" ++ (numbers_text x.moments ++ codes "\n"))

-- the entries down to the first that is no table
abbrev pub given_line : WalkEntry → List ℕ
given_line x = codes "  " ++ entry_text x

abbrev pub given_lines : List WalkEntry → List ℕ
given_lines [] = []
given_lines (x ∷ xs) = given_line x ++ (if is_table x.kind then given_lines xs else [])

abbrev pub since_line : Option ℕ → List ℕ
since_line None = []
since_line (Some moment) =
    codes "  cached since " ++ (decimal moment ++ codes ", dropped by nothing\n")

-- words, each after a space
abbrev pub spaced_word : ℕ → List ℕ
spaced_word w = codes " " ++ word_text w

abbrev pub words_text : List ℕ → List ℕ
words_text [] = []
words_text (w ∷ ws) = spaced_word w ++ words_text ws

-- the end of that line
abbrev pub dirty_text : Option ℕ → List ℕ
dirty_text None = codes "\n"
dirty_text (Some w) = codes ", dirty in" ++ (spaced_word w ++ codes "\n")

abbrev pub needs_text : List ℕ → Option ℕ → List ℕ
needs_text accessed dirty =
    codes "  needs: accessed in" ++ (words_text accessed ++ dirty_text dirty)

-- the words that need flags. A leaf that needs the dirty flag needs the accessed flag, too
abbrev pub needs_line : List ℕ → Option ℕ → List ℕ
needs_line accessed dirty =
    if length accessed == 0 then [] else needs_text accessed dirty

abbrev pub flags_line : Option NeededFlags → List ℕ
flags_line None = []
flags_line (Some x) = needs_line x.accessed.items x.dirty

-- an outcome, and what gives it
abbrev pub told_text : OutcomeWalk → List ℕ
told_text x =
    allowed_line x.allowed
    ++ (given_lines x.walk.items ++ (since_line x.since ++ flags_line x.flags))

abbrev pub told_texts : List OutcomeWalk → List ℕ
told_texts [] = []
told_texts (x ∷ xs) = told_text x ++ told_texts xs

-- how many are not told
abbrev pub more_line : ℕ → ℕ → List ℕ
more_line count most =
    if nat_lt most count then codes "more: " ++ (decimal (count - most) ++ codes "\n") else []

-- how many there are
abbrev pub counted_line : ℕ → List ℕ
counted_line count = codes "outcomes: " ++ (decimal count ++ codes "\n")

abbrev pub outcomes_text : AccessOutcomes → List ℕ
outcomes_text x =
    ((asked_line x.number x.event ++ told_texts x.told.items)
    ++ more_line (length x.found.items) x.most) ++ counted_line (length x.found.items)

-- whether an assist may come
abbrev pub may_line : Option (List ℕ) → List ℕ
may_line None = codes "may not come\n"
may_line (Some ws) = codes "may come by" ++ (numbers_text ws ++ codes "\n")

abbrev pub assist_text : AssistOutcome → List ℕ
assist_text x = asked_line x.number x.event ++ may_line x.moments

abbrev pub no_access_text : Option ℕ → List ℕ
no_access_text None = codes "no access\n"
no_access_text (Some n) = codes "no access: event " ++ (decimal n ++ codes "\n")

abbrev pub event_outcomes_text : EventOutcomes → List ℕ
event_outcomes_text (Access x) = outcomes_text x
event_outcomes_text (Assist x) = assist_text x
event_outcomes_text (NoAccess told) = no_access_text told
