-- The events of all logs.
use Rattle.std.proofs.Common.{◌≡◌, ℕ, suc, ◌≤◌, true, false, List, [], ◌∷◌, ◌++◌, length, map, refl, sym, ap, ◌∙◌, arith, eq-eqb, None}
use Rattle.std.specs.List.{All, AllByRecursion, AllPairs, AllAdjacentBelow, filter}
use Rattle.std.proofs.lemmas.Bool.{ne_eqb}
use Rattle.std.proofs.lemmas.List.{append-nil, length-replicate}
use Rattle.std.proofs.lemmas.List.Elements.{All-from_recursion, recursion_from_All, filter-append}
use Rattle.pg_event.specs.Heads.{Head}
use Rattle.pg_event.specs.declared.event.Event.{Event}
use Rattle.pg_event.specs.Form.{processor_of, broken_rule}
use Rattle.pg_event.specs.Spelling.{FitsEvent}
use Rattle.pg_codec.specs.Bare.{IsBare}
use Rattle.pg_span_run.specs.declared.log.Stamped.{Stamped}
use Rattle.pg_span_run.specs.Logs.{Logged, alone, IsOwn, IsLog}
use Rattle.pg_span_run.specs.Runs.{IsPartOf, events_of}
use Rattle.pg_span_run.specs.Merged.{EndsFirst, is_of}
use Rattle.pg_span_run.specs.Parts.{KeepsTies}
use Rattle.pg_span_run.proofs.Lists.{each_weaker, each_both, each_append, filter_all, filter_none, filter_twice}
use Rattle.pg_span_run.proofs.EndStamps.{ends_at, up_first, up_filter, up_rise, spans_rise, same_by_ends}
use Rattle.pg_span_run.proofs.LogRuns.{same_rule}

-- what holds of the events of each log holds of all
each_event : (P : Stamped → Type 0) (logs : List Logged) → AllByRecursion (λ log. AllByRecursion P log.events) logs → AllByRecursion P (events_of logs)
each_event P [] all = tt
each_event P (l ∷ ls) all = each_append P l.events (events_of ls) all.0 (each_event P ls all.1)

well_log : (head : Head) (log : Logged) → IsLog log → IsPartOf head log.head → AllByRecursion (λ x. broken_rule head x.event ≡ None) log.events
well_log head log is part =
    let count : length head.processors ≡ length (alone log.head).processors = part.processors ∙ sym (length-replicate log.head.processors log.head.start) in
    each_weaker (IsOwn (alone log.head) log.head.own) (λ x. broken_rule head x.event ≡ None) (λ x own. same_rule head (alone log.head) part.version part.cfg count x.event ∙ own.well) log.events is.own

pub all_well : (head : Head) (logs : List Logged) → All IsLog logs → All (λ log. IsPartOf head log.head) logs → All (λ x. broken_rule head x.event ≡ None) (events_of logs)
all_well head logs are parts =
    All-from_recursion (λ (x : Stamped). broken_rule head x.event ≡ None) (events_of logs)
    (
    each_event (λ x. broken_rule head x.event ≡ None) logs
    (each_both IsLog (λ log. IsPartOf head log.head) (λ log. AllByRecursion (λ x. broken_rule head x.event ≡ None) log.events) (well_log head) logs (recursion_from_All IsLog logs are) (recursion_from_All (λ (log : Logged). IsPartOf head log.head) logs parts))
    )

pub all_spans : (logs : List Logged) → All IsLog logs → All (λ x. x.begin ≤ x.end) (events_of logs)
all_spans logs are =
    All-from_recursion (λ (x : Stamped). x.begin ≤ x.end) (events_of logs)
    (each_event (λ x. x.begin ≤ x.end) logs (each_weaker IsLog (λ log. AllByRecursion (λ x. x.begin ≤ x.end) log.events) (λ log is. spans_rise 0 log.events is.rises) logs (recursion_from_All IsLog logs are)))

-- an event has a spelling
abbrev pub HasSpelling : Stamped → Type 0
HasSpelling x = FitsEvent x.event × IsBare x.event

pub all_spelled : (logs : List Logged) → All IsLog logs → All HasSpelling (events_of logs)
all_spelled logs are =
    All-from_recursion HasSpelling (events_of logs)
    (
    each_event HasSpelling logs
    (each_weaker IsLog (λ log. AllByRecursion HasSpelling log.events) (λ log is. each_weaker (IsOwn (alone log.head) log.head.own) HasSpelling (λ x own. (own.fits, own.bare)) log.events is.own) logs (recursion_from_All IsLog logs are))
    )

-- what holds of events with their stamps holds of them without
pub each_plain : (P : Event → Type 0) (all : List Stamped) → AllByRecursion (λ x. P x.event) all → AllByRecursion P (map (λ (x : Stamped). x.event) all)
each_plain P [] are = tt
each_plain P (x ∷ xs) are = (are.0, each_plain P xs are.1)

own_all : (log : Logged) → IsLog log → filter (is_of log.head.own) log.events ≡ log.events
own_all log is =
    filter_all (is_of log.head.own) log.events
    (each_weaker (IsOwn (alone log.head) log.head.own) (λ x. is_of log.head.own x ≡ true) (λ x own. eq-eqb (processor_of x.event) log.head.own own.processor) log.events is.own)

own_none : (p : ℕ) (log : Logged) → IsLog log → (p ≡ log.head.own → ⊥) → filter (is_of p) log.events ≡ []
own_none p log is other =
    filter_none (is_of p) log.events
    (each_weaker (IsOwn (alone log.head) log.head.own) (λ x. is_of p x ≡ false) (λ x own. ne_eqb (processor_of x.event) p (λ e. other (sym e ∙ own.processor))) log.events is.own)

none_of : (p : ℕ) (logs : List Logged) → AllByRecursion IsLog logs → AllByRecursion (λ log. p ≡ log.head.own → ⊥) logs → filter (is_of p) (events_of logs) ≡ []
none_of p [] are others = refl
none_of p (l ∷ ls) are others =
    filter-append (is_of p) l.events (events_of ls)
    ∙ (ap (λ (xs : List Stamped). xs ++ filter (is_of p) (events_of ls)) (own_none p l are.0 others.0) ∙ none_of p ls are.1 others.1)

abbrev Apart : Logged → Logged → Type 0
Apart a b = a.head.own ≡ b.head.own → ⊥

-- of each log the events of its processor
own_parts : (logs : List Logged) → AllByRecursion IsLog logs → AllPairs Apart logs → AllByRecursion (λ log. filter (is_of log.head.own) (events_of logs) ≡ log.events) logs
own_parts [] are apart = tt
own_parts (l ∷ ls) are apart =
    let later : AllPairs Apart ls = λ i j d lt within. apart (suc i) (suc j) d (omega (arith, lt)) (omega (arith, within)) in
    let others : AllByRecursion (λ m. l.head.own ≡ m.head.own → ⊥) ls = recursion_from_All (λ (m : Logged). l.head.own ≡ m.head.own → ⊥) ls (λ k d lt. apart 0 (suc k) d (omega arith) (omega (arith, lt))) in (
      filter-append (is_of l.head.own) l.events (events_of ls)
          ∙ (ap (λ (xs : List Stamped). xs ++ filter (is_of l.head.own) (events_of ls)) (own_all l are.0)
          ∙ (ap (λ (xs : List Stamped). l.events ++ xs) (none_of l.head.own ls are.1 others) ∙ append-nil l.events)),
      each_both (λ m. l.head.own ≡ m.head.own → ⊥) (λ m. filter (is_of m.head.own) (events_of ls) ≡ m.events) (λ m. filter (is_of m.head.own) (l.events ++ events_of ls) ≡ m.events) (λ m other own. behind m other own) ls others (own_parts ls are.1 later),
    )
  where
    behind : (m : Logged) → (l.head.own ≡ m.head.own → ⊥) → filter (is_of m.head.own) (events_of ls) ≡ m.events → filter (is_of m.head.own) (l.events ++ events_of ls) ≡ m.events
    behind m other own =
        filter-append (is_of m.head.own) l.events (events_of ls)
        ∙ (ap (λ (xs : List Stamped). xs ++ filter (is_of m.head.own) (events_of ls)) (own_none m.head.own l are.0 (λ e. other (sym e))) ∙ own)

-- in the order in which all events ended those of a log stand as they stand there
pub own_kept : (logs : List Logged) (all : List Stamped) → All IsLog logs → AllPairs Apart logs → KeepsTies (events_of logs) all → AllAdjacentBelow EndsFirst all (length all) → All (λ log. filter (is_of log.head.own) all ≡ log.events) logs
own_kept logs all are apart ties rises = All-from_recursion (λ (log : Logged). filter (is_of log.head.own) all ≡ log.events) logs
    (each_both IsLog (λ log. filter (is_of log.head.own) (events_of logs) ≡ log.events) (λ log. filter (is_of log.head.own) all ≡ log.events) one logs (recursion_from_All IsLog logs are) (own_parts logs (recursion_from_All IsLog logs are) apart))
  where
    one : (log : Logged) → IsLog log → filter (is_of log.head.own) (events_of logs) ≡ log.events → filter (is_of log.head.own) all ≡ log.events
    one log is own = same_by_ends (filter (is_of log.head.own) all) log.events (up_filter (is_of log.head.own) all (up_first all rises)) (up_rise 0 log.events is.rises)
        (λ k. filter_twice (ends_at k) (is_of log.head.own) all
        ∙ (ties log.head.own k ∙ (sym (filter_twice (ends_at k) (is_of log.head.own) (events_of logs)) ∙ ap (filter (ends_at k)) own)))
