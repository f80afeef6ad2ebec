-- Logs of files, one after another.
use Rattle.std.proofs.Common.{◌≡◌, ◌<◌, ◌+◌, ℕ, List, [], ◌∷◌, ◌++◌, Bor, length, map, take, get_or, Some, Result, Ok, Err, sym, ap, subst, ◌∙◌}
use Rattle.std.specs.Prelude.{MatchResult, option_map, slice_get, slice_index_or, unwrap_or}
use Rattle.std.proofs.lemmas.Option.{slice_get-get_or, slice_get-map}
use Rattle.std.proofs.lemmas.List.{take_more}
use Rattle.pg_codec.specs.Streams.{FailsWithDevice}
use Rattle.pg_span_run.specs.Logs.{Logged}
use Rattle.pg_report.specs.Changes.{Change}
use Rattle.pg_span_answers.specs.declared.logs.Untaken.{Untaken}
use Rattle.pg_span_answers.specs.declared.logs.Untaken.TheVariants.{Unopened, Refused, Device, Memory}
use Rattle.pg_span_answers.specs.Merges.{AreLogsOf, IsLogOf, IsUntaken, ReadsLog, is_device}
use Rattle.pg_span_answers.specs.Openings.{Opening}

pub read_is : (Opens : Opening) (name : List ℕ) (file : Change) → Opens name (Some file) → (result : Result Logged Untaken) → ReadsLog file.old.bytes result → FailsWithDevice is_device file.old.failures file.new.failures result
    → MatchResult result (IsLogOf Opens name) (IsUntaken Opens name)
read_is Opens name file there (Ok log) reads failures = (file, there, reads)
read_is Opens name file there (Err (Refused e)) reads failures = (file, there, reads)
read_is Opens name file there (Err Unopened) reads failures = absurd reads
read_is Opens name file there (Err Device) reads failures = (file, there, failures)
read_is Opens name file there (Err Memory) reads failures = tt

one_more : (Opens : Opening) (names : List (List ℕ)) (logs : List Logged) (name : List ℕ) (log : Logged) → AreLogsOf Opens names logs → IsLogOf Opens name log → AreLogsOf Opens (names ++ name ∷ []) (logs ++ log ∷ [])
one_more Opens [] [] name log are is = (is, tt)
one_more Opens [] (l ∷ ls) name log are is = absurd are
one_more Opens (n ∷ ns) [] name log are is = absurd are
one_more Opens (n ∷ ns) (l ∷ ls) name log are is = (are.0, one_more Opens ns ls name log are.1 is)

-- the name at a place
pub name_there : (names : List (Bor (List ℕ))) (k : ℕ) (d : Bor (List ℕ)) → k < length names → slice_get (map (λ s. s.now) names) k ≡ Some ((slice_index_or names k d).now)
name_there names k d low = slice_get-map (λ s. s.now) names k ∙ ap (option_map (λ s. s.now)) (slice_get-get_or names k d low)

pub next_log : (Opens : Opening) (names : List (List ℕ)) (logs : List Logged) (k : ℕ) (name : List ℕ) (log : Logged) → k < length names → slice_get names k ≡ Some name → AreLogsOf Opens (take k names) logs → IsLogOf Opens name log
    → AreLogsOf Opens (take (k + 1) names) (logs ++ log ∷ [])
next_log Opens names logs k name log within there are is =
    let same : name ≡ get_or names k [] = ap (λ o. unwrap_or o []) (sym there ∙ slice_get-get_or names k [] within) in
    let here : IsLogOf Opens (get_or names k []) log = subst (λ n. IsLogOf Opens n log) same is in
    subst (λ (ns : List (List ℕ)). AreLogsOf Opens ns (logs ++ log ∷ [])) (sym (take_more names k [] within)) (one_more Opens (take k names) logs (get_or names k []) log are here)
