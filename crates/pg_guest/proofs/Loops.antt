-- What loops over lines have read so far, and what is left to read.
use Rattle.std.proofs.Common.{◌≡◌, ◌∙◌, ◌++◌, ◌+◌, ◌-◌, ◌<◌, ◌≤◌, ℕ, zero, suc, Bool, true, false, List, [], ◌∷◌, Option, Some, None, length, refl, sym, ap, arith, append_assoc}
use Rattle.std.specs.Prelude.{Result, Ok, Err, if◌then◌else◌}
use Rattle.std.proofs.lemmas.List.{append-nil, length_push}
use Rattle.pg_event.specs.Heads.{Head}
use Rattle.pg_guest.specs.declared.instruction.Task.{Task}
use Rattle.pg_guest.specs.declared.script_refusal.ScriptError.{ScriptError}
use Rattle.pg_guest.specs.Lines.{Lines, Ended, Cut, Line, words_of, is_plain}
use Rattle.pg_event.specs.Reading.{◌>>=◌}
use Rattle.pg_guest.specs.declared.script_refusal.ScriptRefusal.TheVariants.{LineEnd}
use Rattle.pg_guest.specs.Reading.{Said, said, refused, in_line, task_after, Starts, with_start, starts_at, next_start_at, with_task, task_or_none, tasks_at, next_task_at}

-- ---- instructions

abbrev pub tasks_behind : List Task → Result (List Task) ScriptError → Result (List Task) ScriptError
tasks_behind front read = read >>= λ tasks. Ok (front ++ tasks)

abbrev after_task : Head → ℕ → Option (Said Task) → Result (List Task) ScriptError
after_task head count None = Ok []
after_task head count (Some task) = tasks_behind (task.value ∷ []) (tasks_at head (count + 1) task.more)

tasks_next : (head : Head) (count : ℕ) (lines : Lines) → tasks_at head count lines ≡ next_task_at head count lines >>= after_task head count
unfolding tasks_at next_task_at
tasks_next head count (Ended n) = refl
tasks_next head count (Cut n) = refl
tasks_next head count (Line n line more) = by_front (is_plain line) (in_line n (task_after count head (words_of line)))
  where
    here : Task → Result (Option (Said Task)) ScriptError
    here task = Ok (Some (said n more task))

    by_task : (r : Result Task ScriptError) → (r >>= here) >>= with_task (tasks_at head (count + 1) more) ≡ (r >>= here) >>= after_task head count
    by_task (Ok task) = refl
    by_task (Err e) = refl

    by_front : (b : Bool) (r : Result Task ScriptError)
        → ((if b then Ok (Line n line more) else refused n LineEnd) >>= task_or_none head count) >>= with_task (tasks_at head (count + 1) more)
        ≡ ((if b then Ok (Line n line more) else refused n LineEnd) >>= task_or_none head count) >>= after_task head count
    by_front true r = by_task (in_line n (task_after count head (words_of line)))
    by_front false r = refl

behind_behind : (front : List Task) (task : Task) (read : Result (List Task) ScriptError) → tasks_behind (front ++ task ∷ []) read ≡ tasks_behind front (tasks_behind (task ∷ []) read)
behind_behind front task (Ok tasks) = ap Ok (append_assoc front (task ∷ []) tasks)
behind_behind front task (Err e) = refl

-- a line more
pub tasks_go_on : (head : Head) (tasks : List Task) (lines : Lines) (task : Said Task) → next_task_at head (length tasks) lines ≡ Ok (Some task)
    → tasks_behind (tasks ++ task.value ∷ []) (tasks_at head (length (tasks ++ task.value ∷ [])) task.more) ≡ tasks_behind tasks (tasks_at head (length tasks) lines)
tasks_go_on head tasks lines task next =
    rw (length_push tasks task.value) (behind_behind tasks task.value (tasks_at head (length tasks + 1) task.more)
    ∙ ap (tasks_behind tasks) (sym (tasks_next head (length tasks) lines ∙ ap (λ r. r >>= after_task head (length tasks)) next)))

-- no line more
pub tasks_end : (head : Head) (tasks : List Task) (lines : Lines) → next_task_at head (length tasks) lines ≡ Ok None → tasks_behind tasks (tasks_at head (length tasks) lines) ≡ Ok tasks
tasks_end head tasks lines next =
    ap (tasks_behind tasks) (tasks_next head (length tasks) lines ∙ ap (λ r. r >>= after_task head (length tasks)) next) ∙ ap Ok (append-nil tasks)

-- a line that is refused
pub tasks_refused : (head : Head) (tasks : List Task) (lines : Lines) (e : ScriptError) → next_task_at head (length tasks) lines ≡ Err e → tasks_behind tasks (tasks_at head (length tasks) lines) ≡ Err e
tasks_refused head tasks lines e next =
    ap (tasks_behind tasks) (tasks_next head (length tasks) lines ∙ ap (λ r. r >>= after_task head (length tasks)) next)

-- ---- processors

abbrev pub starts_behind : Starts → Result (Starts × Lines) ScriptError → Result (Starts × Lines) ScriptError
starts_behind front read = read >>= λ x. Ok (front ++ x.0, x.1)

starts_next : (m most : ℕ) (lines : Lines) → starts_at m (suc most) lines ≡ next_start_at m lines >>= with_start lines (starts_at m most)
unfolding starts_at
starts_next m most lines = refl

starts_zero : (m : ℕ) (starts : Starts) (lines : Lines) → starts_behind starts (starts_at m zero lines) ≡ Ok (starts, lines)
unfolding starts_at
starts_zero m starts lines = ap (λ all. Ok (all, lines)) (append-nil starts)

behind_starts : (front : Starts) (start : ℕ × Bool) (read : Result (Starts × Lines) ScriptError) → starts_behind (front ++ start ∷ []) read ≡ starts_behind front (starts_behind (start ∷ []) read)
behind_starts front start (Ok x) = ap (λ starts. Ok (starts, x.1)) (append_assoc front (start ∷ []) x.0)
behind_starts front start (Err e) = refl

less_one : (most counter : ℕ) → counter < most → most - counter ≡ suc (most - (counter + 1))
less_one most counter lt = omega arith

-- a processor more
pub starts_go_on : (m most counter : ℕ) (starts : Starts) (lines : Lines) (start : Said (ℕ × Bool)) → counter < most → next_start_at m lines ≡ Ok (Some start)
    → starts_behind (starts ++ start.value ∷ []) (starts_at m (most - (counter + 1)) start.more) ≡ starts_behind starts (starts_at m (most - counter) lines)
starts_go_on m most counter starts lines start lt next =
    let k = most - (counter + 1) in
    behind_starts starts start.value (starts_at m k start.more)
    ∙ ap (starts_behind starts) (sym (ap (λ j. starts_at m j lines) (less_one most counter lt) ∙ starts_next m k lines ∙ ap (λ r. r >>= with_start lines (starts_at m k)) next))

-- no processor more
pub starts_end : (m most counter : ℕ) (starts : Starts) (lines : Lines) → counter < most → next_start_at m lines ≡ Ok None
    → starts_behind starts (starts_at m (most - counter) lines) ≡ Ok (starts, lines)
starts_end m most counter starts lines lt next =
    let k = most - (counter + 1) in
    ap (starts_behind starts) (ap (λ j. starts_at m j lines) (less_one most counter lt) ∙ starts_next m k lines ∙ ap (λ r. r >>= with_start lines (starts_at m k)) next)
    ∙ ap (λ all. Ok (all, lines)) (append-nil starts)

-- as many as there may be
pub starts_full : (m most counter : ℕ) (starts : Starts) (lines : Lines) → most ≤ counter → starts_behind starts (starts_at m (most - counter) lines) ≡ Ok (starts, lines)
starts_full m most counter starts lines le =
    let none : most - counter ≡ zero = omega arith in
    ap (λ j. starts_behind starts (starts_at m j lines)) none ∙ starts_zero m starts lines

-- a line that is refused
pub starts_refused : (m most counter : ℕ) (starts : Starts) (lines : Lines) (e : ScriptError) → counter < most → next_start_at m lines ≡ Err e
    → starts_behind starts (starts_at m (most - counter) lines) ≡ Err e
starts_refused m most counter starts lines e lt next =
    let k = most - (counter + 1) in
    ap (starts_behind starts) (ap (λ j. starts_at m j lines) (less_one most counter lt) ∙ starts_next m k lines ∙ ap (λ r. r >>= with_start lines (starts_at m k)) next)
