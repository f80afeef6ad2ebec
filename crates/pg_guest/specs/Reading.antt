-- Which text is which script, and the first refusal of a text that is none.
use Rattle.std.specs.Prelude.{ℕ, zero, suc, ◌+◌, ◌-◌, ◌≤◌, Bool, nat_lt}
use Rattle.std.specs.Prelude.{if◌then◌else◌, List, [], ◌∷◌, length, Option, Some, None}
use Rattle.std.specs.Prelude.{Result, Ok, Err}
use Rattle.std.specs.List.{AllByRecursion}
use Rattle.pg_event.specs.Heads.{Head, HoldsToAll, most_processors}
use Rattle.pg_event.specs.Spelling.{IsHead}
use Rattle.pg_guest.specs.declared.script_refusal.ScriptRefusal.{ScriptRefusal}
use Rattle.pg_guest.specs.declared.script_refusal.ScriptRefusal.TheVariants as refusals
use Rattle.pg_guest.specs.declared.script_refusal.ScriptError.{ScriptError}
use Rattle.pg_guest.specs.declared.instruction.Task.{Task}
use Rattle.pg_guest.specs.Lines.{Lines, Ended, Cut, Line, lines_of, words_of, is_plain, told}
use Rattle.pg_event.specs.Reading.{◌>>=◌}
use Rattle.pg_guest.specs.Words.{Words}
use Rattle.pg_guest.specs.Heading.{version_in, machine_in, segment_in, start_in, names_processor}
use Rattle.pg_guest.specs.Instructions.{task_in}
use Rattle.pg_guest.specs.Tasks.{IsWellFormed}

-- the settings of the run, and the instructions with their processors in the order of their lines
pub record Scripted : Type 0 where
  pub head : Head
  pub tasks : List Task

abbrev pub refused : {A : Type 0} → ℕ → ScriptRefusal → Result A ScriptError
refused n refusal = Err (record { line = n; refusal = refusal })

-- a refusal of words is one of their line
abbrev pub in_line : {A : Type 0} → ℕ → Result A ScriptRefusal → Result A ScriptError
in_line n (Ok x) = Ok x
in_line n (Err refusal) = refused n refusal

-- what a line says, under its number, and the lines after it
pub record Said (A : Type 0) : Type 0 where
  pub number : ℕ
  pub value : A
  pub more : Lines

abbrev pub said : {A : Type 0} → ℕ → Lines → A → Said A
said n more value = record { number = n; value = value; more = more }

-- the lines, where the bytes of the first are those of a line and an LF ends it
abbrev pub front_at : Lines → Result Lines ScriptError
front_at (Ended n) = Ok (Ended n)
front_at (Cut n) = refused n refusals.LineEnd
front_at (Line n line more) =
    if is_plain line then Ok (Line n line more) else refused n refusals.LineEnd

abbrev pub line_or_refusal : ScriptRefusal → Lines → Result (Said Words) ScriptError
line_or_refusal place (Ended n) = refused n place
line_or_refusal place (Cut n) = refused n refusals.LineEnd
line_or_refusal place (Line n line more) = Ok (said n more (words_of line))

-- A line that must come, as words. Where the text ends before it, the number is the next one and
-- the refusal that of the line that lacks.
abbrev pub line_at : ScriptRefusal → Lines → Result (Said Words) ScriptError
line_at place lines = front_at lines >>= line_or_refusal place

-- before the instructions any fault of a line's words has the refusal of the line's place
abbrev pub placed : {A : Type 0} → ScriptRefusal → Result A ScriptRefusal → Result A ScriptRefusal
placed place (Ok x) = Ok x
placed place (Err refusal) = Err place

unfoldable pub heading_at : {A : Type 0} → ScriptRefusal → (Words → Result A ScriptRefusal) →
    Lines → Result (A × Lines) ScriptError
heading_at place read lines = do
  line ← line_at place lines
  value ← in_line line.number (placed place (read line.value))
  Ok (value, line.more)

abbrev pub start_or_none : ℕ → Lines → Result (Option (Said (ℕ × Bool))) ScriptError
start_or_none m (Ended n) = Ok None
start_or_none m (Cut n) = refused n refusals.LineEnd
start_or_none m (Line n line more) =
    if names_processor (words_of line) then
    (in_line n (placed refusals.Cpu (start_in m (words_of line)))
    >>= λ start. Ok (Some (said n more start)))
    else Ok None

-- a processor more, if the next line begins with the word `cpu`
unfoldable pub next_start_at : ℕ → Lines → Result (Option (Said (ℕ × Bool))) ScriptError
next_start_at m lines = front_at lines >>= start_or_none m

abbrev pub Starts : Type 0
Starts = List (ℕ × Bool)

-- no processor more, or one and the others
abbrev pub with_start : Lines → (Lines → Result (Starts × Lines) ScriptError) →
    Option (Said (ℕ × Bool)) → Result (Starts × Lines) ScriptError
with_start lines others None = Ok ([], lines)
with_start lines others (Some start) =
    others start.more >>= λ rest. Ok (start.value ∷ rest.0, rest.1)

-- at most so many processors more
unfoldable pub starts_at : ℕ → ℕ → Lines → Result (Starts × Lines) ScriptError
starts_at m zero lines = Ok ([], lines)
starts_at m (suc most) lines = next_start_at m lines >>= with_start lines (starts_at m most)

-- the processors: one and at most so many more
unfoldable pub processors_at : ℕ → ℕ → Lines → Result (Starts × Lines) ScriptError
processors_at m most lines = do
  first ← heading_at refusals.Cpu (start_in m) lines
  others ← starts_at m most first.1
  Ok (first.0 ∷ others.0, others.1)

-- the lines before the instructions
unfoldable pub head_at : Lines → Result (Head × Lines) ScriptError
head_at lines = do
  version ← heading_at refusals.FirstLine version_in lines
  cfg ← heading_at refusals.Machine machine_in (told version.1)
  size ← heading_at refusals.Segment segment_in cfg.1
  starts ← processors_at cfg.0.m (most_processors version.0 - 1) size.1
  Ok (
    record {
      version = version.0;
      cfg = cfg.0;
      segment = size.0;
      processors = starts.0;
    },
    starts.1,
  )

abbrev pub most_instructions : ℕ
most_instructions = 1048576

-- an instruction, where so many came before
abbrev pub task_after : ℕ → Head → Words → Result Task ScriptRefusal
task_after count head words =
    if nat_lt count most_instructions then task_in head words else Err refusals.TooMany

abbrev pub task_or_none : Head → ℕ → Lines → Result (Option (Said Task)) ScriptError
task_or_none head count (Ended n) = Ok None
task_or_none head count (Cut n) = refused n refusals.LineEnd
task_or_none head count (Line n line more) =
    in_line n (task_after count head (words_of line)) >>= λ task. Ok (Some (said n more task))

-- the next instruction, if a line comes, where so many came before
unfoldable pub next_task_at : Head → ℕ → Lines → Result (Option (Said Task)) ScriptError
next_task_at head count lines = front_at lines >>= task_or_none head count

-- no instruction more, or one and the others
abbrev pub with_task : Result (List Task) ScriptError → Option (Said Task) →
    Result (List Task) ScriptError
with_task others None = Ok []
with_task others (Some task) = others >>= λ tasks. Ok (task.value ∷ tasks)

unfoldable pub tasks_at : Head → ℕ → Lines → Result (List Task) ScriptError
tasks_at head count (Ended n) = Ok []
tasks_at head count (Cut n) = refused n refusals.LineEnd
tasks_at head count (Line n line more) =
    next_task_at head count (Line n line more) >>= with_task (tasks_at head (count + 1) more)

-- the script that a text is, or its first refusal
unfoldable pub reading : List ℕ → Result Scripted ScriptError
reading bytes = do
  head ← head_at (lines_of 1 bytes)
  tasks ← tasks_at head.0 0 head.1
  Ok (record { head = head.0; tasks = tasks })

-- what each script keeps: its header is in range and of processors that are held to all rules, and
-- its instructions are not too many and well formed under it
pub record IsScript (s : Scripted) : Type 0 where
  pub head : IsHead s.head
  pub rules : HoldsToAll s.head
  pub few : length s.tasks ≤ most_instructions
  pub well : AllByRecursion (λ task. IsWellFormed s.head task.p task.instruction) s.tasks
