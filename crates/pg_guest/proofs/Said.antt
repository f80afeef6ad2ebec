-- The canonical text of a script is read as that script.
use Rattle.std.proofs.Common.{◌≡◌, ◌∙◌, ◌<◌, ◌≤◌, ◌+◌, ◌-◌, ◌^◌, ℕ, zero, suc, Bool, true, false, List, [], ◌∷◌, ◌++◌, Some, None, length, map, refl, sym, ap, arith}
use Rattle.std.specs.Prelude.{Result, Ok, Err, if◌then◌else◌, codes}
use Rattle.std.specs.List.{AllByRecursion}
use Rattle.std.specs.Str.{bytes_eq}
use Rattle.std.proofs.lemmas.Bool.{lt-ltb}
use Rattle.std.proofs.lemmas.Slice.Eq.{bytes_eq-Decides}
use Rattle.pg_entry.specs.declared.AccessKind.{AccessKind}
use Rattle.pg_entry.specs.declared.Op.{Op}
use Rattle.pg_entry.specs.declared.Op.TheVariants as ops
use Rattle.pg_entry.specs.Bits.{has_bit}
use Rattle.pg_event.specs.declared.version.Version.{Version}
use Rattle.pg_event.specs.declared.version.Version.TheVariants as versions
use Rattle.pg_event.specs.Heads.{Head, most_processors}
use Rattle.pg_event.specs.Form.{access_kind}
use Rattle.pg_guest.specs.declared.script_refusal.ScriptRefusal.{ScriptRefusal}
use Rattle.pg_guest.specs.declared.script_refusal.ScriptRefusal.TheVariants as refusals
use Rattle.pg_guest.specs.declared.instruction.Instruction.{Instruction}
use Rattle.pg_guest.specs.declared.instruction.Instruction.TheVariants.{Write, Access, MovCr3, Invlpg, Invpcid, MovCr4Pge}
use Rattle.pg_guest.specs.declared.instruction.Task.{Task}
use Rattle.pg_guest.specs.Numbers.{dec_of}
use Rattle.pg_guest.specs.Lines.{Lines, Line}
use Rattle.pg_guest.specs.Words.{Words}
use Rattle.pg_guest.specs.Heading.{IsCfg, version_in, machine_in, segment_in, start_in}
use Rattle.pg_guest.specs.Instructions.{task_in}
use Rattle.pg_guest.specs.Tasks.{IsWellFormed}
use Rattle.pg_guest.specs.Reading.{Scripted, refused, front_at, heading_at, next_start_at, next_task_at, starts_at, processors_at, head_at, task_after, most_instructions, tasks_at, reading}
use Rattle.pg_guest.specs.Spelling.{dec_word, bit_word, version_word, setting_words, settings_words, start_words, op_word, mode_word, instruction_words, task_words, script_lines, spaced, FitsInstruction, IsSayable, ReadingOfText}
use Rattle.pg_guest.proofs.Digits.{IsWord, dec_is_word, hex_is_word, dec_said}
use Rattle.pg_guest.proofs.Spaced.{AreWords, IsSpoken, AreSpoken, words_said, plain_said, numbered, lines_said, told_said}
use Rattle.pg_event.specs.Spelling.{IsHead}
use Rattle.pg_guest.proofs.Wells.{within}
use Rattle.pg_guest.proofs.Sayings.{most_of, version_read, machine_read, segment_read, start_read, task_read}

-- ---- each line is of words

bit_is_word : (b : Bool) → IsWord (bit_word b)
bit_is_word true = record { some = omega arith; visible = search arith }
bit_is_word false = record { some = omega arith; visible = search arith }

version_is_word : (version : Version) → IsWord (version_word version)
version_is_word versions.One = record { some = omega arith; visible = search arith }
version_is_word versions.Two = record { some = omega arith; visible = search arith }

words-append : (xs ys : Words) → AreWords xs → AreWords ys → AreWords (xs ++ ys)
words-append [] ys a b = b
words-append (x ∷ xs) ys a b = (a.0, words-append xs ys a.1 b)

setting_are_words : (name : List ℕ) (flags bit : ℕ) → IsWord name → AreWords (setting_words name flags bit)
setting_are_words name flags bit is = go (has_bit flags bit)
  where
    go : (b : Bool) → AreWords (if b then name ∷ [] else [])
    go true = (is, tt)
    go false = tt

settings_are_words : (flags : ℕ) → AreWords (settings_words flags)
settings_are_words flags =
    let wp : IsWord (codes "wp") = record { some = omega arith; visible = search arith } in
    let nxe : IsWord (codes "nxe") = record { some = omega arith; visible = search arith } in
    let smep : IsWord (codes "smep") = record { some = omega arith; visible = search arith } in
    let smap : IsWord (codes "smap") = record { some = omega arith; visible = search arith } in
    words-append _ (setting_words (codes "smap") flags 3)
    (words-append _ (setting_words (codes "smep") flags 2)
    (words-append (setting_words (codes "wp") flags 0) (setting_words (codes "nxe") flags 1) (setting_are_words (codes "wp") flags 0 wp) (setting_are_words (codes "nxe") flags 1 nxe))
    (setting_are_words (codes "smep") flags 2 smep))
    (setting_are_words (codes "smap") flags 3 smap)

op_is_word : (op : Op) → IsWord (op_word op)
op_is_word ops.Read = record { some = omega arith; visible = search arith }
op_is_word ops.Write = record { some = omega arith; visible = search arith }
op_is_word ops.Fetch = record { some = omega arith; visible = search arith }

mode_is_word : (op : Op) (user ac : Bool) → IsWord (mode_word (record { op = op; user = user; ac = ac }))
mode_is_word op true ac = record { some = omega arith; visible = search arith }
mode_is_word op false true = record { some = omega arith; visible = search arith }
mode_is_word op false false = record { some = omega arith; visible = search arith }

instruction_are_words : (i : Instruction) → AreWords (instruction_words i)
instruction_are_words (Write addr value) = (record { some = omega arith; visible = search arith }, (hex_is_word addr, (hex_is_word value, tt)))
instruction_are_words (Access flags la) =
    let kind : AccessKind = access_kind flags in
    (op_is_word kind.op, (hex_is_word la, (mode_is_word kind.op kind.user kind.ac, tt)))
instruction_are_words (MovCr3 operand) = (record { some = omega arith; visible = search arith }, (hex_is_word operand, tt))
instruction_are_words (Invlpg la) = (record { some = omega arith; visible = search arith }, (hex_is_word la, tt))
instruction_are_words (Invpcid kind pcid la) = (record { some = omega arith; visible = search arith }, (dec_is_word kind, (hex_is_word pcid, (hex_is_word la, tt))))
instruction_are_words (MovCr4Pge on) = (record { some = omega arith; visible = search arith }, (bit_is_word on, tt))

tasks_spoken : (tasks : List Task) → AreSpoken (map task_words tasks)
tasks_spoken [] = tt
tasks_spoken (task ∷ tasks) = (record { some = omega arith; are = (dec_is_word task.p, instruction_are_words task.instruction) }, tasks_spoken tasks)

starts_spoken : (starts : List (ℕ × Bool)) (tasks : List Task) → AreSpoken (map start_words starts ++ map task_words tasks)
starts_spoken [] tasks = tasks_spoken tasks
starts_spoken (start ∷ starts) tasks =
    let cpu : IsWord (codes "cpu") = record { some = omega arith; visible = search arith } in
    (record { some = omega arith; are = (cpu, (hex_is_word start.0, (bit_is_word start.1, tt))) }, starts_spoken starts tasks)

script_spoken : (s : Scripted) → AreSpoken (script_lines s)
script_spoken s =
    let guest : IsWord (codes "pcid-guest") = record { some = omega arith; visible = search arith } in
    let machine : IsWord (codes "machine") = record { some = omega arith; visible = search arith } in
    let segment : IsWord (codes "segment") = record { some = omega arith; visible = search arith } in (
      record { some = omega arith; are = (guest, (version_is_word s.head.version, tt)) },
      (
        record { some = omega arith; are = (machine, (dec_is_word s.head.cfg.m, settings_are_words s.head.cfg.flags.0)) },
        (record { some = omega arith; are = (segment, (dec_is_word s.head.segment, tt)) }, starts_spoken s.head.processors s.tasks),
      ),
    )

-- ---- each line is read

front_said : (n : ℕ) (words : Words) (more : Lines) → IsSpoken words → front_at (Line n (spaced words) more) ≡ Ok (Line n (spaced words) more)
front_said n words more is = ap (λ b. if b then Ok (Line n (spaced words) more) else refused n refusals.LineEnd) (plain_said words is)

heading_said : {A : Type 0} (place : ScriptRefusal) (read : Words → Result A ScriptRefusal) (n : ℕ) (words : Words) (lines : List Words) (x : A) → IsSpoken words → read words ≡ Ok x
    → heading_at place read (numbered n (words ∷ lines)) ≡ Ok (x, numbered (n + 1) lines)
unfolding heading_at
heading_said place read n words lines x is e = rw (front_said n words (numbered (n + 1) lines) is) (rw (words_said words is) (rw e refl))

cpu_is_no_number : (p : ℕ) → p < 10 ^ 10 → bytes_eq (dec_word p) (codes "cpu") ≡ false
unfolding dec_of
cpu_is_no_number p lt = go (bytes_eq (dec_word p) (codes "cpu")) refl
  where
    go : (b : Bool) → bytes_eq (dec_word p) (codes "cpu") ≡ b → b ≡ false
    go true is =
        let same : dec_word p ≡ codes "cpu" = search (arith, bytes_eq-Decides) in
        let none : Some p ≡ None = sym (dec_said p lt) ∙ ap dec_of same in
        cc
    go false is = refl

-- no processor more: the next line is an instruction, or the text has ended
starts_end_said : (m most n : ℕ) (tasks : List Task) → AllByRecursion (λ task. task.p < 10 ^ 10) tasks → starts_at m most (numbered n (map task_words tasks)) ≡ Ok ([], numbered n (map task_words tasks))
unfolding starts_at next_start_at
starts_end_said m zero n tasks small = refl
starts_end_said m (suc most) n [] small = refl
starts_end_said m (suc most) n (task ∷ tasks) small =
    let spoken = (tasks_spoken (task ∷ tasks)).0 in
    rw (front_said n (task_words task) (numbered (n + 1) (map task_words tasks)) spoken) (rw (words_said (task_words task) spoken) (rw (cpu_is_no_number task.p small.0) refl))

starts_said : (m most n : ℕ) (starts : List (ℕ × Bool)) (tasks : List Task) → m ≤ 52 → length starts ≤ most → AllByRecursion (λ start. start.0 < 2 ^ m) starts → AllByRecursion (λ task. task.p < 10 ^ 10) tasks
    → (k : ℕ) × (starts_at m most (numbered n (map start_words starts ++ map task_words tasks)) ≡ Ok (starts, numbered k (map task_words tasks)))
unfolding starts_at next_start_at
starts_said m most n [] tasks le few below small = (n, starts_end_said m most n tasks small)
starts_said m zero n (start ∷ starts) tasks le few below small = absurd (omega arith)
starts_said m (suc most) n (start ∷ starts) tasks le few below small =
    let rest = starts_said m most (n + 1) starts tasks le (omega arith) below.1 small in
    let read = start_read m start le below.0 in
    let spoken = (starts_spoken (start ∷ starts) tasks).0 in
    (rest.0, rw (front_said n (start_words start) (numbered (n + 1) (map start_words starts ++ map task_words tasks)) spoken) (rw (words_said (start_words start) spoken) (rw read (rw rest.1 refl))))

tasks_said : (head : Head) (count n : ℕ) (tasks : List Task) → length head.processors ≤ most_processors head.version → count + length tasks ≤ most_instructions
    → AllByRecursion (λ task. FitsInstruction task.instruction) tasks → AllByRecursion (λ task. IsWellFormed head task.p task.instruction) tasks
    → tasks_at head count (numbered n (map task_words tasks)) ≡ Ok tasks
unfolding tasks_at next_task_at
tasks_said head count n [] few enough fits well = refl
tasks_said head count n (task ∷ tasks) few enough fits well =
    let read : task_after count head (task_words task) ≡ Ok task =
    ap (λ b. if b then task_in head (task_words task) else Err refusals.TooMany) (lt-ltb count most_instructions (omega arith)) ∙ task_read head task few fits.0 well.0 in
    let rest = tasks_said head (count + 1) (n + 1) tasks few (omega arith) fits.1 well.1 in
    let spoken = (tasks_spoken (task ∷ tasks)).0 in
    rw (front_said n (task_words task) (numbered (n + 1) (map task_words tasks)) spoken) (rw (words_said (task_words task) spoken) (rw read (rw rest refl)))

-- ---- the whole text

small_tasks : (head : Head) (tasks : List Task) → length head.processors ≤ most_processors head.version → AllByRecursion (λ task. IsWellFormed head task.p task.instruction) tasks → AllByRecursion (λ task. task.p < 10 ^ 10) tasks
small_tasks head [] few well = tt
small_tasks head (task ∷ tasks) few well =
    let known = within head task.p task.instruction well.0 in
    let most = most_of head.version in
    (omega (arith, known, few, most), small_tasks head tasks few well.1)

processors_said : (m most n : ℕ) (starts : List (ℕ × Bool)) (tasks : List Task) → m ≤ 52 → 1 ≤ length starts → length starts ≤ most → AllByRecursion (λ start. start.0 < 2 ^ m) starts → AllByRecursion (λ task. task.p < 10 ^ 10) tasks
    → (k : ℕ) × (processors_at m (most - 1) (numbered n (map start_words starts ++ map task_words tasks)) ≡ Ok (starts, numbered k (map task_words tasks)))
unfolding processors_at
processors_said m most n [] tasks le some few below small = absurd (omega arith)
processors_said m most n (start ∷ starts) tasks le some few below small =
    let lines = map start_words starts ++ map task_words tasks in
    let first = heading_said refusals.Cpu (start_in m) n (start_words start) lines start (starts_spoken (start ∷ starts) tasks).0 (start_read m start le below.0) in
    let rest = starts_said m (most - 1) (n + 1) starts tasks le (omega arith) below.1 small in
    (rest.0, rw first (rw rest.1 refl))

head_said : (s : Scripted) → IsSayable s → (k : ℕ) × (head_at (numbered 1 (script_lines s)) ≡ Ok (s.head, numbered k (map task_words s.tasks)))
unfolding head_at
head_said s is =
    let head = s.head in
    let ranges : IsHead head = is.script.head in
    let spoken = script_spoken s in
    let processors = map start_words head.processors ++ map task_words s.tasks in
    let segment_words : Words = codes "segment" ∷ dec_word head.segment ∷ [] in
    let machine_words : Words = codes "machine" ∷ dec_word head.cfg.m ∷ settings_words head.cfg.flags.0 in
    let cfg : IsCfg head.cfg = record { low = ranges.low; high = ranges.high; flags = ranges.flags; rules = is.script.rules } in
    let version = heading_said refusals.FirstLine version_in 1 (codes "pcid-guest" ∷ version_word head.version ∷ []) (machine_words ∷ segment_words ∷ processors) head.version spoken.0 (version_read head.version) in
    let machine = heading_said refusals.Machine machine_in 2 machine_words (segment_words ∷ processors) head.cfg spoken.1.0 (machine_read head.cfg cfg) in
    let segment = heading_said refusals.Segment segment_in 3 segment_words processors head.segment spoken.1.1.0 (segment_read head.segment ranges.size ranges.limit) in
    let starts = processors_said head.cfg.m (most_processors head.version) 4 head.processors s.tasks ranges.high ranges.some ranges.few ranges.starts (small_tasks head s.tasks ranges.few is.script.well) in
    (starts.0, rw version (rw (told_said 2 (machine_words ∷ segment_words ∷ processors) spoken.1) (rw machine (rw segment (rw starts.1 refl)))))

pub reading_of_text : ReadingOfText
unfolding reading
reading_of_text s is =
    let head = head_said s is in
    let ranges : IsHead s.head = is.script.head in
    let few : 0 + length s.tasks ≤ most_instructions = omega (arith, is.script.few) in
    let tasks = tasks_said s.head 0 head.0 s.tasks ranges.few few is.fits is.script.well in
    rw (lines_said 1 (script_lines s) (script_spoken s)) (rw head.1 (rw tasks refl))
