-- No reading of a text refuses it as out of memory.
use Rattle.std.proofs.Common.{◌≡◌, ℕ, zero, suc, ◌+◌, ◌-◌, ◌^◌, Bool, true, false, List, [], ◌∷◌, Option, Some, None, refl}
use Rattle.std.specs.Prelude.{Result, Ok, Err, MatchResult, if◌then◌else◌, ◌&&◌, nat_lt, codes}
use Rattle.std.specs.Str.{bytes_eq}
use Rattle.pg_entry.specs.declared.Op.{Op}
use Rattle.pg_entry.specs.declared.Op.TheVariants as ops
use Rattle.pg_event.specs.Heads.{Head, most_processors}
use Rattle.pg_event.specs.Form.{broken_rule}
use Rattle.pg_event.specs.declared.event.Malformed.{Malformed}
use Rattle.pg_guest.specs.declared.instruction.Task.{Task}
use Rattle.pg_guest.specs.declared.script_refusal.ScriptError.{ScriptError}
use Rattle.pg_guest.specs.declared.script_refusal.ScriptRefusal.{ScriptRefusal}
use Rattle.pg_guest.specs.declared.script_refusal.ScriptRefusal.TheVariants as refusals
use Rattle.pg_guest.specs.Numbers.{dec_of, hex_of}
use Rattle.pg_guest.specs.Lines.{Lines, Ended, Cut, Line, lines_of, words_of, is_plain, told}
use Rattle.pg_event.specs.Reading.{◌>>=◌}
use Rattle.pg_guest.specs.Words.{Words, word_at, number_or_refusal, dec_at, hex_at, bit_at, ended}
use Rattle.pg_guest.specs.Heading.{names_processor, version_in, machine_in, segment_in, start_in}
use Rattle.pg_guest.specs.Instructions.{processor_or_refusal, processor_at, kind_at, write_in, access_in, mov_cr3_in, invlpg_in, invpcid_in, mov_cr4_pge_in, instruction_in, well_formed_or_refusal, task_in}
use Rattle.pg_guest.specs.Tasks.{event_of}
use Rattle.pg_guest.specs.Reading.{Said, said, refused, in_line, placed, front_at, line_or_refusal, line_at, heading_at, start_or_none, next_start_at, with_start, starts_at, processors_at, head_at, task_after, most_instructions, task_or_none, next_task_at, with_task, tasks_at, reading}
use Rattle.pg_guest.specs.Refusals.{is_memory}

-- ---- words

abbrev Says : {A : Type 0} → Result A ScriptRefusal → Type 0
Says r = MatchResult r (λ x. Unit {0}) (λ refusal. is_memory refusal ≡ false)

says_then : {A B : Type 0} (r : Result A ScriptRefusal) (f : A → Result B ScriptRefusal) → Says r → ((x : A) → Says (f x)) → Says (r >>= f)
says_then (Ok x) f here next = next x
says_then (Err e) f here next = here

says_if : {A : Type 0} (b : Bool) (r s : Result A ScriptRefusal) → Says r → Says s → Says (if b then r else s)
says_if true r s here there = here
says_if false r s here there = there

word_says : (words : Words) → Says (word_at words)
word_says [] = refl
word_says (word ∷ words) = tt

number_says : (n : Option ℕ) (words : Words) → Says (number_or_refusal n words)
number_says None words = refl
number_says (Some n) words = tt

dec_says : (words : Words) → Says (dec_at words)
unfolding dec_at
dec_says words = says_then (word_at words) _ (word_says words) (λ word. number_says (dec_of word.0) word.1)

hex_says : (words : Words) → Says (hex_at words)
unfolding hex_at
hex_says words = says_then (word_at words) _ (word_says words) (λ word. number_says (hex_of word.0) word.1)

bit_says : (words : Words) → Says (bit_at words)
unfolding bit_at
bit_says words = says_then (word_at words) _ (word_says words) (λ word. says_if (bytes_eq word.0 (codes "0")) _ _ tt (says_if (bytes_eq word.0 (codes "1")) _ _ tt refl))

ended_says : {A : Type 0} (x : A) (words : Words) → Says (ended (x, words))
ended_says x [] = tt
ended_says x (word ∷ words) = refl

processor_says : (words : Words) → Says (processor_at words)
unfolding processor_at
processor_says words = says_then (word_at words) _ (word_says words) (λ word. go (dec_of word.0) word.1)
  where
    go : (p : Option ℕ) (more : Words) → Says (processor_or_refusal p more)
    go None more = refl
    go (Some p) more = tt

kind_says : (op : Op) (words : Words) → Says (kind_at op words)
unfolding kind_at
kind_says op words =
    says_then (word_at words) _ (word_says words)
    (λ word. says_if (bytes_eq word.0 (codes "user")) _ _ tt (says_if (bytes_eq word.0 (codes "super")) _ _ tt (says_if (bytes_eq word.0 (codes "super-ac")) _ _ tt refl)))

write_says : (words : Words) → Says (write_in words)
unfolding write_in
write_says words = says_then (hex_at words) _ (hex_says words) (λ addr. says_then (hex_at addr.1) _ (hex_says addr.1) (λ value. ended_says _ value.1))

access_says : (op : Op) (words : Words) → Says (access_in op words)
unfolding access_in
access_says op words = says_then (hex_at words) _ (hex_says words) (λ la. says_then (kind_at op la.1) _ (kind_says op la.1) (λ kind. ended_says _ kind.1))

mov_cr3_says : (words : Words) → Says (mov_cr3_in words)
unfolding mov_cr3_in
mov_cr3_says words = says_then (hex_at words) _ (hex_says words) (λ operand. ended_says _ operand.1)

invlpg_says : (words : Words) → Says (invlpg_in words)
unfolding invlpg_in
invlpg_says words = says_then (hex_at words) _ (hex_says words) (λ la. ended_says _ la.1)

invpcid_says : (words : Words) → Says (invpcid_in words)
unfolding invpcid_in
invpcid_says words =
    says_then (dec_at words) _ (dec_says words)
    (λ kind. says_then (hex_at kind.1) _ (hex_says kind.1) (λ pcid. says_then (hex_at pcid.1) _ (hex_says pcid.1)
    (λ last. says_then (ended last) _ (ended_says last.0 last.1) (λ la. says_if (nat_lt kind.0 (2 ^ 8) && nat_lt pcid.0 (2 ^ 16)) _ _ tt refl))))

mov_cr4_pge_says : (words : Words) → Says (mov_cr4_pge_in words)
unfolding mov_cr4_pge_in
mov_cr4_pge_says words = says_then (bit_at words) _ (bit_says words) (λ on. ended_says _ on.1)

instruction_says : (name : List ℕ) (words : Words) → Says (instruction_in name words)
unfolding instruction_in
instruction_says name words =
    says_if (bytes_eq name (codes "write")) _ _ (write_says words)
    (says_if (bytes_eq name (codes "read")) _ _ (access_says ops.Read words)
    (says_if (bytes_eq name (codes "store")) _ _ (access_says ops.Write words)
    (says_if (bytes_eq name (codes "fetch")) _ _ (access_says ops.Fetch words)
    (says_if (bytes_eq name (codes "cr3")) _ _ (mov_cr3_says words)
    (says_if (bytes_eq name (codes "invlpg")) _ _ (invlpg_says words)
    (says_if (bytes_eq name (codes "invpcid")) _ _ (invpcid_says words)
    (says_if (bytes_eq name (codes "pge")) _ _ (mov_cr4_pge_says words) refl)))))))

well_formed_says : (rule : Option Malformed) (task : Task) → Says (well_formed_or_refusal rule task)
well_formed_says None task = tt
well_formed_says (Some rule) task = refl

task_says : (count : ℕ) (head : Head) (words : Words) → Says (task_after count head words)
unfolding task_in
task_says count head words =
    says_if (nat_lt count most_instructions) _ _
    (says_then (processor_at words) _ (processor_says words)
    (λ p. says_then (word_at p.1) _ (word_says p.1) (λ name. says_then (instruction_in name.0 name.1) _ (instruction_says name.0 name.1)
    (λ i. says_if (nat_lt p.0 (2 ^ 16)) _ _ (well_formed_says (broken_rule head (event_of p.0 i)) _) refl))))
    refl

-- ---- lines

abbrev Refuses : {A : Type 0} → Result A ScriptError → Type 0
Refuses r = MatchResult r (λ x. Unit {0}) (λ e. is_memory e.refusal ≡ false)

refuses_then : {A B : Type 0} (r : Result A ScriptError) (f : A → Result B ScriptError) → Refuses r → ((x : A) → Refuses (f x)) → Refuses (r >>= f)
refuses_then (Ok x) f here next = next x
refuses_then (Err e) f here next = here

in_line_refuses : {A : Type 0} (n : ℕ) (r : Result A ScriptRefusal) → Says r → Refuses (in_line n r)
in_line_refuses n (Ok x) says = tt
in_line_refuses n (Err refusal) says = says

placed_says : {A : Type 0} (place : ScriptRefusal) (r : Result A ScriptRefusal) → is_memory place ≡ false → Says (placed place r)
placed_says place (Ok x) other = tt
placed_says place (Err refusal) other = other

front_refuses : (lines : Lines) → Refuses (front_at lines)
front_refuses (Ended n) = tt
front_refuses (Cut n) = refl
front_refuses (Line n line more) = go (is_plain line)
  where
    go : (b : Bool) → Refuses (if b then Ok (Line n line more) else refused n refusals.LineEnd)
    go true = tt
    go false = refl

line_refuses : (place : ScriptRefusal) (lines : Lines) → is_memory place ≡ false → Refuses (line_at place lines)
line_refuses place lines other = refuses_then (front_at lines) _ (front_refuses lines) go
  where
    go : (front : Lines) → Refuses (line_or_refusal place front)
    go (Ended n) = other
    go (Cut n) = refl
    go (Line n line more) = tt

heading_refuses : {A : Type 0} (place : ScriptRefusal) (read : Words → Result A ScriptRefusal) (lines : Lines) → is_memory place ≡ false → Refuses (heading_at place read lines)
unfolding heading_at
heading_refuses place read lines other =
    refuses_then (line_at place lines) _ (line_refuses place lines other)
    (λ line. refuses_then (in_line line.number (placed place (read line.value))) _ (in_line_refuses line.number (placed place (read line.value)) (placed_says place (read line.value) other)) (λ value. tt))

next_start_refuses : (m : ℕ) (lines : Lines) → Refuses (next_start_at m lines)
unfolding next_start_at
next_start_refuses m lines = refuses_then (front_at lines) _ (front_refuses lines) go
  where
    by_name : (n : ℕ) (line : List ℕ) (more : Lines) (c : Bool) → Refuses (if c then (in_line n (placed refusals.Cpu (start_in m (words_of line))) >>= λ start. Ok (Some (said n more start))) else Ok None)
    by_name n line more true = refuses_then (in_line n (placed refusals.Cpu (start_in m (words_of line)))) _ (in_line_refuses n (placed refusals.Cpu (start_in m (words_of line))) (placed_says refusals.Cpu (start_in m (words_of line)) refl)) (λ start. tt)
    by_name n line more false = tt

    go : (front : Lines) → Refuses (start_or_none m front)
    go (Ended n) = tt
    go (Cut n) = refl
    go (Line n line more) = by_name n line more (names_processor (words_of line))

starts_refuses : (m most : ℕ) (lines : Lines) → Refuses (starts_at m most lines)
unfolding starts_at
starts_refuses m zero lines = tt
starts_refuses m (suc most) lines = refuses_then (next_start_at m lines) _ (next_start_refuses m lines) (λ start. go start (starts_refuses m most))
  where
    go : (start : Option (Said (ℕ × Bool))) → ((ls : Lines) → Refuses (starts_at m most ls)) → Refuses (with_start lines (starts_at m most) start)
    go None later = tt
    go (Some start) later = refuses_then (starts_at m most start.more) _ (later start.more) (λ rest. tt)

processors_refuses : (m most : ℕ) (lines : Lines) → Refuses (processors_at m most lines)
unfolding processors_at
processors_refuses m most lines =
    refuses_then (heading_at refusals.Cpu (start_in m) lines) _ (heading_refuses refusals.Cpu (start_in m) lines refl)
    (λ first. refuses_then (starts_at m most first.1) _ (starts_refuses m most first.1) (λ others. tt))

head_refuses : (lines : Lines) → Refuses (head_at lines)
unfolding head_at
head_refuses lines =
    refuses_then (heading_at refusals.FirstLine version_in lines) _ (heading_refuses refusals.FirstLine version_in lines refl)
    (λ version. refuses_then (heading_at refusals.Machine machine_in (told version.1)) _ (heading_refuses refusals.Machine machine_in (told version.1) refl)
    (λ cfg. refuses_then (heading_at refusals.Segment segment_in cfg.1) _ (heading_refuses refusals.Segment segment_in cfg.1 refl)
    (λ size. refuses_then (processors_at cfg.0.m (most_processors version.0 - 1) size.1) _ (processors_refuses cfg.0.m (most_processors version.0 - 1) size.1) (λ starts. tt))))

next_task_refuses : (head : Head) (count : ℕ) (lines : Lines) → Refuses (next_task_at head count lines)
unfolding next_task_at
next_task_refuses head count lines = refuses_then (front_at lines) _ (front_refuses lines) go
  where
    go : (front : Lines) → Refuses (task_or_none head count front)
    go (Ended n) = tt
    go (Cut n) = refl
    go (Line n line more) =
        refuses_then (in_line n (task_after count head (words_of line))) _ (in_line_refuses n (task_after count head (words_of line)) (task_says count head (words_of line))) (λ task. tt)

tasks_refuses : (head : Head) (count : ℕ) (lines : Lines) → Refuses (tasks_at head count lines)
unfolding tasks_at
tasks_refuses head count (Ended n) = tt
tasks_refuses head count (Cut n) = refl
tasks_refuses head count (Line n line more) =
    refuses_then (next_task_at head count (Line n line more)) _ (next_task_refuses head count (Line n line more)) (λ task. go task (tasks_refuses head (count + 1) more))
  where
    go : (task : Option (Said Task)) → Refuses (tasks_at head (count + 1) more) → Refuses (with_task (tasks_at head (count + 1) more) task)
    go None later = tt
    go (Some task) later = refuses_then (tasks_at head (count + 1) more) _ later (λ tasks. tt)

reading_refuses : (bytes : List ℕ) → Refuses (reading bytes)
unfolding reading
reading_refuses bytes =
    refuses_then (head_at (lines_of 1 bytes)) _ (head_refuses (lines_of 1 bytes))
    (λ head. refuses_then (tasks_at head.0 0 head.1) _ (tasks_refuses head.0 0 head.1) (λ tasks. tt))

-- no refusal of a text is out of memory
pub never_memory : (bytes : List ℕ) (e : ScriptError) → reading bytes ≡ Err e → is_memory e.refusal ≡ false
never_memory bytes e is = rw is at (reading_refuses bytes)
