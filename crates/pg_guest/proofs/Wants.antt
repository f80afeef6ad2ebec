-- Where memory may be wanted, and that what follows there has greater numbers.
use Rattle.std.proofs.Common.{◌≡◌, ◌∙◌, ◌++◌, ◌+◌, ◌-◌, ◌<◌, ◌≤◌, ◌⊎◌, inl, inr, ℕ, zero, suc, Bool, true, false, List, [], ◌∷◌, Option, Some, None, length, refl, sym, ap, subst, arith}
use Rattle.std.specs.Prelude.{Result, Ok, Err, MatchResult, IfErr, if◌then◌else◌, ◌==◌, ◌||◌, ◌&&◌, nat_lt, codes}
use Rattle.std.specs.Str.{bytes_eq}
use Rattle.pg_event.specs.Heads.{Head, most_processors}
use Rattle.pg_event.specs.declared.version.Version.{Version}
use Rattle.pg_entry.specs.declared.Cfg.{Cfg}
use Rattle.pg_guest.specs.declared.instruction.Task.{Task}
use Rattle.pg_guest.specs.declared.script_refusal.ScriptError.{ScriptError}
use Rattle.pg_guest.specs.declared.script_refusal.ScriptRefusal.{ScriptRefusal}
use Rattle.pg_guest.specs.declared.script_refusal.ScriptRefusal.TheVariants as refusals
use Rattle.pg_guest.specs.Lines.{Lines, Ended, Cut, Line, pieces, lines_from, lines_of, words_of, is_plain, is_skipped, told}
use Rattle.pg_event.specs.Reading.{◌>>=◌}
use Rattle.pg_guest.specs.Words.{Words, keyword_at}
use Rattle.pg_guest.specs.Heading.{names_processor, version_in, machine_in, segment_in, start_in}
use Rattle.pg_guest.specs.Instructions.{processor_at, task_in}
use Rattle.pg_guest.specs.Reading.{Said, said, refused, in_line, placed, line_or_refusal, heading_at, start_or_none, next_start_at, Starts, with_start, starts_at, processors_at, head_at, task_after, most_instructions, task_or_none, next_task_at, with_task, tasks_at, reading}
use Rattle.pg_guest.specs.Answers.{Rest, lines_in, told_in, first_number, AreRising, AreBehind, Lacks}
use Rattle.pg_guest.specs.Refusals.{adds, Adds, IsRefused}
use Rattle.pg_guest.proofs.Refusals.{never_memory}
use Rattle.pg_guest.proofs.Loops.{tasks_behind, tasks_go_on, starts_behind, starts_go_on}

-- ---- steps

pub bind_ok : {A B E : Type 0} (r : Result A E) (f : A → Result B E) (y : B) → (r >>= f) ≡ Ok y → (x : A) × (r ≡ Ok x) × (f x ≡ Ok y)
bind_ok (Ok x) f y e = (x, refl, e)
bind_ok (Err x) f y e = cc

bind_all : {A B E : Type 0} (P : A → Type 0) (Q : B → Type 0) (R : E → Type 0) (r : Result A E) (f : A → Result B E) → MatchResult r P R → ((x : A) → P x → MatchResult (f x) Q R) → MatchResult (r >>= f) Q R
bind_all P Q R (Ok x) f here then_ = then_ x here
bind_all P Q R (Err e) f here then_ = here

-- ---- numbers of lines

first_from : (n : ℕ) (ps : List (List ℕ)) → first_number (lines_from n ps) ≡ n
first_from n [] = refl
first_from n (p ∷ []) = go (length p == 0)
  where
    go : (b : Bool) → first_number (if b then Ended n else Cut n) ≡ n
    go true = refl
    go false = refl
first_from n (p ∷ q ∷ ps) = refl

rising_from : (n : ℕ) (ps : List (List ℕ)) → AreRising (lines_from n ps)
rising_from n [] = tt
rising_from n (p ∷ []) = go (length p == 0)
  where
    go : (b : Bool) → AreRising (if b then Ended n else Cut n)
    go true = tt
    go false = tt
rising_from n (p ∷ q ∷ ps) = (subst (λ k. n < k) (sym (first_from (n + 1) (q ∷ ps))) (omega arith), rising_from (n + 1) (q ∷ ps))

told_rising : (lines : Lines) → AreRising lines → AreRising (told lines) × (first_number lines ≤ first_number (told lines))
told_rising (Ended n) rising = (tt, omega arith)
told_rising (Cut n) rising = (tt, omega arith)
told_rising (Line n line more) rising = go (is_plain line) (is_skipped line) (told_rising more rising.1)
  where
    go : (a b : Bool) → AreRising (told more) × (first_number more ≤ first_number (told more))
        → AreRising (if a && b then told more else Line n line (told more)) × (n ≤ first_number (if a && b then told more else Line n line (told more)))
    go true true later = let lt = rising.0 in let le = later.1 in (later.0, omega arith)
    go true false later = let lt = rising.0 in let le = later.1 in ((omega arith, later.0), omega arith)
    go false b later = let lt = rising.0 in let le = later.1 in ((omega arith, later.0), omega arith)

pub told_in_rising : (rest : Rest) → AreRising (told_in rest)
told_in_rising rest = (told_rising (lines_in rest) (rising_from rest.0 (pieces 10 rest.1))).0

pub adds_told : (lines : Lines) (n : ℕ) → Adds (told lines) n → Adds lines n
adds_told (Ended m) n a = a
adds_told (Cut m) n a = a
adds_told (Line m line more) n a = go (is_plain line) (is_skipped line) (adds_told more n) a
  where
    go : (x y : Bool) → (Adds (told more) n → Adds more n) → Adds (if x && y then told more else Line m line (told more)) n → Adds (Line m line more) n
    go true true later h = inr (later h)
    go true false later (inl h) = inl h
    go true false later (inr h) = inr (later h)
    go false y later (inl h) = inl h
    go false y later (inr h) = inr (later h)

-- ---- what a line that was read is

heading_line : {A : Type 0} (place : ScriptRefusal) (read : Words → Result A ScriptRefusal) (lines : Lines) (x : A) (more : Lines) → heading_at place read lines ≡ Ok (x, more)
    → (n : ℕ) × (line : List ℕ) × (lines ≡ Line n line more) × (read (words_of line) ≡ Ok x)
unfolding heading_at
heading_line place read (Ended n) x more e = cc
heading_line place read (Cut n) x more e = cc
heading_line {A} place read (Line n line rest) x more e = go (is_plain line) e
  where
    given : A → Result (A × Lines) ScriptError
    given v = Ok (v, rest)

    by_value : (r : Result A ScriptRefusal) → read (words_of line) ≡ r → (in_line n (placed place r) >>= given) ≡ Ok (x, more)
        → (k : ℕ) × (l : List ℕ) × (Line n line rest ≡ Line k l more) × (read (words_of l) ≡ Ok x)
    by_value (Ok y) is h =
        let here : A × Lines = (y, rest) in
        let wanted : A × Lines = (x, more) in
        let same : here ≡ wanted = cc in
        (n, line, ap (λ (p : A × Lines). Line n line p.1) same, is ∙ ap (λ (p : A × Lines). Ok p.0) same)
    by_value (Err r) is h = cc

    value : Said Words → Result (A × Lines) ScriptError
    value l = in_line l.number (placed place (read l.value)) >>= λ v. Ok (v, l.more)

    go : (b : Bool) → (((if b then Ok (Line n line rest) else refused n refusals.LineEnd) >>= line_or_refusal place) >>= value) ≡ Ok (x, more)
        → (k : ℕ) × (l : List ℕ) × (Line n line rest ≡ Line k l more) × (read (words_of l) ≡ Ok x)
    go true h = by_value (read (words_of line)) refl h
    go false h = cc

task_line : (head : Head) (count : ℕ) (lines : Lines) (task : Said Task) → next_task_at head count lines ≡ Ok (Some task)
    → (line : List ℕ) × (lines ≡ Line task.number line task.more) × (task_after count head (words_of line) ≡ Ok task.value)
unfolding next_task_at
task_line head count (Ended m) task e = cc
task_line head count (Cut m) task e = cc
task_line head count (Line m line rest) task e = go (is_plain line) e
  where
    given : Task → Result (Option (Said Task)) ScriptError
    given t = Ok (Some (said m rest t))

    by_task : (r : Result Task ScriptRefusal) → task_after count head (words_of line) ≡ r → (in_line m r >>= given) ≡ Ok (Some task)
        → (l : List ℕ) × (Line m line rest ≡ Line task.number l task.more) × (task_after count head (words_of l) ≡ Ok task.value)
    by_task (Ok t) is h =
        let same : said m rest t ≡ task = cc in
        (line, ap (λ (p : Said Task). Line p.number line p.more) same, is ∙ ap (λ (p : Said Task). Ok p.value) same)
    by_task (Err r) is h = cc

    go : (b : Bool) → ((if b then Ok (Line m line rest) else refused m refusals.LineEnd) >>= task_or_none head count) ≡ Ok (Some task)
        → (l : List ℕ) × (Line m line rest ≡ Line task.number l task.more) × (task_after count head (words_of l) ≡ Ok task.value)
    go true h = by_task (task_after count head (words_of line)) refl h
    go false h = cc

start_line : (m : ℕ) (lines : Lines) (start : Said (ℕ × Bool)) → next_start_at m lines ≡ Ok (Some start)
    → (line : List ℕ) × (lines ≡ Line start.number line start.more) × (names_processor (words_of line) ≡ true)
unfolding next_start_at
start_line m (Ended k) start e = cc
start_line m (Cut k) start e = cc
start_line m (Line k line rest) start e = go (is_plain line) e
  where
    IsLine : Type 0
    IsLine = (l : List ℕ) × (Line k line rest ≡ Line start.number l start.more) × (names_processor (words_of l) ≡ true)

    given : ℕ × Bool → Result (Option (Said (ℕ × Bool))) ScriptError
    given s = Ok (Some (said k rest s))

    by_start : (r : Result (ℕ × Bool) ScriptError) → names_processor (words_of line) ≡ true → (r >>= given) ≡ Ok (Some start) → IsLine
    by_start (Ok s) named h =
        let same : said k rest s ≡ start = cc in
        (line, ap (λ (p : Said (ℕ × Bool)). Line p.number line p.more) same, named)
    by_start (Err r) named h = cc

    by_name : (b : Bool) → names_processor (words_of line) ≡ b → (if b then (in_line k (placed refusals.Cpu (start_in m (words_of line))) >>= given) else Ok None) ≡ Ok (Some start) → IsLine
    by_name true named h = by_start _ named h
    by_name false named h = cc

    go : (b : Bool) → ((if b then Ok (Line k line rest) else refused k refusals.LineEnd) >>= start_or_none m) ≡ Ok (Some start) → IsLine
    go true h = by_name (names_processor (words_of line)) refl h
    go false h = cc

-- ---- lines that make a script longer

or_true : (b : Bool) → (b || true) ≡ true
or_true true = refl
or_true false = refl

task_adds : (count : ℕ) (head : Head) (words : Words) (task : Task) → task_after count head words ≡ Ok task → adds words ≡ true
unfolding task_in
task_adds count head words task e = go (nat_lt count most_instructions) e
  where
    go : (b : Bool) → (if b then task_in head words else Err refusals.TooMany) ≡ Ok task → adds words ≡ true
    go true h = let p = bind_ok (processor_at words) _ task h in rw p.1 (or_true (names_processor words))
    go false h = cc

keyword_named : (words rest : Words) → keyword_at (codes "cpu") words ≡ Ok rest → names_processor words ≡ true
unfolding keyword_at
keyword_named [] rest e = cc
keyword_named (word ∷ words) rest e = go (bytes_eq word (codes "cpu")) refl e
  where
    go : (b : Bool) → bytes_eq word (codes "cpu") ≡ b → (if b then Ok words else Err refusals.Instruction) ≡ Ok rest → bytes_eq word (codes "cpu") ≡ true
    go true is h = is
    go false is h = cc

start_named : (m : ℕ) (words : Words) (start : ℕ × Bool) → start_in m words ≡ Ok start → names_processor words ≡ true
unfolding start_in
start_named m words start e = let p = bind_ok (keyword_at (codes "cpu") words) _ start e in keyword_named words p.0 p.1

named_adds : (words : Words) → names_processor words ≡ true → adds words ≡ true
named_adds words named = rw named refl

-- ---- what follows

abbrev IsLater : {A : Type 0} → ℕ → Result A ScriptError → Type 0
IsLater n read = MatchResult read (λ x. Unit {0}) (λ first. n < first.line)

in_line_later : {A : Type 0} (k n : ℕ) (r : Result A ScriptRefusal) → k < n → IsLater k (in_line n r)
in_line_later k n (Ok x) lt = tt
in_line_later k n (Err r) lt = lt

next_task_later : (k : ℕ) (head : Head) (count : ℕ) (lines : Lines) → AreBehind k lines → IsLater k (next_task_at head count lines)
unfolding next_task_at
next_task_later k head count (Ended n) b = tt
next_task_later k head count (Cut n) b = b.0
next_task_later k head count (Line n line more) b = go (is_plain line)
  where
    go : (c : Bool) → IsLater k ((if c then Ok (Line n line more) else refused n refusals.LineEnd) >>= task_or_none head count)
    go true =
        bind_all (λ x. Unit {0}) (λ x. Unit {0}) (λ first. k < first.line) (in_line n (task_after count head (words_of line))) _ (in_line_later k n (task_after count head (words_of line)) b.0) (λ task u. tt)
    go false = b.0

pub tasks_later : (k : ℕ) (head : Head) (count : ℕ) (lines : Lines) → AreBehind k lines → IsLater k (tasks_at head count lines)
unfolding tasks_at
tasks_later k head count (Ended n) b = tt
tasks_later k head count (Cut n) b = b.0
tasks_later k head count (Line n line more) b =
    let lt = b.0 in
    let next = b.1.0 in
    let further : k < first_number more = omega arith in
    bind_all (λ x. Unit {0}) (λ x. Unit {0}) (λ first. k < first.line) (next_task_at head count (Line n line more)) _ (next_task_later k head count (Line n line more) b)
    (λ task u. go task (tasks_later k head (count + 1) more (further, b.1.1)))
  where
    go : (task : Option (Said Task)) → IsLater k (tasks_at head (count + 1) more) → IsLater k (with_task (tasks_at head (count + 1) more) task)
    go None later = tt
    go (Some task) later = bind_all (λ x. Unit {0}) (λ x. Unit {0}) (λ first. k < first.line) (tasks_at head (count + 1) more) _ later (λ tasks u. tt)

abbrev PartIsLater : {A : Type 0} → ℕ → Result (A × Lines) ScriptError → Type 0
PartIsLater n read = MatchResult read (λ x. AreBehind n x.1) (λ first. n < first.line)

abbrev MayFollow : ℕ → Option (Said (ℕ × Bool)) → Type 0
MayFollow k None = Unit {0}
MayFollow k (Some start) = AreBehind k start.more

next_start_later : (k m : ℕ) (lines : Lines) → AreBehind k lines → MatchResult (next_start_at m lines) (MayFollow k) (λ first. k < first.line)
unfolding next_start_at
next_start_later k m (Ended n) b = tt
next_start_later k m (Cut n) b = b.0
next_start_later k m (Line n line more) b = go (is_plain line)
  where
    given : ℕ × Bool → Result (Option (Said (ℕ × Bool))) ScriptError
    given start = Ok (Some (said n more start))

    by_name : (c : Bool) → MatchResult (if c then (in_line n (placed refusals.Cpu (start_in m (words_of line))) >>= given) else Ok None) (MayFollow k) (λ first. k < first.line)
    by_name true =
        let lt = b.0 in
        let next = b.1.0 in
        let further : k < first_number more = omega arith in
        bind_all (λ x. Unit {0}) (MayFollow k) (λ first. k < first.line) (in_line n (placed refusals.Cpu (start_in m (words_of line)))) given (in_line_later k n (placed refusals.Cpu (start_in m (words_of line))) b.0)
        (λ start u. (further, b.1.1))
    by_name false = tt

    go : (c : Bool) → MatchResult ((if c then Ok (Line n line more) else refused n refusals.LineEnd) >>= start_or_none m) (MayFollow k) (λ first. k < first.line)
    go true = by_name (names_processor (words_of line))
    go false = b.0

pub starts_later : (k m most : ℕ) (lines : Lines) → AreBehind k lines → PartIsLater k (starts_at m most lines)
unfolding starts_at
starts_later k m zero lines b = b
starts_later k m (suc most) lines b =
    bind_all (MayFollow k) (λ x. AreBehind k x.1) (λ first. k < first.line) (next_start_at m lines) _ (next_start_later k m lines b) (λ start follows. go start follows (starts_later k m most))
  where
    go : (start : Option (Said (ℕ × Bool))) → MayFollow k start → ((ls : Lines) → AreBehind k ls → PartIsLater k (starts_at m most ls)) → PartIsLater k (with_start lines (starts_at m most) start)
    go None follows later = b
    go (Some start) follows later = bind_all (λ x. AreBehind k x.1) (λ x. AreBehind k x.1) (λ first. k < first.line) (starts_at m most start.more) _ (later start.more follows) (λ rest u. u)

-- ---- memory that is wanted

adds_heading : {A : Type 0} (place : ScriptRefusal) (read : Words → Result A ScriptRefusal) (lines : Lines) (x : A) (more : Lines) (n : ℕ) → heading_at place read lines ≡ Ok (x, more) → Adds more n → Adds lines n
adds_heading place read lines x more n e a = let p = heading_line place read lines x more e in subst (λ ls. Adds ls n) (sym p.2) (inr a)

-- at the line of an instruction
pub lacks_task : (head : Head) (tasks : List Task) (all lines : Lines) (task : Said Task) (read : Result (List Task) ScriptError) → next_task_at head (length tasks) lines ≡ Ok (Some task)
    → AreRising lines → ((k : ℕ) → Adds lines k → Adds all k) → tasks_behind tasks (tasks_at head (length tasks) lines) ≡ read
    → Lacks (λ x. Unit {0}) all read (record { line = task.number; refusal = refusals.Memory })
lacks_task head tasks all lines task read next rising within is =
    let n = task.number in
    let with_it = tasks ++ task.value ∷ [] in
    let p = task_line head (length tasks) lines task next in
    let behind : AreBehind n task.more = rw p.1 at rising in
    let adding : Adds lines n = subst (λ ls. Adds ls n) (sym p.1) (inl (refl, task_adds (length tasks) head (words_of p.0) task.value p.2)) in
    let on = tasks_go_on head tasks lines task next in
    let late : IsLater n (tasks_behind with_it (tasks_at head (length with_it) task.more)) =
    bind_all (λ x. Unit {0}) (λ x. Unit {0}) (λ e. n < e.line) (tasks_at head (length with_it) task.more) _ (tasks_later n head (length with_it) task.more behind) (λ x u. tt) in
    (refl, within n adding, subst (λ r. IsLater n r) (on ∙ is) late)

-- at the line of a processor more
pub lacks_start : (m most counter : ℕ) (starts : Starts) (all lines : Lines) (start : Said (ℕ × Bool)) (read : Result (Starts × Lines) ScriptError) → counter < most → next_start_at m lines ≡ Ok (Some start)
    → AreRising lines → ((k : ℕ) → Adds lines k → Adds all k) → starts_behind starts (starts_at m (most - counter) lines) ≡ read
    → Lacks (λ x. AreBehind start.number x.1) all read (record { line = start.number; refusal = refusals.Memory })
lacks_start m most counter starts all lines start read lt next rising within is =
    let n = start.number in
    let k = most - (counter + 1) in
    let p = start_line m lines start next in
    let behind : AreBehind n start.more = rw p.1 at rising in
    let adding : Adds lines n = subst (λ ls. Adds ls n) (sym p.1) (inl (refl, named_adds (words_of p.0) p.2)) in
    let on = starts_go_on m most counter starts lines start lt next in
    let late : PartIsLater n (starts_behind (starts ++ start.value ∷ []) (starts_at m k start.more)) =
    bind_all (λ x. AreBehind n x.1) (λ x. AreBehind n x.1) (λ e. n < e.line) (starts_at m k start.more) _ (starts_later n m k start.more behind) (λ x u. u) in
    (refl, within n adding, subst (λ r. PartIsLater n r) (on ∙ is) late)

-- at the line of the first processor
pub lacks_first : (m most : ℕ) (lines more : Lines) (start : ℕ × Bool) → heading_at refusals.Cpu (start_in m) lines ≡ Ok (start, more) → AreRising lines
    → Lacks (λ x. AreBehind (first_number lines) x.1) lines (processors_at m most lines) (record { line = first_number lines; refusal = refusals.Memory })
unfolding processors_at
lacks_first m most lines more start e rising =
    let p = heading_line refusals.Cpu (start_in m) lines start more e in
    let number : first_number lines ≡ p.0 = ap first_number p.2 in
    let behind : AreBehind p.0 more = rw p.2 at rising in
    let adding : Adds lines p.0 = subst (λ ls. Adds ls p.0) (sym p.2) (inl (refl, named_adds (words_of p.1) (start_named m (words_of p.1) start p.3))) in
    let late : PartIsLater p.0 (processors_at m most lines) =
    rw e (bind_all (λ x. AreBehind p.0 x.1) (λ x. AreBehind p.0 x.1) (λ e. p.0 < e.line) (starts_at m most more) _ (starts_later p.0 m most more behind) (λ x u. u)) in
    (refl, subst (Adds lines) (sym number) adding, subst (λ k. PartIsLater k (processors_at m most lines)) (sym number) late)

-- ---- the lines before the instructions

head_reads : (lines l1 l2 l3 : Lines) (version : Version) (cfg : Cfg) (size : ℕ) → heading_at refusals.FirstLine version_in lines ≡ Ok (version, l1)
    → heading_at refusals.Machine machine_in (told l1) ≡ Ok (cfg, l2) → heading_at refusals.Segment segment_in l2 ≡ Ok (size, l3)
    → head_at lines ≡ (processors_at cfg.m (most_processors version - 1) l3 >>= λ starts. Ok (record { version = version; cfg = cfg; segment = size; processors = starts.0 }, starts.1))
unfolding head_at
head_reads lines l1 l2 l3 version cfg size e1 e2 e3 = rw e1 (rw e2 (rw e3 refl))

-- memory that the processors want is wanted there
pub lacks_head : (lines l1 l2 l3 : Lines) (version : Version) (cfg : Cfg) (size : ℕ) (e : ScriptError) → heading_at refusals.FirstLine version_in lines ≡ Ok (version, l1)
    → heading_at refusals.Machine machine_in (told l1) ≡ Ok (cfg, l2) → heading_at refusals.Segment segment_in l2 ≡ Ok (size, l3)
    → (processors_at cfg.m (most_processors version - 1) l3 ≡ Err e) ⊎ Lacks (λ x. AreBehind e.line x.1) l3 (processors_at cfg.m (most_processors version - 1) l3) e
    → (head_at lines ≡ Err e) ⊎ Lacks (λ x. AreBehind e.line x.1) lines (head_at lines) e
lacks_head lines l1 l2 l3 version cfg size e e1 e2 e3 (inl is) = inl (head_reads lines l1 l2 l3 version cfg size e1 e2 e3 ∙ rw is refl)
lacks_head lines l1 l2 l3 version cfg size e e1 e2 e3 (inr lacks) =
    let adding = adds_heading refusals.FirstLine version_in lines version l1 e.line e1 (adds_told l1 e.line (adds_heading refusals.Machine machine_in (told l1) cfg l2 e.line e2 (adds_heading refusals.Segment segment_in l2 size l3 e.line e3 lacks.1))) in
    inr (
      lacks.0,
      adding,
      subst (λ r. PartIsLater e.line r) (sym (head_reads lines l1 l2 l3 version cfg size e1 e2 e3))
          (bind_all (λ x. AreBehind e.line x.1) (λ x. AreBehind e.line x.1) (λ first. e.line < first.line) (processors_at cfg.m (most_processors version - 1) l3) _ lacks.2 (λ x u. u)),
    )

ok_second : {A B E : Type 0} (a c : A) (b d : B) (r : Result (A × B) E) → r ≡ Ok (a, b) → r ≡ Ok (c, d) → b ≡ d
ok_second {A} {B} a c b d r e f =
    let x : A × B = (a, b) in
    let y : A × B = (c, d) in
    let same : x ≡ y = cc in
    ap (λ (p : A × B). p.1) same

-- what is added after the processors is added after the lines before
adds_starts : (m most : ℕ) (lines : Lines) (starts : Starts) (more : Lines) (n : ℕ) → starts_at m most lines ≡ Ok (starts, more) → Adds more n → Adds lines n
unfolding starts_at
adds_starts m zero lines starts more n e a = subst (λ ls. Adds ls n) (sym (ok_second [] starts lines more (Ok ([], lines)) refl e)) a
adds_starts m (suc most) lines starts more n e a =
    let p = bind_ok (next_start_at m lines) _ (starts, more) e in
    go p.0 p.1 p.2 (adds_starts m most)
  where
    go : (next : Option (Said (ℕ × Bool))) → next_start_at m lines ≡ Ok next → with_start lines (starts_at m most) next ≡ Ok (starts, more)
        → ((ls : Lines) (ss : Starts) (rest : Lines) (j : ℕ) → starts_at m most ls ≡ Ok (ss, rest) → Adds rest j → Adds ls j) → Adds lines n
    go None is h later = subst (λ ls. Adds ls n) (sym (ok_second [] starts lines more (Ok ([], lines)) refl h)) a
    go (Some start) is h later =
        let q = bind_ok (starts_at m most start.more) _ (starts, more) h in
        let same = ok_second (start.value ∷ q.0.0) starts q.0.1 more (Ok (start.value ∷ q.0.0, q.0.1)) refl q.2 in
        let p = start_line m lines start is in
        subst (λ ls. Adds ls n) (sym p.1) (inr (later start.more q.0.0 q.0.1 n q.1 (subst (λ ls. Adds ls n) (sym same) a)))

adds_processors : (m most : ℕ) (lines : Lines) (starts : Starts) (more : Lines) (n : ℕ) → processors_at m most lines ≡ Ok (starts, more) → Adds more n → Adds lines n
unfolding processors_at
adds_processors m most lines starts more n e a =
    let p = bind_ok (heading_at refusals.Cpu (start_in m) lines) _ (starts, more) e in
    let q = bind_ok (starts_at m most p.0.1) _ (starts, more) p.2 in
    let same = ok_second (p.0.0 ∷ q.0.0) starts q.0.1 more (Ok (p.0.0 ∷ q.0.0, q.0.1)) refl q.2 in
    adds_heading refusals.Cpu (start_in m) lines p.0.0 p.0.1 n p.1 (adds_starts m most p.0.1 q.0.0 q.0.1 n q.1 (subst (λ ls. Adds ls n) (sym same) a))

-- what is added after the header is added after the first line
adds_head : (lines : Lines) (head : Head) (more : Lines) (n : ℕ) → head_at lines ≡ Ok (head, more) → Adds more n → Adds lines n
unfolding head_at
adds_head lines head more n e a =
    let version = bind_ok (heading_at refusals.FirstLine version_in lines) _ (head, more) e in
    let cfg = bind_ok (heading_at refusals.Machine machine_in (told version.0.1)) _ (head, more) version.2 in
    let size = bind_ok (heading_at refusals.Segment segment_in cfg.0.1) _ (head, more) cfg.2 in
    let starts = bind_ok (processors_at cfg.0.0.m (most_processors version.0.0 - 1) size.0.1) _ (head, more) size.2 in
    let made : Head = record { version = version.0.0; cfg = cfg.0.0; segment = size.0.0; processors = starts.0.0 } in
    let same = ok_second made head starts.0.1 more (Ok (made, starts.0.1)) refl starts.2 in
    let behind = adds_processors cfg.0.0.m (most_processors version.0.0 - 1) size.0.1 starts.0.0 starts.0.1 n starts.1 (subst (λ ls. Adds ls n) (sym same) a) in
    adds_heading refusals.FirstLine version_in lines version.0.0 version.0.1 n version.1
    (adds_told version.0.1 n (adds_heading refusals.Machine machine_in (told version.0.1) cfg.0.0 cfg.0.1 n cfg.1 (adds_heading refusals.Segment segment_in cfg.0.1 size.0.0 size.0.1 n size.1 behind)))

-- ---- the whole text

if_later : {A : Type 0} (n : ℕ) (read : Result A ScriptError) → IsLater n read → IfErr read (λ first. n < first.line)
if_later n (Ok x) later = tt
if_later n (Err e) later = later

refused_by : (bytes : List ℕ) (e : ScriptError) → reading bytes ≡ Err e → IsRefused bytes e
refused_by bytes e is = rw (never_memory bytes e is) is

wanted_by : (bytes : List ℕ) (e : ScriptError) → e.refusal ≡ refusals.Memory → Adds (lines_of 1 bytes) e.line → IsLater e.line (reading bytes) → IsRefused bytes e
wanted_by bytes e memory adding later = rw memory (adding, if_later e.line (reading bytes) later)

-- the lines before the instructions are refused
pub refused_in_head : (bytes : List ℕ) (e : ScriptError) → (head_at (lines_of 1 bytes) ≡ Err e) ⊎ Lacks (λ x. AreBehind e.line x.1) (lines_of 1 bytes) (head_at (lines_of 1 bytes)) e → IsRefused bytes e
unfolding reading
refused_in_head bytes e (inl is) = refused_by bytes e (rw is refl)
refused_in_head bytes e (inr lacks) =
    wanted_by bytes e lacks.0 lacks.1
    (bind_all (λ x. AreBehind e.line x.1) (λ x. Unit {0}) (λ first. e.line < first.line) (head_at (lines_of 1 bytes)) _ lacks.2
    (λ head behind. bind_all (λ x. Unit {0}) (λ x. Unit {0}) (λ first. e.line < first.line) (tasks_at head.0 0 head.1) _ (tasks_later e.line head.0 0 head.1 behind) (λ tasks u. tt)))

-- the instructions are refused
pub refused_in_tasks : (bytes : List ℕ) (head : Head) (more : Lines) (e : ScriptError) → head_at (lines_of 1 bytes) ≡ Ok (head, more)
    → (tasks_at head 0 more ≡ Err e) ⊎ Lacks (λ x. Unit {0}) more (tasks_at head 0 more) e → IsRefused bytes e
unfolding reading
refused_in_tasks bytes head more e is (inl refused) = refused_by bytes e (rw (is, refused) refl)
refused_in_tasks bytes head more e is (inr lacks) =
    wanted_by bytes e lacks.0 (adds_head (lines_of 1 bytes) head more e.line is lacks.1)
    (rw is (bind_all (λ x. Unit {0}) (λ x. Unit {0}) (λ first. e.line < first.line) (tasks_at head 0 more) _ lacks.2 (λ tasks u. tt)))

-- ---- lines after a line

pub adds_behind_first : (m : ℕ) (lines : Lines) (start : ℕ × Bool) (more : Lines) (n : ℕ) → heading_at refusals.Cpu (start_in m) lines ≡ Ok (start, more) → Adds more n → Adds lines n
adds_behind_first m lines start more n e a = adds_heading refusals.Cpu (start_in m) lines start more n e a

pub adds_behind_start : (m : ℕ) (lines : Lines) (start : Said (ℕ × Bool)) (n : ℕ) → next_start_at m lines ≡ Ok (Some start) → Adds start.more n → Adds lines n
adds_behind_start m lines start n e a = let p = start_line m lines start e in subst (λ ls. Adds ls n) (sym p.1) (inr a)

pub adds_behind_task : (head : Head) (count : ℕ) (lines : Lines) (task : Said Task) (n : ℕ) → next_task_at head count lines ≡ Ok (Some task) → Adds task.more n → Adds lines n
adds_behind_task head count lines task n e a = let p = task_line head count lines task e in subst (λ ls. Adds ls n) (sym p.1) (inr a)
