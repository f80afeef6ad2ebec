-- What the words of each canonical line say.
use Rattle.std.proofs.Common.{◌≡◌, ◌∙◌, ◌≢◌, ◌<◌, ◌≤◌, ◌%◌, ◌^◌, ◌/◌, ◌||◌, ℕ, zero, suc, Bool, true, false, not, [], ◌∷◌, Option, Some, None, length, refl, ap, sym, arith, eqb, lit<}
use Rattle.std.specs.Prelude.{Result, Ok, Err, if◌then◌else◌, nat_lt, ◌&&◌, codes}
use Rattle.std.proofs.Math.Nat.{pow-le-pow_right}
use Rattle.std.proofs.lemmas.Bool.{le-leb, lt-ltb, eqb-true, eqb-false}
use Rattle.pg_entry.specs.declared.Op.{Op}
use Rattle.pg_entry.specs.declared.Op.TheVariants as ops
use Rattle.pg_entry.specs.declared.AccessKind.{AccessKind}
use Rattle.pg_entry.specs.declared.Rules.{Rules}
use Rattle.pg_entry.specs.declared.Cfg.{Cfg}
use Rattle.pg_event.specs.declared.version.Version.{Version}
use Rattle.pg_event.specs.declared.version.Version.TheVariants as versions
use Rattle.pg_event.specs.declared.event.Malformed.{Malformed}
use Rattle.pg_event.specs.declared.event.Event.{Event}
use Rattle.pg_event.specs.Heads.{Head, most_processors}
use Rattle.pg_event.specs.Form.{processor_of, access_kind, flags_of, broken_rule, breaks_word_address, breaks_linear_address, breaks_operand, breaks_invpcid, breaks_flags}
use Rattle.pg_event.proofs.Flags.{flags_are_told}
use Rattle.pg_guest.specs.declared.script_refusal.ScriptRefusal.{ScriptRefusal}
use Rattle.pg_guest.specs.declared.script_refusal.ScriptRefusal.TheVariants as refusals
use Rattle.pg_guest.specs.declared.instruction.Instruction.{Instruction}
use Rattle.pg_guest.specs.declared.instruction.Instruction.TheVariants.{Write, Access, MovCr3, Invlpg, Invpcid, MovCr4Pge}
use Rattle.pg_guest.specs.declared.instruction.Task.{Task}
use Rattle.pg_guest.specs.Words.{Words, dec_at, hex_at, bit_at, keyword_at, number_or_refusal}
use Rattle.pg_guest.specs.Heading.{IsCfg, version_in, settings_at, cfg_of, machine_in, segment_in, start_in}
use Rattle.pg_guest.specs.Instructions.{processor_at, processor_or_refusal, kind_at, write_in, access_in, mov_cr3_in, invlpg_in, invpcid_in, mov_cr4_pge_in, instruction_in, well_formed_or_refusal, fitting_task, task_in}
use Rattle.pg_guest.specs.Tasks.{event_of, IsWellFormed}
use Rattle.pg_guest.specs.Spelling.{dec_word, hex_word, bit_word, version_word, settings_words, start_words, op_word, mode_word, instruction_words, task_words, FitsInstruction}
use Rattle.std.specs.Cmp.Derive.{both_true}
use Rattle.pg_guest.proofs.Digits.{dec_said, hex_said}
use Rattle.pg_guest.proofs.Wells.{processor_is, shape_is, within}

-- ---- numbers as words

pub dec_read : (n : ℕ) (words : Words) → n < 10 ^ 10 → dec_at (dec_word n ∷ words) ≡ Ok (n, words)
unfolding dec_at
dec_read n words lt = ap (λ o. number_or_refusal o words) (dec_said n lt)

pub hex_read : (n : ℕ) (words : Words) → n < 2 ^ 64 → hex_at (hex_word n ∷ words) ≡ Ok (n, words)
unfolding hex_at
hex_read n words lt = ap (λ o. number_or_refusal o words) (hex_said n lt)

processor_read : (p : ℕ) (words : Words) → p < 10 ^ 10 → processor_at (dec_word p ∷ words) ≡ Ok (p, words)
unfolding processor_at
processor_read p words lt = ap (λ o. processor_or_refusal o words) (dec_said p lt)

bit_read : (b : Bool) (words : Words) → bit_at (bit_word b ∷ words) ≡ Ok (b, words)
unfolding bit_at
bit_read true words = refl
bit_read false words = refl

-- ---- lines before the instructions

pub version_read : (version : Version) → version_in (codes "pcid-guest" ∷ version_word version ∷ []) ≡ Ok version
unfolding version_in keyword_at
version_read versions.One = refl
version_read versions.Two = refl

settings_read : (flags : ℕ) → flags < 16 → settings_at (settings_words flags) ≡ (flags, [])
unfolding settings_at
settings_read zero lt = refl
settings_read (suc zero) lt = refl
settings_read (suc (suc zero)) lt = refl
settings_read (suc (suc (suc zero))) lt = refl
settings_read (suc (suc (suc (suc zero)))) lt = refl
settings_read (suc (suc (suc (suc (suc zero))))) lt = refl
settings_read (suc (suc (suc (suc (suc (suc zero)))))) lt = refl
settings_read (suc (suc (suc (suc (suc (suc (suc zero))))))) lt = refl
settings_read (suc (suc (suc (suc (suc (suc (suc (suc zero)))))))) lt = refl
settings_read (suc (suc (suc (suc (suc (suc (suc (suc (suc zero))))))))) lt = refl
settings_read (suc (suc (suc (suc (suc (suc (suc (suc (suc (suc zero)))))))))) lt = refl
settings_read (suc (suc (suc (suc (suc (suc (suc (suc (suc (suc (suc zero))))))))))) lt = refl
settings_read (suc (suc (suc (suc (suc (suc (suc (suc (suc (suc (suc (suc zero)))))))))))) lt = refl
settings_read (suc (suc (suc (suc (suc (suc (suc (suc (suc (suc (suc (suc (suc zero))))))))))))) lt = refl
settings_read (suc (suc (suc (suc (suc (suc (suc (suc (suc (suc (suc (suc (suc (suc zero)))))))))))))) lt = refl
settings_read (suc (suc (suc (suc (suc (suc (suc (suc (suc (suc (suc (suc (suc (suc (suc zero))))))))))))))) lt = refl
settings_read (suc (suc (suc (suc (suc (suc (suc (suc (suc (suc (suc (suc (suc (suc (suc (suc n)))))))))))))))) lt = absurd (omega arith)

pub machine_read : (cfg : Cfg) → IsCfg cfg → machine_in (codes "machine" ∷ dec_word cfg.m ∷ settings_words cfg.flags.0) ≡ Ok cfg
unfolding machine_in keyword_at
machine_read cfg is =
    let high = is.high in
    rw (dec_read cfg.m (settings_words cfg.flags.0) (omega (arith, high)))
    (rw (both_true (le-leb 36 cfg.m is.low) (le-leb cfg.m 52 is.high))
    (ap (cfg_of cfg.m) (settings_read cfg.flags.0 is.flags) ∙ ap (λ (rules : Rules). Ok (record cfg { rules = rules })) (sym is.rules)))

pub segment_read : (size : ℕ) → 1 ≤ size → size ≤ 65536 → segment_in (codes "segment" ∷ dec_word size ∷ []) ≡ Ok size
unfolding segment_in keyword_at
segment_read size some few =
    rw (dec_read size [] (omega (arith, few)))
    (rw (both_true (le-leb 1 size some) (le-leb size 65536 few)) refl)

pub start_read : (m : ℕ) (start : ℕ × Bool) → m ≤ 52 → start.0 < 2 ^ m → start_in m (start_words start) ≡ Ok start
unfolding start_in keyword_at
start_read m start le lt =
    let most : 2 ^ m ≤ 2 ^ 52 = pow-le-pow_right {n = 2} (lit< tt) {i = m} {j = 52} le in
    rw (hex_read start.0 (bit_word start.1 ∷ []) (omega (arith, most, lt)))
    (rw (bit_read start.1 [])
    (rw (lt-ltb start.0 (2 ^ m) lt) refl))

-- ---- instructions

write_read : (addr value : ℕ) → addr < 2 ^ 64 → value < 2 ^ 64 → write_in (hex_word addr ∷ hex_word value ∷ []) ≡ Ok (Write addr value)
unfolding write_in
write_read addr value a v = rw (hex_read addr (hex_word value ∷ []) a) (rw (hex_read value [] v) refl)

kind_read : (op : Op) (user ac : Bool) → (user && ac) ≡ false → let kind : AccessKind = record { op = op; user = user; ac = ac } in kind_at op (mode_word kind ∷ []) ≡ Ok (kind, [])
unfolding kind_at
kind_read op true true e = cc
kind_read op true false e = refl
kind_read op false true e = refl
kind_read op false false e = refl

access_read : (kind : AccessKind) (la : ℕ) → la < 2 ^ 64 → (kind.user && kind.ac) ≡ false → access_in kind.op (hex_word la ∷ mode_word kind ∷ []) ≡ Ok (Access (flags_of kind) la)
unfolding access_in
access_read kind la lt e = rw (hex_read la (mode_word kind ∷ []) lt) (rw (kind_read kind.op kind.user kind.ac e) refl)

named_access : (kind : AccessKind) (la : ℕ) (i : Instruction) → access_in kind.op (hex_word la ∷ mode_word kind ∷ []) ≡ Ok i → instruction_in (op_word kind.op) (hex_word la ∷ mode_word kind ∷ []) ≡ Ok i
unfolding instruction_in
named_access kind la i e = go kind.op e
  where
    go : (op : Op) → access_in op (hex_word la ∷ mode_word kind ∷ []) ≡ Ok i → instruction_in (op_word op) (hex_word la ∷ mode_word kind ∷ []) ≡ Ok i
    go ops.Read h = h
    go ops.Write h = h
    go ops.Fetch h = h

-- an instruction from its words, the first of which is its name
named : Words → Result Instruction ScriptRefusal
named [] = Err refusals.Instruction
named (name ∷ words) = instruction_in name words

-- flags of an access that says its operation and its mode
IsFlags : Instruction → Type 0
IsFlags (Write addr value) = Unit {0}
IsFlags (Access flags la) = flags_of (access_kind flags) ≡ flags
IsFlags (MovCr3 operand) = Unit {0}
IsFlags (Invlpg la) = Unit {0}
IsFlags (Invpcid kind pcid la) = Unit {0}
IsFlags (MovCr4Pge on) = Unit {0}

instruction_read : (i : Instruction) → FitsInstruction i → IsFlags i → named (instruction_words i) ≡ Ok i
unfolding named IsFlags instruction_in mov_cr3_in invlpg_in invpcid_in mov_cr4_pge_in
instruction_read (Write addr value) fits flags = write_read addr value fits.0 fits.1
instruction_read (Access flags la) fits is =
    named_access (access_kind flags) la (Access flags la) (access_read (access_kind flags) la fits.0 fits.1 ∙ ap (λ f. Ok (Access f la)) is)
instruction_read (MovCr3 operand) fits flags = rw (hex_read operand [] fits) refl
instruction_read (Invlpg la) fits flags = rw (hex_read la [] fits) refl
instruction_read (Invpcid kind pcid la) fits flags =
    let small = fits.0 in
    rw (dec_read kind (hex_word pcid ∷ hex_word la ∷ []) (omega (arith, small)))
    (rw (hex_read pcid (hex_word la ∷ []) (omega (arith, fits.1)))
    (rw (hex_read la [] fits.2)
    (rw (both_true (lt-ltb kind 256 fits.0) (lt-ltb pcid 65536 fits.1)) refl)))
instruction_read (MovCr4Pge on) fits flags = rw (bit_read on []) refl

-- ---- well formed instructions

-- the last of two rules
second : (b : Bool) (rule : Malformed) (others : Option Malformed) → (if b then Some rule else others) ≡ None → (b ≡ false) × (others ≡ None)
second true rule others e = cc
second false rule others e = (refl, e)

or_none : (a b : Bool) → (a || b) ≡ false → (a ≡ false) × (b ≡ false)
or_none true b e = cc
or_none false b e = (refl, e)

kept_flags : (head : Head) (e : Event) → broken_rule head e ≡ None → breaks_flags head e ≡ false
kept_flags head e none =
    let a = second (not (nat_lt (processor_of e) (length head.processors))) _ _ none in
    let b = second (breaks_word_address head e) _ _ a.1 in
    let c = second (breaks_linear_address e) _ _ b.1 in
    let d = second (breaks_operand head e) _ _ c.1 in
    let f = second (breaks_invpcid e) _ _ d.1 in
    (second (breaks_flags head e) _ _ f.1).0

of_not : (b : Bool) → not b ≡ false → b ≡ true
of_not true e = refl
of_not false e = cc

flags_kept : (head : Head) (p : ℕ) (i : Instruction) → IsWellFormed head p i → IsFlags i
unfolding IsFlags
flags_kept head p (Write addr value) well = tt
flags_kept head p (Access flags la) well =
    let i : Instruction = Access flags la in
    let e : Event = event_of p i in
    let kept = or_none (eqb (flags % 4) 3) (not (eqb (flags / 16) 0)) (kept_flags head e (well e (processor_is p i) (shape_is p i))) in
    let high : flags / 16 ≡ 0 = eqb-true (flags / 16) 0 (of_not (eqb (flags / 16) 0) kept.1) in
    let op : flags % 4 ≢ 3 = eqb-false (flags % 4) 3 kept.0 in
    flags_are_told.flags flags (omega arith) op
flags_kept head p (MovCr3 operand) well = tt
flags_kept head p (Invlpg la) well = tt
flags_kept head p (Invpcid kind pcid la) well = tt
flags_kept head p (MovCr4Pge on) well = tt

fitting : (head : Head) (p : ℕ) (i : Instruction) → p < 2 ^ 16 → IsWellFormed head p i → fitting_task head p i ≡ Ok (record { p = p; instruction = i })
fitting head p i lt well =
    let e : Event = event_of p i in
    let task : Task = record { p = p; instruction = i } in
    ap (λ b. if b then well_formed_or_refusal (broken_rule head e) task else Err refusals.Malformed) (lt-ltb p (2 ^ 16) lt)
    ∙ ap (λ rule. well_formed_or_refusal rule task) (well e (processor_is p i) (shape_is p i))

task_by_words : (head : Head) (p : ℕ) (words : Words) (i : Instruction) → p < 10 ^ 10 → named words ≡ Ok i → task_in head (dec_word p ∷ words) ≡ fitting_task head p i
unfolding task_in named
task_by_words head p [] i lt e = cc
task_by_words head p (name ∷ words) i lt e = rw (processor_read p (name ∷ words) lt) (rw e refl)

pub most_of : (version : Version) → most_processors version ≤ 1024
most_of versions.One = omega arith
most_of versions.Two = omega arith

pub task_read : (head : Head) (task : Task) → length head.processors ≤ most_processors head.version → FitsInstruction task.instruction → IsWellFormed head task.p task.instruction → task_in head (task_words task) ≡ Ok task
task_read head task few fits well =
    let p = task.p in
    let i = task.instruction in
    let known = within head p i well in
    let most = most_of head.version in
    let lt : p < 2 ^ 16 = omega (arith, known, few, most) in
    task_by_words head p (instruction_words i) i (omega (arith, lt)) (instruction_read i fits (flags_kept head p i well))
    ∙ fitting head p i lt well
