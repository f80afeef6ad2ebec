-- There are two assists at most for each table write.
use Rattle.std.proofs.Common.{◌≡◌, ℕ, zero, suc, ◌+◌, ◌*◌, ◌≤◌, ◌==◌, nat_lt, Bool, true, false, cond, not, ◌&&◌, ◌||◌, List, [], ◌∷◌, ◌++◌, length, fold, count_by, refl, ap, sym, ◌∙◌, subst, arith, inl, inr, Option, Some, None, eq-eqb}
use Rattle.std.specs.Prelude.{slice_get, slice_set}
use Rattle.std.proofs.lemmas.Bool.{cases_eq, cases_lt, ne_eqb, lt-ltb, le-ltb, cond_both}
use Rattle.std.proofs.lemmas.List.{take_all}
use Rattle.std.proofs.lemmas.List.Recursion.{is_count_by}
use Rattle.std.proofs.lemmas.List.Sums.{fold_push}
use Rattle.pg_entry.specs.declared.Kind.{Kind}
use Rattle.pg_entry.specs.declared.Kind.TheVariants as kinds
use Rattle.pg_entry.specs.Bits.{has_bit}
use Rattle.pg_entry.specs.Kinds.{accessed, dirty, marked, kind_of}
use Rattle.pg_entry.specs.Permission.{is_write, joined}
use Rattle.pg_event.specs.declared.event.Event.{Event}
use Rattle.pg_event.specs.declared.event.Event.TheVariants.{Write, Access, Assist, MovCr3, Invlpg, Invpcid, MovCr4Pge}
use Rattle.pg_event.specs.Form.{access_kind, flags_of, says_dirty}
use Rattle.pg_event.specs.Heads.{Head, judges_accessed}
use Rattle.pg_event.specs.Spelling.{bit}
use Rattle.pg_event.specs.Values.{written}
use Rattle.pg_event.specs.Wants.{may_dirty}
use Rattle.pg_guest.specs.declared.instruction.Instruction.{Instruction}
use Rattle.pg_guest.specs.declared.instruction.Instruction.TheVariants as instructions
use Rattle.pg_shadow.specs.declared.entries.Found.{Found}
use Rattle.pg_shadow.specs.declared.entries.Found.TheVariants.{Hit, Partial, Miss}
use Rattle.pg_world.specs.declared.walk.LevelRead.{LevelRead}
use Rattle.pg_world.specs.declared.walk.LevelRead.TheVariants.{Entry, Fault, Assisted}
use Rattle.pg_world.specs.declared.walk.Walk.{Walk}
use Rattle.pg_world.specs.Recording.{Recording, receipt_of}
use Rattle.pg_world.specs.Walks.{address_of, word_now, moments_of, lacks_dirty, lacks_flags, assist_of, used_entry, found_entry, found_in}
use Rattle.pg_world.proofs.Assisted.{accessed_comes, bit_comes, bit_stays, marked_bit}
use Rattle.pg_guest.specs.declared.advance.Advance.{Advance}
use Rattle.pg_guest.specs.Assists.{is_assist, is_table_write, AssistsAreFew}
use Rattle.pg_guest.specs.CoreRun.{IsCoreRun, unwritten}
use Rattle.pg_guest.specs.Turn.{Processor, Turned, from_root, from_table, keeps, after_read, goes_on, begun, turned_by, IsTurn}
use Rattle.pg_guest.proofs.AssistFlags.{assist_dirty}

-- ---- the flags that an entry may still get

abbrev lack : Bool → ℕ
lack true = 0
lack false = 1

-- of A and D, where the entry is present; none where it is not
abbrev room_by : Bool → Bool → Bool → ℕ
room_by false a d = 0
room_by true a d = lack a + lack d

room : ℕ → ℕ
room v = room_by (has_bit v 0) (accessed v) (dirty v)

few_flags : (present a d : Bool) → room_by present a d ≤ 2
few_flags false a d = omega arith
few_flags true false false = omega arith
few_flags true false true = omega arith
few_flags true true false = omega arith
few_flags true true true = omega arith

room_most : (v : ℕ) → room v ≤ 2
unfolding room
room_most v = few_flags (has_bit v 0) (accessed v) (dirty v)

-- a word that was never written is not present
room_zero : room 0 ≡ 0
unfolding room
room_zero = refl

room_present : (v : ℕ) → has_bit v 0 ≡ true → room v ≡ room_by true (accessed v) (dirty v)
unfolding room
room_present v present = ap (λ b. room_by b (accessed v) (dirty v)) present

dirty_marked : (with_dirty : Bool) (v : ℕ) → dirty (marked with_dirty v) ≡ cond with_dirty true (dirty v)
dirty_marked true v = bit_comes v 96 6 refl
dirty_marked false v = bit_stays v 32 6 refl

room_marked : (with_dirty : Bool) (v : ℕ) → has_bit v 0 ≡ true → room (marked with_dirty v) ≡ room_by true true (cond with_dirty true (dirty v))
unfolding room
room_marked with_dirty v present =
    ap (λ b. room_by b (accessed (marked with_dirty v)) (dirty (marked with_dirty v))) (marked_bit with_dirty v 0 refl refl ∙ present)
    ∙ ap (λ b. room_by true b (dirty (marked with_dirty v))) (accessed_comes with_dirty v)
    ∙ ap (room_by true true) (dirty_marked with_dirty v)

one_less : (x d : Bool) → room_by true true (cond x true d) + 1 ≤ room_by true false d
one_less true true = omega arith
one_less true false = omega arith
one_less false true = omega arith
one_less false false = omega arith

-- an entry that lacks one of them, and gets what it lacks
falls : (judged a w d m : Bool) → (judged && (not a || (w && not d && m))) ≡ true → room_by true true (cond (w && not d && m) true d) + 1 ≤ room_by true a d
falls false a w d m h = absurd (cc)
falls true false w d m h = one_less (w && not d && m) d
falls true true false d m h = absurd (cc)
falls true true true true m h = absurd (cc)
falls true true true false m h = subst (λ b. room_by true true (cond b true false) + 1 ≤ 1) (sym h) (omega arith)

room_falls : (judged w m : Bool) (v : ℕ) → has_bit v 0 ≡ true → (judged && (not (accessed v) || (w && not (dirty v) && m))) ≡ true → room (marked (w && not (dirty v) && m) v) + 1 ≤ room v
room_falls judged w m v present lacking =
    let with_dirty : Bool = w && not (dirty v) && m in
    subst (λ n. n + 1 ≤ room v) (sym (room_marked with_dirty v present))
    (subst (λ n. room_by true true (cond with_dirty true (dirty v)) + 1 ≤ n) (sym (room_present v present)) (falls judged (accessed v) w (dirty v) m lacking))

-- ---- the words that events change

abbrev assisted_word : Event → Option ℕ
assisted_word (Write p addr value) = None
assisted_word (Access p flags la outcome moments) = None
assisted_word (Assist p flags la word moments) = Some word
assisted_word (MovCr3 p operand) = None
assisted_word (Invlpg p la) = None
assisted_word (Invpcid p kind pcid la) = None
assisted_word (MovCr4Pge p on) = None

abbrev written_word : Event → Option ℕ
written_word (Write p addr value) = Some addr
written_word (Access p flags la outcome moments) = None
written_word (Assist p flags la word moments) = None
written_word (MovCr3 p operand) = None
written_word (Invlpg p la) = None
written_word (Invpcid p kind pcid la) = None
written_word (MovCr4Pge p on) = None

abbrev one : Bool → ℕ
one true = 1
one false = 0

-- one for this word, for a word below this one, for any word
abbrev for_word : ℕ → Option ℕ → ℕ
for_word a None = 0
for_word a (Some w) = one (w == a)

abbrev for_below : ℕ → Option ℕ → ℕ
for_below n None = 0
for_below n (Some w) = one (nat_lt w n)

abbrev for_any : Option ℕ → ℕ
for_any None = 0
for_any (Some w) = 1

abbrev tally : (Option ℕ → ℕ) → (Event → Option ℕ) → List Event → ℕ
tally f key [] = 0
tally f key (e ∷ es) = f (key e) + tally f key es

tally_push : (f : Option ℕ → ℕ) (key : Event → Option ℕ) (es : List Event) (e : Event) → tally f key (es ++ e ∷ []) ≡ tally f key es + f (key e)
tally_push f key [] e = omega arith
tally_push f key (x ∷ es) e = let more = tally_push f key es e in omega (arith, more)

tally_assists : (es : List Event) → tally for_any assisted_word es ≡ count_by is_assist es
tally_assists es = is_count_by (tally for_any assisted_word) is_assist refl step es
  where
    step : (e : Event) (es : List Event) → tally for_any assisted_word (e ∷ es) ≡ cond (is_assist e) (1 + tally for_any assisted_word es) (tally for_any assisted_word es)
    step (Write p addr value) es = omega arith
    step (Access p flags la outcome moments) es = omega arith
    step (Assist p flags la word moments) es = omega arith
    step (MovCr3 p operand) es = omega arith
    step (Invlpg p la) es = omega arith
    step (Invpcid p kind pcid la) es = omega arith
    step (MovCr4Pge p on) es = omega arith

tally_writes : (es : List Event) → tally for_any written_word es ≡ count_by is_table_write es
tally_writes es = is_count_by (tally for_any written_word) is_table_write refl step es
  where
    step : (e : Event) (es : List Event) → tally for_any written_word (e ∷ es) ≡ cond (is_table_write e) (1 + tally for_any written_word es) (tally for_any written_word es)
    step (Write p addr value) es = omega arith
    step (Access p flags la outcome moments) es = omega arith
    step (Assist p flags la word moments) es = omega arith
    step (MovCr3 p operand) es = omega arith
    step (Invlpg p la) es = omega arith
    step (Invpcid p kind pcid la) es = omega arith
    step (MovCr4Pge p on) es = omega arith

-- ---- word by word

abbrev held : ℕ → List Event → ℕ
held a es = fold (written a) 0 es

-- of each word there are two assists at most for each write, with those that may still come
abbrev AreFew : List Event → Type 0
AreFew es = (a : ℕ) → tally (for_word a) assisted_word es + room (held a es) ≤ 2 * tally (for_word a) written_word es

-- an assist sets what was not set
abbrev Sets : List Event → Event → Type 0
Sets es (Write p addr value) = Unit {0}
Sets es (Access p flags la outcome moments) = Unit {0}
Sets es (Assist p flags la word moments) = room (marked (says_dirty flags) (held word es)) + 1 ≤ room (held word es)
Sets es (MovCr3 p operand) = Unit {0}
Sets es (Invlpg p la) = Unit {0}
Sets es (Invpcid p kind pcid la) = Unit {0}
Sets es (MovCr4Pge p on) = Unit {0}

-- an event keeps them few at a word, where so many assists and writes of it are before
abbrev KeepsFew : ℕ → List Event → Event → Type 0
KeepsFew a es e =
    tally (for_word a) assisted_word es + for_word a (assisted_word e) + room (written a (held a es) e) ≤ 2 * (tally (for_word a) written_word es + for_word a (written_word e))

write_keeps : (b : Bool) (assists writes new v : ℕ) → assists + room v ≤ 2 * writes → assists + 0 + room (cond b new v) ≤ 2 * (writes + one b)
write_keeps true assists writes new v few = omega (arith, few, room_most new)
write_keeps false assists writes new v few = omega (arith, few)

assist_here : (b with_dirty : Bool) (assists writes v : ℕ) → b ≡ true → assists + room v ≤ 2 * writes → room (marked with_dirty v) + 1 ≤ room v → assists + one b + room (cond b (marked with_dirty v) v) ≤ 2 * (writes + 0)
assist_here true with_dirty assists writes v same few sets = omega (arith, few, sets)
assist_here false with_dirty assists writes v same few sets = absurd (cc)

assist_elsewhere : (b with_dirty : Bool) (assists writes v : ℕ) → b ≡ false → assists + room v ≤ 2 * writes → assists + one b + room (cond b (marked with_dirty v) v) ≤ 2 * (writes + 0)
assist_elsewhere true with_dirty assists writes v away few = absurd (cc)
assist_elsewhere false with_dirty assists writes v away few = omega (arith, few)

keeps_few : (a : ℕ) (es : List Event) (e : Event) → AreFew es → Sets es e → KeepsFew a es e
keeps_few a es (Write p addr value) few sets = write_keeps (addr == a) (tally (for_word a) assisted_word es) (tally (for_word a) written_word es) value (held a es) (few a)
keeps_few a es (Access p flags la outcome moments) few sets = omega (arith, few a)
keeps_few a es (Assist p flags la word moments) few sets =
    elim (cases_eq word a) [
      | inl same ↦
          assist_here (word == a) (says_dirty flags) (tally (for_word a) assisted_word es) (tally (for_word a) written_word es) (held a es) (eq-eqb word a same) (few a)
          (subst (λ w. room (marked (says_dirty flags) (held w es)) + 1 ≤ room (held w es)) same sets)
      | inr away ↦ assist_elsewhere (word == a) (says_dirty flags) (tally (for_word a) assisted_word es) (tally (for_word a) written_word es) (held a es) (ne_eqb word a away) (few a)
    ]
keeps_few a es (MovCr3 p operand) few sets = omega (arith, few a)
keeps_few a es (Invlpg p la) few sets = omega (arith, few a)
keeps_few a es (Invpcid p kind pcid la) few sets = omega (arith, few a)
keeps_few a es (MovCr4Pge p on) few sets = omega (arith, few a)

few_pushed : (es : List Event) (e : Event) → AreFew es → Sets es e → AreFew (es ++ e ∷ [])
few_pushed es e few sets a =
    let assists = tally_push (for_word a) assisted_word es e in
    let writes = tally_push (for_word a) written_word es e in
    let now : room (held a (es ++ e ∷ [])) ≡ room (written a (held a es) e) = ap room (fold_push (written a) 0 es e) in
    let kept : KeepsFew a es e = keeps_few a es e few sets in
    omega (arith, assists, writes, now, kept)

-- ---- a turn

abbrev ReadSets : List Event → LevelRead → Type 0
ReadSets es (Entry value moment) = Unit {0}
ReadSets es (Fault receipt) = Sets es receipt.event
ReadSets es (Assisted receipt) = Sets es receipt.event

held_now : (es : List Event) (a : ℕ) → word_now es a ≡ held a es
held_now es a = ap (fold (written a) 0) (take_all (length es) es (omega arith))

assist_sets : (head : Head) (es : List Event) (p : ℕ) (walk : Walk) (value : ℕ) (kind : Kind) → value ≡ held (address_of walk) es → has_bit value 0 ≡ true → lacks_flags head walk value kind ≡ true →
    Sets es (assist_of es p walk (lacks_dirty head.cfg walk value kind))
assist_sets head es p walk value kind is present lacking =
    let with_dirty : Bool = lacks_dirty head.cfg walk value kind in
    let fell : room (marked with_dirty value) + 1 ≤ room value =
    room_falls (judges_accessed head.version) (is_write walk.kind.op) (may_dirty head.cfg walk.kind (joined walk.rights value) kind) value present lacking in
    subst (λ v. room (marked (says_dirty (flags_of walk.kind + 16 * bit with_dirty)) v) + 1 ≤ room v) is
    (subst (λ b. room (marked b value) + 1 ≤ room value) (sym (assist_dirty walk.kind with_dirty)) fell)

used_sets : (head : Head) (es : List Event) (p : ℕ) (walk : Walk) (value : ℕ) (kind : Kind) → value ≡ held (address_of walk) es → has_bit value 0 ≡ true → ReadSets es (used_entry head es p walk value kind)
used_sets head es p walk value kind is present =
    cond_both (lacks_flags head walk value kind) (Assisted (receipt_of es (assist_of es p walk (lacks_dirty head.cfg walk value kind)))) (Entry value (length es)) (ReadSets es)
    (λ lacking. assist_sets head es p walk value kind is present lacking)
    (λ none. tt)

present_table : (b : Bool) (other : Kind) (addr : ℕ) → cond (not b) kinds.Absent other ≡ kinds.Table addr → b ≡ true
present_table true other addr h = refl
present_table false other addr h = absurd (cc)

present_leaf : (b : Bool) (other : Kind) (frame shift : ℕ) (g : Bool) → cond (not b) kinds.Absent other ≡ kinds.Leaf frame shift g → b ≡ true
present_leaf true other frame shift g h = refl
present_leaf false other frame shift g h = absurd (cc)

entry_sets : (head : Head) (es : List Event) (p : ℕ) (walk : Walk) (value : ℕ) → value ≡ held (address_of walk) es → (k : Kind) → kind_of head.cfg walk.level value ≡ k → ReadSets es (found_entry head es p walk value k)
entry_sets head es p walk value is kinds.Absent same = tt
entry_sets head es p walk value is kinds.Reserved same = tt
entry_sets head es p walk value is (kinds.Table addr) same = used_sets head es p walk value (kinds.Table addr) is (present_table (has_bit value 0) _ addr same)
entry_sets head es p walk value is (kinds.Leaf frame shift g) same = used_sets head es p walk value (kinds.Leaf frame shift g) is (present_leaf (has_bit value 0) _ frame shift g same)

found_sets : (p : ℕ) (r : Recording) (walk : Walk) → ReadSets r.events (found_in r p walk)
found_sets p r walk =
    let value : ℕ = word_now r.events (address_of walk) in
    entry_sets r.head r.events p walk value (held_now r.events (address_of walk)) (kind_of r.head.cfg walk.level value) refl

kept_few : (r : Recording) (x : Processor) (walk : Walk) (value : ℕ) (moments : List ℕ) (k : Kind) → AreFew r.events → AreFew (keeps r x walk value moments k).world.events
kept_few r x walk value moments kinds.Absent few = few
kept_few r x walk value moments kinds.Reserved few = few
kept_few r x walk value moments (kinds.Table addr) few = few
kept_few r x walk value moments (kinds.Leaf frame shift g) few = few

read_few : (r : Recording) (x : Processor) (way : Found) (walk : Walk) (read : LevelRead) → AreFew r.events → ReadSets r.events read → AreFew (after_read r x way walk read).world.events
read_few r x way walk (Entry value moment) few sets = kept_few r x walk value (moments_of walk.moments ++ moment ∷ []) (kind_of r.head.cfg walk.level value) few
read_few r x way walk (Fault receipt) few sets = few_pushed r.events receipt.event few sets
read_few r x way walk (Assisted receipt) few sets = few_pushed r.events receipt.event few sets

walk_few : (p : ℕ) (r : Recording) (x : Processor) (flags la : ℕ) (way : Found) → AreFew r.events → AreFew (goes_on p r x flags la way).world.events
walk_few p r x flags la (Hit frame shift rights global moments) few = few_pushed r.events (Access p flags la _ moments) few tt
walk_few p r x flags la (Partial level table rights moments) few =
    let walk : Walk = from_table (access_kind flags) la level table rights moments in
    read_few r x (Partial level table rights moments) walk (found_in r p walk) few (found_sets p r walk)
walk_few p r x flags la Miss few =
    let walk : Walk = from_root x.caches.control (access_kind flags) la in
    read_few r x Miss walk (found_in r p walk) few (found_sets p r walk)

step_few : (p : ℕ) (r : Recording) (x : Processor) (i : Option Instruction) → AreFew r.events → AreFew (turned_by p r x i).world.events
step_few p r x None few = few
step_few p r x (Some (instructions.Write addr value)) few = few_pushed r.events (Write p addr value) few tt
step_few p r x (Some (instructions.Access flags la)) few = walk_few p r x flags la (begun r.head x.caches la (access_kind flags) x.way) few
step_few p r x (Some (instructions.MovCr3 operand)) few = few_pushed r.events (MovCr3 p operand) few tt
step_few p r x (Some (instructions.Invlpg la)) few = few_pushed r.events (Invlpg p la) few tt
step_few p r x (Some (instructions.Invpcid kind pcid la)) few = few_pushed r.events (Invpcid p kind pcid la) few tt
step_few p r x (Some (instructions.MovCr4Pge on)) few = few_pushed r.events (MovCr4Pge p on) few tt

turn_few : (p : ℕ) (r : Recording) (x : Processor) (t : Turned) → AreFew r.events → IsTurn p r x t → AreFew t.world.events
turn_few p r x t few (inl halt) = subst (λ (u : Turned). AreFew u.world.events) (sym halt.is) few
turn_few p r x t few (inr went) = subst (λ (u : Turned). AreFew u.world.events) (sym went.is) (step_few p r x (slice_get x.instructions x.place) few)

run_few : (r : Recording) (xs : List Processor) (ps : List ℕ) (answers : List Advance) (end : Recording) (ys : List Processor) → AreFew r.events → IsCoreRun r xs ps answers end ys → AreFew end.events
run_few r xs [] answers end ys few run = subst (λ (e : Recording). AreFew e.events) (sym run.1) few
run_few r xs (p ∷ ps) answers end ys few run =
    run_few run.1.world (slice_set xs p run.1.processor) ps run.2 end ys (turn_few p r run.0 run.1 few run.4) run.6

none_yet : AreFew []
none_yet a = omega (arith, room_zero)

-- ---- all words together

parts : (b c d b' c' d' : Bool) → b ≡ b' → c ≡ c' → d ≡ d' → one b' ≡ one c' + one d' → one b ≡ one c + one d
parts b c d b' c' d' first second third h =
    ap one first ∙ h ∙ sym (ap (λ x. one x + one d) second ∙ ap (λ x. one c' + one x) third)

one_more_word : (n : ℕ) (o : Option ℕ) → for_below (suc n) o ≡ for_below n o + for_word n o
one_more_word n None = omega arith
one_more_word n (Some w) =
    elim (cases_lt w n) [
      | inl below ↦
          parts (nat_lt w (suc n)) (nat_lt w n) (w == n) true true false (lt-ltb w (suc n) (omega (arith, below))) (lt-ltb w n below) (ne_eqb w n (λ same. absurd (omega (arith, below, same)))) refl
      | inr from ↦
          elim (cases_eq w n) [
            | inl same ↦
                parts (nat_lt w (suc n)) (nat_lt w n) (w == n) true false true (lt-ltb w (suc n) (omega (arith, same))) (le-ltb w n from) (eq-eqb w n same) refl
            | inr away ↦
                parts (nat_lt w (suc n)) (nat_lt w n) (w == n) false false false (le-ltb w (suc n) (omega (arith, from, away))) (le-ltb w n from) (ne_eqb w n away) refl
          ]
    ]

split : (n : ℕ) (key : Event → Option ℕ) (es : List Event) → tally (for_below (suc n)) key es ≡ tally (for_below n) key es + tally (for_word n) key es
split n key [] = omega arith
split n key (e ∷ es) = let later = split n key es in let here = one_more_word n (key e) in omega (arith, later, here)

none_under : (key : Event → Option ℕ) (es : List Event) → tally (for_below 0) key es ≡ 0
none_under key [] = refl
none_under key (e ∷ es) = let later = none_under key es in let here = under_zero (key e) in omega (arith, later, here)
  where
    under_zero : (o : Option ℕ) → for_below 0 o ≡ 0
    under_zero None = refl
    under_zero (Some w) = ap one (le-ltb w 0 (omega arith))

few_under : (es : List Event) → AreFew es → (n : ℕ) → tally (for_below n) assisted_word es ≤ 2 * tally (for_below n) written_word es
few_under es few zero = let none = none_under assisted_word es in omega (arith, none)
few_under es few (suc n) =
    let assists = split n assisted_word es in
    let writes = split n written_word es in
    let below = few_under es few n in
    let here = few n in
    omega (arith, assists, writes, below, here)

-- one above each word
abbrev above : Option ℕ → ℕ
above None = 0
above (Some w) = suc w

all_under : (n : ℕ) (key : Event → Option ℕ) (es : List Event) → tally above key es ≤ n → tally (for_below n) key es ≡ tally for_any key es
all_under n key [] most = refl
all_under n key (e ∷ es) most =
    let later = all_under n key es (omega (arith, most)) in
    let here = one_under (key e) (omega (arith, most)) in
    omega (arith, later, here)
  where
    one_under : (o : Option ℕ) → above o ≤ n → for_below n o ≡ for_any o
    one_under None h = refl
    one_under (Some w) h = ap one (lt-ltb w n (omega (arith, h)))

few_in_all : (es : List Event) → AreFew es → count_by is_assist es ≤ 2 * count_by is_table_write es
few_in_all es few =
    let n : ℕ = tally above assisted_word es + tally above written_word es in
    let assists = all_under n assisted_word es (omega arith) in
    let writes = all_under n written_word es (omega arith) in
    let below = few_under es few n in
    omega (arith, assists, writes, below, tally_assists es, tally_writes es)

pub assists_are_few : AssistsAreFew
assists_are_few head xs ps answers end ys run = few_in_all end.events (run_few (unwritten head) xs ps answers end ys none_yet run)
