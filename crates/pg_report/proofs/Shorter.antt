-- Reading a part leaves no more bytes than there were, and reading a chunk leaves fewer.
use Rattle.std.proofs.Common.{◌≡◌, ℕ, zero, suc, ◌+◌, ◌<◌, ◌≤◌, Bool, true, false, cond, List, [], ◌∷◌, length, take, drop, length-drop, Option, Some, None, Ok, Err, subst, arith}
use Rattle.std.specs.Int.{Width, w16, w32, w64, byte_len, from_le_bytes}
use Rattle.std.specs.Prelude.{nat_lt, ◌==◌, ◌||◌}
use Rattle.pg_event.specs.declared.event.Event.{Event}
use Rattle.pg_event.specs.declared.event.Malformed.{Malformed}
use Rattle.pg_event.specs.declared.refusal.Refusal.{Refusal}
use Rattle.pg_event.specs.declared.refusal.Refusal.TheVariants as refusals
use Rattle.pg_event.specs.declared.version.Version.{Version}
use Rattle.pg_event.specs.declared.version.Version.TheVariants.{One, Two}
use Rattle.pg_event.specs.Heads.{Head}
use Rattle.pg_event.specs.Form.{broken_rule}
use Rattle.pg_event.specs.Reading.{◌>>=◌, Part, byte_at, number_at, passing, outcome_at, numbers_at, moments_at, write_at, access_at, mov_cr3_at, invlpg_at, invpcid_at, mov_cr4_pge_at, fields_at, well_formed_at, event_at, events_at, segment_at, end_at, chunk_at, assist_at, processor_at}

-- what is left is no longer
abbrev pub Shrinks : {A : Type 0} → ℕ → Part A → Type 0
Shrinks n (Ok x) = length x.1 ≤ n
Shrinks n (Err e) = Unit {0}

weaker : {A : Type 0} (m n : ℕ) (part : Part A) → m ≤ n → Shrinks m part → Shrinks n part
weaker m n (Ok x) le h = omega arith
weaker m n (Err e) le h = tt

then : {A B : Type 0} (n : ℕ) (part : Part A) (f : A × List ℕ → Part B) → Shrinks n part → ((x : A × List ℕ) → Shrinks (length x.1) (f x)) → Shrinks n (part >>= f)
then n (Ok x) f h k = weaker (length x.1) n (f x) h (k x)
then n (Err e) f h k = tt

byte_shrinks : (bytes : List ℕ) → Shrinks (length bytes) (byte_at bytes)
byte_shrinks [] = tt
byte_shrinks (b ∷ bytes) = omega arith

dropped : (w : Width) (bytes : List ℕ) (b : Bool) → Shrinks {A = ℕ} (length bytes) (cond b (Err refusals.Truncated) (Ok (from_le_bytes w (take (byte_len w) bytes), drop (byte_len w) bytes)))
dropped w bytes true = tt
dropped w bytes false = omega (arith, length-drop (byte_len w) bytes)

number_shrinks : (w : Width) (bytes : List ℕ) → Shrinks (length bytes) (number_at w bytes)
number_shrinks w bytes = dropped w bytes (nat_lt (length bytes) (byte_len w))

chosen : (b : Bool) (n : ℕ) (refusal : Refusal) (x : ℕ × List ℕ) → length x.1 ≤ n → Shrinks {A = ℕ} n (cond b (Ok x) (Err refusal))
chosen true n refusal x h = h
chosen false n refusal x h = tt

either : {A : Type 0} (n : ℕ) (b : Bool) (p q : Part A) → Shrinks n p → Shrinks n q → Shrinks n (cond b p q)
either n true p q h k = h
either n false p q h k = k

passing_shrinks : (n : ℕ) (test : ℕ → Bool) (refusal : Refusal) (part : Part ℕ) → Shrinks n part → Shrinks n (passing test refusal part)
passing_shrinks n test refusal (Ok x) h = chosen (test x.0) n refusal x h
passing_shrinks n test refusal (Err e) h = tt

outcome_shrinks : (bytes : List ℕ) → Shrinks (length bytes) (outcome_at bytes)
unfolding outcome_at
outcome_shrinks bytes = then (length bytes) (passing _ _ (byte_at bytes)) _ (passing_shrinks (length bytes) _ _ (byte_at bytes) (byte_shrinks bytes)) (λ tag. either (length tag.1) (tag.0 == 0) _ _
    (then (length tag.1) (number_at w64 tag.1) _ (number_shrinks w64 tag.1) (λ page. omega arith))
    (then (length tag.1) (number_at w16 tag.1) _ (number_shrinks w16 tag.1) (λ code. omega arith)))

numbers_shrink : (n : ℕ) (bytes : List ℕ) → Shrinks (length bytes) (numbers_at n bytes)
unfolding numbers_at
numbers_shrink zero bytes = omega arith
numbers_shrink (suc n) bytes = then (length bytes) (number_at w32 bytes) _ (number_shrinks w32 bytes) (λ first. then (length first.1) (numbers_at n first.1) _ (numbers_shrink n first.1) (λ others. omega arith))

moments_shrink : (bytes : List ℕ) → Shrinks (length bytes) (moments_at bytes)
unfolding moments_at
moments_shrink bytes = then (length bytes) (passing _ _ (byte_at bytes)) _ (passing_shrinks (length bytes) _ _ (byte_at bytes) (byte_shrinks bytes)) (λ count. numbers_shrink count.0 count.1)

write_shrinks : (p : ℕ) (bytes : List ℕ) → Shrinks (length bytes) (write_at p bytes)
unfolding write_at
write_shrinks p bytes = then (length bytes) (number_at w64 bytes) _ (number_shrinks w64 bytes) (λ addr. then (length addr.1) (number_at w64 addr.1) _ (number_shrinks w64 addr.1) (λ value. omega arith))

access_shrinks : (p : ℕ) (bytes : List ℕ) → Shrinks (length bytes) (access_at p bytes)
unfolding access_at
access_shrinks p bytes = then (length bytes) (byte_at bytes) _ (byte_shrinks bytes) (λ flags. then (length flags.1) (number_at w64 flags.1) _ (number_shrinks w64 flags.1) (λ la.
    then (length la.1) (outcome_at la.1) _ (outcome_shrinks la.1) (λ outcome. then (length outcome.1) (moments_at outcome.1) _ (moments_shrink outcome.1) (λ moments. omega arith))))

mov_cr3_shrinks : (p : ℕ) (bytes : List ℕ) → Shrinks (length bytes) (mov_cr3_at p bytes)
unfolding mov_cr3_at
mov_cr3_shrinks p bytes = then (length bytes) (number_at w64 bytes) _ (number_shrinks w64 bytes) (λ operand. omega arith)

invlpg_shrinks : (p : ℕ) (bytes : List ℕ) → Shrinks (length bytes) (invlpg_at p bytes)
unfolding invlpg_at
invlpg_shrinks p bytes = then (length bytes) (number_at w64 bytes) _ (number_shrinks w64 bytes) (λ la. omega arith)

invpcid_shrinks : (p : ℕ) (bytes : List ℕ) → Shrinks (length bytes) (invpcid_at p bytes)
unfolding invpcid_at
invpcid_shrinks p bytes = then (length bytes) (byte_at bytes) _ (byte_shrinks bytes) (λ kind. then (length kind.1) (number_at w16 kind.1) _ (number_shrinks w16 kind.1) (λ pcid.
    then (length pcid.1) (number_at w64 pcid.1) _ (number_shrinks w64 pcid.1) (λ la. omega arith)))

mov_cr4_pge_shrinks : (p : ℕ) (bytes : List ℕ) → Shrinks (length bytes) (mov_cr4_pge_at p bytes)
unfolding mov_cr4_pge_at
mov_cr4_pge_shrinks p bytes = then (length bytes) (passing _ _ (byte_at bytes)) _ (passing_shrinks (length bytes) _ _ (byte_at bytes) (byte_shrinks bytes)) (λ on. omega arith)

assist_shrinks : (p : ℕ) (bytes : List ℕ) → Shrinks (length bytes) (assist_at p bytes)
unfolding assist_at
assist_shrinks p bytes = then (length bytes) (byte_at bytes) _ (byte_shrinks bytes) (λ flags. then (length flags.1) (number_at w64 flags.1) _ (number_shrinks w64 flags.1) (λ la.
    then (length la.1) (number_at w64 la.1) _ (number_shrinks w64 la.1) (λ word. then (length word.1) (moments_at word.1) _ (moments_shrink word.1) (λ moments. omega arith))))

processor_shrinks : (version : Version) (bytes : List ℕ) → Shrinks (length bytes) (processor_at version bytes)
unfolding processor_at
processor_shrinks One bytes = byte_shrinks bytes
processor_shrinks Two bytes = number_shrinks w16 bytes

fields_shrink : (tag p : ℕ) (bytes : List ℕ) → Shrinks (length bytes) (fields_at tag p bytes)
unfolding fields_at
fields_shrink tag p bytes =
    let n = length bytes in
    either n (tag == 0x10) _ _ (write_shrinks p bytes) (either n (tag == 0x11) _ _ (access_shrinks p bytes) (either n (tag == 0x12) _ _ (mov_cr3_shrinks p bytes)
    (either n (tag == 0x13) _ _ (invlpg_shrinks p bytes) (either n (tag == 0x14) _ _ (invpcid_shrinks p bytes)
    (either n (tag == 0x15) _ _ (mov_cr4_pge_shrinks p bytes) (assist_shrinks p bytes))))))

well_formed_shrinks : (n i : ℕ) (rule : Option Malformed) (x : Event × List ℕ) → length x.1 ≤ n → Shrinks n (well_formed_at i rule x)
well_formed_shrinks n i None x h = h
well_formed_shrinks n i (Some rule) x h = tt

event_shrinks : (head : Head) (i : ℕ) (bytes : List ℕ) → Shrinks (length bytes) (event_at head i bytes)
unfolding event_at
event_shrinks head i bytes = then (length bytes) (passing _ _ (byte_at bytes)) _ (passing_shrinks (length bytes) _ _ (byte_at bytes) (byte_shrinks bytes)) (λ tag. then (length tag.1) (processor_at head.version tag.1) _ (processor_shrinks head.version tag.1) (λ p.
    then (length p.1) (fields_at tag.0 p.0 p.1) _ (fields_shrink tag.0 p.0 p.1) (λ e. well_formed_shrinks (length e.1) i (broken_rule head e.0) e (omega arith))))

events_shrink : (head : Head) (i n : ℕ) (bytes : List ℕ) → Shrinks (length bytes) (events_at head i n bytes)
unfolding events_at
events_shrink head i zero bytes = omega arith
events_shrink head i (suc n) bytes = then (length bytes) (event_at head i bytes) _ (event_shrinks head i bytes) (λ first. then (length first.1) (events_at head (i + 1) n first.1) _ (events_shrink head (i + 1) n first.1) (λ others. omega arith))

segment_shrinks : (head : Head) (number before : ℕ) (bytes : List ℕ) → Shrinks (length bytes) (segment_at head number before bytes)
unfolding segment_at
segment_shrinks head number before bytes = then (length bytes) (passing _ _ (number_at w32 bytes)) _ (passing_shrinks (length bytes) _ _ (number_at w32 bytes) (number_shrinks w32 bytes)) (λ found.
    then (length found.1) (passing _ _ (number_at w32 found.1)) _ (passing_shrinks (length found.1) _ _ (number_at w32 found.1) (number_shrinks w32 found.1)) (λ count. events_shrink head before count.0 count.1))

end_shrinks : (total : ℕ) (bytes : List ℕ) → Shrinks (length bytes) (end_at total bytes)
unfolding end_at
end_shrinks total bytes = then (length bytes) (passing _ _ (number_at w32 bytes)) _ (passing_shrinks (length bytes) _ _ (number_at w32 bytes) (number_shrinks w32 bytes)) (λ found. omega arith)

some_shrinks : (n : ℕ) (part : Part (List Event)) → Shrinks n part → Shrinks n (part >>= λ segment. Ok (Some segment.0, segment.1))
some_shrinks n (Ok x) h = h
some_shrinks n (Err e) h = tt

-- a chunk takes its tag at least
chunk_rest_shrinks : (head : Head) (number before : ℕ) (full : Bool) (b : ℕ) (bytes : List ℕ) → Shrinks (length bytes) (chunk_at head number before full (b ∷ bytes))
unfolding chunk_at
chunk_rest_shrinks head number before full b bytes =
    let tail : length bytes ≤ length bytes = omega arith in
    then (length bytes) (passing (λ t. t == 1 || t == 2) refusals.Tag (byte_at (b ∷ bytes))) _ (passing_shrinks (length bytes) (λ t. t == 1 || t == 2) refusals.Tag (byte_at (b ∷ bytes)) tail) (λ tag.
    either (length tag.1) (tag.0 == 2) _ _ (end_shrinks before tag.1) (either (length tag.1) full _ (Err refusals.SegmentCount)
    (some_shrinks (length tag.1) (segment_at head number before tag.1) (segment_shrinks head number before tag.1)) (tt {0})))

shorter : {A : Type 0} (n : ℕ) (part : Part A) (x : A × List ℕ) → part ≡ Ok x → Shrinks n part → length x.1 ≤ n
shorter n part x e h = subst (Shrinks n) e h

pub chunk_shortens : (head : Head) (number before : ℕ) (full : Bool) (bytes : List ℕ) (x : Option (List Event) × List ℕ) → chunk_at head number before full bytes ≡ Ok x → length x.1 < length bytes
unfolding chunk_at
chunk_shortens head number before full [] x e = absurd cc
chunk_shortens head number before full (b ∷ bytes) x e =
    let le : length x.1 ≤ length bytes = shorter (length bytes) (chunk_at head number before full (b ∷ bytes)) x e (chunk_rest_shrinks head number before full b bytes) in
    omega arith
