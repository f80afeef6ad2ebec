-- How far each part of a record looks.
use Rattle.std.proofs.Common.{◌≡◌, ℕ, zero, suc, ◌+◌, ◌*◌, ◌^◌, ◌≤◌, Bool, true, false, cond, eqb, ltb, leb, ◌&&◌, ◌||◌, List, [], ◌∷◌, ◌++◌, length, take, drop, codes, Option, Some, None, Ok, Err, arith, sym, ap, ◌∙◌, refl, take-append-drop, length-append, length-take}
use Rattle.std.specs.Int.{w16, w32, w64}
use Rattle.std.proofs.lemmas.Bool.{le-ltb}
use Rattle.std.proofs.lemmas.Bool.Decides.{nat_tests}
use Rattle.std.proofs.lemmas.List.{take-append-le}
use lib.Seq.{drop-append-le}
use Rattle.pg_event.specs.declared.event.Event.{Event}
use Rattle.pg_event.specs.declared.event.Event.TheVariants as events
use Rattle.pg_event.specs.declared.event.Outcome.TheVariants as outcomes
use Rattle.pg_event.specs.declared.event.Malformed.{Malformed}
use Rattle.pg_event.specs.declared.refusal.Refusal.TheVariants as refusals
use Rattle.pg_event.specs.declared.version.Version.{Version}
use Rattle.pg_event.specs.declared.version.Version.TheVariants as versions
use Rattle.pg_event.specs.Heads.{Head, most_processors}
use Rattle.pg_event.specs.Form.{broken_rule}
use Rattle.std.specs.Str.{bytes_eq}
use Rattle.pg_event.specs.Reading.{◌>>=◌, byte_at, number_at, passing, magic_at, start_at, outcome_at, numbers_at, moments_at, write_at, access_at, mov_cr3_at, invlpg_at, invpcid_at, mov_cr4_pge_at, assist_at, fields_at, last_tag, well_formed_at, event_at, is_between, version_at, version_of, processor_at}
use Rattle.pg_codec.specs.Parts.{cfg_at, settings_behind, settings_at}
use Rattle.pg_codec.proofs.Local.{IsLocal, extended, byte_local, number_local, done_local, refused_local, then_local, wider, cond_local, bounded_local, made_local, done, ok_is}

outcome_local : IsLocal 9 outcome_at
unfolding outcome_at
outcome_local =
    bounded_local 1 8 (λ n. ltb n 2) refusals.Tag byte_at _ byte_local (λ tag _. cond_local 8 (eqb tag 0) _ _
    (made_local 8 (number_at w64) (λ page. outcomes.Page page) (number_local w64))
    (wider 2 8 _ (omega arith) (made_local 2 (number_at w16) (λ code. outcomes.Fault code) (number_local w16))))

numbers_local : (n : ℕ) → IsLocal (4 * n) (numbers_at n)
unfolding numbers_at
numbers_local zero = done_local []
numbers_local (suc n) =
    wider (4 + (4 * n + 0)) (4 * suc n) _ (omega arith)
    (then_local 4 (4 * n + 0) (number_at w32) (λ first bytes. numbers_at n bytes >>= λ others. Ok (first ∷ others.0, others.1)) (number_local w32)
    (λ first. made_local (4 * n) (numbers_at n) (λ others. first ∷ others) (numbers_local n)))

few : (n : ℕ) → (leb 1 n && leb n 4) ≡ true → n ≤ 4
few n h = grind (arith, nat_tests)

moments_local : IsLocal 17 moments_at
unfolding moments_at
moments_local =
    bounded_local 1 16 (is_between 1 4) refusals.Tag byte_at (λ n bytes. numbers_at n bytes) byte_local
    (λ n h. let le = few n h in wider (4 * n) 16 (numbers_at n) (omega arith) (numbers_local n))

write_local : (p : ℕ) → IsLocal 16 (write_at p)
unfolding write_at
write_local p = then_local 8 8 (number_at w64) (λ addr bytes. number_at w64 bytes >>= λ value. Ok (events.Write p addr value.0, value.1)) (number_local w64) (λ addr. made_local 8 (number_at w64) (λ value. events.Write p addr value) (number_local w64))

access_local : (p : ℕ) → IsLocal 35 (access_at p)
unfolding access_at
access_local p =
    then_local 1 34 byte_at (λ flags bytes. number_at w64 bytes >>= λ la. outcome_at la.1 >>= λ outcome. moments_at outcome.1 >>= λ moments. Ok (events.Access p flags la.0 outcome.0 moments.0, moments.1)) byte_local (λ flags.
    then_local 8 26 (number_at w64) (λ la bytes. outcome_at bytes >>= λ outcome. moments_at outcome.1 >>= λ moments. Ok (events.Access p flags la outcome.0 moments.0, moments.1)) (number_local w64) (λ la.
    then_local 9 17 outcome_at (λ outcome bytes. moments_at bytes >>= λ moments. Ok (events.Access p flags la outcome moments.0, moments.1)) outcome_local (λ outcome.
    made_local 17 moments_at (λ moments. events.Access p flags la outcome moments) moments_local)))

invpcid_local : (p : ℕ) → IsLocal 11 (invpcid_at p)
unfolding invpcid_at
invpcid_local p =
    then_local 1 10 byte_at (λ kind bytes. number_at w16 bytes >>= λ pcid. number_at w64 pcid.1 >>= λ la. Ok (events.Invpcid p kind pcid.0 la.0, la.1)) byte_local (λ kind.
    then_local 2 8 (number_at w16) (λ pcid bytes. number_at w64 bytes >>= λ la. Ok (events.Invpcid p kind pcid la.0, la.1)) (number_local w16) (λ pcid.
    made_local 8 (number_at w64) (λ la. events.Invpcid p kind pcid la) (number_local w64)))

mov_cr3_local : (p : ℕ) → IsLocal 8 (mov_cr3_at p)
unfolding mov_cr3_at
mov_cr3_local p = made_local 8 (number_at w64) (λ operand. events.MovCr3 p operand) (number_local w64)

invlpg_local : (p : ℕ) → IsLocal 8 (invlpg_at p)
unfolding invlpg_at
invlpg_local p = made_local 8 (number_at w64) (λ la. events.Invlpg p la) (number_local w64)

mov_cr4_pge_local : (p : ℕ) → IsLocal 1 (mov_cr4_pge_at p)
unfolding mov_cr4_pge_at
mov_cr4_pge_local p = bounded_local 1 0 (λ n. ltb n 2) refusals.Tag byte_at (λ on bytes. Ok (events.MovCr4Pge p (eqb on 1), bytes)) byte_local (λ on _. done_local (events.MovCr4Pge p (eqb on 1)))

assist_local : (p : ℕ) → IsLocal 34 (assist_at p)
unfolding assist_at
assist_local p =
    then_local 1 33 byte_at (λ flags bytes. number_at w64 bytes >>= λ la. number_at w64 la.1 >>= λ word. moments_at word.1 >>= λ moments. Ok (events.Assist p flags la.0 word.0 moments.0, moments.1)) byte_local (λ flags.
    then_local 8 25 (number_at w64) (λ la bytes. number_at w64 bytes >>= λ word. moments_at word.1 >>= λ moments. Ok (events.Assist p flags la word.0 moments.0, moments.1)) (number_local w64) (λ la.
    then_local 8 17 (number_at w64) (λ word bytes. moments_at bytes >>= λ moments. Ok (events.Assist p flags la word moments.0, moments.1)) (number_local w64) (λ word.
    made_local 17 moments_at (λ moments. events.Assist p flags la word moments) moments_local)))

fields_local : (tag p : ℕ) → IsLocal 35 (fields_at tag p)
unfolding fields_at
fields_local tag p =
    cond_local 35 (eqb tag 0x10) _ _ (wider 16 35 _ (omega arith) (write_local p))
    (cond_local 35 (eqb tag 0x11) _ _ (access_local p)
    (cond_local 35 (eqb tag 0x12) _ _ (wider 8 35 _ (omega arith) (mov_cr3_local p))
    (cond_local 35 (eqb tag 0x13) _ _ (wider 8 35 _ (omega arith) (invlpg_local p))
    (cond_local 35 (eqb tag 0x14) _ _ (wider 11 35 _ (omega arith) (invpcid_local p))
    (cond_local 35 (eqb tag 0x15) _ _ (wider 1 35 _ (omega arith) (mov_cr4_pge_local p))
    (wider 34 35 _ (omega arith) (assist_local p)))))))

processor_local : (version : Version) → IsLocal 2 (processor_at version)
unfolding processor_at
processor_local versions.One = wider 1 2 byte_at (omega arith) byte_local
processor_local versions.Two = number_local w16

judged_local : (i : ℕ) (rule : Option Malformed) (e : Event) → IsLocal 0 (λ bytes. well_formed_at i rule (e, bytes))
judged_local i None e = done_local e
judged_local i (Some rule) e = refused_local (refusals.Malformed i rule)

pub event_local : (head : Head) (i : ℕ) → IsLocal 38 (event_at head i)
unfolding event_at
event_local head i =
    bounded_local 1 37 (is_between 0x10 (last_tag head.version)) refusals.Tag byte_at (λ tag bytes. processor_at head.version bytes >>= λ p. fields_at tag p.0 p.1 >>= λ e. well_formed_at i (broken_rule head e.0) e) byte_local (λ tag _.
    then_local 2 35 (processor_at head.version) (λ p bytes. fields_at tag p bytes >>= λ e. well_formed_at i (broken_rule head e.0) e) (processor_local head.version) (λ p.
    then_local 35 0 (fields_at tag p) (λ e bytes. well_formed_at i (broken_rule head e) (e, bytes)) (fields_local tag p) (λ e. judged_local i (broken_rule head e) e)))

pub start_local : (m : ℕ) → IsLocal 9 (start_at m)
unfolding start_at
start_local m =
    bounded_local 8 1 (λ n. ltb n (2 ^ m)) refusals.HeaderField (number_at w64) (λ cr3 bytes. passing (λ n. ltb n 2) refusals.HeaderField (byte_at bytes) >>= λ pge. Ok ((cr3, eqb pge.0 1), pge.1)) (number_local w64) (λ cr3 _.
    bounded_local 1 0 (λ n. ltb n 2) refusals.HeaderField byte_at (λ pge bytes. Ok ((cr3, eqb pge 1), bytes)) byte_local (λ pge _. done_local (cr3, eqb pge 1)))

tested : (b : Bool) (front rest more : List ℕ) → cond b (Ok (front, rest ++ more)) (Err refusals.Magic) ≡ extended more (cond b (Ok (front, rest)) (Err refusals.Magic))
tested true front rest more = refl
tested false front rest more = refl

found : (short good : Bool) (y x : List ℕ × List ℕ) → cond short (Err refusals.Truncated) (cond good (Ok y) (Err refusals.Magic)) ≡ done x → y.1 ≡ x.1
found true good y x e = absurd cc
found false true y x e = ap (λ z. z.1) (ok_is y x e)
found false false y x e = absurd cc

magic_same : (front more : List ℕ) → 8 ≤ length front → magic_at (front ++ more) ≡ extended more (magic_at front)
unfolding magic_at
magic_same front more h =
    let long : ltb (length (front ++ more)) 8 ≡ false = le-ltb _ _ (omega (arith, length-append front more)) in
    let enough : ltb (length front) 8 ≡ false = le-ltb _ _ h in
    rw (long, enough, take-append-le 8 front more h, drop-append-le 8 front more h) (tested (bytes_eq (take 8 front) (codes "PGRECORD")) (take 8 front) (drop 8 front) more)

magic_used : (bytes : List ℕ) (x : List ℕ × List ℕ) → magic_at bytes ≡ Ok x → (text : List ℕ) × (bytes ≡ text ++ x.1) × (length text ≤ 8)
unfolding magic_at
magic_used bytes x e = (take 8 bytes, sym (take-append-drop 8 bytes) ∙ ap (λ l. take 8 bytes ++ l) (found (ltb (length bytes) 8) (bytes_eq (take 8 bytes) (codes "PGRECORD")) (take 8 bytes, drop 8 bytes) x e), omega (arith, length-take 8 bytes))

pub magic_local : IsLocal 8 magic_at
magic_local = record { same = magic_same; used = magic_used }

pub version_local : IsLocal 2 version_at
unfolding version_at
version_local =
    bounded_local 2 0 (λ n. eqb n 1 || eqb n 2) refusals.Version (number_at w16) (λ n bytes. Ok (version_of n, bytes)) (number_local w16) (λ n _. done_local (version_of n))

cfg_local : IsLocal 2 cfg_at
unfolding cfg_at
cfg_local =
    bounded_local 1 1 (is_between 36 52) refusals.HeaderField byte_at _ byte_local (λ m _.
    bounded_local 1 0 (λ n. ltb n 16) refusals.HeaderField byte_at _ byte_local (λ flags _. done_local _))

behind_local : (version : Version) → IsLocal 8 (settings_behind version)
unfolding settings_behind
behind_local version =
    then_local 2 6 cfg_at _ cfg_local (λ cfg.
    bounded_local 2 4 (is_between 1 (most_processors version)) refusals.HeaderField (processor_at version) _ (processor_local version) (λ count _.
    bounded_local 4 0 (is_between 1 65536) refusals.HeaderField (number_at w32) _ (number_local w32) (λ size _. done_local _)))

pub settings_local : IsLocal 18 settings_at
unfolding settings_at
settings_local =
    then_local 8 10 magic_at _ magic_local (λ magic.
    then_local 2 8 version_at (λ version bytes. settings_behind version bytes) version_local behind_local)
