-- What was read as a log is a log.
use Rattle.std.proofs.Common.{◌≡◌, ℕ, zero, suc, ◌+◌, ◌^◌, ◌<◌, Bool, true, false, cond, ◌&&◌, ltb, eqb, List, [], ◌∷◌, ◌++◌, length, take, drop, Option, Some, None, Result, Ok, Err, refl, ap, subst, ◌∙◌, arith}
use Rattle.std.specs.Prelude.{codes}
use Rattle.std.specs.List.{AllByRecursion}
use Rattle.std.specs.Int.{w16, w32, w64, to_le_bytes}
use Rattle.std.specs.Str.{bytes_eq}
use Rattle.std.proofs.lemmas.Bool.{and_parts, ltb-true, eqb-true}
use Rattle.pg_entry.specs.declared.Cfg.{Cfg}
use Rattle.pg_entry.specs.Rules.{all_rules}
use Rattle.pg_event.specs.declared.event.Event.{Event}
use Rattle.pg_event.specs.declared.event.Malformed.{Malformed}
use Rattle.pg_event.specs.declared.refusal.Refusal.{Refusal}
use Rattle.pg_event.specs.declared.refusal.Refusal.TheVariants as refusals
use Rattle.pg_event.specs.declared.version.Version.{Version}
use Rattle.pg_event.specs.Heads.{Head, most_processors, least_maxphyaddr, most_maxphyaddr}
use Rattle.pg_event.specs.Form.{processor_of, broken_rule}
use Rattle.pg_event.specs.Laws.{AreBytes}
use Rattle.pg_event.specs.Reading.{◌>>=◌, Part, byte_at, number_at, passing, is_between, version_at, version_of, start_at, processor_at, last_tag, well_formed_at}
use Rattle.pg_event.specs.Spelling.{FitsEvent, processor_bytes}
use Rattle.pg_event.proofs.Fields.{IsBytes, IsBytes-drop, from_bind, from_passing, ok_bind, ok_is, passing_again, byte_takes, wide16, wide32, wide64, number_takes, number_again}
use Rattle.pg_event.proofs.Events.{bounds_of, processor_again, processor_takes}
use Rattle.pg_event.proofs.Chunks.{all_parts, all_append}
use Rattle.pg_event.proofs.Spellings.{bytes_at}
use Rattle.pg_codec.proofs.Next.{all_bytes}
use Rattle.pg_codec.specs.declared.naming.Naming.TheVariants as namings
use Rattle.pg_codec.specs.Bare.{IsBare, fields_in, event_in}
use Rattle.pg_codec.specs.Parts.{cfg_at, IsCfg}
use Rattle.pg_span_run.specs.Reading.{timed_at}
use Rattle.pg_span_run.proofs.TimedEvents.{chosen, timed_takes}
use Rattle.pg_span_run.specs.declared.log.LogHeader.{LogHeader}
use Rattle.pg_span_run.specs.declared.log.Stamped.{Stamped}
use Rattle.pg_span_run.specs.declared.log_error.LogRefusal.{LogRefusal}
use Rattle.pg_span_run.specs.declared.log_error.LogRefusal.TheVariants as faults
use Rattle.pg_span_run.specs.LogLaws.{ReadLogsAreLogs}
use Rattle.pg_span_run.specs.Logs.{Logged, alone, end_mark, AreLogSettings, IsOwn, StandsAbove, Rise, IsLog}
use Rattle.pg_span_run.specs.LogReading.{field, log_magic_at, log_header_at, stamped_at, end_at, next_at, events_at, log_reading}

-- ---- steps

abbrev read : {A : Type 0} → A → Result A LogRefusal
read x = Ok x

from_then : {A B P : Type 0} (r : Result A LogRefusal) (f : A → Result B LogRefusal) (y : B) → (r >>= f) ≡ read y → ((x : A) → r ≡ Ok x → f x ≡ Ok y → P) → P
from_then (Ok x) f y e k = k x refl e
from_then (Err d) f y e k = absurd cc

field_is : {A : Type 0} (part : Part A) (x : A × List ℕ) → field part ≡ Ok x → part ≡ Ok x
field_is (Ok y) x e = let same : y ≡ x = cc in ap (λ z. Ok z) same
field_is (Err d) x e = absurd cc

from_field : {A B P : Type 0} (part : Part A) (f : A × List ℕ → Result B LogRefusal) (y : B) → (field part >>= f) ≡ read y → ((x : A × List ℕ) → part ≡ Ok x → f x ≡ Ok y → P) → P
from_field part f y e k = from_then (field part) f y e (λ x x_is rest. k x (field_is part x x_is) rest)

value_is : {A : Type 0} (x y : A) → read x ≡ read y → x ≡ y
value_is x y e = cc

-- a test that has to be passed
passed : {A : Type 0} (b : Bool) (d : LogRefusal) (r : Result A LogRefusal) (y : A) → cond b r (Err d) ≡ Ok y → (b ≡ true) × (r ≡ Ok y)
passed true d r y e = (refl, e)
passed false d r y e = absurd cc

-- ---- events

well_is : (i : ℕ) (o : Option Malformed) (y x : Event × List ℕ) → well_formed_at i o y ≡ Ok x → (o ≡ None) × (y ≡ x)
well_is i None y x e = (refl, ok_is y x e)
well_is i (Some rule) y x e = absurd cc

-- an event that a log may have, and the bytes after it
record IsRead (head : Head) (x : Event × List ℕ) : Type 0 where
  well : broken_rule head x.0 ≡ None
  fits : FitsEvent x.0
  bare : IsBare x.0
  rest : IsBytes x.1

-- the span of an event that began when all before it had ended
no_span : AreBytes (to_le_bytes w32 0)
no_span = (omega arith, (omega arith, (omega arith, (omega arith, tt))))

event_read : (head : Head) (i : ℕ) (bytes : List ℕ) (x : Event × List ℕ) → IsBytes bytes → event_in namings.Bare head i bytes ≡ Ok x → IsRead head x
unfolding event_in timed_at
event_read head i bytes x fits e =
    from_passing (is_between 0x10 (last_tag head.version)) refusals.Tag (byte_at bytes) _ x e (λ a a_is tag e.
    from_bind (processor_at head.version a.1) _ x e (λ b b_is e.
    from_bind (fields_in namings.Bare a.0 b.0 b.1) _ x e (λ d d_is e.
    let judged = well_is i (broken_rule head d.0) d x e in
    let t0 = byte_takes bytes a fits a_is in
    let t1 = processor_takes head.version a.1 b t0.0.rest_fits b_is in
    let p : List ℕ = processor_bytes head.version b.0 in
    let after : List ℕ = to_le_bytes w32 0 ++ b.1 in
    let p_fits : AreBytes p = (all_parts (λ (n : ℕ). n < 256) p b.1 (subst AreBytes t1.0.parts (all_bytes a.1 t0.0.rest_fits))).0 in
    let after_fits : AreBytes after = all_append (λ (n : ℕ). n < 256) (to_le_bytes w32 0) b.1 no_span (all_bytes b.1 t1.0.rest_fits) in
    let all : List ℕ = a.0 ∷ (p ++ after) in
    let all_fit : IsBytes all = bytes_at all (t0.1, all_append (λ (n : ℕ). n < 256) p after p_fits after_fits) in
    let timed : timed_at head.version all ≡ Ok ((d.0, 0), d.1) =
    ok_bind _ _ _ (passing_again (is_between 0x10 (last_tag head.version)) refusals.Tag (Ok (a.0, p ++ after)) (a.0, p ++ after) refl tag)
    ∙ (ok_bind _ _ _ (processor_again head.version b.0 after t1.1)
    ∙ (ok_bind _ _ _ (number_again w32 (2 ^ 32) wide32 0 b.1 (omega arith))
    ∙ ok_bind _ _ _ d_is)) in
    let t = timed_takes head all ((d.0, 0), d.1) all_fit judged.0 timed in
    subst (IsRead head) judged.1 (record { well = judged.0; fits = t.fits; bare = t.bare; rest = t.takes.rest_fits }))))

-- an event with its stamps, after its begin stamp
record IsStamped (head : Head) (own begin : ℕ) (x : Stamped × List ℕ) : Type 0 where
  owned : IsOwn head own x.0
  begins : x.0.begin ≡ begin
  ends : begin < x.0.end
  below : x.0.end < end_mark
  rest : IsBytes x.1

stamped_read : (head : Head) (own i begin : ℕ) (bytes : List ℕ) (x : Stamped × List ℕ) → IsBytes bytes → stamped_at head own i begin bytes ≡ Ok x → IsStamped head own begin x
unfolding stamped_at
stamped_read head own i begin bytes x fits e =
    from_field (number_at w64 bytes) _ x e (λ end end_is e.
    let t = number_takes w64 (2 ^ 64) wide64 bytes end fits end_is in
    let above = passed (ltb begin end.0 && ltb end.0 end_mark) (faults.Stamps i) _ x e in
    let both = and_parts (ltb begin end.0) (ltb end.0 end_mark) above.0 in
    from_field (event_in namings.Bare head i end.1) _ x above.1 (λ d d_is e.
    let event = event_read head i end.1 d t.0.rest_fits d_is in
    let own_is = passed (eqb (processor_of d.0) own) (faults.Processor i) _ x e in
    let made : Stamped × List ℕ = (record { begin = begin; end = end.0; event = d.0 }, d.1) in
    subst (IsStamped head own begin) (value_is made x own_is.1) (record {
      owned = record { processor = eqb-true _ _ own_is.0; well = event.well; fits = event.fits; bare = event.bare };
      begins = refl;
      ends = ltb-true _ _ both.0;
      below = ltb-true _ _ both.1;
      rest = event.rest;
    })))

-- the next event, or none
abbrev IsNext : Head → ℕ → ℕ → Option Stamped × List ℕ → Type 0
IsNext head own last (Some x, rest) = IsOwn head own x × StandsAbove last x × IsBytes rest
IsNext head own last (None, rest) = Unit {0}

none_next : (head : Head) (own last total : ℕ) (bytes : List ℕ) (x : Option Stamped × List ℕ) → end_at total bytes ≡ Ok x → IsNext head own last x
unfolding end_at
none_next head own last total bytes x e =
    from_field (passing (λ n. eqb n total) refusals.Total (number_at w64 bytes)) _ x e (λ a a_is e.
    subst (IsNext head own last) (value_is (None, a.1) x e) tt)

next_read : (head : Head) (own i last : ℕ) (bytes : List ℕ) (x : Option Stamped × List ℕ) → IsBytes bytes → next_at head own i last bytes ≡ Ok x → IsNext head own last x
unfolding next_at
next_read head own i last bytes x fits e =
    from_field (number_at w64 bytes) _ x e (λ begin begin_is e.
    let t = number_takes w64 (2 ^ 64) wide64 bytes begin fits begin_is in
    chosen (IsNext head own last x) (eqb begin.0 end_mark) (end_at i begin.1) _ (Ok x)
    (λ is_end e. none_next head own last i begin.1 x e)
    (λ is_event e.
    let above = passed (ltb last begin.0) (faults.Stamps i) _ x e in
    from_then (stamped_at head own i begin.0 begin.1) _ x above.1 (λ y y_is e.
    let one = stamped_read head own i begin.0 begin.1 y t.0.rest_fits y_is in
    let low : last < begin.0 = ltb-true _ _ above.0 in
    subst (IsNext head own last) (value_is (Some y.0, y.1) x e)
    (one.owned, record { begins = omega (arith, one.begins, low); ends = omega (arith, one.begins, one.ends); below = one.below }, one.rest))) e)

abbrev AreRead : Head → ℕ → ℕ → List Stamped → Type 0
AreRead head own last xs = AllByRecursion (IsOwn head own) xs × Rise last xs

more_read : (n : ℕ) (head : Head) (own i last : ℕ) (next : Option Stamped × List ℕ) (x : List Stamped × List ℕ) → IsNext head own last next →
    ((y : Stamped) (rest : List ℕ) (others : List Stamped × List ℕ) → IsBytes rest → events_at n head own (i + 1) y.end rest ≡ Ok others → AreRead head own y.end others.0) →
    (elim next.0 [ None ↦ Ok ([], next.1) | Some y ↦ events_at n head own (i + 1) y.end next.1 >>= λ others. Ok (y ∷ others.0, others.1) ]) ≡ read x → AreRead head own last x.0
more_read n head own i last (None, rest) x is again e = subst (λ (y : List Stamped × List ℕ). AreRead head own last y.0) (value_is ([], rest) x e) (tt, tt)
more_read n head own i last (Some y, rest) x is again e =
    from_then (events_at n head own (i + 1) y.end rest) _ x e (λ others others_is e.
    let more = again y rest others is.2 others_is in
    subst (λ (z : List Stamped × List ℕ). AreRead head own last z.0) (value_is (y ∷ others.0, others.1) x e) ((is.0, more.0), (is.1, more.1)))

events_read : (n : ℕ) (head : Head) (own i last : ℕ) (bytes : List ℕ) (x : List Stamped × List ℕ) → IsBytes bytes → events_at n head own i last bytes ≡ Ok x → AreRead head own last x.0
unfolding events_at
events_read zero head own i last bytes x fits e = absurd cc
events_read (suc n) head own i last bytes x fits e =
    from_then (next_at head own i last bytes) _ x e (λ next next_is e.
    more_read n head own i last next x (next_read head own i last bytes next fits next_is) (λ y rest others rest_fit others_is. events_read n head own (i + 1) y.end rest others rest_fit others_is) e)

-- ---- headers

-- a test of the length, then one of the bytes
checked : {A : Type 0} (b c : Bool) (d f : Refusal) (x y : A) → cond b (Err d) (cond c (Ok x) (Err f)) ≡ Ok y → x ≡ y
checked true c d f x y e = absurd cc
checked false true d f x y e = ok_is x y e
checked false false d f x y e = absurd cc

magic_rest : (bytes : List ℕ) (x : List ℕ × List ℕ) → IsBytes bytes → log_magic_at bytes ≡ Ok x → IsBytes x.1
unfolding log_magic_at
magic_rest bytes x fits e =
    let is = checked (ltb (length bytes) 8) (bytes_eq (take 8 bytes) (codes "PGCPULOG")) refusals.Truncated refusals.Magic (take 8 bytes, drop 8 bytes) x e in
    subst (λ (y : List ℕ × List ℕ). IsBytes y.1) is (IsBytes-drop 8 bytes fits)

version_rest : (bytes : List ℕ) (x : Version × List ℕ) → IsBytes bytes → version_at bytes ≡ Ok x → IsBytes x.1
unfolding version_at
version_rest bytes x fits e =
    from_passing _ refusals.Version (number_at w16 bytes) _ x e (λ a a_is known e.
    subst (λ (y : Version × List ℕ). IsBytes y.1) (ok_is (version_of a.0, a.1) x e) ((number_takes w16 (2 ^ 16) wide16 bytes a fits a_is).0.rest_fits))

start_read : (m : ℕ) (bytes : List ℕ) (x : (ℕ × Bool) × List ℕ) → IsBytes bytes → start_at m bytes ≡ Ok x → (x.0.0 < 2 ^ m) × IsBytes x.1
unfolding start_at
start_read m bytes x fits e =
    from_passing (λ n. ltb n (2 ^ m)) refusals.HeaderField (number_at w64 bytes) _ x e (λ a a_is low e.
    from_passing (λ n. ltb n 2) refusals.HeaderField (byte_at a.1) _ x e (λ b b_is bit e.
    let t0 = number_takes w64 (2 ^ 64) wide64 bytes a fits a_is in
    let t1 = byte_takes a.1 b t0.0.rest_fits b_is in
    let made : (ℕ × Bool) × List ℕ = ((a.0, eqb b.0 1), b.1) in
    subst (λ (y : (ℕ × Bool) × List ℕ). (y.0.0 < 2 ^ m) × IsBytes y.1) (ok_is made x e) (ltb-true _ _ low, t1.0.rest_fits)))

cfg_read : (bytes : List ℕ) (x : Cfg × List ℕ) → IsBytes bytes → cfg_at bytes ≡ Ok x → IsCfg x.0 × IsBytes x.1
unfolding cfg_at
cfg_read bytes x fits e =
    from_passing (is_between least_maxphyaddr most_maxphyaddr) refusals.HeaderField (byte_at bytes) _ x e (λ m m_is m_in e.
    from_passing (λ n. ltb n 16) refusals.HeaderField (byte_at m.1) _ x e (λ flags flags_is flags_in e.
    let t0 = byte_takes bytes m fits m_is in
    let t1 = byte_takes m.1 flags t0.0.rest_fits flags_is in
    let width = bounds_of least_maxphyaddr m.0 most_maxphyaddr m_in in
    let cfg : Cfg = record { flags = record { 0 = flags.0 }; m = m.0; rules = all_rules } in
    let is : IsCfg cfg = record { low = width.0; high = width.1; flags = ltb-true _ _ flags_in; rules = refl } in
    subst (λ (y : Cfg × List ℕ). IsCfg y.0 × IsBytes y.1) (ok_is (cfg, flags.1) x e) (is, t1.0.rest_fits)))

header_read : (bytes : List ℕ) (x : LogHeader × List ℕ) → IsBytes bytes → log_header_at bytes ≡ Ok x → AreLogSettings x.0 × IsBytes x.1
unfolding log_header_at
header_read bytes x fits e =
    from_bind (log_magic_at bytes) _ x e (λ magic magic_is e.
    from_bind (version_at magic.1) _ x e (λ version version_is e.
    from_bind (cfg_at version.1) _ x e (λ cfg cfg_is e.
    from_passing (is_between 1 (most_processors version.0)) refusals.HeaderField (number_at w16 cfg.1) _ x e (λ count count_is count_in e.
    from_passing (λ n. ltb n count.0) refusals.HeaderField (number_at w16 count.1) _ x e (λ own own_is own_in e.
    from_bind (start_at cfg.0.m own.1) _ x e (λ start start_is e.
    let t0 = magic_rest bytes magic fits magic_is in
    let t1 = version_rest magic.1 version t0 version_is in
    let t2 = cfg_read version.1 cfg t1 cfg_is in
    let t3 = number_takes w16 (2 ^ 16) wide16 cfg.1 count t2.1 count_is in
    let t4 = number_takes w16 (2 ^ 16) wide16 count.1 own t3.0.rest_fits own_is in
    let t5 = start_read cfg.0.m own.1 start t4.0.rest_fits start_is in
    let several = bounds_of 1 count.0 (most_processors version.0) count_in in
    let head : LogHeader = record { version = version.0; cfg = cfg.0; processors = count.0; own = own.0; start = start.0 } in
    let settings : AreLogSettings head = record {
      low = t2.0.low;
      high = t2.0.high;
      flags = t2.0.flags;
      some = several.0;
      few = several.1;
      own = ltb-true _ _ own_in;
      start = t5.0;
      rules = t2.0.rules;
    } in
    subst (λ (y : LogHeader × List ℕ). AreLogSettings y.0 × IsBytes y.1) (ok_is (head, start.1) x e) (settings, t5.1)))))))

-- ---- logs

pub log_is : (bytes : List ℕ) (head : LogHeader) (rest : List ℕ) (events : List Stamped) (after : List ℕ) → IsBytes bytes → log_header_at bytes ≡ Ok (head, rest) →
    events_at (length rest) (alone head) head.own 0 0 rest ≡ Ok (events, after) → IsLog (record { head = head; events = events })
log_is bytes head rest events after fits head_is events_is =
    let front = header_read bytes (head, rest) fits head_is in
    let all = events_read (length rest) (alone head) head.own 0 0 rest (events, after) front.1 events_is in
    record { settings = front.0; own = all.0; rises = all.1 }

pub read_logs_are_logs : ReadLogsAreLogs
unfolding log_reading
read_logs_are_logs bytes log are e =
    from_field (log_header_at bytes) _ log e (λ head head_is e.
    from_then (events_at (length head.1) (alone head.0) head.0.own 0 0 head.1) _ log e (λ events events_is e.
    let whole = passed (eqb (length events.1) 0) (faults.Field refusals.Trailing) _ log e in
    let made : Logged = record { head = head.0; events = events.0 } in
    subst IsLog (value_is made log whole.1) (log_is bytes head.0 head.1 events.0 events.1 (bytes_at bytes are) head_is events_is)))
