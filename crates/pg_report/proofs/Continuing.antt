-- How a record is read: the header, the segments, the end.
use Rattle.std.proofs.Common.{◌≡◌, ℕ, ◌+◌, ◌%◌, ◌^◌, ◌<◌, ◌≤◌, arith, length-append, Bool, true, ◌==◌, List, [], ◌++◌, length, Option, Some, None, Ok, Err, refl, sym, ap, subst, ◌∙◌, append-nil, false, cond, Result}
use Rattle.std.specs.Prelude.{IfSome}
use Rattle.std.proofs.Math.Nat.{zero-mod, add-mod_right}
use Rattle.std.proofs.lemmas.Bool.{eqb-true}
use Rattle.pg_event.specs.declared.event.Event.{Event}
use Rattle.pg_event.specs.declared.refusal.Refusal.{Refusal}
use Rattle.pg_event.specs.Heads.{Head}
use Rattle.pg_event.specs.Spelling.{Recorded, Spells}
use Rattle.pg_event.specs.Reading.{Part, header_at, reading, refusal, refusal_of}
use Rattle.pg_event.specs.Laws.{AreBytes}
use Rattle.pg_event.proofs.Spellings.{spelling_of_reading}
use Rattle.pg_codec.specs.declared.error.ReadError.{ReadError}
use Rattle.pg_codec.specs.declared.error.ReadError.TheVariants as reads
use Rattle.pg_codec.specs.Parts.{closed_chunk_at}
use Rattle.pg_codec.specs.declared.stream.Source.{Ghosts}
use Rattle.pg_codec.specs.Streams.{raised}
use Rattle.pg_codec.specs.Reads.{is_device as device_of, left_of, left_in, Reads, Took, Pulls}
use Rattle.pg_codec.specs.declared.stage.Stage.{Stage}
use Rattle.pg_codec.specs.declared.stage.Stage.TheVariants.{Segments, Start}
use Rattle.pg_codec.specs.Readers.{Reader, behind_header, stage_after_chunk, MayReadSegment, PullsSegment, IsSegment, IsNext}
use Rattle.pg_codec.proofs.Going.{took_then}
use Rattle.pg_event.specs.declared.version.Version.{Version}
use Rattle.pg_event.specs.declared.version.Version.TheVariants as versions
use Rattle.pg_event.specs.declared.refusal.Refusal.TheVariants as refusals
use Rattle.pg_codec.specs.Parts.{is_two, version_said}
use Rattle.pg_report.specs.declared.error.AuditError.{AuditError}
use Rattle.pg_report.specs.declared.error.AuditError.TheVariants as errors
use Rattle.pg_report.specs.Intake.{IsErrorOf, header_up_to, is_too_new, refusal_up_to, ReadsRecord, is_device}
use Rattle.pg_report.proofs.Chunks.{reading_of_bad_header}
use Rattle.pg_report.specs.Going.{IsReading, Continues, IsGoing}
use Rattle.pg_report.proofs.Whole.{reading_at_start, reading_after_segment, reading_ends, reading_fails}

pub from_fresh : (left : Option (List ℕ)) → left_of [] left ≡ left
unfolding left_of
from_fresh None = refl
from_fresh (Some bytes) = refl

pub continues_at_start : (head : Head) (start left : Option (List ℕ)) → Reads start left (Ok head) header_at → Took start left → Continues head [] 0 true start left
continues_at_start head None left h took = tt
continues_at_start head (Some bytes) None h took = absurd h
continues_at_start head (Some bytes) (Some left) h took = reading_at_start head bytes left took.0 h took.2

pub continues_after_segment : (head : Head) (front segment : List Event) (number : ℕ) (full : Bool) (start left after : Option (List ℕ)) → Continues head front number full start left
    → Reads left after (Ok (Some segment)) (closed_chunk_at head number (length front) full) → Continues head (front ++ segment) (number + 1) (length segment == head.segment) start after
continues_after_segment head front segment number full None left after c h = tt
continues_after_segment head front segment number full (Some bytes) None after c h = absurd c
continues_after_segment head front segment number full (Some bytes) (Some left) None c h = absurd h
continues_after_segment head front segment number full (Some bytes) (Some left) (Some after) c h = reading_after_segment head front segment number full bytes left after c h

spells : (head : Head) (front : List Event) (number : ℕ) (full : Bool) (bytes left after text : List ℕ) → IsReading head front number full bytes left
    → closed_chunk_at head number (length front) full left ≡ Ok (None, after) → AreBytes text → bytes ≡ text ++ after → Spells bytes (record { head = head; events = front })
spells head front number full bytes left after text c h are parts =
    let e = reading_ends head front number full bytes left after c h in
    let whole : bytes ≡ text = parts ∙ ap (λ (l : List ℕ). text ++ l) e.0 ∙ append-nil text in
    spelling_of_reading bytes (record { head = head; events = front }) (subst AreBytes (sym whole) are) e.1

pub read_at_end : (head : Head) (front : List Event) (number : ℕ) (full : Bool) (start left after : Option (List ℕ)) → Continues head front number full start left
    → Reads left after (Ok None) (closed_chunk_at head number (length front) full) → Took start after → IfSome start (λ bytes. Spells bytes (record { head = head; events = front }))
read_at_end head front number full None left after c h took = tt
read_at_end head front number full (Some bytes) None after c h took = absurd c
read_at_end head front number full (Some bytes) (Some left) None c h took = absurd h
read_at_end head front number full (Some bytes) (Some left) (Some after) c h took = spells head front number full bytes left after took.0 c h took.1 took.2

refused : (bytes : List ℕ) (e : Refusal) → reading bytes ≡ Err e → refusal bytes ≡ Some e
refused bytes e h = ap refusal_of h

-- a refusal of bytes that are not too new
not_new : (newest : Version) (bytes : List ℕ) (e : Refusal) → is_too_new newest bytes ≡ false → refusal bytes ≡ Some e → refusal_up_to newest bytes ≡ Some e
not_new newest bytes e old h = ap (λ (b : Bool). cond b (Some refusals.Version) (refusal bytes)) old ∙ h

-- an error of a reader, as an audit gives it
error_reads : (newest : Version) (bytes : List ℕ) (e : ReadError) (x : AuditError) → IsErrorOf e x → ((d : Refusal) → e ≡ reads.Refused d → refusal_up_to newest bytes ≡ Some d) → ReadsRecord newest bytes (Err x)
error_reads newest bytes (reads.Refused d) x is first = subst (λ (y : AuditError). ReadsRecord newest bytes (Err y)) (sym is) (first d refl)
error_reads newest bytes reads.Device x is first = subst (λ (y : AuditError). ReadsRecord newest bytes (Err y)) (sym is) tt
error_reads newest bytes reads.Memory x is first = subst (λ (y : AuditError). ReadsRecord newest bytes (Err y)) (sym is) tt
error_reads newest bytes reads.Failed x is first = absurd is

-- the count of failures, through an error
pub error_counts : (e : ReadError) (x : AuditError) (old new : ℕ) → IsErrorOf e x → (new ≡ cond (device_of e) (raised old) old) → new ≡ cond (is_device x) (raised old) old
error_counts (reads.Refused d) x old new is h = subst (λ (y : AuditError). new ≡ cond (is_device y) (raised old) old) (sym is) h
error_counts reads.Device x old new is h = subst (λ (y : AuditError). new ≡ cond (is_device y) (raised old) old) (sym is) h
error_counts reads.Memory x old new is h = subst (λ (y : AuditError). new ≡ cond (is_device y) (raised old) old) (sym is) h
error_counts reads.Failed x old new is h = absurd is

-- ---- the header

take_test : (b : Bool) (d : Refusal) (part : Part Head) (x : Head × List ℕ) → cond b (Err d) part ≡ Ok x → (b ≡ false) × (part ≡ Ok x)
take_test true d part x h = absurd cc
take_test false d part x h = (refl, h)

header_read : (newest : Version) (bytes : List ℕ) (x : Head × List ℕ) → header_up_to newest bytes ≡ Ok x → (is_too_new newest bytes ≡ false) × (header_at bytes ≡ Ok x)
header_read versions.One bytes x h = take_test (is_two (version_said bytes)) refusals.Version (header_at bytes) x h
header_read versions.Two bytes x h = (refl, h)

test_fails : (b : Bool) (bytes : List ℕ) (e : Refusal) → cond b (Err refusals.Version) (header_at bytes) ≡ Err e → cond b (Some refusals.Version) (refusal bytes) ≡ Some e
test_fails true bytes e h = ap refusal_of (same h)
  where
    same : {A B : Type 0} {d e : Refusal} → ◌≡◌ {A = Result A Refusal} (Err d) (Err e) → ◌≡◌ {A = Result B Refusal} (Err d) (Err e)
    same h = cc
test_fails false bytes e h = refused bytes e (reading_of_bad_header bytes e h)

header_refused : (newest : Version) (bytes : List ℕ) (e : Refusal) → header_up_to newest bytes ≡ Err e → refusal_up_to newest bytes ≡ Some e
header_refused versions.One bytes e h = test_fails (is_two (version_said bytes)) bytes e h
header_refused versions.Two bytes e h = refused bytes e (reading_of_bad_header bytes e h)

-- a refusal of what is read is that of the part
refusal_is : {A : Type 0} (e : ReadError) (d : Refusal) (bytes : List ℕ) (after : Option (List ℕ)) (read : List ℕ → Part A) → e ≡ reads.Refused d → Reads (Some bytes) after (Err e) read → read bytes ≡ Err d
refusal_is e d bytes after read is h = subst (λ (f : ReadError). Reads (Some bytes) after (Err f) read) is h

pub header_fails : (newest : Version) (start after : Option (List ℕ)) (e : ReadError) (x : AuditError) → IsErrorOf e x → Reads start after (Err e) (header_up_to newest) → IfSome start (λ bytes. ReadsRecord newest bytes (Err x))
header_fails newest None after e x is h = tt
header_fails newest (Some bytes) after e x is h = error_reads newest bytes e x is (λ d same. header_refused newest bytes d (refusal_is e d bytes after (header_up_to newest) same h))

pub header_not_new : (newest : Version) (head : Head) (start after : Option (List ℕ)) → Reads start after (Ok head) (header_up_to newest) → IfSome start (λ bytes. is_too_new newest bytes ≡ false) × Reads start after (Ok head) header_at
header_not_new newest head None after h = (tt, tt)
header_not_new newest head (Some bytes) None h = absurd h
header_not_new newest head (Some bytes) (Some rest) h = header_read newest bytes (head, rest) h

-- ---- the segments and the end

fails_at : (newest : Version) (head : Head) (front : List Event) (number : ℕ) (full : Bool) (bytes left : List ℕ) (after : Option (List ℕ)) (e : ReadError) (x : AuditError) → IsErrorOf e x
    → is_too_new newest bytes ≡ false → IsReading head front number full bytes left → Reads (Some left) after (Err e) (closed_chunk_at head number (length front) full) → ReadsRecord newest bytes (Err x)
fails_at newest head front number full bytes left after e x is old c h =
    error_reads newest bytes e x is (λ d same. not_new newest bytes d old (refused bytes d (reading_fails head front number full bytes left d c (refusal_is e d left after (closed_chunk_at head number (length front) full) same h))))

read_fails : (newest : Version) (head : Head) (front : List Event) (number : ℕ) (full : Bool) (start left after : Option (List ℕ)) (e : ReadError) (x : AuditError) → IsErrorOf e x
    → IfSome start (λ bytes. is_too_new newest bytes ≡ false) → Continues head front number full start left → Reads left after (Err e) (closed_chunk_at head number (length front) full)
    → IfSome start (λ bytes. ReadsRecord newest bytes (Err x))
read_fails newest head front number full None left after e x is old c h = tt
read_fails newest head front number full (Some bytes) None after e x is old c h = absurd c
read_fails newest head front number full (Some bytes) (Some left) after e x is old c h = fails_at newest head front number full bytes left after e x is old c h

both : (newest : Version) (start : Option (List ℕ)) (r : Recorded) → IfSome start (λ bytes. is_too_new newest bytes ≡ false) → IfSome start (λ bytes. Spells bytes r) → IfSome start (λ bytes. ReadsRecord newest bytes (Ok r))
both newest None r old spelled = tt
both newest (Some bytes) r old spelled = (spelled, old)

-- an answer that memory is refused says nothing of the bytes
pub memory_reads : (newest : Version) (start : Option (List ℕ)) → IfSome start (λ bytes. ReadsRecord newest bytes (Err errors.Memory))
memory_reads newest None = tt
memory_reads newest (Some bytes) = tt

-- a reader that has read nothing
abbrev fresh : Reader
fresh = record { unread = []; stage = Start }

module _ {R : Type 0} (g : Ghosts R) (newest : Version) (start : Option (List ℕ)) (f : ℕ) where
  pub going_at_start : (head : Head) (at : List ℕ × R) (stage : Stage) → Reads start (left_in g at) (Ok head) (header_up_to newest) → Took start (left_in g at) → stage ≡ behind_header head → g.failed at.1 ≡ f
      → IsGoing g newest start f at stage (record { head = head; events = [] }) 0
  going_at_start head at stage h took e same =
      let known = header_not_new newest head start (left_in g at) h in
      record { number = 0; full = true; stage_is = e; old = known.0; continues = continues_at_start head start (left_in g at) known.1 took; took = took; failed = same; count = omega arith; few = omega arith; whole = λ _. zero-mod head.segment }

  pub next_fits : (at : List ℕ × R) (stage : Stage) (r : Recorded) (segments : ℕ) → IsGoing g newest start f at stage r segments → (items : List Event) → IsNext stage (Some items)
      → IsSegment (record { header = r.head; number = 0; before = length r.events; full = true }) items
  next_fits at stage r segments h items n =
      let P : Stage → Type 0 = λ s. IsNext s (Some items) in
      let here = (subst P h.stage_is n).1 in
      record { some = here.some; fits = here.fits; limit = here.limit; well = here.well }

  -- behind the events that were read a segment may begin
  pub next_begins : (at : List ℕ × R) (stage : Stage) (r : Recorded) (segments : ℕ) → IsGoing g newest start f at stage r segments → (items : List Event) → IsNext stage (Some items)
      → length r.events % r.head.segment ≡ 0
  next_begins at stage r segments h items n =
      let P : Stage → Type 0 = λ s. IsNext s (Some items) in
      h.whole (subst P h.stage_is n).0

  module _ (at after : List ℕ × R) (stage : Stage) (r : Recorded) (segments : ℕ) (h : IsGoing g newest start f at stage r segments) where
    pulled : (result : Result (Option (List Event)) ReadError) → PullsSegment g stage at after result → Pulls g (closed_chunk_at r.head h.number (length r.events) h.full) at after result
    pulled result pulls = subst (λ (s : Stage). PullsSegment g s at after result) h.stage_is pulls

    pub going_on : (items : List Event) (later : Stage) → PullsSegment g stage at after (Ok (Some items)) → IsNext stage (Some items)
        → later ≡ stage_after_chunk stage (Ok (Some items)) → IsGoing g newest start f after later (record { head = r.head; events = r.events ++ items }) (segments + 1)
    going_on items later pulls next e =
        let here = pulled (Ok (Some items)) pulls in
        let fits = next_fits at stage r segments h items next in
        let some : 1 ≤ length items = fits.some in
        let limit : length r.events + length items < 2 ^ 32 = fits.limit in
        let len : length r.events + length items ≡ length (r.events ++ items) = sym (length-append r.events items) in
        let moved : later ≡ Segments (record { header = r.head; number = h.number + 1; before = length r.events + length items; full = length items == r.head.segment }) =
        e ∙ ap (λ (s : Stage). stage_after_chunk s (Ok (Some items))) h.stage_is in
        record {
          number = h.number + 1;
          full = length items == r.head.segment;
          stage_is = moved ∙ ap (λ (n : ℕ). Segments (record { header = r.head; number = h.number + 1; before = n; full = length items == r.head.segment })) len;
          old = h.old;
          continues = continues_after_segment r.head r.events items h.number h.full start (left_in g at) (left_in g after) h.continues here.reads;
          took = took_then start (left_in g at) (left_in g after) h.took here.took;
          failed = here.device ∙ h.failed;
          count = omega (arith, some, limit, len, h.count);
          few = omega (arith, some, limit, len);
          whole = λ full.
              let size : length items ≡ r.head.segment = eqb-true (length items) r.head.segment full in
              ap (λ (n : ℕ). n % r.head.segment) (sym len ∙ ap (λ (n : ℕ). length r.events + n) size) ∙ add-mod_right (length r.events) r.head.segment ∙ next_begins at stage r segments h items next;
        }

    pub going_ends : PullsSegment g stage at after (Ok None) → IfSome start (λ bytes. ReadsRecord newest bytes (Ok r))
    going_ends pulls =
        let here = pulled (Ok None) pulls in
        both newest start r h.old (read_at_end r.head r.events h.number h.full start (left_in g at) (left_in g after) h.continues here.reads (took_then start (left_in g at) (left_in g after) h.took here.took))

    pub end_counts : PullsSegment g stage at after (Ok None) → g.failed after.1 ≡ f
    end_counts pulls = (pulled (Ok None) pulls).device ∙ h.failed

    pub going_fails : (e : ReadError) (x : AuditError) → IsErrorOf e x → PullsSegment g stage at after (Err e) → IfSome start (λ bytes. ReadsRecord newest bytes (Err x))
    going_fails e x is pulls = read_fails newest r.head r.events h.number h.full start (left_in g at) (left_in g after) e x is h.old h.continues (pulled (Err e) pulls).reads

    pub failure_counts : (e : ReadError) (x : AuditError) → IsErrorOf e x → PullsSegment g stage at after (Err e) → g.failed after.1 ≡ cond (is_device x) (raised f) f
    failure_counts e x is pulls =
        error_counts e x f (g.failed after.1) is (subst (λ (n : ℕ). g.failed after.1 ≡ cond (device_of e) (raised n) n) h.failed (pulled (Err e) pulls).device)

    pub not_refused : (e : ReadError) → PullsSegment g stage at after (Err e) → e ≡ reads.Failed → ⊥
    not_refused e pulls is = (pulled (Err e) pulls).live (ap (λ (x : ReadError). Err x) is)

    pub going_may_read : MayReadSegment stage
    going_may_read = subst MayReadSegment (sym h.stage_is) tt

fresh_left : (r : Reader) (left : Option (List ℕ)) → r ≡ fresh → left_of r.unread left ≡ left
fresh_left r left e = ap (λ (x : Reader). left_of x.unread left) e ∙ from_fresh left

module _ {R : Type 0} (g : Ghosts R) (newest : Version) (r : Reader) (source : R) (after : List ℕ × R) (is : r ≡ fresh) where
  -- a header that is refused is refused of all that the source had
  pub fresh_header_fails : (e : ReadError) (x : AuditError) → IsErrorOf e x → Pulls g (header_up_to newest) (r.unread, source) after (Err e) → IfSome (g.left source) (λ bytes. ReadsRecord newest bytes (Err x))
  fresh_header_fails e x same pulls =
      let P : Option (List ℕ) → Type 0 = λ l. Reads l (left_in g after) (Err e) (header_up_to newest) in
      header_fails newest (g.left source) (left_in g after) e x same (subst P (fresh_left r (g.left source) is) pulls.reads)

  pub going_from_fresh : (head : Head) (stage : Stage) → Pulls g (header_up_to newest) (r.unread, source) after (Ok head) → stage ≡ behind_header head → (h : Recorded) → h ≡ record { head = head; events = [] }
      → IsGoing g newest (g.left source) (g.failed source) after stage h 0
  going_from_fresh head stage pulls e h h-is =
      let P : Option (List ℕ) → Type 0 = λ l. Reads l (left_in g after) (Ok head) (header_up_to newest) in
      let Q : Option (List ℕ) → Type 0 = λ l. Took l (left_in g after) in
      let G : Recorded → Type 0 = λ x. IsGoing g newest (g.left source) (g.failed source) after stage x 0 in
      let same = fresh_left r (g.left source) is in
      subst G (sym h-is) (going_at_start g newest (g.left source) (g.failed source) head after stage (subst P same pulls.reads) (subst Q same pulls.took) e pulls.device)
