-- A record on the way that is judged window by window.
use Rattle.std.proofs.Common.{◌≡◌, cond, inl, inr, ⊎_elim, append-nil, ℕ, ◌+◌, ◌%◌, ◌^◌, ◌<◌, List, [], ◌++◌, length, length-append, Option, Some, Ok, Err, refl, sym, ap, subst, ◌∙◌, arith}
use Rattle.std.specs.Prelude.{IfSome}
use Rattle.std.proofs.lemmas.List.{append_assoc}
use Rattle.pg_event.specs.declared.event.Event.{Event}
use Rattle.pg_event.specs.declared.version.Version.TheVariants.{Two}
use Rattle.pg_event.specs.Heads.{Head}
use Rattle.pg_event.specs.Spelling.{Recorded}
use Rattle.pg_codec.specs.declared.stream.Source.{Ghosts}
use Rattle.pg_codec.specs.declared.stage.Stage.{Stage}
use Rattle.pg_codec.specs.Readers.{stage_after_chunk, PullsSegment, IsNext}
use Rattle.pg_check.specs.Judging.{Findings, IsJudged, MayFollow}
use Rattle.pg_check.specs.Kept.{AreWellFormed}
use Rattle.pg_check.proofs.Known.{AreWellFormed-append}
use Rattle.pg_codec.specs.Streams.{raised}
use Rattle.pg_report.specs.declared.error.AuditError.{AuditError}
use Rattle.pg_report.specs.declared.error.AuditError.TheVariants as errors
use Rattle.pg_codec.specs.declared.error.ReadError.{ReadError}
use Rattle.pg_codec.specs.declared.error.ReadError.TheVariants as reads
use Rattle.pg_report.specs.Intake.{IsErrorOf, ReadsRecord, is_device}
use Rattle.pg_report.specs.Judging.{BeginsSegment, StopsJudging, JudgesRecord, IsMovedOn}
use Rattle.pg_report.specs.Going.{IsGoing, IsJudging}
use Rattle.pg_report.proofs.Continuing.{next_fits, next_begins, going_on}

-- where judging stops nothing is said of the bytes, and no device failed
pub stopped_judges : (left : Option (List ℕ)) (e : AuditError) → StopsJudging e → JudgesRecord left (Err e)
stopped_judges left errors.Memory stops = tt
stopped_judges left errors.Thread stops = tt
stopped_judges left (errors.Refused d) stops = absurd stops
stopped_judges left errors.Device stops = absurd stops
stopped_judges left errors.Checkers stops = absurd stops

-- an error of a reader
pub error_judges : (left : Option (List ℕ)) (e : ReadError) (x : AuditError) → IsErrorOf e x → IfSome left (λ bytes. ReadsRecord Two bytes (Err x)) → JudgesRecord left (Err x)
error_judges left (reads.Refused d) x is h =
    subst (λ (y : AuditError). JudgesRecord left (Err y)) (sym is) (subst (λ (y : AuditError). IfSome left (λ bytes. ReadsRecord Two bytes (Err y))) is h)
error_judges left reads.Device x is h = subst (λ (y : AuditError). JudgesRecord left (Err y)) (sym is) tt
error_judges left reads.Memory x is h = subst (λ (y : AuditError). JudgesRecord left (Err y)) (sym is) tt
error_judges left reads.Failed x is h = absurd is

pub stopped_counts : (e : AuditError) (old new : ℕ) → StopsJudging e → new ≡ old → new ≡ cond (is_device e) (raised old) old
stopped_counts errors.Memory old new stops same = same
stopped_counts errors.Thread old new stops same = same
stopped_counts (errors.Refused d) old new stops same = absurd stops
stopped_counts errors.Device old new stops same = absurd stops
stopped_counts errors.Checkers old new stops same = absurd stops

module _ {R : Type 0} (g : Ghosts R) (start : Option (List ℕ)) (f : ℕ) where
  pub judging_at_start : (at : List ℕ × R) (stage : Stage) (judged : Findings) (head : Head) → IsJudged judged head [] → IsGoing g Two start f at stage (record { head = head; events = [] }) 0 → IsJudging g start f at stage judged [] 0
  judging_at_start at stage judged head judges going = record {
    before = [];
    judges = subst (λ (h : Head). IsJudged judged h []) (sym judges.settings) judges;
    well = tt;
    whole = inl refl;
    going = subst (λ (h : Head). IsGoing g Two start f at stage (record { head = h; events = [] }) 0) (sym judges.settings) going;
  }

  module _ (at : List ℕ × R) (stage : Stage) (judged : Findings) (window : List Event) (segments : ℕ) (h : IsJudging g start f at stage judged window segments) where
    -- the window may be judged
    pub may_follow : MayFollow judged window
    may_follow =
        let few : length (h.before ++ window) < 2 ^ 32 = h.going.few in
        record { before = h.before; judged = h.judges; well = h.well; limit = omega (arith, length-append h.before window, few) }

    -- a segment that comes next waits in the window
    pub longer : (after : List ℕ × R) (items : List Event) (later : Stage) → PullsSegment g stage at after (Ok (Some items)) → IsNext stage (Some items)
        → later ≡ stage_after_chunk stage (Ok (Some items)) → IsJudging g start f after later judged (window ++ items) (segments + 1)
    longer after items later pulls next e =
        let r : Recorded = record { head = judged.head; events = h.before ++ window } in
        let fits = next_fits g Two start f at stage r segments h.going items next in
        let on = going_on g Two start f at after stage r segments h.going items later pulls next e in
        let all : length (h.before ++ window) % judged.head.segment ≡ 0 = next_begins g Two start f at stage r segments h.going items next in
        let begins : BeginsSegment judged window → judged.count % judged.head.segment ≡ 0 = (λ b. ⊎_elim
        (λ none. ap (λ (n : ℕ). n % judged.head.segment) (h.judges.count ∙ sym (ap length (ap (λ (es : List Event). h.before ++ es) none ∙ append-nil h.before))) ∙ all)
        (λ (here : judged.count % judged.head.segment ≡ 0). here) b) in
        record {
          before = h.before;
          judges = h.judges;
          well = AreWellFormed-append judged.head window items h.well fits.well;
          whole = inr (begins h.whole);
          going = subst (λ (es : List Event). IsGoing g Two start f after later (record { head = judged.head; events = es }) (segments + 1)) (append_assoc h.before window items) on;
        }

    -- a window that was judged, or not yet
    pub moved_on : (judged' : Findings) (window' : List Event) → IsMovedOn judged' judged.head (h.before ++ window) window' → BeginsSegment judged' window' → IsJudging g start f at stage judged' window' segments
    moved_on judged' window' m whole = record {
      whole = whole;
      before = m.before;
      judges = subst (λ (h : Head). IsJudged judged' h m.before) (sym m.judged.settings) m.judged;
      well = subst (λ (h : Head). AreWellFormed h window') (sym m.judged.settings) m.well;
      going = subst (λ (h : Head). IsGoing g Two start f at stage (record { head = h; events = m.before ++ window' }) segments) (sym m.judged.settings) (subst (λ (es : List Event). IsGoing g Two start f at stage (record { head = judged.head; events = es }) segments) m.all h.going);
    }
