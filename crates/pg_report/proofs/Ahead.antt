-- A record on the way that is read window by window.
use Rattle.std.proofs.Common.{◌≡◌, ◌∙◌, inl, inr, ⊎_elim, append-nil, ℕ, ◌+◌, ◌%◌, ◌^◌, ◌<◌, ◌≤◌, Bool, true, false, List, [], ◌++◌, length, length-append, Option, Some, None, Ok, Err, refl, sym, ap, subst, arith}
use Rattle.std.proofs.lemmas.List.{append_assoc}
use Rattle.pg_event.specs.declared.event.Event.{Event}
use Rattle.pg_event.specs.declared.version.Version.TheVariants.{Two}
use Rattle.pg_event.specs.Heads.{Head}
use Rattle.pg_event.specs.Spelling.{Recorded}
use Rattle.pg_codec.specs.declared.stream.Source.{Ghosts}
use Rattle.pg_codec.specs.declared.stage.Stage.{Stage}
use Rattle.pg_codec.specs.declared.error.ReadError.{ReadError}
use Rattle.pg_codec.specs.Readers.{stage_after_chunk, PullsSegment, IsNext}
use Rattle.pg_check.specs.Judging.{Findings, IsJudged}
use Rattle.pg_check.specs.Kept.{AreWellFormed}
use Rattle.pg_check.proofs.Known.{AreWellFormed-append}
use Rattle.pg_report.specs.declared.error.AuditError.{AuditError}
use Rattle.pg_report.specs.declared.team.Team.{Team}
use Rattle.pg_report.specs.declared.error.AuditError.TheVariants as errors
use Rattle.pg_report.specs.Intake.{IsErrorOf}
use Rattle.pg_report.specs.Judging.{BeginsSegment, StopsJudging}
use Rattle.pg_report.specs.Going.{IsGoing}
use Rattle.pg_report.specs.Teams.{IsTeam, MayGoOn}
use Rattle.pg_report.specs.Windows.{GoesOn, IsAll, IsTeamJudging, IsTeamLast, IsWindow, ReadsWindow, with_more}
use Rattle.pg_report.proofs.Continuing.{next_fits, next_begins, going_on, going_ends, going_fails, end_counts, failure_counts}
use Rattle.pg_report.proofs.Windows.{error_judges, stopped_judges, stopped_counts}

-- so much of a window was read, in so many segments all in all
abbrev pub HasRead : {R : Type 0} → Ghosts R → Option (List ℕ) → ℕ → Recorded → ℕ → List ℕ × R → Stage → List Event → Type 0
HasRead g start f r segments at stage window = IsWindow r window × IsGoing g Two start f at stage (with_more r window) segments

-- a window that was read behind a run that was judged begins a segment
begins : (judged : Findings) (head : Head) (events window : List Event) → IsJudged judged head events → IsWindow (record { head = head; events = events }) window → BeginsSegment judged window
begins judged head events window is w =
    let whole : length events % head.segment ≡ 0 → judged.count % judged.head.segment ≡ 0 = (λ h.
    ap (λ (n : ℕ). n % judged.head.segment) is.count ∙ ap (λ (k : Head). length events % k.segment) is.settings ∙ h) in
    ⊎_elim (λ (none : window ≡ []). inl none) (λ (here : length events % head.segment ≡ 0). inr (whole here)) w.whole

-- what holds of so many segments holds of fewer
fewer : {R : Type 0} (g : Ghosts R) (start : Option (List ℕ)) (f : ℕ) (at : List ℕ × R) (stage : Stage) (r : Recorded) (segments : ℕ) → IsGoing g Two start f at stage r segments → (less : ℕ) → less ≤ segments
    → IsGoing g Two start f at stage r less
fewer g start f at stage r segments h less le = record {
  number = h.number;
  full = h.full;
  stage_is = h.stage_is;
  old = h.old;
  continues = h.continues;
  took = h.took;
  failed = h.failed;
  count = omega (arith, h.count, le);
  few = h.few;
  whole = h.whole;
}

module _ {R : Type 0} (g : Ghosts R) (start : Option (List ℕ)) (f : ℕ) (r : Recorded) (at : List ℕ × R) (stage : Stage) (segments : ℕ) where
  pub read_nothing : IsGoing g Two start f at stage r segments → HasRead g start f r segments at stage []
  read_nothing h =
      let few : length r.events < 2 ^ 32 = h.few in (
        record { well = tt; whole = inl refl; few = omega (arith, few) },
        subst (λ (es : List Event). IsGoing g Two start f at stage (record { head = r.head; events = es }) segments) (sym (append-nil r.events)) h,
      )

  module _ (window : List Event) (h : HasRead g start f r segments at stage window) where
    -- a segment that comes next is read too
    pub read_on : (after : List ℕ × R) (items : List Event) (later : Stage) → PullsSegment g stage at after (Ok (Some items)) → IsNext stage (Some items)
        → later ≡ stage_after_chunk stage (Ok (Some items)) → HasRead g start f r (segments + 1) after later (window ++ items)
    read_on after items later pulls next e =
        let fits = next_fits g Two start f at stage (with_more r window) segments h.1 items next in
        let on = going_on g Two start f at after stage (with_more r window) segments h.1 items later pulls next e in
        let all : length (r.events ++ window) % r.head.segment ≡ 0 = next_begins g Two start f at stage (with_more r window) segments h.1 items next in
        let begin : length r.events % r.head.segment ≡ 0 = ⊎_elim
        (λ (none : window ≡ []). ap (λ (n : ℕ). n % r.head.segment) (sym (ap length (ap (λ (es : List Event). r.events ++ es) none ∙ append-nil r.events))) ∙ all)
        (λ (here : length r.events % r.head.segment ≡ 0). here) h.0.whole in
        let few : length ((r.events ++ window) ++ items) < 2 ^ 32 = on.few in (
          record {
            well = AreWellFormed-append r.head window items h.0.well fits.well;
            whole = inr begin;
            few = omega (arith, few, length-append (r.events ++ window) items, length-append r.events window, length-append window items);
          },
          subst (λ (es : List Event). IsGoing g Two start f after later (record { head = r.head; events = es }) (segments + 1)) (append_assoc r.events window items) on,
        )

    -- and brings no more events than a segment holds
    pub segment_fits : (items : List Event) → IsNext stage (Some items) → length items ≤ r.head.segment
    segment_fits items next = (next_fits g Two start f at stage (with_more r window) segments h.1 items next).fits

    -- it is read further, of a list that has what was read
    pub read_further : (after : List ℕ × R) (items : List Event) (later : Stage) → PullsSegment g stage at after (Ok (Some items)) → IsNext stage (Some items)
        → later ≡ stage_after_chunk stage (Ok (Some items)) → (all : List Event) → all ≡ window ++ items → (count : ℕ) → count ≡ segments + 1 → HasRead g start f r count after later all
    read_further after items later pulls next e all is count so =
        subst (λ (es : List Event). HasRead g start f r count after later es) (sym is)
        (subst (λ (n : ℕ). HasRead g start f r n after later (window ++ items)) (sym so) (read_on after items later pulls next e))

    -- a window was read, and there is more
    pub window_read : (windows : ℕ) → windows + 1 ≤ segments → ReadsWindow g start f r windows at stage window (Ok true)
    window_read windows le = record {
      fits = h.0;
      goes = fewer g start f at stage (with_more r window) segments h.1 (windows + 1) le;
      fails = tt;
      device = h.1.failed;
    }

    -- an answer that memory is refused says nothing of the bytes
    pub window_refused : (windows : ℕ) (window' : List Event) → ReadsWindow g start f r windows at stage window' (Err errors.Memory)
    window_refused windows window' = record { fits = tt; goes = tt; fails = tt; device = h.1.failed }

    -- the record has ended
    pub window_ends : (windows : ℕ) (after : List ℕ × R) (later : Stage) → PullsSegment g stage at after (Ok None) → ReadsWindow g start f r windows after later window (Ok false)
    window_ends windows after later pulls = record {
      fits = h.0;
      goes = going_ends g Two start f at after stage (with_more r window) segments h.1 pulls;
      fails = tt;
      device = end_counts g Two start f at after stage (with_more r window) segments h.1 pulls;
    }

    -- the reader refused
    pub window_fails : (windows : ℕ) (after : List ℕ × R) (later : Stage) (window' : List Event) (e : ReadError) (x : AuditError) → IsErrorOf e x → PullsSegment g stage at after (Err e)
        → ReadsWindow g start f r windows after later window' (Err x)
    window_fails windows after later window' e x is pulls = record {
      fits = tt;
      goes = tt;
      fails = error_judges start e x is (going_fails g Two start f at after stage (with_more r window) segments h.1 e x is pulls);
      device = failure_counts g Two start f at after stage (with_more r window) segments h.1 e x is pulls;
    }

module _ {R : Type 0} (g : Ghosts R) (start : Option (List ℕ)) (f : ℕ) (at : List ℕ × R) (stage : Stage) (windows : ℕ) where
  -- the window was judged and the next was read
  pub goes_on : (head : Head) (events next : List Event) (team : Team) → IsTeam team head events → (more : Bool) → ReadsWindow g start f (record { head = head; events = events }) windows at stage next (Ok more)
      → GoesOn g start f at stage next (windows + 1) (Ok (team, more))
  goes_on head events next team is true reads =
      let settings : team.judged.head ≡ head = is.judged.settings in
      let alike : IsTeam team team.judged.head events = subst (λ (k : Head). IsTeam team k events) (sym settings) is in
      record {
        waits = record {
          judging = record {
            before = events;
            judges = alike.judged;
            well = subst (λ (k : Head). AreWellFormed k next) (sym settings) reads.fits.well;
            whole = begins team.judged head events next is.judged reads.fits;
            going = subst (λ (k : Head). IsGoing g Two start f at stage (record { head = k; events = events ++ next }) (windows + 1)) (sym settings) reads.goes;
          };
          alike = alike;
        };
        fails = tt;
        device = reads.device;
      }
  goes_on head events next team is false reads =
      let settings : team.judged.head ≡ head = is.judged.settings in
      let alike : IsTeam team team.judged.head events = subst (λ (k : Head). IsTeam team k events) (sym settings) is in
      record {
        waits = record {
          last = record {
            before = events;
            judges = alike.judged;
            fits = subst (λ (k : Head). IsWindow (record { head = k; events = events }) next) (sym settings) reads.fits;
            all = subst (λ (k : Head). IsAll start (record { head = k; events = events ++ next })) (sym settings) reads.goes;
          };
          alike = alike;
        };
        fails = tt;
        device = reads.device;
      }

  -- judging stopped, and the next window was read
  pub stops : (r : Recorded) (next : List Event) (more : Bool) → ReadsWindow g start f r windows at stage next (Ok more) → (e : AuditError) → StopsJudging e → GoesOn g start f at stage next (windows + 1) (Err e)
  stops r next more reads e stop = record { waits = tt; fails = stopped_judges start e stop; device = stopped_counts e f (g.failed at.1) stop reads.device }

  -- the next window was refused
  pub next_fails : (r : Recorded) (next : List Event) (e : AuditError) → ReadsWindow g start f r windows at stage next (Err e) → GoesOn g start f at stage next (windows + 1) (Err e)
  next_fails r next e reads = record { waits = tt; fails = reads.fails; device = reads.device }

  -- the window that waits may be judged
  pub may_go_on : (team : Team) (window : List Event) → IsTeamJudging g start f at stage team window windows → MayGoOn team window
  may_go_on team window h =
      let few : length (h.judging.before ++ window) < 2 ^ 32 = h.judging.going.few in
      record {
        before = h.judging.before;
        team = h.alike;
        well = h.judging.well;
        limit = omega (arith, length-append h.judging.before window, few);
        whole = h.judging.whole;
      }

-- the last window may be judged
pub last_follows : (start : Option (List ℕ)) (team : Team) (window : List Event) → IsTeamLast start team window → MayGoOn team window
last_follows start team window h = record {
  before = h.last.before;
  team = h.alike;
  well = h.last.fits.well;
  limit = h.last.fits.few;
  whole = begins team.judged team.judged.head h.last.before window h.last.judges h.last.fits;
}

-- nothing was judged yet
pub team_at_start : {R : Type 0} (g : Ghosts R) (start : Option (List ℕ)) (f : ℕ) (at : List ℕ × R) (stage : Stage) (team : Team) (head : Head) → IsTeam team head []
    → IsGoing g Two start f at stage (record { head = head; events = [] }) 0 → IsTeamJudging g start f at stage team [] 0
team_at_start g start f at stage team head is going =
    let alike : IsTeam team team.judged.head [] = subst (λ (k : Head). IsTeam team k []) (sym is.judged.settings) is in
    record {
      judging = record {
        before = [];
        judges = alike.judged;
        well = tt;
        whole = inl refl;
        going = subst (λ (k : Head). IsGoing g Two start f at stage (record { head = k; events = [] }) 0) (sym is.judged.settings) going;
      };
      alike = alike;
    }
