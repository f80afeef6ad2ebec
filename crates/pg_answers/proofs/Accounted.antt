-- A record on the way that is certified segment by segment.
use Rattle.std.proofs.Common.{◌≡◌, ℕ, ◌+◌, ◌^◌, ◌<◌, List, [], ◌++◌, length, length-append, Option, Some, Ok, sym, subst, arith}
use Rattle.std.specs.Prelude.{Result}
use Rattle.pg_event.specs.declared.event.Event.{Event}
use Rattle.pg_event.specs.declared.version.Version.TheVariants.{Two}
use Rattle.pg_event.specs.Heads.{Head}
use Rattle.pg_event.specs.Spelling.{Recorded}
use Rattle.pg_codec.specs.declared.stream.Source.{Ghosts}
use Rattle.pg_codec.specs.declared.stage.Stage.{Stage}
use Rattle.pg_codec.specs.declared.stage.Stage.TheVariants.{Start}
use Rattle.pg_codec.specs.declared.error.ReadError.{ReadError}
use Rattle.pg_codec.specs.Reads.{Pulls}
use Rattle.pg_codec.specs.Readers.{stage_after_chunk, PullsHeader, PullsSegment, IsNext}
use Rattle.pg_event.specs.Reading.{header_at}
use Rattle.pg_certify.specs.Accounts.{Account, IsAccount, MayComeNext}
use Rattle.pg_report.specs.Going.{IsGoing}
use Rattle.pg_report.proofs.Continuing.{next_fits, going_on}
use Rattle.pg_answers.specs.Accounts.{IsAccounting}

-- a reader at the start pulls the header
pub pulled_at_start : {R : Type 0} (g : Ghosts R) (stage : Stage) (at after : List ℕ × R) (result : Result Head ReadError) → stage ≡ Start → PullsHeader g stage at after result → Pulls g header_at at after result
pulled_at_start g stage at after result is h = subst (λ (s : Stage). PullsHeader g s at after result) is h

module _ {R : Type 0} (g : Ghosts R) (start : Option (List ℕ)) (f : ℕ) where
  pub accounting_at_start : (at : List ℕ × R) (stage : Stage) (a : Account) (head : Head) → IsAccount a head [] → IsGoing g Two start f at stage (record { head = head; events = [] }) 0 → IsAccounting g start f at stage a 0
  accounting_at_start at stage a head known going = record {
    events = [];
    known = subst (λ (h : Head). IsAccount a h []) (sym known.certifying.settings) known;
    going = subst (λ (h : Head). IsGoing g Two start f at stage (record { head = h; events = [] }) 0) (sym known.certifying.settings) going;
  }

  -- a segment that comes next
  module _ (at after : List ℕ × R) (stage later : Stage) (a : Account) (segments : ℕ) (h : IsAccounting g start f at stage a segments) (items : List Event)
      (pulls : PullsSegment g stage at after (Ok (Some items))) (next : IsNext stage (Some items)) (e : later ≡ stage_after_chunk stage (Ok (Some items))) where
    pub going_further : IsGoing g Two start f after later (record { head = a.findings.kept.head; events = h.events ++ items }) (segments + 1)
    going_further =
        let r : Recorded = record { head = a.findings.kept.head; events = h.events } in
        going_on g Two start f at after stage r segments h.going items later pulls next e

    pub may_come : MayComeNext a items
    may_come =
        let r : Recorded = record { head = a.findings.kept.head; events = h.events } in
        let few : length (h.events ++ items) < 2 ^ 32 = going_further.few in
        record {
          before = h.events;
          account = h.known;
          next = record {
            before = h.events;
            certifying = h.known.certifying;
            well = (next_fits g Two start f at stage r segments h.going items next).well;
            limit = omega (arith, length-append h.events items, few);
          };
        }

    -- it was certified
    pub accounted : (a' : Account) → IsAccount a' a.findings.kept.head (h.events ++ items) → IsAccounting g start f after later a' (segments + 1)
    accounted a' known = record {
      events = h.events ++ items;
      known = subst (λ (x : Head). IsAccount a' x (h.events ++ items)) (sym known.certifying.settings) known;
      going = subst (λ (x : Head). IsGoing g Two start f after later (record { head = x; events = h.events ++ items }) (segments + 1)) (sym known.certifying.settings) going_further;
    }
