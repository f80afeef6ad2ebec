-- The trace of a record that was judged: a rejected event is marked.
use Rattle.std.specs.Prelude.{◌≡◌, ℕ, List, Option, Some, None}
use Rattle.pg_event.specs.declared.event.Reason.{Reason}
use Rattle.pg_event.specs.Spelling.{Recorded}
use Rattle.pg_event.specs.Witness.{first_bad}
use Rattle.pg_certify.specs.Certified.{CanBeCertified, IsDenied}
use Rattle.pg_explain.specs.declared.denial.Denial.{Denial}
use Rattle.pg_explain.specs.declared.explainer.Explanation.{Explanation}
use Rattle.pg_explain.specs.Denied.{IsDenialOf}
use Rattle.pg_explain.specs.Explained.{IsExplained}
use Rattle.pg_show_trace.specs.declared.judged.Traced.{Traced}
use Rattle.pg_show_trace.specs.declared.judged.Traced.TheVariants.{Accepted, Rejected}
use Rattle.pg_show_trace.specs.Marks.{Marking, explanation_mark, denial_mark}
use Rattle.pg_show_trace.specs.Texts.{trace_text}

-- a record is rejected where an event is marked
abbrev pub traced_of : Option Marking → Traced
traced_of None = Accepted
traced_of (Some m) = Rejected

-- some moments witness all events, and none is marked; or event n is the least that none do, and
-- is marked with why
abbrev pub IsDenialMark : Recorded → Option Marking → Type 0
IsDenialMark r None = CanBeCertified r.head r.events
IsDenialMark r (Some m) =
    (n : ℕ) × IsDenied r.head r.events n
    × (x : Denial) × IsDenialOf r.head r.events n x × (m ≡ denial_mark r.events x)

-- this marks event n, which its moments do not witness, with why
abbrev pub IsMarkOf : Recorded → ℕ → Marking → Type 0
IsMarkOf r n m =
    (x : Explanation) × IsExplained r.head r.events n x × (m ≡ explanation_mark r.events x)

-- their own moments witness all events; or event n is the first that they do not
abbrev pub IsBadMark : Recorded → Option Marking → Type 0
IsBadMark r None = first_bad r.head r.events ≡ None
IsBadMark r (Some m) =
    (n : ℕ) × (reason : Reason) × (first_bad r.head r.events ≡ Some (n, reason)) × IsMarkOf r n m

-- the trace of a record with such a mark
abbrev pub IsMarkedTrace : (Recorded → Option Marking → Type 0) → Recorded → Traced → List ℕ →
    Type 0
IsMarkedTrace IsMark r x text =
    (mark : Option Marking) × IsMark r mark × (x ≡ traced_of mark)
    × (text ≡ trace_text None mark r)

abbrev pub IsCertifiedTrace : Recorded → Traced → List ℕ → Type 0
IsCertifiedTrace = IsMarkedTrace IsDenialMark

abbrev pub IsExplainedTrace : Recorded → Traced → List ℕ → Type 0
IsExplainedTrace = IsMarkedTrace IsBadMark
