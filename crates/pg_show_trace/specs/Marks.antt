-- What is marked of a rejection: the rejected event, why it is, and the events that led to it:
-- those that wrote the entries of its walk, down to the first that is no table; the one by which a
-- cached entry had to go; and, where there is none, the one after which no moments witness it.
use Rattle.std.specs.Prelude.{ℕ, List, [], ◌∷◌, ◌++◌, Option, Some, None, codes}
use Rattle.std.specs.Prelude.{slice_get, string_bytes}
use Rattle.std.specs.List.{flat_map}
use Rattle.pg_event.specs.declared.event.Event.{Event}
use Rattle.pg_event.specs.Form.{processor_of}
use Rattle.pg_explain.specs.declared.denial.Denial.{Denial}
use Rattle.pg_explain.specs.declared.entry.WalkEntry.{WalkEntry}
use Rattle.pg_explain.specs.declared.explainer.Explanation.{Explanation}
use Rattle.pg_explain.specs.Denied.{denial_text}
use Rattle.pg_explain.specs.Findings.{reason_of, dropper}
use Rattle.pg_explain.specs.Lasts.{taker}
use Rattle.pg_explain.specs.Line.{processor_at}
use Rattle.pg_explain.specs.Text.{explanation_text}
use Rattle.pg_explain.specs.Walk.{down_to_end}
use Rattle.pg_report.specs.Text.{reason_name}
use Rattle.pg_search.specs.declared.last.Last.{Last}
use Rattle.pg_show_trace.specs.declared.mark.Cause.{Cause}
use Rattle.pg_show_trace.specs.declared.mark.Cause.TheVariants.{Moments, NoMoments, NoOrder}
use Rattle.pg_show_trace.specs.declared.mark.Mark.{Mark}
use Rattle.pg_show_trace.specs.declared.mark.Role.{Role}
use Rattle.pg_show_trace.specs.declared.mark.Role.TheVariants as roles
use Rattle.pg_show_trace.specs.declared.mark.Source.{Source}

abbrev pub cause_name : Cause → List ℕ
cause_name (Moments reason) = reason_name reason
cause_name NoMoments = codes "no moments"
cause_name NoOrder = codes "no order"

-- the name of an arrow
abbrev pub role_name : Role → List ℕ
role_name roles.Write = codes "read by the walk"
role_name roles.Drop = codes "dropped the entry"
role_name roles.Last = codes "last event before it"

-- a rejected event
pub record Marking : Type 0 where
  pub number : ℕ
  pub p : ℕ
  pub cause : Cause
  pub words : List ℕ
  pub sources : List Source

abbrev pub said : Mark → Marking
said m = record {
  number = m.number;
  p = m.p;
  cause = m.cause;
  words = string_bytes m.words;
  sources = m.sources.items;
}

-- ---- the events that led to it

abbrev pub source_of : Role → ℕ → Option Event → List Source
source_of role number None = []
source_of role number (Some e) =
    record { number = number; p = processor_of e; role = role } ∷ []

-- the event with a number, where there is one
abbrev pub source_at : List Event → Role → Option ℕ → List Source
source_at events role None = []
source_at events role (Some number) = source_of role number (slice_get events number)

-- those that wrote the entries down to the first that is no table
abbrev pub writers : List Event → List WalkEntry → List Source
writers events walk = flat_map (λ x. source_at events roles.Write x.writer) (down_to_end walk)

-- the event after which no moments witness
abbrev pub last_in : Option Last → Option ℕ
last_in None = None
last_in (Some last) = Some last.number

-- a number, unless there is another
abbrev pub unless_at : Option ℕ → Option ℕ → Option ℕ
unless_at None number = number
unless_at (Some other) number = None

abbrev pub sources_of : List Event → List WalkEntry → Option ℕ → Option ℕ → List Source
sources_of events walk dropped last =
    writers events walk
    ++ (source_at events roles.Drop dropped ++ source_at events roles.Last (unless_at dropped last))

-- ---- marks

-- of an event that its moments do not witness
abbrev pub explanation_mark : List Event → Explanation → Marking
explanation_mark events x = record {
  number = x.number;
  p = processor_at events x.number;
  cause = Moments (reason_of x.finding);
  words = explanation_text events x;
  sources = sources_of events x.walk.items (dropper x.finding) (taker x.other x.last);
}

-- of an event that no moments witness
abbrev pub denial_mark : List Event → Denial → Marking
denial_mark events x = record {
  number = x.number;
  p = processor_at events x.number;
  cause = NoMoments;
  words = denial_text events x;
  sources = sources_of events x.walk.items x.dropped (last_in x.last);
}
