-- What a judgement promises.
use Rattle.std.specs.Prelude.{◌≡◌, ⊤, Option, IfNone}
use Rattle.pg_event.specs.declared.event.Reason.{Reason}
use Rattle.pg_check.specs.declared.judgement.Judgement.{Judgement}
use Rattle.pg_check.specs.declared.judgement.Judgement.TheVariants.{Unknown, Decided}

-- a judgement of an event for which this is the least reason that fails, if any does: it is that
-- one, or not known
abbrev pub IsRight : Judgement → Option Reason → Type 0
IsRight Unknown failing = ⊤
IsRight (Decided found) failing = found ≡ failing

-- if the judgement is that the moments of an event witness it, this holds
abbrev pub IfWitnessed : Judgement → Type 0 → Type 0
IfWitnessed Unknown P = ⊤
IfWitnessed (Decided found) P = IfNone found P
