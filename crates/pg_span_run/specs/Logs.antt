-- Logs of single processors.
use Rattle.std.specs.Prelude.{◌≡◌, ℕ, ◌-◌, ◌<◌, ◌≤◌, ◌^◌, List, [], ◌∷◌, None, replicate}
use Rattle.std.specs.List.{AllByRecursion}
use Rattle.pg_entry.specs.Rules.{all_rules}
use Rattle.pg_event.specs.Heads.{Head, most_processors, least_maxphyaddr, most_maxphyaddr}
use Rattle.pg_event.specs.Heads.{most_segment}
use Rattle.pg_event.specs.Form.{processor_of, broken_rule}
use Rattle.pg_event.specs.Spelling.{FitsEvent}
use Rattle.pg_codec.specs.Bare.{IsBare}
use Rattle.pg_span_run.specs.declared.log.LogHeader.{LogHeader}
use Rattle.pg_span_run.specs.declared.log.Stamped.{Stamped}

-- what one processor did: its header, and its events with their stamps
pub record Logged : Type 0 where
  pub head : LogHeader
  pub events : List Stamped

-- what stands in the place of a begin stamp after the last event
abbrev pub end_mark : ℕ
end_mark = 2 ^ 64 - 1

-- a header of a record of the run, as far as the log tells it: all processors start as its own
abbrev pub alone : LogHeader → Head
alone head = record {
  version = head.version;
  cfg = head.cfg;
  segment = most_segment;
  processors = replicate head.processors head.start;
}

-- each field is within its range, and the processors are held to all rules
pub record AreLogSettings (head : LogHeader) : Type 0 where
  pub low : least_maxphyaddr ≤ head.cfg.m
  pub high : head.cfg.m ≤ most_maxphyaddr
  pub flags : head.cfg.flags.0 < 16
  pub some : 1 ≤ head.processors
  pub few : head.processors ≤ most_processors head.version
  pub own : head.own < head.processors
  pub start : head.start.0 < 2 ^ head.cfg.m
  pub rules : head.cfg.rules ≡ all_rules

-- an event that the processor may have logged: it has a spelling
pub record IsOwn (head : Head) (own : ℕ) (x : Stamped) : Type 0 where
  pub processor : processor_of x.event ≡ own
  pub well : broken_rule head x.event ≡ None
  pub fits : FitsEvent x.event
  pub bare : IsBare x.event

-- its span lies above a stamp
pub record StandsAbove (last : ℕ) (x : Stamped) : Type 0 where
  pub begins : last < x.begin
  pub ends : x.begin < x.end
  pub below : x.end < end_mark

-- spans that lie one above the other, above a stamp
abbrev pub Rise : ℕ → List Stamped → Type 0
Rise last [] = Unit {0}
Rise last (x ∷ xs) = StandsAbove last x × Rise x.end xs

pub record IsLog (log : Logged) : Type 0 where
  pub settings : AreLogSettings log.head
  pub own : AllByRecursion (IsOwn (alone log.head) log.head.own) log.events
  pub rises : Rise 0 log.events
