-- What a search sees of a run.
use Rattle.std.specs.Prelude.{◌<◌, ◌^◌, List, length}
use Rattle.pg_event.specs.declared.event.Event.{Event}
use Rattle.pg_event.specs.Heads.{Head}
use Rattle.pg_event.specs.Spelling.{IsHead}
use Rattle.pg_chain.specs.declared.past.Past.{Past}
use Rattle.pg_chain.specs.Standing.{IsPast}

-- the past is that of the events
pub record IsSeen (head : Head) (events : List Event) (past : Past) : Type 0 where
  pub settings : IsHead head
  pub stands : IsPast past head events
  pub count : length events < 2 ^ 32
