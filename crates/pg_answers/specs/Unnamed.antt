-- A record without moments: one whose recorder keeps none, and writes a placeholder instead.
use Rattle.std.specs.Prelude.{Bool, true, ◌&&◌, List}
use Rattle.std.specs.List.{list_all, list_any}
use Rattle.pg_event.specs.declared.event.Event.{Event}
use Rattle.pg_event.specs.declared.event.Event.TheVariants.{Write, Access, Assist, MovCr3}
use Rattle.pg_event.specs.declared.event.Event.TheVariants.{Invlpg, Invpcid, MovCr4Pge}
use Rattle.pg_search.specs.Law.{names_moments}
use Rattle.pg_certify.specs.Accounts.{is_placeholder}

-- where the event names moments, these are the placeholder
abbrev pub may_be_unnamed : Event → Bool
may_be_unnamed (Write p addr value) = true
may_be_unnamed (Access p flags la outcome moments) = is_placeholder moments
may_be_unnamed (Assist p flags la word moments) = is_placeholder moments
may_be_unnamed (MovCr3 p operand) = true
may_be_unnamed (Invlpg p la) = true
may_be_unnamed (Invpcid p kind pcid la) = true
may_be_unnamed (MovCr4Pge p on) = true

-- some event is an access or an assist, and each of them has the placeholder
unfoldable pub is_unnamed : List Event → Bool
is_unnamed events = list_any names_moments events && list_all may_be_unnamed events
