use Rattle.std.proofs.Common.{◌∙◌, sym}
use Rattle.pg_explain.proofs.Judged.{first_within, no_bads, bads_begin}
use Rattle.pg_explain.proofs.bad_events.bads.Goals as goal

pub bads_from-requires : goal.bads_from-requires
bads_from-requires c =
    first_within c.args.history.now.head c.args.history.now.events c.in-Some.first c.in-Some.field-0-1 (sym c.in-Some.ensures)

pub returns-in-None : goal.returns-in-None
returns-in-None c = c.new.ensures.items ∙ sym (no_bads c.args.history.now.head c.args.history.now.events (sym c.in-None.ensures))

pub returns-in-Some : goal.returns-in-Some
returns-in-Some c =
    rw (bads_begin c.args.history.now.head c.args.history.now.events c.in-Some.first c.in-Some.field-0-1 (sym c.in-Some.ensures)) c.bads_from.ensures
