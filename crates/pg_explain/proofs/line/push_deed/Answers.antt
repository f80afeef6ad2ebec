use Rattle.std.proofs.Common.{string_bytes}
use Rattle.std.proofs.lemmas.Result.{on_ok_weaker}
use Rattle.pg_explain.proofs.Lines.{deed_written}
use Rattle.pg_explain.proofs.line.push_deed.Goals as goal

pub returns : goal.returns
returns c =
    on_ok_weaker c.push_named.result (deed_written c.args.event.now (string_bytes c.args.text.now) (string_bytes c.push_claim.new.text) (string_bytes c.push_named.new.text) c.in_ok-push_claim.ensures)
    c.push_named.ensures
