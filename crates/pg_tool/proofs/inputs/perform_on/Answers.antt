use Rattle.std.proofs.Common.{inl, inr, refl}
use Rattle.std.proofs.lemmas.Fn.{says_at}
use Rattle.pg_report.specs.Changes.{drawn}
use Rattle.pg_span_run.specs.contracts.peeked.PeekedSource.TheImpl as peeked
use Rattle.pg_tool.proofs.Looking.{stays_same}
use Rattle.pg_tool.proofs.inputs.perform_on.Goals as goal

pub returns-in-Some : goal.returns-in-Some
returns-in-Some g c =
    let file = drawn (peeked.ghosts g.row.S g.S.Source g.S.Source-dict) c.in-Some.file c.perform_named.new.input in
    inl (file, (c.in-Some.file, c.perform_named.new.input, says_at g.F.Fn c.in-Some.ensures refl, refl), c.perform_named.ensures)

pub returns-in-None : goal.returns-in-None
returns-in-None g c =
    inr (says_at g.F.Fn c.in-None.ensures refl, stays_same g.O.Sink c.args.output.now, c.tell_unopened.ensures, refl)
