use Rattle.std.proofs.Common.{inl, inr, refl}
use Rattle.std.proofs.lemmas.Fn.{says_at}
use Rattle.pg_report.specs.Changes.{filled}
use Rattle.pg_tool.proofs.outputs.perform_into.Goals as goal

pub returns-in-Some : goal.returns-in-Some
returns-in-Some g c =
    inl (filled g.W.Sink c.in-Some.file c.perform_all.new.output, (c.in-Some.file, c.perform_all.new.output, says_at g.G.Fn c.in-Some.ensures refl, refl), c.perform_all.ensures)

pub returns-in-None : goal.returns-in-None
returns-in-None g c = inr (says_at g.G.Fn c.in-None.ensures refl, refl, c.tell_uncreated.ensures, refl)
