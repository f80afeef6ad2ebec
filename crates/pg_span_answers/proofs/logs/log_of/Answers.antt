use Rattle.std.proofs.Common.{refl}
use Rattle.std.proofs.lemmas.Fn.{says_at}
use Rattle.pg_report.specs.Changes.{drawn}
use Rattle.pg_span_answers.specs.Openings.{opens}
use Rattle.pg_span_answers.proofs.Taking.{read_is}
use Rattle.pg_span_answers.proofs.logs.log_of.Goals as goal

pub returns-in-Some : goal.returns-in-Some
returns-in-Some g c = read_is (opens g.F.Fn g.S.Source c.args.opener.now) c.args.name.now (drawn g.S.Source c.in-Some.file c.log_in.new.source) (c.in-Some.file, c.log_in.new.source, says_at g.F.Fn c.in-Some.ensures refl, refl) c.log_in.result c.log_in.ensures.reads c.log_in.ensures.failures
