use Rattle.std.proofs.Common.{◌++◌, length, map}
use Rattle.pg_search.specs.Changes.{kept_of}
use Rattle.pg_certify.proofs.Windows.{denied_within}
use Rattle.pg_certify.proofs.certifying.Certifying.judge.Goals as goal

pub take-requires-clause-place : goal.take-requires-clause-place
take-requires-clause-place c =
    let s = c.self.inside in
    denied_within s.certifier.head (s.certifier.events ++ map kept_of c.args.window.now) (length s.certifier.events) c.args.window.now c.in-Ok.found c.in-Ok.ensures.denied
