use Rattle.pg_span_refute.specs.Caches.{known_of}
use Rattle.pg_span_refute.proofs.Passing.{extends_refl}
use Rattle.pg_span_refute.proofs.caches.Caches.take.Goals as goal

pub returns-then-not-may_cache-clause-more : goal.returns-then-not-may_cache-clause-more
returns-then-not-may_cache-clause-more c = extends_refl (known_of c.args.self.now)

pub returns-in-Absent-clause-more : goal.returns-in-Absent-clause-more
returns-in-Absent-clause-more c = extends_refl (known_of c.args.self.now)
