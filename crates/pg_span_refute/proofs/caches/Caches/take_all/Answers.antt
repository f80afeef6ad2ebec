use Rattle.std.proofs.Common.{ℕ}
use Rattle.pg_span_refute.specs.Caches.{Known, IsTaken, known_of}
use Rattle.pg_span_refute.proofs.Passing.{extends_refl, extends_on, taken_still}
use Rattle.pg_span_refute.proofs.Taken.{one_more_get}
use Rattle.pg_span_refute.proofs.caches.Caches.take_all.Goals as goal

pub loop-entry-init : goal.loop-entry-init
loop-entry-init c = record { more = extends_refl (known_of c.args.self.now); taken = λ entry h. absurd h }

pub loop-entry-preserved : goal.loop-entry-preserved
loop-entry-preserved c =
    let old : Known = known_of c.loop-entry.self in
    let new : Known = known_of c.take.new.self in
    record {
      more = extends_on (known_of c.args.self.now) old new c.loop-entry.invariant.more c.in_ok-take.ensures.more;
      taken = one_more_get (λ (e : ℕ). IsTaken c.args.version c.args.cfg c.args.la new c.args.table e) c.args.entries.now c.loop-entry.entry-index 0 c.loop-entry-test.true
          (λ e h. taken_still c.args.version c.args.cfg c.args.la old new c.args.table e c.in_ok-take.ensures.more (c.loop-entry.invariant.taken e h)) c.in_ok-take.ensures.taken;
    }
