use Rattle.std.proofs.Common.{◌≡◌, All, List, sym, subst, arith}
use Rattle.std.proofs.lemmas.List.Elements.{All-push}
use Rattle.pg_event.specs.Spelling.{Recorded}
use Rattle.pg_certify.proofs.segment_checkers.certifiers.Goals as goal

pub loop-preserved : goal.loop-preserved
loop-preserved c = record {
  len = omega (arith, c.loop.invariant.len, c.in_ok-push.ensures.len);
  all =
      let P : Recorded → Type 0 = λ q. q ≡ c.args.history.now in
      subst (λ (l : List Recorded). All P l) (sym c.in_ok-push.ensures.items) (All-push P c.loop.all.items _ c.loop.invariant.all c.certifier_of.ensures);
}
