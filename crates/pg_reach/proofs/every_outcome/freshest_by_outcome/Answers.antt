use Rattle.std.proofs.Common.{◌≡◌, refl, true, ap, sym, subst}
use Rattle.pg_event.specs.declared.control.Control.{Control}
use Rattle.pg_event.specs.declared.event.Event.{Event}
use Rattle.pg_event.specs.declared.event.Outcome.{Outcome}
use Rattle.pg_event.specs.Spelling.{Recorded}
use Rattle.pg_event.specs.Values.{control_at}
use Rattle.pg_reach.specs.declared.walker.Walker.{Walker}
use Rattle.pg_reach.specs.Asking.{Asks, AreLate}
use Rattle.pg_reach.specs.Placed.{with_outcome}
use Rattle.pg_reach.specs.ByOutcome.{Findings, found_at}
use Rattle.pg_reach.proofs.Cases.{all_found}
use Rattle.pg_reach.proofs.EveryOutcome.{grown_on, asks_placed, by_outcome}
use Rattle.pg_reach.proofs.every_outcome.freshest_by_outcome.Goals as goal

pub returns : goal.returns
returns c =
    let r : Recorded = c.args.seen.now in
    let e : Event = c.args.event.now in
    let v : Walker = record { p = c.in-Access.p; la = c.in-Access.la; pcid = c.control_at.result.pcid; number = c.args.number; freshest = true } in
    let first : Findings = found_at c.new-found.result in
    let own : Findings = found_at c.every_own.new.found in
    let last : Findings = found_at c.every_global.new.found in
    let now : (control_at r.head r.events v.p v.number).pcid ≡ v.pcid = ap (λ (d : Control). d.pcid) (sym c.control_at.ensures.control) in
    let asks : Asks v e = subst (Asks v) (sym c.in-Access.is) (refl, refl) in
    let late : (o : Outcome) → AreLate r v (with_outcome o e) (last o) = λ o ws witness alike ends.
    c.in_ok-every_global.ensures.grown.fresher o ws (c.in_ok-every_own.ensures.all o ws witness alike ends) in
    by_outcome r v.number e first last c.new-found.ensures (grown_on r v.number true e first own last c.in_ok-every_own.ensures.grown c.in_ok-every_global.ensures.grown)
    (λ o ws witness. all_found r v (with_outcome o e) (last o) (asks_placed v e o asks) now (late o) (λ page. c.in_ok-every_global.ensures.all o) ws witness)
