use Rattle.std.proofs.Common.{◌≡◌, ◌<◌, ◌+◌, ◌^◌, min, max, ap, subst, sym, ◌∙◌, arith}
use Rattle.pg_event.specs.declared.event.Event.{Event}
use Rattle.pg_event.specs.Spelling.{Recorded}
use Rattle.pg_reach.specs.declared.walker.Walker.{Walker}
use Rattle.pg_reach.specs.declared.reach.Reach.{Reach}
use Rattle.pg_reach.specs.Views.{Viewed}
use Rattle.pg_reach.specs.Placed.{with_outcome}
use Rattle.pg_reach.specs.Ends.{AreRefused}
use Rattle.pg_reach.specs.ByOutcome.{Findings, found_at}
use Rattle.pg_reach.proofs.Refusals.{refused_more, refused_less}
use Rattle.pg_reach.proofs.EveryOutcome.{grown_on}
use Rattle.pg_reach.proofs.view.View.note_reach.Goals as goal

pub loop-at-preserved : goal.loop-at-preserved
loop-at-preserved c =
    let r : Recorded = c.args.self.now.run in
    let v : Walker = c.args.self.now.walker in
    let x : Reach = c.args.x.now in
    let olds : Findings = found_at c.loop-at.found in
    let news : Findings = found_at c.note_piece.new.found in
    let number : c.self.inside.walker.number ≡ v.number = ap (λ (v : Viewed). v.walker.number) c.self.view_is in
    let next : c.in-Some.next ≡ c.piece_at-piece.result.to + 1 = c.in-Some.ensures.1 in
    record {
      order = omega (arith, next, c.loop-at.invariant.order, c.piece_at-piece.ensures.low);
      memo = c.note_piece.ensures.memo ∙ c.loop-at.invariant.memo;
      grown = grown_on r v.number v.freshest c.args.self.now.event (found_at c.args.found.now) olds news c.loop-at.invariant.grown c.in_ok-note_piece.ensures.grown;
      none = λ o.
          let e : Event = with_outcome o c.args.self.now.event in
          subst (λ until. AreRefused r v e c.args.level (max x.from c.args.since) until x (news o)) (sym next)
          (refused_more r v e c.args.level (max x.from c.args.since) c.loop-at.at c.min-last.result x c.piece_at-piece.result (olds o) (news o) (omega (arith, c.min-last.ensures)) (omega (arith, c.min-last.ensures, number)) c.requires.small
          (c.in_ok-note_piece.ensures.grown.fresher o) (c.loop-at.invariant.none o) c.piece_at-piece.ensures (c.in_ok-note_piece.ensures.none o));
    }

pub returns-clause-none : goal.returns-clause-none
returns-clause-none c = λ o.
    let number : c.self.inside.walker.number ≡ c.args.self.now.walker.number = ap (λ (v : Viewed). v.walker.number) c.self.view_is in
    refused_less c.args.self.now.run c.args.self.now.walker (with_outcome o c.args.self.now.event) c.args.level (max c.args.x.now.from c.args.since) (min c.args.x.now.to c.args.self.now.walker.number + 1) c.loop-at.at c.args.x.now (found_at c.loop-at.found o)
    (omega (arith, c.loop-at-test.false, c.min-last.ensures, number)) (c.loop-at.invariant.none o)

pub returns-in-None-clause-none : goal.returns-in-None-clause-none
returns-in-None-clause-none c = λ o.
    let r : Recorded = c.args.self.now.run in
    let v : Walker = c.args.self.now.walker in
    let x : Reach = c.args.x.now in
    let e : Event = with_outcome o c.args.self.now.event in
    let olds : Findings = found_at c.loop-at.found in
    let news : Findings = found_at c.note_piece.new.found in
    let number : c.self.inside.walker.number ≡ v.number = ap (λ (v : Viewed). v.walker.number) c.self.view_is in
    let over : c.piece_at-piece.result.to + 1 < 2 ^ 32 → ⊥ = c.in-None.ensures in
    refused_less r v e c.args.level (max x.from c.args.since) (min x.to v.number + 1) (c.piece_at-piece.result.to + 1) x (news o) (omega (arith, over, number, c.min-last.ensures, c.min-last.type_inv))
    (refused_more r v e c.args.level (max x.from c.args.since) c.loop-at.at c.min-last.result x c.piece_at-piece.result (olds o) (news o) (omega (arith, c.min-last.ensures)) (omega (arith, c.min-last.ensures, number)) c.requires.small
    (c.in_ok-note_piece.ensures.grown.fresher o) (c.loop-at.invariant.none o) c.piece_at-piece.ensures (c.in_ok-note_piece.ensures.none o))
