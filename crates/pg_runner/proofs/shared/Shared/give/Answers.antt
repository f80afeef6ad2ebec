use Rattle.std.proofs.Common.{◌≡◌, ◌∙◌, ◌∷◌, [], ◌++◌, List, Option, IfSome, refl, sym, ap, subst}
use Rattle.pg_event.specs.Heads.{Head}
use Rattle.pg_runner.specs.declared.batch.Batch.{Batch}
use Rattle.pg_runner.specs.Given.{AreGiven, batch}
use Rattle.pg_runner.specs.Live.{AreNext, AreSegments}
use Rattle.pg_runner.proofs.GivenOut.{given_more}
use Rattle.pg_runner.proofs.shared.Shared.give.Goals as goal

pub invariant_of-self-2 : goal.invariant_of-self-2
invariant_of-self-2 g c =
    let board = c.self.inside.board in
    let after = c.next_segments.new.board in
    let events = c.in_ok-events.events.items in
    let was : AreGiven board c.in-Some.given = subst (λ (o : Option (List Batch)). IfSome o (λ l. AreGiven board l)) (sym c.take.ensures.value ∙ c.in-Some.is) c.self.invariant in
    let next : AreNext board after events = c.in_ok-events.ensures in
    let added : c.add.new.self ≡ c.in-Some.given ++ batch events ∷ [] = c.if-not-add.ensures refl in
    subst (AreGiven after) (sym added) (given_more board after c.in-Some.given events was next)

pub returns : goal.returns
returns g c =
    let events = c.in_ok-events.events.items in
    let head = sym c.header.ensures.header ∙ c.if-not-is_same.ensures.0 refl in
    let added : c.add.new.self ≡ c.in-Some.given ++ batch events ∷ [] = c.if-not-add.ensures refl in
    record {
      segments = subst (λ (h : Head). AreSegments h events) head c.in_ok-events.ensures.segments;
      known = c.again.ensures ∙ added ∙ ap (λ (l : List Batch). l ++ batch events ∷ []) (c.if-not-agrees.ensures refl);
    }
