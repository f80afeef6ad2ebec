use Rattle.std.proofs.Common.{◌++◌, ℕ, List, map, ap, ◌∙◌}
use Rattle.pg_entry.specs.declared.AccessKind.{AccessKind}
use Rattle.pg_event.specs.declared.event.Outcome.{Outcome}
use Rattle.pg_event.specs.declared.event.Outcome.TheVariants.{Page}
use Rattle.pg_event.specs.Heads.{Head}
use Rattle.pg_outcomes.specs.Candidates.{faults_of}
use Rattle.pg_outcomes.proofs.Whole.{are_candidates}
use Rattle.pg_outcomes.proofs.candidates.candidates.Goals as goal

pub returns : goal.returns
returns c =
    let at = c.in-Access in
    let head : Head = c.args.seen.now.head in
    let pages : List ℕ = c.in_ok-pages.pages.items in
    let outcomes = c.in_ok-outcomes.ensures ∙ ap (λ (ps : List ℕ). map Page ps) c.deref.ensures.value in
    let is =
    c.in_ok-add_faults.ensures
    ∙ ap (λ (os : List Outcome). os ++ faults_of c.behind-seen.inside.cfg c.access_kind.result) outcomes
    ∙ ap (λ (h : Head). map Page pages ++ faults_of h.cfg c.access_kind.result) (c.behind-seen.view_is ∙ c.header.ensures.header)
    ∙ ap (λ (k : AccessKind). map Page pages ++ faults_of head.cfg k) c.access_kind.ensures in
    rw at.is (are_candidates c.args.seen.now c.args.number at.p at.flags at.la at.outcome at.moments pages _ c.in_ok-pages.ensures.pages c.in_ok-pages.ensures.rise is)
