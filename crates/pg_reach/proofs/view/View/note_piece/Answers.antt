use Rattle.std.proofs.Common.{◌≡◌, ap, sym, ◌∙◌, subst}
use Rattle.std.specs.Option.{option_map}
use Rattle.std.proofs.lemmas.Result.{on_ok_weaker}
use Rattle.pg_entry.specs.Kinds.{kind_of}
use Rattle.pg_event.specs.declared.event.Event.TheVariants.{Access}
use Rattle.pg_event.specs.declared.event.Outcome.TheVariants.{Fault}
use Rattle.pg_event.specs.Form.{access_kind}
use Rattle.pg_event.specs.Heads.{Head}
use Rattle.pg_reach.specs.Views.{Viewed}
use Rattle.pg_reach.specs.Given.{cause_of, code_by}
use Rattle.pg_reach.specs.ByOutcome.{found_at}
use Rattle.pg_reach.proofs.EveryOutcome.{on_ok_both, grown_on, piece_noted}
use Rattle.pg_reach.proofs.view.View.note_piece.Goals as goal

pub returns-clause-grown : goal.returns-clause-grown
returns-clause-grown c = on_ok_weaker c.note_some-2.result (λ more. grown_on c.args.self.now.run c.args.self.now.walker.number c.args.self.now.walker.freshest c.args.self.now.event
    (found_at c.args.found.now) (found_at c.note_some.new.found) (found_at c.note_some-2.new.found) c.in_ok-note_some.ensures.grown more) c.note_some-2.ensures.grown

pub returns-clause-none : goal.returns-clause-none
returns-clause-none c = on_ok_both c.note_some-2.result (λ more faults.
    let event : c.args.self.now.event ≡ Access c.in-Access.p c.in-Access.flags c.in-Access.la c.in-Access.outcome c.in-Access.moments = sym (ap (λ (w : Viewed). w.event) c.self.view_is) ∙ c.in-Access.is in
    let cfg : c.behind-self.inside.cfg ≡ c.args.self.now.run.head.cfg = ap (λ (h : Head). h.cfg) (c.behind-self.view_is ∙ c.header.ensures.header) ∙ ap (λ (w : Viewed). w.run.head.cfg) c.self.view_is in
    let fault : c.fault_given-fault.result ≡ option_map Fault (code_by c.behind-self.inside.cfg (access_kind c.in-Access.flags) (cause_of (kind_of c.behind-self.inside.cfg c.args.level c.args.piece.now.entry))) =
    subst (λ kind. c.fault_given-fault.result ≡ option_map Fault (code_by c.behind-self.inside.cfg kind (cause_of (kind_of c.behind-self.inside.cfg c.args.level c.args.piece.now.entry)))) c.access_kind.ensures c.fault_given-fault.ensures in
    piece_noted c.args.self.now.run c.args.self.now.walker c.args.self.now.event c.in-Access.p c.in-Access.flags c.in-Access.la c.in-Access.outcome c.in-Access.moments c.args.level c.args.x.now c.args.piece.now c.in-Some.read c.up_to-moments.result
    (found_at c.note_some.new.found) (found_at c.note_some-2.new.found) c.behind-self.inside.cfg c.page_given-page.result c.fault_given-fault.result event cfg c.in-Some.is c.up_to-moments.ensures c.page_given-page.ensures fault
    c.in_ok-note_some.ensures.noted faults more) c.note_some-2.ensures.grown c.note_some-2.ensures.noted
