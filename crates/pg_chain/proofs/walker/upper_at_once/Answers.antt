use Rattle.std.proofs.Common.{◌≡◌, true, ◌&&◌, Bool, Result, Ok, sym, ap, subst, ◌∙◌}
use Rattle.pg_entry.specs.declared.Cfg.{Cfg}
use Rattle.pg_entry.specs.declared.Level.TheVariants.{Four, Three, Two}
use Rattle.pg_entry.specs.Kinds.{kind_of, accessed}
use Rattle.pg_event.specs.declared.walk.Parent.{Parent}
use Rattle.pg_event.specs.declared.event.Reason.{Reason}
use Rattle.pg_event.specs.Values.{mem_at}
use Rattle.pg_event.specs.Wants.{is_table}
use Rattle.pg_chain.specs.declared.steps.Chain.{Chain}
use Rattle.pg_chain.specs.Walked.{entry_read, parent_of, reading_of}
use Rattle.pg_chain.proofs.AtOnce.{IsTableAt, upper_at_once}
use Rattle.pg_chain.proofs.walker.upper_at_once.Goals as goal

pub returns-in-Some : goal.returns-in-Some
returns-in-Some c = λ head events h.
    let n = c.args.moment in
    let la = c.args.la in
    let look = mem_at events in
    let start = c.latest_control-start.result in
    let four = c.read_in-four.result in
    let three = c.read_in-three.result in
    let two = c.read_in-two.result in
    let cfg : c.cfg-cfg.result ≡ head.cfg = c.cfg-cfg.ensures.run head events h in
    let is4 : IsTableAt head Four four = subst (λ (x : Cfg). is_table (kind_of x Four four.value) ≡ true) cfg c.in_ok-upper.ensures.table in
    let is3 : IsTableAt head Three three = subst (λ (x : Cfg). is_table (kind_of x Three three.value) ≡ true) cfg c.in_ok-table.ensures.table in
    let is2 : IsTableAt head Two two = subst (λ (x : Cfg). is_table (kind_of x Two two.value) ≡ true) cfg c.in-Some.ensures.table in
    let made : Bool → Result Chain Reason = λ b. let x : Chain = record { pcid = start.pcid; tables = b; end = two } in Ok x in
    upper_at_once head events c.args.p la n start four three two
    (c.latest_control-start.ensures.run n c.requires.next head events h)
    (c.read_in-four.ensures head events h ∙ ap (λ (x : Parent). entry_read look la Four x n) c.root_of.ensures) is4
    (c.read_in-three.ensures head events h ∙ ap (λ (x : Parent). entry_read look la Three x n) (c.in_ok-upper.ensures.parent ∙ ap (λ (x : Cfg). parent_of x.m (reading_of four)) cfg)) is3
    (c.read_in-two.ensures head events h ∙ ap (λ (x : Parent). entry_read look la Two x n) (c.in_ok-table.ensures.parent ∙ ap (λ (x : Cfg). parent_of x.m (reading_of three)) cfg)) is2
    ∙ ap (λ (b : Bool). made (b && accessed three.value)) (sym c.accessed.ensures)
    ∙ ap made (sym c.has_accessed.ensures)
