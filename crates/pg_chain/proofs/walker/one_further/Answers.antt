use Rattle.std.proofs.Common.{◌≡◌, Bool, true, ◌==◌, sym, ap, ◌∙◌}
use Rattle.std.proofs.lemmas.Bool.{eq-eqb}
use Rattle.pg_entry.specs.declared.Cfg.{Cfg}
use Rattle.pg_entry.specs.declared.Kind.{Kind}
use Rattle.pg_event.specs.declared.event.Want.{Want}
use Rattle.pg_entry.specs.Kinds.{kind_of}
use Rattle.pg_event.specs.declared.control.Control.{Control}
use Rattle.pg_event.specs.Heads.{Head}
use Rattle.pg_event.specs.Wants.{is_table, is_wanted}
use Rattle.pg_chain.specs.declared.steps.Chain.{Chain}
use Rattle.pg_chain.proofs.Further.{further-made, table-level}
use Rattle.pg_chain.proofs.walker.one_further.Goals as goal

-- whether an entry is a table, by the settings of the run
table_in : (b : Bool) (cfg : Cfg) (head : Head) (c : Chain) → b ≡ is_table (kind_of cfg c.end.level c.end.value) → cfg ≡ head.cfg → is_table (kind_of head.cfg c.end.level c.end.value) ≡ b
table_in b cfg head c found same = sym (found ∙ ap (λ (x : Cfg). is_table (kind_of x c.end.level c.end.value)) same)

-- what an entry is, by the settings of the run
wanted_in : (b : Bool) (kind : Kind) (cfg : Cfg) (head : Head) (want : Want) (c : Chain) → b ≡ is_wanted want kind → kind ≡ kind_of cfg c.end.level c.end.value → cfg ≡ head.cfg →
    is_wanted want (kind_of head.cfg c.end.level c.end.value) ≡ b
wanted_in b kind cfg head want c found is same =
    sym (found ∙ ap (is_wanted want) is ∙ ap (λ (x : Cfg). is_wanted want (kind_of x c.end.level c.end.value)) same)

pub outlasts_to-requires : goal.outlasts_to-requires
outlasts_to-requires c = table-level c.cfg-cfg.result c.args.upper.end.level c.args.upper.end.value (sym (sym c.if-not-is_table.false ∙ c.is_table.ensures))

pub returns-then-outlasts_to : goal.returns-then-outlasts_to
returns-then-outlasts_to c = λ head events h.
    let a = c.args in
    let cfg = c.cfg-cfg.ensures.run head events h in
    sym (further-made head events a.p a.la a.want a.upper a.moment c.advanced_in-chain.result true true true true
    (table_in true c.cfg-cfg.result head a.upper (sym c.if-not-is_table.false ∙ c.is_table.ensures) cfg)
    (wanted_in true c.kind_at.result c.cfg-cfg.result head a.want c.advanced_in-chain.result (sym c.if-not-is_wanted.false ∙ c.is_wanted.ensures) c.kind_at.ensures.kind cfg)
    (ap (λ (x : Control). x.pcid == a.upper.pcid) (sym (c.latest_control.ensures.run a.moment c.requires.next head events h)) ∙ eq-eqb c.latest_control.result.pcid a.upper.pcid c.if-latest_control-upper.false)
    (c.outlasts_to.ensures c.if-outlasts_to.true head events h)
    (c.advanced_in-chain.ensures head events h))
