use Rattle.std.proofs.Common.{◌≡◌, ℕ, Bool, ◌&&◌, ap, ◌∙◌}
use Rattle.pg_entry.specs.declared.Cfg.{Cfg}
use Rattle.pg_entry.specs.declared.Level.{Level}
use Rattle.pg_entry.specs.declared.Rights.{Rights}
use Rattle.pg_entry.specs.Kinds.{table_of, accessed}
use Rattle.pg_event.specs.declared.walk.Parent.{Parent}
use Rattle.pg_event.specs.Values.{mem_at}
use Rattle.pg_event.specs.Walk.{below}
use Rattle.pg_chain.specs.declared.steps.Chain.{Chain}
use Rattle.pg_chain.specs.Walked.{entry_read, ended}
use Rattle.pg_chain.proofs.walker.advanced_in.Goals as goal

pub returns : goal.returns
returns c = λ head events h.
    let chain : Chain = c.args.chain in
    let rights : Rights = chain.end.rights in
    let parent : ℕ → Parent = λ t. record { table = t; rights = rights } in
    let look = mem_at events in
    let table : c.table_of.result ≡ table_of head.cfg.m chain.end.value =
    c.table_of.ensures.table ∙ ap (λ (x : Cfg). table_of x.m chain.end.value) (c.cfg.ensures.run head events h) in
    ap (λ (b : Bool). let d : Chain = record { pcid = chain.pcid; tables = b; end = c.read_in.result } in d) c.has_accessed.ensures
    ∙ ap (ended chain.pcid (chain.tables && accessed chain.end.value))
    (c.read_in.ensures head events h
    ∙ ap (λ (l : Level). entry_read look c.args.la l (parent c.table_of.result) c.args.moment) c.below.ensures
    ∙ ap (λ t. entry_read look c.args.la (below chain.end.level) (parent t) c.args.moment) table)
