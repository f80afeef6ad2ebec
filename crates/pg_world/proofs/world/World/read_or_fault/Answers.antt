use Rattle.std.proofs.Common.{◌≡◌, ◌≤◌, true, sym, ◌∙◌, ap}
use Rattle.pg_world.specs.Recording.{Recording}
use Rattle.pg_world.specs.Walks.{is_walk}
use Rattle.pg_world.proofs.Tables.{may_read, table-below}
use Rattle.pg_world.proofs.Formed.{found-event, IsRefusedBy-found, entry-not_refused}
use Rattle.pg_world.proofs.world.World.read_or_fault.Goals as goal
use Rattle.pg_world.proofs.world.World.read_or_fault.Goals.{in-Entry+else-self, in-Fault+in-Ok}

pub found-found-requires-clause-table : goal.found-found-requires-clause-table
found-found-requires-clause-table c =
    let may : is_walk c.self.inside.header c.args.p c.args.walk.now ≡ true = sym c.is_walk.ensures ∙ c.if-not-is_walk.false in
    table-below c.self.inside.header.cfg.m c.args.walk.now.table c.self.invariant.kept.is_record.head.high (may_read c.self.inside.header c.args.p c.args.walk.now may).table

pub returns-in-Err-clause-refused : goal.returns-in-Err-clause-refused
returns-in-Err-clause-refused c =
    let head : c.self.inside.header ≡ c.args.self.now.head = ap (λ (r : Recording). r.head) c.self.view_is in
    let may : is_walk c.args.self.now.head c.args.p c.args.walk.now ≡ true = rw (← head) (sym c.is_walk.ensures ∙ c.if-not-is_walk.false) in
    let low : 36 ≤ c.args.self.now.head.cfg.m = rw (← head) c.self.invariant.kept.is_record.head.low in
    let e = found-event c.args.self.now c.args.p c.args.walk.now c.found-found.result c.in-Fault.receipt low may c.found-found.ensures c.in-Fault.is in
    IsRefusedBy-found c.args.self.now c.args.p c.args.walk.now c.in-Fault.receipt c.in-Err.error e c.in-Err.ensures.refused

pub returns-clause-ok : goal.returns-clause-ok
returns-clause-ok c =
    let head : c.self.inside.header ≡ c.args.self.now.head = ap (λ (r : Recording). r.head) c.self.view_is in
    let may : is_walk c.args.self.now.head c.args.p c.args.walk.now ≡ true = rw (← head) (sym c.is_walk.ensures ∙ c.if-not-is_walk.false) in
    let low : 36 ≤ c.args.self.now.head.cfg.m = rw (← head) c.self.invariant.kept.is_record.head.low in
    elim c.match-found.branch [
      | in-Entry+else-self w ↦
          entry-not_refused c.args.self.now c.args.p c.args.walk.now w.in-Entry.value w.in-Entry.moment may (sym c.found-found.ensures ∙ w.in-Entry.is)
          (sym (ap (λ (r : Recording). r.finished) c.self.view_is) ∙ w.if-self.false)
      | in-Fault+in-Ok w ↦
          let e = found-event c.args.self.now c.args.p c.args.walk.now c.found-found.result w.in-Fault.receipt low may c.found-found.ensures w.in-Fault.is in
          e.refused ∙ w.in-Ok.ensures.ok
    ]
