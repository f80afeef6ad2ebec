use Rattle.std.proofs.Common.{◌≡◌, List, ap, sym, subst, ◌∙◌, arith}
use Rattle.std.specs.Option.{unwrap_or}
use Rattle.pg_event.specs.declared.control.Control.{Control}
use Rattle.pg_timeline.specs.declared.timeline.Stamp.{Stamp}
use Rattle.pg_timeline.specs.Timelines.{last_before}
use Rattle.pg_timeline.specs.Keyed.{AreBelow}
use Rattle.pg_state.specs.Controls.{Registers, start_in}
use Rattle.pg_state.proofs.Known.{latest-read, control_in-low}
use Rattle.pg_state.proofs.controls.Controls.latest.Goals as goal

pub returns-in-Some-clause-value : goal.returns-in-Some-clause-value
returns-in-Some-clause-value c = λ w le.
    let s = c.self.inside in
    let old : Registers = record { head = s.header; changes = s.by_processor.items; next = s.next } in
    ap (λ o. unwrap_or o (start_in c.args.self.now.head c.args.p)) (sym c.in-Some.is)
    ∙ latest-read old c.args.self.now c.args.p w c.last.result c.self.view_is c.self.invariant.0 le
    (subst (λ (xs : List (Stamp Control)). AreBelow w xs → c.last.result ≡ last_before w xs) c.changes_at.ensures (c.last.ensures w))

pub returns-in-Some-clause-run : goal.returns-in-Some-clause-run
returns-in-Some-clause-run c = λ head events h w le. returns-in-Some-clause-value c w le ∙ h.controls c.args.p w

pub returns-in-None-clause-value : goal.returns-in-None-clause-value
returns-in-None-clause-value c = λ w le.
    let s = c.self.inside in
    let old : Registers = record { head = s.header; changes = s.by_processor.items; next = s.next } in
    c.start.ensures
    ∙ ap (λ o. unwrap_or o (start_in c.args.self.now.head c.args.p)) (sym c.in-None.is)
    ∙ latest-read old c.args.self.now c.args.p w c.last.result c.self.view_is c.self.invariant.0 le
    (subst (λ (xs : List (Stamp Control)). AreBelow w xs → c.last.result ≡ last_before w xs) c.changes_at.ensures (c.last.ensures w))

pub returns-in-None-clause-run : goal.returns-in-None-clause-run
returns-in-None-clause-run c = λ head events h w le. returns-in-None-clause-value c w le ∙ h.controls c.args.p w

pub returns-in-Some-clause-root : goal.returns-in-Some-clause-root
returns-in-Some-clause-root c =
    let n = c.self.inside.next in
    rw (returns-in-Some-clause-value c n (rw (← c.self.view_is) (omega arith)), ← c.self.view_is) (control_in-low _ c.args.p n c.self.invariant.0)

pub returns-in-None-clause-root : goal.returns-in-None-clause-root
returns-in-None-clause-root c =
    let n = c.self.inside.next in
    rw (returns-in-None-clause-value c n (rw (← c.self.view_is) (omega arith)), ← c.self.view_is) (control_in-low _ c.args.p n c.self.invariant.0)
