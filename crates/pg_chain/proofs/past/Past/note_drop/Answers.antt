use Rattle.std.proofs.Common.{◌≡◌, ℕ, [], ◌∷◌, ap, subst, ◌∙◌, arith}
use Rattle.pg_entry.specs.declared.Cfg.{Cfg}
use Rattle.pg_event.specs.Form.{processor_of}
use Rattle.pg_event.specs.Values.{control_at}
use Rattle.pg_state.proofs.Known as registers
use Rattle.pg_moment.proofs.Known as memory
use Rattle.pg_inval.specs.Drops as drops
use Rattle.pg_inval.proofs.Kept as dropped
use Rattle.pg_chain.proofs.past.Past.note_drop.Goals as goal

pub returns-in-Err-note-clause-err : goal.returns-in-Err-note-clause-err
returns-in-Err-note-clause-err c = λ head events h count.
    let D : ℕ → Type 0 = λ n. drops.IsCutAt c.note_later.new.self c.forget_from.new.self n in
    let next = c.requires.next in
    let held : c.cfg.result.rules ≡ head.cfg.rules = ap (λ (s : Cfg). s.rules) (c.cfg.ensures.run head events h.controls) in
    let read : c.latest-before.result ≡ control_at head events (processor_of c.args.event.now) c.args.moment =
    c.latest-before.ensures.run head events h.controls c.args.moment (omega (arith, next.stands.controls.next, next.count))
    ∙ ap (λ q. control_at head events q c.args.moment) c.processor_of.ensures in
    record {
      versions = h.versions;
      controls = registers.StandsFor-same c.args.self.now.controls c.note.new.self head events h.controls c.in-Err-note.ensures.err;
      drops = dropped.StandsFor-cut c.note_later.new.self c.forget_from.new.self head events (c.args.event.now ∷ []) (c.in-Ok.ensures.run head events h.drops held count read) (subst D count c.forget_from.ensures);
    }

pub returns-in-Ok-note-clause-ok : goal.returns-in-Ok-note-clause-ok
returns-in-Ok-note-clause-ok c = λ head events h count.
    let next = c.requires.next in
    let held : c.cfg.result.rules ≡ head.cfg.rules = ap (λ (s : Cfg). s.rules) (c.cfg.ensures.run head events h.controls) in
    let read : c.latest-before.result ≡ control_at head events (processor_of c.args.event.now) c.args.moment =
    c.latest-before.ensures.run head events h.controls c.args.moment (omega (arith, next.stands.controls.next, next.count))
    ∙ ap (λ q. control_at head events q c.args.moment) c.processor_of.ensures in
    record {
      versions = memory.StandsFor-other c.args.self.now.versions events c.args.event.now h.versions c.requires.memory;
      controls = c.in-Ok-note.ensures.run head events h.controls count;
      drops = c.in-Ok.ensures.run head events h.drops held count read;
    }
