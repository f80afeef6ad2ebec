use Rattle.std.proofs.Common.{refl, sym, ◌∙◌}
use Rattle.std.proofs.lemmas.Result.{on_ok_weaker}
use Rattle.pg_chain.proofs.Notes.{IsPast-value, IsPast-flags, Leaves-value, Leaves-flags}
use Rattle.pg_chain.proofs.past.Past.note_kind.Goals as goal

pub returns-in-Value-clause-ok : goal.returns-in-Value-clause-ok
returns-in-Value-clause-ok c = λ head events h count.
    let v = c.in-Value in
    on_ok_weaker c.note.result
    (λ m. IsPast-value c.args.self.now _ head events v.addr v.value c.args.event.now (sym c.memory_change.ensures.value ∙ v.is) refl refl h m)
    (c.note.ensures.run events c.args.event.now h.versions count (Leaves-value events v.addr v.value c.args.event.now c.memory_change.result c.memory_change.ensures.written v.is))

pub returns-in-Flags-clause-ok : goal.returns-in-Flags-clause-ok
returns-in-Flags-clause-ok c = λ head events h count.
    let f = c.in-Flags in
    on_ok_weaker c.note-in-Flags.result
    (λ m. IsPast-flags c.args.self.now _ head events f.addr f.dirty c.args.event.now (sym c.memory_change.ensures.value ∙ f.is) refl refl h m)
    (c.note-in-Flags.ensures.run events c.args.event.now h.versions count
    (Leaves-flags events f.addr c.args.moment c.at-before.result c.marked-after.result.0 f.dirty c.args.event.now c.memory_change.result c.memory_change.ensures.written f.is
    count (c.at-before.ensures.memory events h.versions) c.marked-after.ensures))
