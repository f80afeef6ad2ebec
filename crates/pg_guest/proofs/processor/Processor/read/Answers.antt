use Rattle.std.proofs.Common.{◌≡◌, ◌+◌, List, None, true, sym, ◌∙◌, ap, ap₂, subst}
use Rattle.pg_entry.specs.declared.Cfg.{Cfg}
use Rattle.pg_entry.specs.Kinds.{kind_of}
use Rattle.pg_event.specs.declared.event.Want.TheVariants.{Present}
use Rattle.pg_event.specs.Wants.{is_wanted}
use Rattle.pg_shadow.specs.Held.{seen as cached}
use Rattle.pg_world.specs.declared.receipt.Receipt.{Receipt}
use Rattle.pg_world.specs.declared.walk.LevelRead.TheVariants.{Entry, Fault, Assisted}
use Rattle.pg_world.specs.declared.walk.LevelRead.{LevelRead}
use Rattle.pg_world.specs.Recording.{with_event}
use Rattle.pg_world.specs.Walks.{found_in, after_found}
use Rattle.pg_shadow.specs.declared.entries.Found.TheVariants.{Miss}
use Rattle.pg_shadow.specs.Caches.{Caches}
use Rattle.pg_guest.specs.declared.advance.Advance.TheVariants as answers
use Rattle.pg_guest.specs.Turn.{Processor, Turned, done, assisted, refused_by}
use Rattle.pg_guest.proofs.Further.{entries_are_present}
use Rattle.pg_guest.specs.Held.{Held, seen}
use Rattle.pg_guest.specs.Steps.{answer_of}
use Rattle.pg_guest.proofs.Read.{entry_so, read_so, refused_so}
use Rattle.pg_guest.proofs.Refused.{entry_unfinished}
use Rattle.pg_guest.proofs.processor.Processor.read.Goals as goal

pub keep-requires-clause-present : goal.keep-requires-clause-present
keep-requires-clause-present c =
    let r = c.args.world.now in
    let found : found_in r c.self.inside.number c.args.walk.now ≡ Entry c.in-Ok-Entry.value c.in-Ok-Entry.moment = sym c.in-Ok-Entry.ensures.found ∙ c.in-Ok-Entry.field-0-is in
    subst (λ (cfg : Cfg). is_wanted Present (kind_of cfg c.args.walk.now.level c.in-Ok-Entry.value) ≡ true) (sym c.cfg_of-cfg.ensures.value)
    (entries_are_present r c.self.inside.number c.args.walk.now c.in-Ok-Entry.value c.in-Ok-Entry.moment found)

pub returns-in-Ok-Entry-clause-turn : goal.returns-in-Ok-Entry-clause-turn
returns-in-Ok-Entry-clause-turn c =
    let r = c.args.world.now in
    let was = c.self.inside in
    let with_room : List Receipt → Processor = λ transcript. record {
      instructions = was.instructions.now;
      place = was.place;
      way = was.way;
      transcript = transcript;
      caches = cached was.shadow;
    } in
    let number : was.number ≡ c.args.self.now.number = ap (λ (h : Held). h.number) c.self.view_is in
    let same : with_room c.reserve.new.self.items ≡ seen c.args.self.now = ap with_room c.reserve.ensures.items ∙ ap seen c.self.view_is in
    let found : found_in r was.number c.args.walk.now ≡ Entry c.in-Ok-Entry.value c.in-Ok-Entry.moment = sym c.in-Ok-Entry.ensures.found ∙ c.in-Ok-Entry.field-0-is in
    entry_so was.number c.args.self.now.number r c.read_level.new.world _ _ (seen c.keep.new.self) c.args.way c.args.walk.now c.keep.result c.in-Ok-Entry.value c.in-Ok-Entry.moment c.cfg_of-cfg.result
    number same c.cfg_of-cfg.ensures.value found c.in-Ok-Entry.ensures.recorded
    (entry_unfinished r c.args.walk.now.level _ c.in-Ok-Entry.value c.in-Ok-Entry.moment c.in-Ok-Entry.field-0-is c.in-Ok-Entry.ensures.ok) c.keep.ensures.turn

pub returns-in-Err-clause-turn : goal.returns-in-Err-clause-turn
returns-in-Err-clause-turn c =
    let r = c.args.world.now in
    let was = c.self.inside in
    let with_room : List Receipt → Processor = λ transcript. record {
      instructions = was.instructions.now;
      place = was.place;
      way = was.way;
      transcript = transcript;
      caches = cached was.shadow;
    } in
    let number : was.number ≡ c.args.self.now.number = ap (λ (h : Held). h.number) c.self.view_is in
    let same : with_room c.reserve.new.self.items ≡ seen c.args.self.now = ap with_room c.reserve.ensures.items ∙ ap seen c.self.view_is in
    refused_so was.number c.args.self.now.number r c.read_level.new.world (with_room c.reserve.new.self.items) (seen c.args.self.now) (seen c.stopped-in-Err.new.self) c.args.way c.args.walk.now
    c.stopped-in-Err.result c.in-Err.why number same c.in-Err.ensures.err c.stopped-in-Err.ensures.answer (ap seen c.stopped-in-Err.ensures.left) c.requires.due c.in-Err.ensures.refused

pub returns-in-Ok-Fault-clause-turn : goal.returns-in-Ok-Fault-clause-turn
returns-in-Ok-Fault-clause-turn c =
    let r = c.args.world.now in
    let was = c.self.inside in
    let arm = c.in-Ok-Fault in
    let receipt = arm.receipt in
    let with_room : List Receipt → Processor = λ transcript. record {
      instructions = was.instructions.now;
      place = was.place;
      way = was.way;
      transcript = transcript;
      caches = cached was.shadow;
    } in
    let x : Processor = with_room c.reserve.new.self.items in
    let number : was.number ≡ c.args.self.now.number = ap (λ (h : Held). h.number) c.self.view_is in
    let same : x ≡ seen c.args.self.now = ap with_room c.reserve.ensures.items ∙ ap seen c.self.view_is in
    let found : found_in r was.number c.args.walk.now ≡ Fault receipt = sym arm.ensures.found ∙ arm.field-0-is in
    let world : c.read_level.new.world ≡ with_event r receipt.event = arm.ensures.recorded ∙ ap (after_found r) found in
    let granted : refused_by r (answer_of c.args.walk.now.level (Fault receipt)) ≡ None = subst (λ (f : LevelRead). refused_by r (answer_of c.args.walk.now.level f) ≡ None) arm.field-0-is arm.ensures.ok in
    let made : List Receipt → Caches → Processor = λ transcript caches. record {
      instructions = was.instructions.now;
      place = was.place + 1;
      way = Miss;
      transcript = transcript;
      caches = caches;
    } in
    let noted : made c.note.new.transcript.items (cached c.note.new.shadow) ≡ (done r x receipt).processor = ap₂ made c.note.ensures.transcript c.note.ensures.shadow in
    let left = ap seen c.done.ensures.left ∙ noted in
    let t : Turned = record { answer = c.done.result; world = c.read_level.new.world; processor = seen c.done.new.self } in
    let is : t ≡ done r x receipt = λ i. record { answer = c.done.ensures.answer i; world = world i; processor = left i } in
    read_so was.number c.args.self.now.number r x (seen c.args.self.now) c.args.way c.args.walk.now (Fault receipt) t number same found granted is

pub returns-in-Ok-Assisted-clause-turn : goal.returns-in-Ok-Assisted-clause-turn
returns-in-Ok-Assisted-clause-turn c =
    let r = c.args.world.now in
    let was = c.self.inside in
    let arm = c.in-Ok-Assisted in
    let receipt = arm.receipt in
    let with_room : List Receipt → Processor = λ transcript. record {
      instructions = was.instructions.now;
      place = was.place;
      way = was.way;
      transcript = transcript;
      caches = cached was.shadow;
    } in
    let x : Processor = with_room c.reserve.new.self.items in
    let number : was.number ≡ c.args.self.now.number = ap (λ (h : Held). h.number) c.self.view_is in
    let same : x ≡ seen c.args.self.now = ap with_room c.reserve.ensures.items ∙ ap seen c.self.view_is in
    let found : found_in r was.number c.args.walk.now ≡ Assisted receipt = sym arm.ensures.found ∙ arm.field-0-is in
    let world : c.read_level.new.world ≡ with_event r receipt.event = arm.ensures.recorded ∙ ap (after_found r) found in
    let granted : refused_by r (answer_of c.args.walk.now.level (Assisted receipt)) ≡ None = subst (λ (f : LevelRead). refused_by r (answer_of c.args.walk.now.level f) ≡ None) arm.field-0-is arm.ensures.ok in
    let made : List Receipt → Caches → Processor = λ transcript caches. record {
      instructions = was.instructions.now;
      place = was.place;
      way = c.args.way;
      transcript = transcript;
      caches = caches;
    } in
    let note = c.note-in-Ok-Assisted in
    let left : made note.new.transcript.items (cached note.new.shadow) ≡ (assisted r x c.args.way receipt).processor = ap₂ made note.ensures.transcript note.ensures.shadow in
    let t : Turned = record {
      answer = answers.Assisted receipt;
      world = c.read_level.new.world;
      processor = made note.new.transcript.items (cached note.new.shadow);
    } in
    let is : t ≡ assisted r x c.args.way receipt = λ i. record { answer = answers.Assisted receipt; world = world i; processor = left i } in
    read_so was.number c.args.self.now.number r x (seen c.args.self.now) c.args.way c.args.walk.now (Assisted receipt) t number same found granted is
