use Rattle.std.proofs.Common.{◌≡◌, ◌+◌, [], ◌∷◌, length, length-append, sym, subst, arith}
use Rattle.pg_check.specs.Judging.{Noted, HasNoted, MayNote}
use Rattle.pg_check.specs.Remembered.{HaveWalks}
use Rattle.pg_check.specs.Stems.{HaveStems}
use Rattle.pg_check.proofs.Judgings.{noted}
use Rattle.pg_check.proofs.Grown.{walks_noted, walks_later}
use Rattle.pg_check.proofs.Uppers.{stems_noted, stems_later}
use Rattle.pg_check.proofs.judge.Judge.note_next.Goals as goal

pub invariant_of-self-in-Err : goal.invariant_of-self-in-Err
invariant_of-self-in-Err c =
    let s = c.self.inside in
    let e = c.args.event.now in
    let may : MayNote (noted s.past s.count) (e ∷ []) = subst (λ (x : Noted). MayNote x (e ∷ [])) (sym c.self.view_is) c.requires in
    let count : s.count ≡ length may.before = may.noted.count in (
      walks_noted c.note_later.result s.past c.note_later.new.self s.count may.head may.before (e ∷ []) s.kept.slots.items (omega (arith, count)) may.noted.past
          (c.note_later.ensures.ok may.head may.before may.noted.past count) (c.note_later.ensures.err may.head may.before may.noted.past count) c.self.invariant.0,
      stems_noted c.note_later.result s.past c.note_later.new.self s.count may.head may.before (e ∷ []) s.kept.stems.items (omega (arith, count)) may.noted.past
          (c.note_later.ensures.ok may.head may.before may.noted.past count) (c.note_later.ensures.err may.head may.before may.noted.past count) c.self.invariant.1,
    )

pub invariant_of-self : goal.invariant_of-self
invariant_of-self c =
    let s = c.self.inside in
    let e = c.args.event.now in
    let may : MayNote (noted s.past s.count) (e ∷ []) = subst (λ (x : Noted). MayNote x (e ∷ [])) (sym c.self.view_is) c.requires in
    let count : s.count ≡ length may.before = may.noted.count in
    let walks : HaveWalks c.note_later.new.self s.count s.kept.slots.items =
    walks_noted c.note_later.result s.past c.note_later.new.self s.count may.head may.before (e ∷ []) s.kept.slots.items (omega (arith, count)) may.noted.past
    (c.note_later.ensures.ok may.head may.before may.noted.past count) (c.note_later.ensures.err may.head may.before may.noted.past count) c.self.invariant.0 in
    let stems : HaveStems c.note_later.new.self s.count s.kept.stems.items =
    stems_noted c.note_later.result s.past c.note_later.new.self s.count may.head may.before (e ∷ []) s.kept.stems.items (omega (arith, count)) may.noted.past
    (c.note_later.ensures.ok may.head may.before may.noted.past count) (c.note_later.ensures.err may.head may.before may.noted.past count) c.self.invariant.1 in (
      walks_later c.note_later.new.self s.count (s.count + 1) s.kept.slots.items (omega arith) walks,
      stems_later c.note_later.new.self s.count (s.count + 1) s.kept.stems.items (omega arith) stems,
    )

pub returns-in-Ok-clause-ok : goal.returns-in-Ok-clause-ok
returns-in-Ok-clause-ok c = λ head before h.
    let s = c.self.inside in
    let was : HasNoted (noted s.past s.count) head before = subst (λ (x : Noted). HasNoted x head before) (sym c.self.view_is) h in
    let count : s.count ≡ length before = was.count in
    record { past = c.in-Ok.ensures.ok head before was.past was.count; count = omega (arith, count, length-append before (c.args.event.now ∷ [])) }

pub returns-in-Err-clause-err : goal.returns-in-Err-clause-err
returns-in-Err-clause-err c = λ head before h.
    let s = c.self.inside in
    let was : HasNoted (noted s.past s.count) head before = subst (λ (x : Noted). HasNoted x head before) (sym c.self.view_is) h in
    record { past = c.in-Err.ensures.err head before was.past was.count; count = was.count }
