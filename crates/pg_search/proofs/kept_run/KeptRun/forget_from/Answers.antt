use Rattle.std.proofs.Common.{◌≡◌, ◌≤◌, List, ◌++◌, length, take, drop, Option, rules, nat_lt, sym, ap, subst, ◌∙◌, arith}
use Rattle.std.proofs.lemmas.Fn.{filter_same}
use Rattle.std.proofs.lemmas.List.{length-take, take-append-drop}
use Rattle.pg_event.specs.declared.event.Event.{Event}
use Rattle.pg_event.specs.Spelling.{Recorded}
use Rattle.pg_chain.specs.Standing.{IsPast}
use Rattle.pg_check.specs.declared.memo.Slot.{Slot}
use Rattle.pg_check.specs.declared.stems.Stem.{Stem}
use Rattle.pg_check.specs.Remembered.{HaveWalks}
use Rattle.pg_check.specs.Stems.{HaveStems}
use Rattle.pg_search.specs.Briefs.{events_from, IsKept}
use Rattle.pg_search.specs.declared.brief.Brief.{Brief}
use Rattle.pg_search.proofs.Briefs.{events_count, below, front}
use Rattle.pg_search.proofs.kept_run.KeptRun.forget_from.Goals as goal

abbrev Cut : goal.After-self-1 → Type 0
Cut c =
    let s = c.self.inside in
    IsKept s.header c.forget_from.new.self s.pairs.items c.retain.new.self.items c.args.number
    × (events_from c.forget_from.new.self.versions s.pairs.items c.retain.new.self.items 0 c.args.number ≡ take c.args.number (events_from s.past.versions s.pairs.items s.briefs.items 0 s.count))

cut : (c : goal.After-self-1) → Cut c
cut c =
    let s = c.self.inside in
    let n = c.args.number in
    let all : List Event = events_from s.past.versions s.pairs.items s.briefs.items 0 s.count in
    let within : n ≤ length all = subst (λ (r : Recorded). n ≤ length r.events) (sym c.self.view_is) c.requires in
    let parts : IsPast s.past s.header (take n all ++ drop n all) = subst (λ (es : List Event). IsPast s.past s.header es) (sym (take-append-drop n all)) c.self.invariant.0.seen.stands in
    let now : IsPast c.forget_from.new.self s.header (take n all) = c.forget_from.ensures s.header (take n all) (drop n all) parts (omega (arith, within, length-take n all)) in
    let left : c.retain.new.self.items ≡ below n s.briefs.items = filter_same _ (λ (b : Brief). nat_lt b.number n) _ (λ x b f k. search rules) _ _ c.retain.ensures.filtered in
    front s.past c.forget_from.new.self s.header s.pairs.items s.briefs.items c.retain.new.self.items s.count n c.self.invariant.0 (omega (arith, within, events_count s.past.versions s.pairs.items s.briefs.items 0 s.count)) left now

pub invariant_of-self : goal.invariant_of-self
invariant_of-self c = (
  (cut c).0,
  subst (λ (slots : List (Option Slot)). HaveWalks c.forget_from.new.self c.args.number slots) (sym c.new.ensures.slots) tt,
  subst (λ (stems : List (Option Stem)). HaveStems c.forget_from.new.self c.args.number stems) (sym c.new.ensures.stems) tt,
)

pub returns : goal.returns
returns c =
    let n = c.args.number in
    ap (λ (es : List Event). record { head = c.self.inside.header; events = es }) (cut c).1
    ∙ ap (λ (r : Recorded). record { head = r.head; events = take n r.events }) c.self.view_is
