use Rattle.std.proofs.Common.{◌≡◌, ◌<◌, ◌≤◌, ℕ, List, length, get_or, sym, ap, subst, ◌∙◌}
use Rattle.pg_entry.specs.Kinds.{kind_of}
use Rattle.pg_machine.specs.Machine.{IsIn}
use Rattle.pg_span_refute.specs.declared.table.Table.{Table}
use Rattle.pg_span_refute.specs.declared.words.Words.{Words}
use Rattle.pg_span_refute.specs.Caches.{kind_for, word_in}
use Rattle.pg_span_refute.specs.Memory.{MayHold}
use Rattle.pg_span_refute.specs.Words.{AreWordsOf}
use Rattle.pg_span_refute.proofs.Taken.{one_more, take_all}
use Rattle.pg_span_refute.proofs.refuter.has_no_fault.Goals as goal
use Rattle.pg_span_refute.proofs.refuter.has_no_fault.Goals.{else-table-caches-via-then-table-caches+in_ok-table_faults_not+else-not-branch, else-table-caches-via-else-table-caches}

pub loop-held-preserved : goal.loop-held-preserved
loop-held-preserved c =
    let xs : List Table = c.args.caches.now.tables.items in
    let same : c.deref-held-items.result.now ≡ xs = c.deref-held-items.ensures.value in
    let lt : c.loop-held.held-index < length xs = subst (λ (ys : List Table). c.loop-held.held-index < length ys) same c.loop-held-test.true in
    let is : c.held-item.result ≡ get_or xs c.loop-held.held-index c.held-item.result = c.held-item.is ∙ ap (λ (ys : List Table). get_or ys c.loop-held.held-index c.held-item.result) same in
    elim c.else-table-caches.branch [
      | else-table-caches-via-then-table-caches+in_ok-table_faults_not+else-not-branch w ↦ record {
        words = subst (λ (v : Words). AreWordsOf c.args.run.now.events v.words.items) (sym w.words-is) w.in_ok-table_faults_not.ensures.words;
        none = one_more (λ (t : Table). t.pcid ≡ c.args.caches.now.control.pcid → (entry : ℕ) → MayHold c.args.run.now c.args.slot (word_in c.args.asked.la t) entry →
            kind_of c.args.run.now.head.cfg t.level entry ≡ kind_for c.args.cause → ⊥)
            xs c.loop-held.held-index c.held-item.result lt is c.loop-held.invariant.none
            (subst (λ (t : Table). t.pcid ≡ c.args.caches.now.control.pcid → (entry : ℕ) → MayHold c.args.run.now c.args.slot (word_in c.args.asked.la t) entry →
            kind_of c.args.run.now.head.cfg t.level entry ≡ kind_for c.args.cause → ⊥) c.get-table.ensures.value
            (λ p. w.in_ok-table_faults_not.ensures.none w.if-not-branch.false));
      }
      | else-table-caches-via-else-table-caches w ↦ record {
        words = subst (λ (v : Words). AreWordsOf c.args.run.now.events v.words.items) (sym w.words-is) c.loop-held.invariant.words;
        none = one_more (λ (t : Table). t.pcid ≡ c.args.caches.now.control.pcid → (entry : ℕ) → MayHold c.args.run.now c.args.slot (word_in c.args.asked.la t) entry →
            kind_of c.args.run.now.head.cfg t.level entry ≡ kind_for c.args.cause → ⊥)
            xs c.loop-held.held-index c.held-item.result lt is c.loop-held.invariant.none
            (subst (λ (t : Table). t.pcid ≡ c.args.caches.now.control.pcid → (entry : ℕ) → MayHold c.args.run.now c.args.slot (word_in c.args.asked.la t) entry →
            kind_of c.args.run.now.head.cfg t.level entry ≡ kind_for c.args.cause → ⊥) c.get-table.ensures.value
            (λ p. absurd (w.if-table-caches.false p)));
      }
    ]

pub returns-clause-none : goal.returns-clause-none
returns-clause-none c = λ yes t entry there own may kind code.
    let short : length c.args.caches.now.tables.items ≤ c.loop-held.held-index =
    subst (λ (ys : List Table). length ys ≤ c.loop-held.held-index) c.deref-held-items.ensures.value c.loop-held-test.false in
    c.loop-held.invariant.none t (subst (IsIn t) (sym (take_all c.args.caches.now.tables.items c.loop-held.held-index short)) there) own entry may kind
