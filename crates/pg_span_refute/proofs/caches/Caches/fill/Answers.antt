use Rattle.std.proofs.Common.{◌≡◌, ◌+◌, ◌<◌, ◌≤◌, ℕ, length, take, get_or, sym, subst, arith}
use Rattle.pg_entry.specs.declared.Level.TheVariants.{Four}
use Rattle.pg_event.specs.Walk.{root_of}
use Rattle.pg_machine.specs.Machine.{IsIn}
use Rattle.pg_span_refute.specs.declared.caches.Caches.{Caches}
use Rattle.pg_span_refute.specs.declared.table.Table.{Table}
use Rattle.pg_span_refute.specs.declared.words.Words.{Words}
use Rattle.pg_span_refute.specs.Caches.{Known, Extends, known_of}
use Rattle.pg_span_refute.specs.Words.{AreWordsOf}
use Rattle.pg_span_refute.proofs.Passing.{AreTaken, extends_refl, extends_on, filled_by, got_at, grows_by, longer, table_still, taken_more}
use Rattle.pg_span_refute.proofs.caches.Caches.fill.Goals as goal
use Rattle.pg_span_refute.proofs.caches.Caches.fill.Goals.{else-table-pcid-via-then-table-pcid+in_ok-take_from+else-not-branch, else-table-pcid-via-else-table-pcid}

pub returns-then-place-len-clause-grows : goal.returns-then-place-len-clause-grows
returns-then-place-len-clause-grows c = λ yes. grows_by (known_of c.args.self.now) (known_of c.loop-place.self) c.loop-place.invariant.more

pub returns-then-place-len-clause-filled : goal.returns-then-place-len-clause-filled
returns-then-place-len-clause-filled c = λ yes.
    let short : length c.loop-place.self.tables.items ≤ c.loop-place.place = omega (arith, c.len.ensures, c.if-place-len.true) in
    filled_by c.args.run.now c.args.slot c.args.la (known_of c.args.self.now) (known_of c.loop-place.self) c.loop-place.place c.loop-place.invariant.more c.loop-place.invariant.root short c.loop-place.invariant.taken

pub loop-place-preserved : goal.loop-place-preserved
loop-place-preserved c =
    let n : ℕ = c.loop-place.place in
    let first : Known = known_of c.args.self.now in
    let old : Known = known_of c.loop-place.self in
    let pcid : ℕ = c.args.self.now.control.pcid in
    let root : Table = record { level = Four; pcid = pcid; from = root_of c.args.self.now.control } in
    let lt : n < length old.tables = omega (arith, c.len.ensures, c.if-place-len.false) in
    let is : c.get-table.result ≡ get_or old.tables n c.get-table.result = got_at old.tables n c.get-table.result c.index.result.now c.get-table.ensures.value c.index.ensures in
    elim c.else-table-pcid.branch [
      | else-table-pcid-via-then-table-pcid+in_ok-take_from+else-not-branch w ↦
          let new : Known = known_of w.take_from.new.self in
          let more : Extends old new = w.in_ok-take_from.ensures.more in
          record {
            more = subst (λ (v : Caches). Extends first (known_of v)) (sym w.self-is) (extends_on first old new c.loop-place.invariant.more more);
            root = subst (λ (v : Caches). IsIn root v.tables.items) (sym w.self-is) (table_still old new more root c.loop-place.invariant.root);
            words = subst (λ (v : Words). AreWordsOf c.args.run.now.events v.words.items) (sym w.words-is) w.in_ok-take_from.ensures.words;
            within = subst (λ (v : Caches). n + 1 ≤ length v.tables.items) (sym w.self-is) (longer old new (n + 1) more (omega (arith, lt)));
            taken = subst (λ (v : Caches). AreTaken c.args.run.now c.args.slot c.args.la pcid (known_of v) (take (n + 1) v.tables.items)) (sym w.self-is)
                (taken_more c.args.run.now c.args.slot c.args.la pcid old new n c.get-table.result more lt is c.loop-place.invariant.taken (λ p. w.in_ok-take_from.ensures.taken w.if-not-branch.false));
          }
      | else-table-pcid-via-else-table-pcid w ↦ record {
        more = subst (λ (v : Caches). Extends first (known_of v)) (sym w.self-is) c.loop-place.invariant.more;
        root = subst (λ (v : Caches). IsIn root v.tables.items) (sym w.self-is) c.loop-place.invariant.root;
        words = subst (λ (v : Words). AreWordsOf c.args.run.now.events v.words.items) (sym w.words-is) c.loop-place.invariant.words;
        within = subst (λ (v : Caches). n + 1 ≤ length v.tables.items) (sym w.self-is) (let le : n + 1 ≤ length old.tables = omega (arith, lt) in le);
        taken = subst (λ (v : Caches). AreTaken c.args.run.now c.args.slot c.args.la pcid (known_of v) (take (n + 1) v.tables.items)) (sym w.self-is)
            (taken_more c.args.run.now c.args.slot c.args.la pcid old old n c.get-table.result (extends_refl old) lt is c.loop-place.invariant.taken (λ p. absurd (w.if-table-pcid.false p)));
      }
    ]
