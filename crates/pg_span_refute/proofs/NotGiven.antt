-- To what no memory gives no run comes in any order.
use Rattle.std.proofs.Common.{◌≡◌, ℕ, zero, suc, ◌+◌, ◌*◌, ◌/◌, ◌%◌, ◌^◌, ◌<◌, ◌==◌, ◌&&◌, ◌||◌, Bool, true, false, not, cond, List, [], ◌∷◌, take, refl, ap, sym, ◌∙◌, subst, arith, inl, inr, Option, Some, None, eq-eqb}
use Rattle.std.specs.Prelude.{slice_get}
use Rattle.std.specs.Option.{option_map}
use Rattle.std.proofs.lemmas.Option.{slice_get-map}
use Rattle.pg_entry.specs.declared.AccessKind.{AccessKind}
use Rattle.pg_entry.specs.declared.Cause.TheVariants as causes
use Rattle.pg_entry.specs.declared.Cfg.{Cfg}
use Rattle.pg_entry.specs.declared.Kind.{Kind}
use Rattle.pg_entry.specs.declared.Kind.TheVariants as kinds
use Rattle.pg_entry.specs.declared.Level.{Level}
use Rattle.pg_entry.specs.declared.Level.TheVariants.{Four, Three, Two, One}
use Rattle.pg_entry.specs.declared.Op.{Op}
use Rattle.pg_entry.specs.declared.Op.TheVariants as ops
use Rattle.pg_entry.specs.declared.Rights.{Rights}
use Rattle.pg_entry.specs.Bits.{has_bit, field}
use Rattle.pg_entry.specs.Kinds.{wp, smap, is_reserved, table_of, target, leaf_shift, kind_of}
use Rattle.pg_entry.specs.Permission.{is_allowed, fault_code, joined}
use Rattle.pg_event.specs.declared.control.Control.{Control}
use Rattle.pg_event.specs.declared.event.Event.{Event}
use Rattle.pg_event.specs.declared.event.Event.TheVariants.{Write, Access, Assist, MovCr3, Invlpg, Invpcid, MovCr4Pge}
use Rattle.pg_event.specs.declared.event.Outcome.{Outcome}
use Rattle.pg_event.specs.declared.event.Outcome.TheVariants as outcomes
use Rattle.pg_event.specs.declared.event.Want.{Want}
use Rattle.pg_event.specs.declared.event.Want.TheVariants as wants
use Rattle.pg_event.specs.declared.walk.Parent.{Parent}
use Rattle.pg_event.specs.Form.{access_kind, says_dirty}
use Rattle.pg_event.specs.Heads.{Head}
use Rattle.pg_event.specs.Invalidation.{level_shift}
use Rattle.pg_event.specs.Values.{loaded, controlled, started}
use Rattle.pg_event.specs.Walk.{entry_address, root_of}
use Rattle.pg_event.specs.Wants.{want_of, may_dirty}
use Rattle.pg_machine.specs.declared.step.Member.{Member}
use Rattle.pg_machine.specs.declared.step.Member.TheVariants as members
use Rattle.pg_machine.specs.declared.step.Step.{Step}
use Rattle.pg_machine.specs.declared.step.Step.TheVariants.{Fill4, Fill3, Fill2, FillLeaf, Drop, Do}
use Rattle.pg_machine.specs.declared.step.Structure.{Structure}
use Rattle.pg_machine.specs.declared.step.Translation.{Translation}
use Rattle.pg_machine.specs.Machine.{State, IsIn, MayRead, FindsLeaf, HasOutcome, MayAssist, MayCome, MayTake, RunsFrom, visible, start, after, after_event, entry_now, with_table, with_leaf, without, translation_at, same_structure, same_translation}
use Rattle.pg_run_of.specs.Converse.{without_moments}
use Rattle.pg_span_run.specs.Orders.{Spanned, ordered}
use Rattle.pg_span_run.proofs.Orders.{order_within}
use Rattle.pg_span_refute.specs.Impossible.{is_ever_denied, is_code_of, may_come_to, may_read_at, may_update, may_be_given, NoMemoryGives}
use Rattle.pg_span_refute.specs.Orders.{NeverComes}
use Rattle.pg_span_refute.proofs.Covering.{in_pushed, in_dropped, in_filtered}
use Rattle.pg_span_refute.proofs.Prefixes.{shift_is}
use Rattle.pg_span_refute.proofs.Refuting.{mapped_some, at_take, ordered_at, may_bare}

-- ---- multiples of 4 KBytes

field_aligned : (e m : ℕ) (level : Level) → field e (level_shift level) m % 4096 ≡ 0
field_aligned e m Four = omega arith
field_aligned e m Three = omega arith
field_aligned e m Two = omega arith
field_aligned e m One = omega arith

chosen : (b c : Bool) (k l : Kind) (frame shift : ℕ) (g : Bool) → cond b kinds.Absent (cond c kinds.Reserved k) ≡ kinds.Leaf frame shift g → k ≡ kinds.Leaf frame shift g
chosen true c k l frame shift g h = absurd (cc)
chosen false true k l frame shift g h = absurd (cc)
chosen false false k l frame shift g h = h

targeted : (m e n : ℕ) (b : Bool) (frame shift : ℕ) (g : Bool) → target m e (cond b (Some n) None) ≡ kinds.Leaf frame shift g → frame ≡ field e n m
targeted m e n true frame shift g h = cc
targeted m e n false frame shift g h = absurd (cc)

frame_is : (cfg : Cfg) (level : Level) (e frame shift : ℕ) (g : Bool) → kind_of cfg level e ≡ kinds.Leaf frame shift g → frame ≡ field e (level_shift level) cfg.m
frame_is cfg Four e frame shift g h = targeted cfg.m e 39 false frame shift g (chosen (not (has_bit e 0)) (is_reserved cfg Four e) (target cfg.m e (leaf_shift Four e)) kinds.Absent frame shift g h)
frame_is cfg Three e frame shift g h = targeted cfg.m e 30 (has_bit e 7) frame shift g (chosen (not (has_bit e 0)) (is_reserved cfg Three e) (target cfg.m e (leaf_shift Three e)) kinds.Absent frame shift g h)
frame_is cfg Two e frame shift g h = targeted cfg.m e 21 (has_bit e 7) frame shift g (chosen (not (has_bit e 0)) (is_reserved cfg Two e) (target cfg.m e (leaf_shift Two e)) kinds.Absent frame shift g h)
frame_is cfg One e frame shift g h = targeted cfg.m e 12 true frame shift g (chosen (not (has_bit e 0)) (is_reserved cfg One e) (target cfg.m e (leaf_shift One e)) kinds.Absent frame shift g h)

-- a translation is of a page that a level gives
record IsPage (x : Translation) : Type 0 where
  level : Level
  size : x.key.shift ≡ level_shift level
  frame : x.frame % 4096 ≡ 0

-- tables and pages lie at multiples of 4 KBytes
record IsAligned (st : State) : Type 0 where
  roots : (p : ℕ) → (st.control p).root % 4096 ≡ 0
  tables : (p : ℕ) (x : Structure) → IsIn x (st.structures p) → x.table % 4096 ≡ 0
  pages : (p : ℕ) (x : Translation) → IsIn x (st.translations p) → IsPage x

started_aligned : (m : ℕ) (o : Option (ℕ × Bool)) → (started m o).root % 4096 ≡ 0
started_aligned m None = refl
started_aligned m (Some at) = field_aligned at.0 m One

loaded_or : (b : Bool) (m operand : ℕ) (c : Control) → c.root % 4096 ≡ 0 → (cond b (loaded m operand c.pge) c).root % 4096 ≡ 0
loaded_or true m operand c h = field_aligned operand m One
loaded_or false m operand c h = h

root_kept : (b on : Bool) (c : Control) → c.root % 4096 ≡ 0 → (cond b (record c { pge = on }) c).root % 4096 ≡ 0
root_kept true on c h = h
root_kept false on c h = h

controlled_aligned : (m p : ℕ) (c : Control) (e : Event) → c.root % 4096 ≡ 0 → (controlled m p c e).root % 4096 ≡ 0
controlled_aligned m p c (MovCr3 q operand) h = loaded_or (q == p) m operand c h
controlled_aligned m p c (MovCr4Pge q on) h = root_kept (q == p) on c h
controlled_aligned m p c (Write q addr value) h = h
controlled_aligned m p c (Access q flags la outcome moments) h = h
controlled_aligned m p c (Assist q flags la word moments) h = h
controlled_aligned m p c (Invlpg q la) h = h
controlled_aligned m p c (Invpcid q kind pcid la) h = h

start_aligned : (head : Head) → IsAligned (start head)
start_aligned head = record {
  roots = λ p. started_aligned head.cfg.m (slice_get head.processors p);
  tables = λ p x h. absurd h;
  pages = λ p x h. absurd h;
}

table_aligned : (head : Head) (st : State) (p la : ℕ) (level : Level) (from : Parent) → IsAligned st → IsAligned (with_table head st p la level from)
table_aligned head st p la level from is = record {
  roots = is.roots;
  tables = λ q x h. elim (in_pushed p q x _ st.structures h) [
    | inl new ↦ subst (λ (y : Structure). y.table % 4096 ≡ 0) new.1 (field_aligned (entry_now st la level from) head.cfg.m One)
    | inr old ↦ is.tables q x old
  ];
  pages = is.pages;
}

leaf_aligned : (head : Head) (st : State) (p la : ℕ) (level : Level) (from : Parent) → IsAligned st → FindsLeaf head st p la level from →
    IsAligned (with_leaf st p (translation_at (st.control p) la (joined from.rights (entry_now st la level from)) (entry_now st la level from)
    (kind_of head.cfg level (entry_now st la level from))))
leaf_aligned head st p la level from is found =
    let entry : ℕ = entry_now st la level from in
    let frame : ℕ = found.0 in
    let shift : ℕ = found.1 in
    let g : Bool = found.2 in
    let kind : kind_of head.cfg level entry ≡ kinds.Leaf frame shift g = found.3.3 in
    let low : frame % 4096 ≡ 0 = ap (λ n. n % 4096) (frame_is head.cfg level entry frame shift g kind) ∙ field_aligned entry head.cfg.m level in
    subst (λ k. IsAligned (with_leaf st p (translation_at (st.control p) la (joined from.rights entry) entry k))) (sym kind) (record {
      roots = is.roots;
      tables = is.tables;
      pages = λ q x h. elim (in_pushed p q x _ st.translations h) [
        | inl new ↦ subst IsPage new.1 (record { level = level; size = shift_is head.cfg level entry frame shift g kind; frame = low })
        | inr old ↦ is.pages q x old
      ];
    })

drop_aligned : (st : State) (p : ℕ) (member : Member) → IsAligned st → IsAligned (without st p member)
drop_aligned st p (members.Structure y) is = record {
  roots = is.roots;
  tables = λ q x h. is.tables q x (in_dropped p q (λ z. not (same_structure y z)) x st.structures h);
  pages = is.pages;
}
drop_aligned st p (members.Translation y) is = record {
  roots = is.roots;
  tables = is.tables;
  pages = λ q x h. is.pages q x (in_dropped p q (λ z. not (same_translation y z)) x st.translations h);
}

event_aligned : (head : Head) (st : State) (e : Event) → IsAligned st → IsAligned (after_event head st e)
event_aligned head st e is = record {
  roots = λ p. controlled_aligned head.cfg.m p (st.control p) e (is.roots p);
  tables = λ p x h. is.tables p x (in_filtered _ x (st.structures p) h).0;
  pages = λ p x h. is.pages p x (in_filtered _ x (st.translations p) h).0;
}

step_aligned : (head : Head) (st : State) (step : Step) → IsAligned st → MayTake head st step → IsAligned (after head st step)
step_aligned head st (Fill4 p la) is may = table_aligned head st p la Four (root_of (st.control p)) is
step_aligned head st (Fill3 p la from) is may = table_aligned head st p la Three from is
step_aligned head st (Fill2 p la from) is may = table_aligned head st p la Two from is
step_aligned head st (FillLeaf p la level from) is may = leaf_aligned head st p la level from is may
step_aligned head st (Drop p member) is may = drop_aligned st p member is
step_aligned head st (Do e) is may = event_aligned head st e is

-- ---- accesses

denied_read : (u s a : Bool) → (not u || not s || a) ≡ false → (not (not false || not s || a) || not (not true || not s || a)) ≡ true
denied_read false s a h = absurd (cc)
denied_read true false a h = absurd (cc)
denied_read true true true h = absurd (cc)
denied_read true true false h = refl

denied_write : (u w p s a : Bool) → ((not u || not s || a) && (not p || w)) ≡ false → (not ((not false || not s || a) && (not p || false)) || not ((not true || not s || a) && (not p || false))) ≡ true
denied_write u w true s a h = refl
denied_write false w false s a h = absurd (cc)
denied_write true w false false a h = absurd (cc)
denied_write true w false true true h = absurd (cc)
denied_write true w false true false h = refl

some_deny : (cfg : Cfg) (rights : Rights) (op : Op) (user ac : Bool) → is_allowed cfg rights (record { op = op; user = user; ac = ac }) ≡ false → is_ever_denied cfg (record { op = op; user = user; ac = ac }) ≡ true
some_deny cfg rights ops.Read true ac h = refl
some_deny cfg rights ops.Write true ac h = refl
some_deny cfg rights ops.Fetch true ac h = refl
some_deny cfg rights ops.Read false ac h = denied_read rights.user (smap cfg) ac h
some_deny cfg rights ops.Write false ac h = denied_write rights.user rights.write (wp cfg) (smap cfg) ac h
some_deny cfg rights ops.Fetch false ac h = refl

or_first : (a b : Bool) → a ≡ true → (a || b) ≡ true
or_first true b h = refl
or_first false b h = absurd (cc)

or_second : (a b : Bool) → b ≡ true → (a || b) ≡ true
or_second true b h = refl
or_second false b h = h

and_both : (a b : Bool) → a ≡ true → b ≡ true → (a && b) ≡ true
and_both true b h k = k
and_both false b h k = absurd (cc)

same_code : (a b : ℕ) → outcomes.Fault a ≡ outcomes.Fault b → a ≡ b
same_code a b h = cc

offset_is : (level : Level) (frame la : ℕ) → frame % 4096 ≡ 0 → (frame + la % 2 ^ level_shift level) % 4096 ≡ la % 4096
offset_is Four frame la h = omega (arith, h)
offset_is Three frame la h = omega (arith, h)
offset_is Two frame la h = omega (arith, h)
offset_is One frame la h = omega (arith, h)

page_given : (head : Head) (st : State) (p la page : ℕ) (access : AccessKind) → IsAligned st → HasOutcome head st p la access (outcomes.Page page) wants.Leaf →
    may_come_to head.cfg access la (outcomes.Page page) ≡ true
page_given head st p la page access is h =
    let x : Translation = h.0 in
    let of : IsPage x = is.pages p x h.1 in
    let here : page ≡ x.frame + la % 2 ^ level_shift of.level = h.3.2 ∙ ap (λ n. x.frame + la % 2 ^ n) of.size in
    eq-eqb (page % 4096) (la % 4096) (ap (λ n. n % 4096) here ∙ offset_is of.level x.frame la of.frame)

fault_given : (head : Head) (st : State) (p la code : ℕ) (access : AccessKind) (want : Want) → HasOutcome head st p la access (outcomes.Fault code) want →
    may_come_to head.cfg access la (outcomes.Fault code) ≡ true
fault_given head st p la code access wants.Leaf h =
    let x : Translation = h.0 in
    or_second (is_code_of head.cfg access code causes.Absent || is_code_of head.cfg access code causes.Reserved) _
    (and_both _ _ (eq-eqb code (fault_code head.cfg access causes.Denied) h.3.1) (some_deny head.cfg x.rights access.op access.user access.ac h.3.0))
fault_given head st p la code access wants.Absent h =
    or_first (is_code_of head.cfg access code causes.Absent || is_code_of head.cfg access code causes.Reserved) _
    (or_first (is_code_of head.cfg access code causes.Absent) _ (eq-eqb code (fault_code head.cfg access causes.Absent) (same_code code _ h.4)))
fault_given head st p la code access wants.Reserved h =
    or_first (is_code_of head.cfg access code causes.Absent || is_code_of head.cfg access code causes.Reserved) _
    (or_second (is_code_of head.cfg access code causes.Absent) _ (eq-eqb code (fault_code head.cfg access causes.Reserved) (same_code code _ h.4)))
fault_given head st p la code access wants.Present h = absurd h

access_given : (head : Head) (st : State) (p la : ℕ) (access : AccessKind) (outcome : Outcome) → IsAligned st → HasOutcome head st p la access outcome (want_of outcome) →
    may_come_to head.cfg access la outcome ≡ true
access_given head st p la access (outcomes.Page page) is h = page_given head st p la page access is h
access_given head st p la access (outcomes.Fault code) is h = fault_given head st p la code access (want_of (outcomes.Fault code)) h

-- ---- assists

read_aligned : (st : State) (p la : ℕ) (level : Level) (from : Parent) → IsAligned st → MayRead st p la level from → from.table % 4096 ≡ 0
read_aligned st p la Four from is may = ap (λ (f : Parent). f.table % 4096) may ∙ is.roots p
read_aligned st p la Three from is may = is.tables p _ may
read_aligned st p la Two from is may = is.tables p _ may
read_aligned st p la One from is may = is.tables p _ may

word_at : (table la word : ℕ) (level : Level) → table % 4096 ≡ 0 → word ≡ entry_address table level la → may_read_at la word level ≡ true
word_at table la word level aligned is =
    let i : ℕ = la / 2 ^ level_shift level in
    let same : word % 4096 ≡ 0 + 8 * (i % 512) = ap (λ n. n % 4096) is ∙ omega (arith, aligned) in
    eq-eqb (word % 4096) (entry_address 0 level la) same

no_leaf : (b c : Bool) (cfg : Cfg) (access : AccessKind) (rights : Rights) (table : ℕ) → may_dirty cfg access rights (cond b kinds.Absent (cond c kinds.Reserved (kinds.Table table))) ≡ true → ⊥
no_leaf true c cfg access rights table h = absurd (cc)
no_leaf false true cfg access rights table h = absurd (cc)
no_leaf false false cfg access rights table h = absurd (cc)

not_dirty : (with_dirty given : Bool) → (given ≡ true → ⊥) → (not with_dirty || given) ≡ true → not with_dirty ≡ true
not_dirty true given none h = absurd (none h)
not_dirty false given none h = refl

at_level : (la word : ℕ) (with_dirty : Bool) (level : Level) → may_read_at la word level ≡ true → (level ≡ Four → not with_dirty ≡ true) → may_update la word with_dirty ≡ true
at_level la word with_dirty Four h top =
    let four : (not with_dirty && may_read_at la word Four) ≡ true = and_both _ _ (top refl) h in
    or_first (not with_dirty && may_read_at la word Four || may_read_at la word Three || may_read_at la word Two) _
    (or_first (not with_dirty && may_read_at la word Four || may_read_at la word Three) _ (or_first (not with_dirty && may_read_at la word Four) _ four))
at_level la word with_dirty Three h top =
    or_first (not with_dirty && may_read_at la word Four || may_read_at la word Three || may_read_at la word Two) _
    (or_first (not with_dirty && may_read_at la word Four || may_read_at la word Three) _ (or_second (not with_dirty && may_read_at la word Four) _ h))
at_level la word with_dirty Two h top =
    or_first (not with_dirty && may_read_at la word Four || may_read_at la word Three || may_read_at la word Two) _
    (or_second (not with_dirty && may_read_at la word Four || may_read_at la word Three) _ h)
at_level la word with_dirty One h top =
    or_second (not with_dirty && may_read_at la word Four || may_read_at la word Three || may_read_at la word Two) _ h

-- D is set in no entry of level 4
below_four : (head : Head) (access : AccessKind) (rights : Rights) (entry : ℕ) (with_dirty : Bool) (level : Level) →
    (not with_dirty || may_dirty head.cfg access rights (kind_of head.cfg level entry)) ≡ true → level ≡ Four → not with_dirty ≡ true
below_four head access rights entry with_dirty Four h e =
    not_dirty with_dirty _ (no_leaf (not (has_bit entry 0)) (is_reserved head.cfg Four entry) head.cfg access rights (table_of head.cfg.m entry)) h
below_four head access rights entry with_dirty Three h e = let n : 30 ≡ 39 = ap level_shift e in absurd (omega (arith, n))
below_four head access rights entry with_dirty Two h e = let n : 21 ≡ 39 = ap level_shift e in absurd (omega (arith, n))
below_four head access rights entry with_dirty One h e = let n : 12 ≡ 39 = ap level_shift e in absurd (omega (arith, n))

assist_given : (head : Head) (st : State) (p la : ℕ) (access : AccessKind) (word : ℕ) (with_dirty : Bool) → IsAligned st → MayAssist head st p la access word with_dirty →
    may_update la word with_dirty ≡ true
assist_given head st p la access word with_dirty is h =
    let level : Level = h.0 in
    let from : Parent = h.1 in
    at_level la word with_dirty level (word_at from.table la word level (read_aligned st p la level from is h.2) h.3)
    (below_four head access (joined from.rights (entry_now st la level from)) (entry_now st la level from) with_dirty level h.5)

-- ---- events

given : (head : Head) (st : State) (e : Event) → IsAligned st → MayCome head st (without_moments e) → may_be_given head.cfg e ≡ true
given head st (Write p addr value) is h = refl
given head st (Access p flags la outcome ws) is h = access_given head st p la (access_kind flags) outcome is h
given head st (Assist p flags la word ws) is h = assist_given head st p la (access_kind flags) word (says_dirty flags) is h
given head st (MovCr3 p operand) is h = refl
given head st (Invlpg p la) is h = refl
given head st (Invpcid p kind pcid la) is h = refl
given head st (MovCr4Pge p on) is h = refl

-- each event of a run may come in a state of the run
comes_in : (head : Head) (n : ℕ) (steps : List Step) (st : State) → IsAligned st → RunsFrom head st steps → (e : Event) → slice_get (visible steps) n ≡ Some e →
    (at : State) × IsAligned at × MayCome head at e
comes_in head n [] st is run e at = absurd (cc)
comes_in head n (Fill4 q b ∷ steps) st is run e at = comes_in head n steps _ (step_aligned head st (Fill4 q b) is run.0) run.1 e at
comes_in head n (Fill3 q b from ∷ steps) st is run e at = comes_in head n steps _ (step_aligned head st (Fill3 q b from) is run.0) run.1 e at
comes_in head n (Fill2 q b from ∷ steps) st is run e at = comes_in head n steps _ (step_aligned head st (Fill2 q b from) is run.0) run.1 e at
comes_in head n (FillLeaf q b level from ∷ steps) st is run e at = comes_in head n steps _ (step_aligned head st (FillLeaf q b level from) is run.0) run.1 e at
comes_in head n (Drop q member ∷ steps) st is run e at = comes_in head n steps _ (step_aligned head st (Drop q member) is run.0) run.1 e at
comes_in head zero (Do x ∷ steps) st is run e at = let same : x ≡ e = cc in (st, is, subst (MayCome head st) same run.0.1)
comes_in head (suc n) (Do x ∷ steps) st is run e at = comes_in head n steps _ (step_aligned head st (Do x) is run.0) run.1 e at

pub never_given : (s : Spanned) (i : ℕ) → NoMemoryGives s i → NeverComes s i
never_given s i none order place is at run =
    let mine : slice_get (ordered s.events order) place ≡ Some none.event = ordered_at s.events order (λ a b h. order_within s order is a b h) place i none.event at none.there in
    let lt : place < place + 1 = omega arith in
    let first = slice_get-map without_moments (take (place + 1) (ordered s.events order)) place in
    let second = slice_get-map without_moments (take (place + 1) (visible run.0)) place in
    let seen : option_map without_moments (slice_get (ordered s.events order) place) ≡ option_map without_moments (slice_get (visible run.0) place) =
    ap (option_map without_moments) (sym (at_take (place + 1) place (ordered s.events order) lt))
    ∙ (sym first ∙ (ap (λ (xs : List Event). slice_get xs place) run.2 ∙ (second ∙ ap (option_map without_moments) (at_take (place + 1) place (visible run.0) lt)))) in
    let theirs = mapped_some without_moments (slice_get (visible run.0) place) _ (sym seen ∙ ap (option_map without_moments) mine) in
    let comes = comes_in s.head place run.0 (start s.head) (start_aligned s.head) run.1 theirs.0 theirs.1 in
    let bare : MayCome s.head comes.0 (without_moments none.event) = subst (MayCome s.head comes.0) theirs.2 (may_bare s.head comes.0 theirs.0 comes.2) in
    let is : may_be_given s.head.cfg none.event ≡ true = given s.head comes.0 none.event comes.1 bare in
    let both : true ≡ false = sym is ∙ none.never in
    absurd (cc)
