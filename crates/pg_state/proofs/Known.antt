-- What is known of the control registers, as a run grows or is cut.
use Rattle.std.proofs.Common.{◌≡◌, ℕ, zero, suc, set, map, replicate, ◌+◌, ◌<◌, ◌≤◌, Bool, true, false, nat_lt, nat_eq, cond, min, List, [], ◌∷◌, ◌++◌, length, length-append, Option, Some, refl, ap, sym, subst, ◌∙◌, arith, inl, inr}
use Rattle.std.specs.List.{fold}
use Rattle.std.specs.Option.{unwrap_or}
use Rattle.std.proofs.lemmas.Bool.{cases_lt, cases_Bool, lt-ltb, le-ltb, eqb-true, eqb-false, cond_both, false≢true}
use Rattle.std.proofs.lemmas.List.{take_all, take-append-le, length-replicate, get_or-set_same, get_or-set_other}
use Rattle.std.proofs.lemmas.List.Sums.{fold-append}
use Rattle.pg_event.specs.declared.event.Event.{Event}
use Rattle.pg_event.specs.declared.event.Event.TheVariants.{Write, Access, Assist, MovCr3, Invlpg, Invpcid, MovCr4Pge}
use Rattle.pg_event.specs.declared.control.Control.{Control}
use Rattle.pg_event.specs.Heads.{Head}
use Rattle.pg_event.specs.Form.{processor_of}
use Rattle.pg_event.specs.Values.{controlled, control_at, loaded}
use Rattle.pg_timeline.specs.declared.timeline.Stamp.{Stamp}
use Rattle.pg_timeline.specs.Timelines.{last_before}
use Rattle.pg_timeline.specs.Timelines.{cut_at}
use Rattle.pg_timeline.specs.Keyed.{AreBelow}
use Rattle.pg_timeline.proofs.Timelines.{last_before-push, last_before-cut_at, last_before-settled, AreBelow-push, AreBelow-weaker, AreBelow-cut_at}
use Rattle.pg_state.specs.Controls.{Registers, is_change, start_in, next_moment, changes_of, control_in, IsNoted, IsSame, IsCutAt, StandsFor, AreLow, AreKept}
use Rattle.pg_state.proofs.Roots.{IsLow, AreLow-push, AreLow-cut_at, last_before-low, start-low, controlled-low}

-- ---- changes by processors

abbrev Changes : Type 0
Changes = List (List (Stamp Control))

-- a processor has one more change
abbrev pub IsPushed : Changes → Changes → ℕ → Stamp Control → Type 0
IsPushed old new p s = (q : ℕ) → changes_of new q ≡ cond (nat_eq p q) (changes_of old p ++ s ∷ []) (changes_of old q)

-- each processor has its changes below a moment
abbrev pub AreCut : Changes → Changes → ℕ → Type 0
AreCut old new m = (q : ℕ) → changes_of new q ≡ cut_at m (changes_of old q)

-- the changes of each processor are below a moment
abbrev pub AreAllBelow : Changes → ℕ → Type 0
AreAllBelow changes next = (p : ℕ) → AreBelow next (changes_of changes p)

pub IsPushed-set : (old : Changes) (p : ℕ) (s : Stamp Control) → p < length old → IsPushed old (set old p (changes_of old p ++ s ∷ [])) p s
IsPushed-set old p s h = λ q.
    let more : List (Stamp Control) = changes_of old p ++ s ∷ [] in
    elim (cases_Bool (nat_eq p q)) [
      | inl own ↦
          ap (λ k. changes_of (set old p more) k) (sym (eqb-true p q own))
          ∙ get_or-set_same old p more [] h
          ∙ sym (ap (λ b. cond b more (changes_of old q)) own)
      | inr other ↦
          get_or-set_other old p q more [] (λ same. eqb-false p q other (sym same))
          ∙ sym (ap (λ b. cond b more (changes_of old q)) other)
    ]

cut_at_place : (m : ℕ) (x : List (Stamp Control)) (xs : Changes) (q : ℕ) → AreCut xs (map (cut_at m) xs) m → changes_of (map (cut_at m) (x ∷ xs)) q ≡ cut_at m (changes_of (x ∷ xs) q)
cut_at_place m x xs zero cut = refl
cut_at_place m x xs (suc q) cut = cut q

pub AreCut-map : (m : ℕ) (old : Changes) → AreCut old (map (cut_at m) old) m
AreCut-map m [] = λ q. refl
AreCut-map m (x ∷ xs) = λ q. cut_at_place m x xs q (AreCut-map m xs)

pub changes_of-none : (n q : ℕ) → changes_of (replicate n []) q ≡ []
changes_of-none zero q = refl
changes_of-none (suc n) zero = refl
changes_of-none (suc n) (suc q) = changes_of-none n q

-- ---- the registers in a run that grows

pub control_at-before : (head : Head) (events more : List Event) (p w : ℕ) → w ≤ length events → control_at head (events ++ more) p w ≡ control_at head events p w
control_at-before head events more p w h = ap (fold (controlled head.cfg.m p) (start_in head p)) (take-append-le w events more h)

control_at-after : (head : Head) (events : List Event) (p w : ℕ) → length events ≤ w → control_at head events p w ≡ fold (controlled head.cfg.m p) (start_in head p) events
control_at-after head events p w h = ap (fold (controlled head.cfg.m p) (start_in head p)) (take_all w events h)

pub control_at-push : (head : Head) (events : List Event) (e : Event) (p w : ℕ) → length events < w → control_at head (events ++ e ∷ []) p w ≡ controlled head.cfg.m p (control_at head events p w) e
control_at-push head events e p w h =
    control_at-after head (events ++ e ∷ []) p w (omega (arith, length-append {A = Event}))
    ∙ fold-append (controlled head.cfg.m p) (start_in head p) events (e ∷ [])
    ∙ ap (λ c. controlled head.cfg.m p c e) (sym (control_at-after head events p w (omega arith)))

control_at-min : (head : Head) (events : List Event) (p w : ℕ) → control_at head events p (min w (length events)) ≡ control_at head events p w
control_at-min head events p w =
    elim (cases_lt w (length events)) [
      | inl below ↦
          let m : min w (length events) ≡ w = omega arith in
          ap (control_at head events p) m
      | inr above ↦
          let m : min w (length events) ≡ length events = omega arith in
          ap (control_at head events p) m ∙ control_at-after head events p (length events) (omega arith) ∙ sym (control_at-after head events p w above)
    ]

-- ---- events that change nothing

-- the registers of other processors stay
pub controlled-other : (m q : ℕ) (c : Control) (e : Event) → nat_eq (processor_of e) q ≡ false → controlled m q c e ≡ c
controlled-other m q c (Write p addr value) h = refl
controlled-other m q c (Access p flags la outcome moments) h = refl
controlled-other m q c (Assist p flags la word moments) h = refl
controlled-other m q c (MovCr3 p operand) h = ap (λ b. cond b (loaded m operand c.pge) c) h
controlled-other m q c (Invlpg p la) h = refl
controlled-other m q c (Invpcid p kind pcid la) h = refl
controlled-other m q c (MovCr4Pge p on) h = ap (λ b. cond b (record c { pge = on }) c) h

pub controlled-kept : (m q : ℕ) (c : Control) (e : Event) → is_change e ≡ false → controlled m q c e ≡ c
controlled-kept m q c (Write p addr value) h = refl
controlled-kept m q c (Access p flags la outcome moments) h = refl
controlled-kept m q c (Assist p flags la word moments) h = refl
controlled-kept m q c (MovCr3 p operand) h = absurd (false≢true (sym h))
controlled-kept m q c (Invlpg p la) h = refl
controlled-kept m q c (Invpcid p kind pcid la) h = refl
controlled-kept m q c (MovCr4Pge p on) h = absurd (false≢true (sym h))

same_either : (b : Bool) (c d : Control) → c ≡ d → d ≡ cond b c d
same_either true c d e = sym e
same_either false c d e = refl

-- ---- one more event

pub IsNoted-kept : (r : Registers) (moment : ℕ) (e : Event) → is_change e ≡ false → IsNoted r r moment e
IsNoted-kept r moment e h = record {
  head = refl;
  next = sym (ap (λ b. cond b (moment + 1) (next_moment r)) h);
  controls = λ p w. same_either (nat_lt moment w) (controlled r.head.cfg.m p (control_in r p w) e) (control_in r p w) (controlled-kept r.head.cfg.m p (control_in r p w) e h);
}

unwrapped : (b : Bool) (c : Control) (o : Option Control) (start : Control) → unwrap_or (cond b (Some c) o) start ≡ cond b c (unwrap_or o start)
unwrapped true c o start = refl
unwrapped false c o start = refl

-- the registers of p stay as they are from the next moment on
settled : (r : Registers) (p moment w : ℕ) → AreAllBelow r.changes r.next → next_moment r ≤ moment → moment ≤ w → control_in r p moment ≡ control_in r p w
settled r p moment w ends h le =
    let xs : List (Stamp Control) = changes_of r.changes p in
    ap (λ o. unwrap_or o (start_in r.head p)) (last_before-settled r.next moment xs h (ends p) ∙ sym (last_before-settled r.next w xs (omega arith) (ends p)))

-- what is read above the moment is read of the registers there
read_later : (old : Registers) (p moment w : ℕ) (e : Event) → AreAllBelow old.changes old.next → next_moment old ≤ moment → cond (nat_lt moment w) (controlled old.head.cfg.m p (control_in old p moment) e) (control_in old p w) ≡ cond (nat_lt moment w) (controlled old.head.cfg.m p (control_in old p w) e) (control_in old p w)
read_later old p moment w e ends h =
    elim (cases_lt moment w) [
      | inl below ↦ ap (λ c. cond (nat_lt moment w) (controlled old.head.cfg.m p c e) (control_in old p w)) (settled old p moment w ends h (omega arith))
      | inr above ↦
          ap (λ b. cond b (controlled old.head.cfg.m p (control_in old p moment) e) (control_in old p w)) (le-ltb moment w above)
          ∙ sym (ap (λ b. cond b (controlled old.head.cfg.m p (control_in old p w) e) (control_in old p w)) (le-ltb moment w above))
    ]

pub IsNoted-pushed : (old new : Registers) (moment : ℕ) (e : Event) → is_change e ≡ true → AreAllBelow old.changes old.next → next_moment old ≤ moment → new.head ≡ old.head → new.next ≡ moment + 1
    → IsPushed old.changes new.changes (processor_of e) (record { moment = moment; value = controlled old.head.cfg.m (processor_of e) (control_in old (processor_of e) moment) e })
    → IsNoted old new moment e
IsNoted-pushed old new moment e change ends h head next pushed =
    let m : ℕ = old.head.cfg.m in
    let p : ℕ = processor_of e in
    let after : Control = controlled m p (control_in old p moment) e in
    let stamp : Stamp Control = record { moment = moment; value = after } in
    let xs : List (Stamp Control) = changes_of old.changes p in
    record {
      head = head;
      next = next ∙ sym (ap (λ b. cond b (moment + 1) (next_moment old)) change);
      controls = λ q w.
          ap (λ (d : Head). unwrap_or (last_before w (changes_of new.changes q)) (start_in d q)) head
          ∙ elim (cases_Bool (nat_eq p q)) [
            | inl own ↦
                let same : p ≡ q = eqb-true p q own in
                ap (λ ys. unwrap_or (last_before w ys) (start_in old.head q)) (pushed q ∙ ap (λ b. cond b (xs ++ stamp ∷ []) (changes_of old.changes q)) own)
                ∙ ap (λ o. unwrap_or o (start_in old.head q)) (last_before-push w xs stamp)
                ∙ ap (λ k. unwrap_or (cond (nat_lt moment w) (Some after) (last_before w xs)) (start_in old.head k)) (sym same)
                ∙ unwrapped (nat_lt moment w) after (last_before w xs) (start_in old.head p)
                ∙ read_later old p moment w e ends h
                ∙ ap (λ k. cond (nat_lt moment w) (controlled m k (control_in old k w) e) (control_in old k w)) same
            | inr other ↦
                ap (λ ys. unwrap_or (last_before w ys) (start_in old.head q)) (pushed q ∙ ap (λ b. cond b (xs ++ stamp ∷ []) (changes_of old.changes q)) other)
                ∙ same_either (nat_lt moment w) (controlled m q (control_in old q w) e) (control_in old q w) (controlled-other m q (control_in old q w) e other)
          ];
    }

-- ---- what the registers stand for

pub StandsFor-noted : (old new : Registers) (head : Head) (events : List Event) (moment : ℕ) (e : Event) → StandsFor old head events → moment ≡ length events → IsNoted old new moment e → StandsFor new head (events ++ e ∷ [])
StandsFor-noted old new head events moment e stands count noted =
    let more : length (events ++ e ∷ []) ≡ length events + 1 = length-append events (e ∷ []) in
    record {
      settings = noted.head ∙ stands.settings;
      next = rw noted.next (cond_both (is_change e) (moment + 1) (next_moment old) (λ n. n ≤ length (events ++ e ∷ [])) (λ _. omega arith) (λ _. omega (arith, stands.next)));
      controls = λ p w.
          elim (cases_lt moment w) [
            | inl below ↦
                noted.controls p w
                ∙ ap (λ b. cond b (controlled old.head.cfg.m p (control_in old p w) e) (control_in old p w)) (lt-ltb moment w below)
                ∙ ap (λ (d : Head). controlled d.cfg.m p (control_in old p w) e) stands.settings
                ∙ ap (λ c. controlled head.cfg.m p c e) (stands.controls p w)
                ∙ sym (control_at-push head events e p w (omega arith))
            | inr above ↦
                noted.controls p w
                ∙ ap (λ b. cond b (controlled old.head.cfg.m p (control_in old p w) e) (control_in old p w)) (le-ltb moment w above)
                ∙ stands.controls p w
                ∙ sym (control_at-before head events (e ∷ []) p w (omega arith))
          ];
    }

-- an event that changes no register
pub StandsFor-other : (r : Registers) (head : Head) (events : List Event) (e : Event) → StandsFor r head events → is_change e ≡ false → StandsFor r head (events ++ e ∷ [])
StandsFor-other r head events e stands h = StandsFor-noted r r head events (length events) e stands refl (IsNoted-kept r (length events) e h)

pub StandsFor-same : (old new : Registers) (head : Head) (events : List Event) → StandsFor old head events → IsSame old new → StandsFor new head events
StandsFor-same old new head events stands same = record {
  settings = same.head ∙ stands.settings;
  next = omega (arith, stands.next, same.next);
  controls = λ p w. same.controls p w ∙ stands.controls p w;
}

pub StandsFor-cut : (old new : Registers) (head : Head) (before more : List Event) → StandsFor old head (before ++ more) → IsCutAt old new (length before) → StandsFor new head before
StandsFor-cut old new head before more stands cut = record {
  settings = cut.head ∙ stands.settings;
  next = omega (arith, cut.next);
  controls = λ p w.
      let k : min w (length before) ≤ length before = omega arith in
      cut.controls p w ∙ stands.controls p (min w (length before)) ∙ control_at-before head before more p (min w (length before)) k ∙ control_at-min head before p w;
}

pub IsCutAt-cut : (old new : Registers) (m : ℕ) → new.head ≡ old.head → AreCut old.changes new.changes m → new.next ≡ min old.next m → IsCutAt old new m
IsCutAt-cut old new m head cut next = record {
  head = head;
  next = next;
  controls = λ p w.
      ap (λ xs. unwrap_or (last_before w xs) (start_in new.head p)) (cut p)
      ∙ ap (λ o. unwrap_or o (start_in new.head p)) (last_before-cut_at w m (changes_of old.changes p))
      ∙ ap (λ (d : Head). unwrap_or (last_before (min w m) (changes_of old.changes p)) (start_in d p)) head;
}

-- ---- what is kept

pub AreKept-cut : (head : Head) (old new : Changes) (n m : ℕ) → AreKept head old n → AreCut old new m → length new ≡ length head.processors → AreKept head new (min n m)
AreKept-cut head old new n m kept cut count = record {
  low = kept.low;
  high = kept.high;
  count = count;
  ends = λ p. rw (cut p) (AreBelow-cut_at n m (changes_of old p) (kept.ends p));
  roots = λ p. rw (cut p) (AreLow-cut_at m (changes_of old p) (kept.roots p));
}

pub AreKept-push : (head : Head) (old new : Changes) (n p : ℕ) (s : Stamp Control) → AreKept head old n → n ≤ s.moment → IsLow s.value → IsPushed old new p s → length new ≡ length head.processors → AreKept head new (s.moment + 1)
AreKept-push head old new n p s kept h low pushed count = record {
  low = kept.low;
  high = kept.high;
  count = count;
  ends = λ q. rw (pushed q) (cond_both (nat_eq p q) (changes_of old p ++ s ∷ []) (changes_of old q) (AreBelow (s.moment + 1))
      (λ _. AreBelow-push n (s.moment + 1) (changes_of old p) s (omega arith) (kept.ends p) (omega arith))
      (λ _. AreBelow-weaker n (s.moment + 1) (changes_of old q) (omega arith) (kept.ends q)));
  roots = λ q. rw (pushed q) (cond_both (nat_eq p q) (changes_of old p ++ s ∷ []) (changes_of old q) AreLow (λ _. AreLow-push (changes_of old p) s (kept.roots p) low) (λ _. kept.roots q));
}

-- a run that has not begun
pub AreKept-none : (head : Head) → 36 ≤ head.cfg.m → head.cfg.m ≤ 52 → AreKept head (replicate (length head.processors) []) 0
AreKept-none head low high = record {
  low = low;
  high = high;
  count = length-replicate (length head.processors) [];
  ends = λ p. rw (changes_of-none (length head.processors) p) tt;
  roots = λ p. rw (changes_of-none (length head.processors) p) tt;
}

pub StandsFor-none : (head : Head) → StandsFor (record { head = head; changes = replicate (length head.processors) []; next = 0 }) head []
StandsFor-none head = record {
  settings = refl;
  next = omega arith;
  controls = λ p w.
      ap (λ xs. unwrap_or (last_before w xs) (start_in head p)) (changes_of-none (length head.processors) p)
      ∙ sym (control_at-after head [] p w (omega arith));
}

-- from the next moment on, the last change of a processor is what is read, else its start
pub latest-read : (old now : Registers) (p w : ℕ) (found : Option Control) → old ≡ now → AreKept old.head old.changes old.next → next_moment now ≤ w →
    (AreBelow w (changes_of old.changes p) → found ≡ last_before w (changes_of old.changes p)) → unwrap_or found (start_in now.head p) ≡ control_in now p w
latest-read old now p w found same kept le is =
    let here : next_moment old ≤ w = rw (ap next_moment same) le in
    ap (λ o. unwrap_or o (start_in now.head p)) (is (AreBelow-weaker old.next w (changes_of old.changes p) here (kept.ends p)))
    ∙ ap (λ (r : Registers). unwrap_or (last_before w (changes_of r.changes p)) (start_in now.head p)) same

pub control_in-low : (r : Registers) (p w : ℕ) → AreKept r.head r.changes r.next → IsLow (control_in r p w)
control_in-low r p w kept = last_before-low w (changes_of r.changes p) (start_in r.head p) (kept.roots p) (start-low r.head p (omega (arith, kept.low)) kept.high)

pub after-low : (r : Registers) (p w : ℕ) (e : Event) → AreKept r.head r.changes r.next → IsLow (controlled r.head.cfg.m p (control_in r p w) e)
after-low r p w e kept = controlled-low r.head.cfg.m p (control_in r p w) e (omega (arith, kept.low)) kept.high (control_in-low r p w kept)

-- registers now that were pushed on those of old
abbrev with_pushed : Registers → Changes → ℕ → Registers
with_pushed old changes moment = record { head = old.head; changes = changes; next = moment + 1 }

pub IsNoted-after : (old now : Registers) (changes : Changes) (p moment : ℕ) (after : Control) (e : Event) → old ≡ now → is_change e ≡ true → AreKept old.head old.changes old.next → next_moment now ≤ moment → p ≡ processor_of e → after ≡ controlled now.head.cfg.m (processor_of e) (control_in now (processor_of e) moment) e
    → IsPushed old.changes changes p (record { moment = moment; value = after })
    → IsNoted now (with_pushed old changes moment) moment e
IsNoted-after old now changes p moment after e same change kept h own read pushed =
    let P : Registers → Type 0 = λ r. IsNoted r (with_pushed old changes moment) moment e in
    let Q : ℕ → Type 0 = λ q. IsPushed old.changes changes q (record { moment = moment; value = after }) in
    let R : Control → Type 0 = λ c. IsPushed old.changes changes (processor_of e) (record { moment = moment; value = c }) in
    let le : next_moment old ≤ moment = rw (ap next_moment same) h in
    let at : after ≡ controlled old.head.cfg.m (processor_of e) (control_in old (processor_of e) moment) e =
    read ∙ ap (λ (r : Registers). controlled r.head.cfg.m (processor_of e) (control_in r (processor_of e) moment) e) (sym same) in
    subst P same (IsNoted-pushed old (with_pushed old changes moment) moment e change kept.ends le refl refl (subst R at (subst Q own pushed)))

pub AreKept-after : (old now : Registers) (changes : Changes) (p moment : ℕ) (after : Control) (e : Event) → old ≡ now → AreKept old.head old.changes old.next → next_moment now ≤ moment → after ≡ controlled now.head.cfg.m (processor_of e) (control_in now (processor_of e) moment) e
    → IsPushed old.changes changes p (record { moment = moment; value = after })
    → length changes ≡ length old.head.processors
    → AreKept old.head changes (moment + 1)
AreKept-after old now changes p moment after e same kept h read pushed count =
    let le : next_moment old ≤ moment = rw (ap next_moment same) h in
    let at : after ≡ controlled old.head.cfg.m (processor_of e) (control_in old (processor_of e) moment) e =
    read ∙ ap (λ (r : Registers). controlled r.head.cfg.m (processor_of e) (control_in r (processor_of e) moment) e) (sym same) in
    AreKept-push old.head old.changes changes old.next p (record { moment = moment; value = after }) kept le (rw at (after-low old (processor_of e) moment e kept)) pushed count
