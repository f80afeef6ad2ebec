-- What is known of memory, as a run grows or is cut.
use Rattle.std.proofs.Common.{◌≡◌, ℕ, ◌+◌, ◌<◌, ◌≤◌, Bool, true, false, ◌&&◌, nat_lt, nat_eq, cond, min, List, [], ◌∷◌, ◌++◌, length, length-append, Option, Some, refl, ap, sym, ◌∙◌, arith, inl, inr}
use Rattle.std.specs.List.{fold}
use Rattle.std.specs.Option.{unwrap_or}
use Rattle.std.proofs.lemmas.Bool.{cases_lt, cases_Bool, lt-ltb, le-ltb, eqb-true}
use Rattle.std.proofs.lemmas.List.{take_all, take-append-le}
use Rattle.std.proofs.lemmas.List.Sums.{fold-append}
use Rattle.pg_event.specs.declared.event.Event.{Event}
use Rattle.pg_entry.specs.Kinds.{marked}
use Rattle.pg_event.specs.declared.event.Event.TheVariants.{Write, Assist}
use Rattle.pg_event.specs.Form.{says_dirty}
use Rattle.pg_event.specs.Values.{written, mem_at}
use Rattle.pg_timeline.specs.declared.timeline.Stamp.{Stamp}
use Rattle.pg_timeline.specs.Timelines.{last_before}
use Rattle.pg_timeline.specs.Keyed.{Keyed, stamps_in, IsPushed, AreCut}
use Rattle.pg_timeline.proofs.Timelines.{last_before-push, last_before-cut_at}
use Rattle.pg_moment.specs.Versions.{value_at, IsNoted, IsSame, IsCutAt, Leaves, StandsFor}

-- ---- memory in a run that grows

pub mem_at-before : (events more : List Event) (w a : ℕ) → w ≤ length events → mem_at (events ++ more) w a ≡ mem_at events w a
mem_at-before events more w a h = ap (fold (written a) 0) (take-append-le w events more h)

pub mem_at-after : (events : List Event) (w a : ℕ) → length events ≤ w → mem_at events w a ≡ fold (written a) 0 events
mem_at-after events w a h = ap (fold (written a) 0) (take_all w events h)

pub mem_at-push : (events : List Event) (e : Event) (w a : ℕ) → length events < w → mem_at (events ++ e ∷ []) w a ≡ written a (mem_at events w a) e
mem_at-push events e w a h =
    mem_at-after (events ++ e ∷ []) w a (omega (arith, length-append {A = Event}))
    ∙ fold-append (written a) 0 events (e ∷ [])
    ∙ ap (λ v. written a v e) (sym (mem_at-after events w a (omega arith)))

-- ---- one more value

noted_here : (b : Bool) (value : ℕ) (o : Option ℕ) → unwrap_or (cond b (Some value) o) 0 ≡ cond (b && true) value (unwrap_or o 0)
noted_here true value o = refl
noted_here false value o = refl

noted_elsewhere : (b : Bool) (value x : ℕ) → x ≡ cond (b && false) value x
noted_elsewhere true value x = refl
noted_elsewhere false value x = refl

pub IsNoted-pushed : (old new : Keyed ℕ ℕ) (moment addr value : ℕ) → IsPushed nat_eq old.entries new.entries addr (record { moment = moment; value = value }) → new.next ≡ moment + 1 → IsNoted old new moment addr value
IsNoted-pushed old new moment addr value pushed next =
    let stamp : Stamp ℕ = record { moment = moment; value = value } in
    let xs : List (Stamp ℕ) = stamps_in nat_eq old.entries addr in
    record {
      next = next;
      values = λ w a.
          elim (cases_Bool (nat_eq addr a)) [
            | inl own ↦
                let same : addr ≡ a = eqb-true addr a own in
                ap (λ ys. unwrap_or (last_before w ys) 0) (pushed.at a ∙ ap (λ b. cond b (xs ++ stamp ∷ []) (stamps_in nat_eq old.entries a)) own)
                ∙ ap (λ o. unwrap_or o 0) (last_before-push w xs stamp)
                ∙ noted_here (nat_lt moment w) value (last_before w xs)
                ∙ ap (λ b. cond (nat_lt moment w && b) value (unwrap_or (last_before w xs) 0)) (sym own)
                ∙ ap (λ k. cond (nat_lt moment w && nat_eq addr a) value (unwrap_or (last_before w (stamps_in nat_eq old.entries k)) 0)) same
            | inr other ↦
                ap (λ ys. unwrap_or (last_before w ys) 0) (pushed.at a ∙ ap (λ b. cond b (xs ++ stamp ∷ []) (stamps_in nat_eq old.entries a)) other)
                ∙ noted_elsewhere (nat_lt moment w) value (value_at old w a)
                ∙ ap (λ b. cond (nat_lt moment w && b) value (value_at old w a)) (sym other)
          ];
    }

pub IsCutAt-cut : (old new : Keyed ℕ ℕ) (m : ℕ) → AreCut nat_eq old.entries new.entries m → new.next ≡ min old.next m → IsCutAt old new m
IsCutAt-cut old new m cut next = record {
  next = next;
  values = λ w a.
      ap (λ xs. unwrap_or (last_before w xs) 0) (cut.at a)
      ∙ ap (λ o. unwrap_or o 0) (last_before-cut_at w m (stamps_in nat_eq old.entries a));
}

-- ---- what memory stands for

mem_at-end : (events : List Event) (w a : ℕ) → length events ≤ w →
    mem_at events (length events) a ≡ mem_at events w a
mem_at-end events w a h =
    mem_at-after events (length events) a (omega arith) ∙ sym (mem_at-after events w a h)

pub StandsFor-noted : (old new : Keyed ℕ ℕ) (events : List Event) (e : Event) (moment addr value : ℕ) →
    StandsFor old events → moment ≡ length events → Leaves events e addr value → IsNoted old new moment addr value → StandsFor new (events ++ e ∷ [])
StandsFor-noted old new events e moment addr value stands count leaves noted =
    let more : length (events ++ e ∷ []) ≡ length events + 1 = length-append events (e ∷ []) in
    record {
      next = omega (arith, noted.next);
      values = λ w a.
          elim (cases_lt moment w) [
            | inl below ↦
                let at : mem_at events (length events) a ≡ mem_at events w a = mem_at-end events w a (omega arith) in
                noted.values w a
                ∙ ap (λ b. cond (b && nat_eq addr a) value (value_at old w a)) (lt-ltb moment w below)
                ∙ ap (λ v. cond (nat_eq addr a) value v) (stands.values w a)
                ∙ ap (λ v. cond (nat_eq addr a) value v) (sym at)
                ∙ sym (leaves.values a)
                ∙ ap (λ v. written a v e) at
                ∙ sym (mem_at-push events e w a (omega arith))
            | inr above ↦
                noted.values w a
                ∙ ap (λ b. cond (b && nat_eq addr a) value (value_at old w a)) (le-ltb moment w above)
                ∙ stands.values w a
                ∙ sym (mem_at-before events (e ∷ []) w a (omega arith))
          ];
    }

-- ---- what events leave

pub Leaves-write : (events : List Event) (p addr value : ℕ) → Leaves events (Write p addr value) addr value
Leaves-write events p addr value = record { values = λ a. refl }

marked_here : (b : Bool) (x y z : ℕ) → (b ≡ true → x ≡ y) → cond b x z ≡ cond b y z
marked_here true x y z same = same refl
marked_here false x y z same = refl

pub Leaves-assist : (events : List Event) (p flags la word : ℕ) (moments : List ℕ) →
    Leaves events (Assist p flags la word moments) word (marked (says_dirty flags) (mem_at events (length events) word))
Leaves-assist events p flags la word moments = record {
  values = λ a.
      let value : ℕ → ℕ = λ b. marked (says_dirty flags) (mem_at events (length events) b) in
      marked_here (nat_eq word a) (value a) (value word) (mem_at events (length events) a) (λ own. ap value (sym (eqb-true word a own)));
}

-- an event that writes nothing
pub StandsFor-other : (v : Keyed ℕ ℕ) (events : List Event) (e : Event) → StandsFor v events → ((a value : ℕ) → written a value e ≡ value) → StandsFor v (events ++ e ∷ [])
StandsFor-other v events e stands none =
    let more : length (events ++ e ∷ []) ≡ length events + 1 = length-append events (e ∷ []) in
    record {
      next = omega (arith, stands.next);
      values = λ w a.
          elim (cases_lt (length events) w) [
            | inl below ↦ stands.values w a ∙ sym (mem_at-push events e w a below ∙ none a (mem_at events w a))
            | inr above ↦ stands.values w a ∙ sym (mem_at-before events (e ∷ []) w a above)
          ];
    }

pub StandsFor-same : (old new : Keyed ℕ ℕ) (events : List Event) → StandsFor old events → IsSame old new → StandsFor new events
StandsFor-same old new events stands same = record {
  next = omega (arith, stands.next, same.next);
  values = λ w a. same.values w a ∙ stands.values w a;
}

mem_at-min : (events : List Event) (w a : ℕ) → mem_at events (min w (length events)) a ≡ mem_at events w a
mem_at-min events w a =
    elim (cases_lt w (length events)) [
      | inl below ↦
          let m : min w (length events) ≡ w = omega arith in
          ap (λ k. mem_at events k a) m
      | inr above ↦
          let m : min w (length events) ≡ length events = omega arith in
          ap (λ k. mem_at events k a) m ∙ mem_at-after events (length events) a (omega arith) ∙ sym (mem_at-after events w a above)
    ]

pub StandsFor-cut : (old new : Keyed ℕ ℕ) (before more : List Event) → StandsFor old (before ++ more) → IsCutAt old new (length before) → StandsFor new before
StandsFor-cut old new before more stands cut = record {
  next = omega (arith, cut.next);
  values = λ w a.
      let k : min w (length before) ≤ length before = omega arith in
      cut.values w a ∙ stands.values (min w (length before)) a ∙ mem_at-before before more (min w (length before)) a k ∙ mem_at-min before w a;
}
