-- Events with spans that are read after a run are spelled so, and what is spelled so is read again.
use Rattle.std.proofs.Common.{◌≡◌, ℕ, zero, suc, ◌+◌, ◌≤◌, Bool, cond, leb, List, [], ◌∷◌, ◌++◌, length, Option, Some, None, Ok, Err, refl, sym, ap, subst, ◌∙◌, append_assoc, arith}
use Rattle.std.specs.List.{flat_map}
use Rattle.std.proofs.lemmas.Bool.{leb-true, le-leb}
use Rattle.std.proofs.lemmas.List.{append-nil, length-append}
use Rattle.pg_event.specs.declared.event.Event.{Event}
use Rattle.pg_event.specs.declared.event.Malformed.{Malformed}
use Rattle.pg_event.specs.Heads.{Head}
use Rattle.pg_event.specs.Form.{broken_rule}
use Rattle.pg_event.specs.Reading.{◌>>=◌}
use Rattle.pg_event.proofs.Fields.{IsBytes, Takes, Takes-then}
use Rattle.pg_span_run.specs.Orders.{Spanned}
use Rattle.pg_span_run.specs.declared.refusal.SpannedRefusal.TheVariants.{Back}
use Rattle.pg_span_run.specs.Spelling.{Timed, timed_bytes}
use Rattle.pg_span_run.specs.Reading.{plain, timed_at, with_event, judged, next_event_at, next_events_at}
use Rattle.pg_span_run.proofs.Binds.{bind_on, bind_from, plain_on, plain_from, value_is, test_from}
use Rattle.pg_span_run.proofs.TimedEvents.{IsTimed, timed_again, timed_takes}

abbrev pub events_of : List Timed → List Event
events_of [] = []
events_of (x ∷ xs) = x.0 ∷ events_of xs

abbrev pub backs_of : List Timed → List ℕ
backs_of [] = []
backs_of (x ∷ xs) = x.1 ∷ backs_of xs

-- a run and so many events more
abbrev pub grown : Spanned → List Timed → Spanned
grown s xs = record { head = s.head; events = s.events ++ events_of xs; backs = s.backs ++ backs_of xs }

-- events from number i on
abbrev pub AreTimed : Head → ℕ → List Timed → Type 0
AreTimed head i [] = Unit {0}
AreTimed head i (x ∷ xs) = IsTimed head i x × AreTimed head (i + 1) xs

pub events_count : (xs : List Timed) → length (events_of xs) ≡ length xs
events_count [] = refl
events_count (x ∷ xs) = ap suc (events_count xs)

abbrev spanned_of : Head → List Event → List ℕ → Spanned
spanned_of head es bs = record { head = head; events = es; backs = bs }

spanned_by : (head : Head) (es fs : List Event) (bs cs : List ℕ) → es ≡ fs → bs ≡ cs → spanned_of head es bs ≡ spanned_of head fs cs
spanned_by head es fs bs cs e b = ap (λ (xs : List Event). spanned_of head xs bs) e ∙ ap (λ (ys : List ℕ). spanned_of head fs ys) b

pub grown_none : (s : Spanned) → grown s [] ≡ s
grown_none s = spanned_by s.head (s.events ++ []) s.events (s.backs ++ []) s.backs (append-nil s.events) (append-nil s.backs)

pub grown_first : (s : Spanned) (x : Timed) (xs : List Timed) → grown (with_event s x) xs ≡ grown s (x ∷ xs)
grown_first s x xs = spanned_by s.head _ _ _ _ (append_assoc s.events (x.0 ∷ []) (events_of xs)) (append_assoc s.backs (x.1 ∷ []) (backs_of xs))

events_of-append : (xs ys : List Timed) → events_of (xs ++ ys) ≡ events_of xs ++ events_of ys
events_of-append [] ys = refl
events_of-append (x ∷ xs) ys = ap (λ (l : List Event). x.0 ∷ l) (events_of-append xs ys)

backs_of-append : (xs ys : List Timed) → backs_of (xs ++ ys) ≡ backs_of xs ++ backs_of ys
backs_of-append [] ys = refl
backs_of-append (x ∷ xs) ys = ap (λ (l : List ℕ). x.1 ∷ l) (backs_of-append xs ys)

pub grown_twice : (s : Spanned) (xs ys : List Timed) → grown (grown s xs) ys ≡ grown s (xs ++ ys)
grown_twice s xs ys =
    spanned_by s.head _ _ _ _
    (append_assoc s.events (events_of xs) (events_of ys) ∙ ap (λ (l : List Event). s.events ++ l) (sym (events_of-append xs ys)))
    (append_assoc s.backs (backs_of xs) (backs_of ys) ∙ ap (λ (l : List ℕ). s.backs ++ l) (sym (backs_of-append xs ys)))

pub grown_count : (s : Spanned) (xs : List Timed) → length (grown s xs).events ≡ length s.events + length xs
grown_count s xs = length-append s.events (events_of xs) ∙ ap (λ (n : ℕ). length s.events + n) (events_count xs)

pub one_more : (s : Spanned) (x : Timed) → length (with_event s x).events ≡ length s.events + 1
one_more s x = length-append s.events (x.0 ∷ [])

pub timed_cut : (head : Head) (i : ℕ) (xs ys : List Timed) → AreTimed head i (xs ++ ys) → AreTimed head i xs × AreTimed head (i + length xs) ys
timed_cut head i [] ys h = let same : i ≡ i + 0 = omega arith in (tt, subst (λ (k : ℕ). AreTimed head k ys) same h)
timed_cut head i (x ∷ xs) ys h =
    let k = timed_cut head (i + 1) xs ys h.1 in
    let same : i + 1 + length xs ≡ i + suc (length xs) = omega arith in
    ((h.0, k.0), subst (λ (k : ℕ). AreTimed head k ys) same k.1)

pub timed_joined : (head : Head) (i : ℕ) (xs ys : List Timed) → AreTimed head i xs → AreTimed head (i + length xs) ys → AreTimed head i (xs ++ ys)
timed_joined head i [] ys h k = let same : i + 0 ≡ i = omega arith in subst (λ (j : ℕ). AreTimed head j ys) same k
timed_joined head i (x ∷ xs) ys h k =
    let same : i + suc (length xs) ≡ i + 1 + length xs = omega arith in
    (h.0, timed_joined head (i + 1) xs ys h.1 (subst (λ (j : ℕ). AreTimed head j ys) same k))

-- ---- one event

event_again : (s : Spanned) (x : Timed) (rest : List ℕ) → IsTimed s.head (length s.events) x → next_event_at s (timed_bytes s.head.version x ++ rest) ≡ Ok (with_event s x, rest)
unfolding next_event_at
event_again s x rest is =
    bind_on _ _ _ (plain_on _ _ (timed_again s.head (length s.events) x rest is))
    ∙ (ap (λ (o : Option Malformed). judged s x o >>= λ more. Ok (more, rest)) is.well
    ∙ ap (λ (b : Bool). cond b (Ok (with_event s x)) (Err (Back (length s.events))) >>= λ more. Ok (more, rest)) (le-leb x.1 (length s.events) is.span))

judged_is : (s : Spanned) (x : Timed) (o : Option Malformed) (t : Spanned) → judged s x o ≡ Ok t → (o ≡ None) × (x.1 ≤ length s.events) × (with_event s x ≡ t)
judged_is s x (Some rule) t e = absurd cc
judged_is s x None t e = let g = test_from (leb x.1 (length s.events)) (Back (length s.events)) (with_event s x) t e in (refl, leb-true _ _ g.0, g.1)

record TakesEvent (s : Spanned) (bytes : List ℕ) (y : Spanned × List ℕ) : Type 0 where
  x : Timed
  takes : Takes bytes (timed_bytes s.head.version x) y.1
  is : IsTimed s.head (length s.events) x
  made : with_event s x ≡ y.0

event_takes : (s : Spanned) (bytes : List ℕ) (y : Spanned × List ℕ) → IsBytes bytes → next_event_at s bytes ≡ Ok y → TakesEvent s bytes y
unfolding next_event_at
event_takes s bytes y fits e =
    bind_from (plain (timed_at s.head.version bytes)) _ y e (λ a a_is e.
    bind_from (judged s a.0 (broken_rule s.head a.0.0)) _ y e (λ t t_is e.
    let j = judged_is s a.0 (broken_rule s.head a.0.0) t t_is in
    let read = timed_takes s.head bytes a fits j.0 (plain_from _ a a_is) in
    subst (TakesEvent s bytes) (value_is (t, a.1) y e)
    (record { x = a.0; takes = read.takes; is = record { numbered = read.numbered; fits = read.fits; bare = read.bare; well = j.0; span = j.1; within = read.within }; made = j.2 })))

-- ---- so many events

pub events_again : (xs : List Timed) (s : Spanned) (rest : List ℕ) → AreTimed s.head (length s.events) xs → next_events_at (length xs) s (flat_map (timed_bytes s.head.version) xs ++ rest) ≡ Ok (grown s xs, rest)
unfolding next_events_at
events_again [] s rest are = ap (λ (t : Spanned). Ok (t, rest)) (sym (grown_none s))
events_again (x ∷ xs) s rest are =
    let after : List ℕ = flat_map (timed_bytes s.head.version) xs ++ rest in
    let others : AreTimed s.head (length (with_event s x).events) xs = subst (λ (n : ℕ). AreTimed s.head n xs) (sym (one_more s x)) are.1 in
    ap (next_events_at (suc (length xs)) s) (append_assoc (timed_bytes s.head.version x) (flat_map (timed_bytes s.head.version) xs) rest)
    ∙ (bind_on _ _ _ (event_again s x after are.0)
    ∙ (events_again xs (with_event s x) rest others
    ∙ ap (λ (t : Spanned). Ok (t, rest)) (grown_first s x xs)))

pub record TakesEvents (s : Spanned) (n : ℕ) (bytes : List ℕ) (y : Spanned × List ℕ) : Type 0 where
  pub xs : List Timed
  pub takes : Takes bytes (flat_map (timed_bytes s.head.version) xs) y.1
  pub count : length xs ≡ n
  pub are : AreTimed s.head (length s.events) xs
  pub made : grown s xs ≡ y.0

-- the head of a run stays
same_head : (s t : Spanned) (x : Timed) → with_event s x ≡ t → t.head ≡ s.head
same_head s t x h = ap (λ (r : Spanned). r.head) (sym h)

then_takes : (s : Spanned) (n : ℕ) (bytes middle : List ℕ) (y : Spanned × List ℕ) (x : Timed) → Takes bytes (timed_bytes s.head.version x) middle → IsTimed s.head (length s.events) x
    → TakesEvents (with_event s x) n middle y → TakesEvents s (suc n) bytes y
then_takes s n bytes middle y x first is others = record {
  xs = x ∷ others.xs;
  takes = Takes-then bytes (timed_bytes s.head.version x) middle (flat_map (timed_bytes s.head.version) others.xs) y.1 first others.takes;
  count = ap suc others.count;
  are = (is, subst (λ (k : ℕ). AreTimed s.head k others.xs) (one_more s x) others.are);
  made = sym (grown_first s x others.xs) ∙ others.made;
}

pub events_take : (n : ℕ) (s : Spanned) (bytes : List ℕ) (y : Spanned × List ℕ) → IsBytes bytes → next_events_at n s bytes ≡ Ok y → TakesEvents s n bytes y
unfolding next_events_at
events_take zero s bytes y fits e =
    subst (TakesEvents s 0 bytes) (value_is (s, bytes) y e) (record { xs = []; takes = record { parts = refl; rest_fits = fits }; count = refl; are = tt; made = grown_none s })
events_take (suc n) s bytes y fits e =
    bind_from (next_event_at s bytes) _ y e (λ a a_is e.
    let first = event_takes s bytes a fits a_is in
    let others : TakesEvents (with_event s first.x) n a.1 y = subst (λ (t : Spanned). TakesEvents t n a.1 y) (sym first.made) (events_take n a.0 a.1 y first.takes.rest_fits e) in
    then_takes s n bytes a.1 y first.x first.takes first.is others)
