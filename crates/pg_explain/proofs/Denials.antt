-- Why no moments witness an event, by what is kept of the events before it.
use Rattle.std.proofs.Common.{◌≡◌, ℕ, ◌+◌, ◌-◌, ◌≤◌, List, [], ◌∷◌, length, map, Option, Some, None, IfSome, IfNone, refl, ap, sym, ◌∙◌, subst, arith}
use Rattle.std.specs.Prelude.{slice_get, option_map, ◌<◌, ◌&&◌, Bool, true}
use Rattle.pg_entry.specs.declared.Kind.{Kind}
use Rattle.pg_entry.specs.declared.Kind.TheVariants as kinds
use Rattle.pg_entry.specs.Kinds.{kind_of}
use Rattle.pg_event.specs.Form.{processor_of}
use Rattle.pg_event.specs.Invalidation.{translation_key}
use Rattle.pg_event.specs.Walk.{Reading}
use Rattle.std.specs.List.{AllByRecursion}
use Rattle.pg_event.specs.declared.control.Control.{Control}
use Rattle.pg_event.specs.declared.event.Event.{Event}
use Rattle.pg_event.specs.declared.event.Event.TheVariants.{Write, Access, Assist, MovCr3, Invlpg, Invpcid, MovCr4Pge}
use Rattle.pg_event.specs.declared.event.Outcome.TheVariants.{Page, Fault}
use Rattle.pg_event.specs.Heads.{Head}
use Rattle.pg_event.specs.Form.{access_kind}
use Rattle.pg_event.specs.Values.{control_at}
use Rattle.pg_event.specs.Witness.{walked, claim_of, last_or}
use Rattle.pg_search.specs.declared.last.Last.{Last}
use Rattle.pg_search.specs.Last.{NoneWitness, NoneOwn, AreOwn, HasOwn, IsLastUnder, IsLastOf, IsLast, HasNoLast}
use Rattle.pg_search.specs.Lasts.{IsEndedBy}
use Rattle.pg_search.specs.Law.{AreWitness, names_moments}
use Rattle.pg_search.specs.ReachableTables.{first_or}
use Rattle.pg_search.specs.Writers.{writes, writes_some, is_written, IsWriter}
use Rattle.pg_search.specs.Changes.{kept_of, AreKeptOf, WitnessedAmongKept, AreAlike}
use Rattle.pg_search.proofs.Changes.{any_alike, kept_there, kept_alike}
use Rattle.pg_search.proofs.Carries.{AreUpTo, AreReadUpTo, read_alike, walked_up_to, access_up_to, first_within}
use Rattle.pg_explain.specs.declared.entry.WalkEntry.{WalkEntry}
use Rattle.pg_explain.specs.declared.denial.Denial.{Denial}
use Rattle.pg_explain.specs.Denied.{IsWalkNow, IsDenialFor, IsDenialOf, DenialsAmongKept}
use Rattle.pg_explain.specs.Findings.{readings_by, last_of}
use Rattle.pg_explain.specs.TranslationDrops.{translation_stands, IsDropBy, IsDropAfter, IsDropFor}
use Rattle.pg_explain.specs.Given.{given_by, given_now}
use Rattle.pg_explain.specs.Lacking.{lacking_by, lacking_now}
use Rattle.pg_explain.specs.Walk.{IsTold, IsWalk, reading_at}

-- of an event of a history

pub denial_of : (head : Head) (events : List Event) (i : ℕ) (e : Event) (x : Denial) → slice_get events i ≡ Some e → IsDenialFor head events i e x → IsDenialOf head events i x
denial_of head events i e x at h = record {
  number = h.number;
  walk = subst (λ o. IfSome o (λ e. IsWalkNow head events i e x.walk.items)) (sym at) h.walk;
  given = subst (λ o. IfSome o (λ e. x.given ≡ given_now head events i e)) (sym at) h.given;
  lacking = subst (λ o. IfSome o (λ e. x.lacking ≡ lacking_now head events i e)) (sym at) h.lacking;
  last = lasts x.last h.last;
  never = nevers x.last h.never;
  dropped = subst (λ o. IfSome o (λ e. IsDropFor head events i e x.last x.dropped)) (sym at) h.dropped;
}
  where
    lasts : (o : Option Last) → IfSome o (IsLastOf head events i e) → IfSome o (IsLast head events i)
    lasts None h = tt
    lasts (Some last) h = (e, at, h)

    nevers : (o : Option Last) → IfNone o (NoneWitness head events e 0 i) → IfNone o (HasNoLast head events i)
    nevers None h = (e, at, h)
    nevers (Some last) h = tt

-- what is kept of an event writes what it writes

writes_kept : (a : ℕ) (e : Event) → writes a (kept_of e) ≡ writes a e
writes_kept a (Write p addr value) = refl
writes_kept a (Access p flags la (Page page) moments) = refl
writes_kept a (Access p flags la (Fault code) moments) = refl
writes_kept a (Assist p flags la word moments) = refl
writes_kept a (MovCr3 p operand) = refl
writes_kept a (Invlpg p la) = refl
writes_kept a (Invpcid p kind pcid la) = refl
writes_kept a (MovCr4Pge p on) = refl

some_kept : (a : ℕ) (o : Option Event) → writes_some a (option_map kept_of o) ≡ writes_some a o
some_kept a None = refl
some_kept a (Some e) = writes_kept a e

abbrev four : ℕ → List ℕ
four w = w ∷ w ∷ w ∷ w ∷ []

-- readings of moments that are not above one are not above it

first_low : (i : ℕ) (ws : List ℕ) → AreUpTo i ws → first_or 0 ws ≤ i
first_low i [] up = omega arith
first_low i (w ∷ ws) up = up.0

up_more : (j i : ℕ) (ws : List ℕ) → j ≤ i → AreUpTo j ws → AreUpTo i ws
up_more j i [] le up = tt
up_more j i (w ∷ ws) le up = (omega (arith, up.0, le), up_more j i ws le up.1)

end_up_to : (i : ℕ) (r : Reading) (rs : List Reading) → r.moment ≤ i → AreReadUpTo i rs → (last_or r rs).moment ≤ i
end_up_to i r [] low up = low
end_up_to i r (s ∷ rs) low up = end_up_to i s rs up.0 up.1

last_up_to : (i : ℕ) (rs : List Reading) → AreReadUpTo i rs → (last_of rs).moment ≤ i
last_up_to i [] up = omega arith
last_up_to i (r ∷ rs) up = end_up_to i r rs up.0 up.1

-- what had to go among some events had to go among others, where the same stands at each moment

gone_alike : (f g : ℕ → Bool) (from to : ℕ) (dropped : Option ℕ) → ((w : ℕ) → w ≤ to → f w ≡ g w) → IsEndedBy f from to dropped → IsEndedBy g from to dropped
gone_alike f g from to None same h = sym (same to (omega arith)) ∙ h
gone_alike f g from to (Some event) same h = (
  h.0,
  h.1,
  sym (same event (omega (arith, h.1))) ∙ h.2,
  λ w low stands. h.3 w low (same w low ∙ stands),
)

module _ (law : WitnessedAmongKept) (head : Head) (kept events : List Event) (i : ℕ) (k : AreKeptOf kept events) (low : i ≤ length kept) where
  alike : AreAlike head kept events i
  alike = kept_alike head kept events k i low

  -- walks

  readings_alike : (p la : ℕ) (ws : List ℕ) → AreUpTo i ws → readings_by head events p la ws ≡ readings_by head kept p la ws
  readings_alike p la [] up = refl
  readings_alike p la (w ∷ ws) up =
      ap (λ (c : Control). walked head events la c (w ∷ ws)) (sym (alike.control p w up.0)) ∙ read_alike head kept events i la (control_at head kept p w) (w ∷ ws) alike up

  read_up_to : (p la : ℕ) (ws : List ℕ) → AreUpTo i ws → AreReadUpTo i (readings_by head kept p la ws)
  read_up_to p la [] up = tt
  read_up_to p la (w ∷ ws) up = walked_up_to head kept i la (control_at head kept p w) (w ∷ ws) up

  written_alike : (a from to : ℕ) → to ≤ i → is_written kept a from to ≡ is_written events a from to
  written_alike a from to high =
      any_alike (λ j. writes_some a (slice_get kept j)) (λ j. writes_some a (slice_get events j)) from (to - from)
      (λ j least lt. ap (writes_some a) (kept_there kept events j k (omega (arith, least, lt, high, low))) ∙ some_kept a (slice_get events j))

  writer_alike : (a w : ℕ) (found : Option ℕ) → w ≤ i → IsWriter kept a w found → IsWriter events a w found
  writer_alike a w None high h = sym (written_alike a 0 w high) ∙ h
  writer_alike a w (Some j) high h =
      (h.0, sym (ap (writes_some a) (kept_there kept events j k (omega (arith, h.0, high, low))) ∙ some_kept a (slice_get events j)) ∙ h.1, sym (written_alike a (j + 1) w high) ∙ h.2)

  told_alike : (p : ℕ) (walk : List WalkEntry) → AreReadUpTo i (map reading_at walk) → AllByRecursion (IsTold head kept p) walk → AllByRecursion (IsTold head events p) walk
  told_alike p [] up h = tt
  told_alike p (x ∷ xs) up h = (
    record { pcid = h.0.pcid ∙ ap (λ (c : Control). c.pcid) (alike.control p x.step.moment up.0); kind = h.0.kind; writer = writer_alike x.step.address x.step.moment x.writer up.0 h.0.writer },
    told_alike p xs up.1 h.1,
  )

  walk_alike : (p la : ℕ) (ws : List ℕ) (walk : List WalkEntry) → AreUpTo i ws → IsWalk head kept p la ws walk → IsWalk head events p la ws walk
  walk_alike p la ws walk up h = record {
    read = h.read ∙ sym (readings_alike p la ws up);
    told = told_alike p walk (subst (AreReadUpTo i) (sym h.read) (read_up_to p la ws up)) h.told;
  }

  now : AreUpTo i (four i)
  now = let here : i ≤ i = omega arith in (here, (here, (here, (here, tt))))

  walk_now_alike : (e : Event) (walk : List WalkEntry) → IsWalkNow head kept i e walk → IsWalkNow head events i e walk
  walk_now_alike (Write p addr value) walk h = h
  walk_now_alike (Access p flags la outcome moments) walk h = walk_alike p la (four i) walk now h
  walk_now_alike (Assist p flags la word moments) walk h = walk_alike p la (four i) walk now h
  walk_now_alike (MovCr3 p operand) walk h = h
  walk_now_alike (Invlpg p la) walk h = h
  walk_now_alike (Invpcid p kind pcid la) walk h = h
  walk_now_alike (MovCr4Pge p on) walk h = h

  given_alike : (e : Event) → given_now head kept i e ≡ given_now head events i e
  given_alike (Write p addr value) = refl
  given_alike (Access p flags la outcome moments) = ap (given_by head.cfg (access_kind flags) la) (sym (readings_alike p la (four i) now))
  given_alike (Assist p flags la word moments) = ap (given_by head.cfg (access_kind flags) la) (sym (readings_alike p la (four i) now))
  given_alike (MovCr3 p operand) = refl
  given_alike (Invlpg p la) = refl
  given_alike (Invpcid p kind pcid la) = refl
  given_alike (MovCr4Pge p on) = refl

  lacking_alike : (e : Event) → lacking_now head kept i e ≡ lacking_now head events i e
  lacking_alike (Write p addr value) = refl
  lacking_alike (Access p flags la outcome moments) = ap (lacking_by head (claim_of i p flags la outcome)) (sym (readings_alike p la (four i) now))
  lacking_alike (Assist p flags la word moments) = refl
  lacking_alike (MovCr3 p operand) = refl
  lacking_alike (Invlpg p la) = refl
  lacking_alike (Invpcid p kind pcid la) = refl
  lacking_alike (MovCr4Pge p on) = refl

  -- when it would last have been witnessed

  none_alike : (e : Event) (from to : ℕ) → to ≤ i → NoneWitness head kept e from to → NoneWitness head events e from to
  none_alike e from to high h = λ j least lt ws w. h j least lt ws (law.kept head kept events j e ws k (omega (arith, lt, high, low)) w)

  -- under which PCID moments read

  pcid_alike : (p w : ℕ) → w ≤ i → (control_at head kept p w).pcid ≡ (control_at head events p w).pcid
  pcid_alike p w high = ap (λ (c : Control). c.pcid) (alike.control p w high)

  module _ (e : Event) (names : names_moments e ≡ true) where
    first_up_to : (j : ℕ) (ws : List ℕ) → j ≤ i → AreWitness head events j e ws → first_or 0 ws ≤ i
    first_up_to j ws high w = let up : first_or 0 ws ≤ j = first_within head events j e ws names w in omega (arith, up, high)

    own_alike : (ws : List ℕ) → first_or 0 ws ≤ i → AreOwn head kept i e ws → AreOwn head events i e ws
    own_alike ws low own = sym (pcid_alike (processor_of e) (first_or 0 ws) low) ∙ own ∙ pcid_alike (processor_of e) i (omega arith)

    own_back : (ws : List ℕ) → first_or 0 ws ≤ i → AreOwn head events i e ws → AreOwn head kept i e ws
    own_back ws low own = pcid_alike (processor_of e) (first_or 0 ws) low ∙ own ∙ sym (pcid_alike (processor_of e) i (omega arith))

    has_alike : (j : ℕ) → j ≤ i → HasOwn head kept i e j → HasOwn head events i e j
    has_alike j high h =
        let witness : AreWitness head events j e h.0 = law.all head kept events j e h.0 k (omega (arith, high, low)) h.1 in
        (h.0, witness, own_alike h.0 (first_up_to j h.0 high witness) h.2)

    has_back : (j : ℕ) → j ≤ i → HasOwn head events i e j → HasOwn head kept i e j
    has_back j high h = (h.0, law.kept head kept events j e h.0 k (omega (arith, high, low)) h.1, own_back h.0 (first_up_to j h.0 high h.1) h.2)

    none_own_alike : (from : ℕ) → NoneOwn head kept i e from i → NoneOwn head events i e from i
    none_own_alike from h = λ j least lt has. h j least lt (has_back j (omega (arith, lt)) has)

    under_alike : (last : Last) (other : Option ℕ) → last.number < i → AreWitness head events last.number e last.moments → IsLastUnder head kept i e last other → IsLastUnder head events i e last other
    under_alike last None before witness h = (has_alike last.number (omega (arith, before)) h.0, none_own_alike (last.number + 1) h.1)
    under_alike last (Some pcid) before witness h = (
      h.0 ∙ pcid_alike (processor_of e) (first_or 0 last.moments) (first_up_to last.number last.moments (omega (arith, before)) witness),
      none_own_alike 0 h.1,
      none_alike e (last.number + 1) i (omega arith) h.2,
    )

    last_alike : (last : Last) → IsLastOf head kept i e last → IsLastOf head events i e last
    last_alike last h =
        let within : last.number ≤ length kept = omega (arith, h.before, low) in
        let witness : AreWitness head events last.number e last.moments = law.all head kept events last.number e last.moments k within h.witness in
        record {
          before = h.before;
          witness = witness;
          freshest = λ us w. h.freshest us (law.kept head kept events last.number e us k within w);
          under = under_alike last last.other h.before witness h.under;
        }

    lasts_alike : (o : Option Last) → IfSome o (IsLastOf head kept i e) → IfSome o (IsLastOf head events i e)
    lasts_alike None h = tt
    lasts_alike (Some last) h = last_alike last h

  -- what had to drop a translation

  gone_by_alike : (p la pcid : ℕ) (r : Reading) (kind : Kind) (dropped : Option ℕ) → r.moment ≤ i → IsDropBy head kept i p la pcid r kind dropped → IsDropBy head events i p la pcid r kind dropped
  gone_by_alike p la pcid r (kinds.Leaf frame shift bit) dropped low h =
      let was : Bool = (control_at head kept p r.moment).pge in
      let is : Bool = (control_at head events p r.moment).pge in
      let pge : was ≡ is = ap (λ (c : Control). c.pge) (alike.control p r.moment low) in
      gone_alike (translation_stands head kept p la pcid shift (bit && was) r.moment) (translation_stands head events p la pcid shift (bit && is) r.moment) r.moment i dropped
      (λ w high. alike.translations p (translation_key pcid shift (bit && was) la) r.moment w low high ∙ ap (λ b. translation_stands head events p la pcid shift (bit && b) r.moment w) pge) h
  gone_by_alike p la pcid r kinds.Absent dropped low h = h
  gone_by_alike p la pcid r kinds.Reserved dropped low h = h
  gone_by_alike p la pcid r (kinds.Table addr) dropped low h = h

  gone_after_alike : (p la : ℕ) (ws : List ℕ) (dropped : Option ℕ) → AreUpTo i ws → IsDropAfter head kept i p la ws dropped → IsDropAfter head events i p la ws dropped
  gone_after_alike p la ws dropped up h =
      let Gone : ℕ → List Reading → Type 0 = λ q rs. IsDropBy head events i p la q (last_of rs) (kind_of head.cfg (last_of rs).level (last_of rs).value) dropped in
      let rs : List Reading = readings_by head kept p la ws in
      let pcid : ℕ = (control_at head kept p (first_or 0 ws)).pcid in
      let there : Gone pcid rs = gone_by_alike p la pcid (last_of rs) (kind_of head.cfg (last_of rs).level (last_of rs).value) dropped (last_up_to i rs (read_up_to p la ws up)) h in
      subst (λ q. Gone q (readings_by head events p la ws)) (pcid_alike p (first_or 0 ws) (first_low i ws up)) (subst (Gone pcid) (sym (readings_alike p la ws up)) there)

  dropped_alike : (e : Event) (o : Option Last) (dropped : Option ℕ) → IfSome o (IsLastOf head kept i e) → IsDropFor head kept i e o dropped → IsDropFor head events i e o dropped
  dropped_alike e None dropped last h = h
  dropped_alike (Write p addr value) (Some x) dropped last h = h
  dropped_alike (Access p flags la outcome moments) (Some x) dropped last h =
      let up : AreUpTo x.number x.moments = access_up_to head kept (claim_of x.number p flags la outcome) x.moments last.witness.good in
      gone_after_alike p la x.moments dropped (up_more x.number i x.moments (omega (arith, last.before)) up) h
  dropped_alike (Assist p flags la word moments) (Some x) dropped last h = h
  dropped_alike (MovCr3 p operand) (Some x) dropped last h = h
  dropped_alike (Invlpg p la) (Some x) dropped last h = h
  dropped_alike (Invpcid p kind pcid la) (Some x) dropped last h = h
  dropped_alike (MovCr4Pge p on) (Some x) dropped last h = h

  nevers_alike : (e : Event) (o : Option Last) → IfNone o (NoneWitness head kept e 0 i) → IfNone o (NoneWitness head events e 0 i)
  nevers_alike e None h = none_alike e 0 i (omega arith) h
  nevers_alike e (Some last) h = tt

  denial_alike : (e : Event) (x : Denial) → names_moments e ≡ true → IsDenialFor head kept i e x → IsDenialFor head events i e x
  denial_alike e x names h = record {
    number = h.number;
    walk = walk_now_alike e x.walk.items h.walk;
    given = h.given ∙ given_alike e;
    lacking = h.lacking ∙ lacking_alike e;
    last = lasts_alike e names x.last h.last;
    never = nevers_alike e x.last h.never;
    dropped = dropped_alike e x.last x.dropped h.last h.dropped;
  }

pub denials_among_kept : WitnessedAmongKept → DenialsAmongKept
denials_among_kept law head kept events i e x names k low at h = denial_of head events i e x at (denial_alike law head kept events i k low e x names h)
