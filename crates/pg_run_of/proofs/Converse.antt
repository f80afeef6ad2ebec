-- The events of a run are those of an accepted record, but for the moments.
use Rattle.std.proofs.Common.{◌≡◌, ℕ, ◌+◌, ◌-◌, ◌^◌, ◌<◌, ◌≤◌, List, [], ◌∷◌, ◌++◌, length, refl, ap, sym, ◌∙◌, subst, arith, Option, Some, None, take, map}
use Rattle.pg_machine.specs.declared.step.Translation.{Translation}
use Rattle.std.specs.Prelude.{slice_get, fold}
use Rattle.std.specs.List.{AllByRecursion}
use Rattle.std.proofs.lemmas.List.{append_assoc, length_push, length-append, length-map}
use Rattle.std.proofs.lemmas.List.Sums.{fold-append}
use Rattle.std.proofs.Math.Seq.{take-append_seam}
use Rattle.pg_event.specs.declared.event.Event.{Event}
use Rattle.pg_event.specs.declared.event.Reason.{Reason}
use Rattle.pg_event.specs.Heads.{Head}
use Rattle.pg_event.specs.Form.{broken_rule}
use Rattle.pg_event.specs.Walk.{root_of}
use Rattle.pg_event.specs.Values.{written, controlled, started}
use Rattle.pg_event.specs.Spelling.{FitsEvent}
use Rattle.pg_event.specs.declared.event.Event.TheVariants.{Write, Access, Assist, MovCr3, Invlpg, Invpcid, MovCr4Pge}
use Rattle.pg_event.specs.Witness.{failing_event, first_bad_from, first_some}
use Rattle.pg_entry.specs.declared.Level.TheVariants.{Four, Three, Two}
use Rattle.pg_machine.specs.declared.step.Step.{Step}
use Rattle.pg_machine.specs.declared.step.Member.{Member}
use Rattle.pg_machine.specs.declared.step.Member.TheVariants as members
use Rattle.pg_machine.specs.declared.step.Step.TheVariants.{Fill4, Fill3, Fill2, FillLeaf, Drop, Do}
use Rattle.pg_machine.specs.Machine.{State, start, after, after_event, with_leaf, without, RunsFrom, visible}
use Rattle.pg_run_of.specs.Converse.{without_moments, AreSameButMoments, HasMoments, FitsButMoments, RunsAreAccepted, RunsAreRecords}
use Rattle.pg_run_of.proofs.Standing.{At}
use Rattle.pg_run_of.proofs.Moments.{judged_alike, well_same}
use Rattle.pg_run_of.proofs.Kept.{Sound, sound_start, table_sound, leaf_sound, drop_sound, event_sound}
use Rattle.pg_run_of.proofs.Certified.{certified}

-- the rest of the events, with moments that witness them among all
record Certified (head : Head) (all : List Event) (w : ℕ) (rest : List Event) : Type 0 where
  pub events : List Event
  pub same : AreSameButMoments events rest
  pub well : AllByRecursion (λ e. broken_rule head e ≡ None) events
  pub fits : AllByRecursion HasMoments events
  pub good : first_bad_from head all w events ≡ None

get-seam : (done : List Event) (e : Event) (rest : List Event) → slice_get (done ++ e ∷ rest) (length done) ≡ Some e
get-seam [] e rest = refl
get-seam (d ∷ done) e rest = get-seam done e rest

-- fills and drops leave memory and control registers
leaf_now : (head : Head) (all : List Event) (s : State) (w : ℕ) → At head all s w → (p : ℕ) (o : Option Translation) → At head all (with_leaf s p o) w
leaf_now head all s w now p None = now
leaf_now head all s w now p (Some t) = record { memory = now.memory; control = now.control }

drop_now : (head : Head) (all : List Event) (s : State) (w : ℕ) → At head all s w → (p : ℕ) (member : Member) → At head all (without s p member) w
drop_now head all s w now p (members.Structure x) = record { memory = now.memory; control = now.control }
drop_now head all s w now p (members.Translation x) = record { memory = now.memory; control = now.control }

same_more : (x y : Event) (xs ys : List Event) → without_moments x ≡ without_moments y → AreSameButMoments xs ys → AreSameButMoments (x ∷ xs) (y ∷ ys)
same_more x y xs ys h k = ap (λ z. z ∷ map without_moments xs) h ∙ ap (λ zs. without_moments y ∷ zs) k

none_first : (w : ℕ) (o : Option Reason) (rest : Option (ℕ × Reason)) → o ≡ None → rest ≡ None → first_some w o rest ≡ None
none_first w None rest h k = k
none_first w (Some reason) rest h k = absurd (cc)

certify : (head : Head) (all : List Event) → length all ≤ 2 ^ 32 - 1 → (steps : List Step) (done : List Event) (w : ℕ) (s : State) → all ≡ done ++ visible steps → w ≡ length done →
    At head all s w → Sound head all s w → RunsFrom head s steps → Certified head all w (visible steps)
certify head all few [] done w s whole count now sound run = record { events = []; same = refl; well = tt; fits = tt; good = refl }
certify head all few (Fill4 p la ∷ steps) done w s whole count now sound run =
    certify head all few steps done w (after head s (Fill4 p la)) whole count (record { memory = now.memory; control = now.control })
    (table_sound head all s w now sound p la Four (root_of (s.control p)) run.0) run.1
certify head all few (Fill3 p la from ∷ steps) done w s whole count now sound run =
    certify head all few steps done w (after head s (Fill3 p la from)) whole count (record { memory = now.memory; control = now.control })
    (table_sound head all s w now sound p la Three from run.0) run.1
certify head all few (Fill2 p la from ∷ steps) done w s whole count now sound run =
    certify head all few steps done w (after head s (Fill2 p la from)) whole count (record { memory = now.memory; control = now.control })
    (table_sound head all s w now sound p la Two from run.0) run.1
certify head all few (FillLeaf p la level from ∷ steps) done w s whole count now sound run =
    certify head all few steps done w (after head s (FillLeaf p la level from)) whole count (leaf_now head all s w now p _)
    (leaf_sound head all s w now sound p la level from run.0) run.1
certify head all few (Drop p member ∷ steps) done w s whole count now sound run =
    certify head all few steps done w (after head s (Drop p member)) whole count (drop_now head all s w now p member)
    (drop_sound head all s w sound p member) run.1
certify head all few (Do e ∷ steps) done w s whole count now sound run =
    let rest : List Event = visible steps in
    let here : slice_get all w ≡ Some e = ap (λ xs. slice_get xs w) whole ∙ ap (slice_get (done ++ e ∷ rest)) count ∙ get-seam done e rest in
    let whole' : all ≡ (done ++ e ∷ []) ++ rest = whole ∙ sym (append_assoc done (e ∷ []) rest) in
    let count' : w + 1 ≡ length (done ++ e ∷ []) = ap (λ n. n + 1) count ∙ sym (length_push done e) in
    let front : take w all ≡ done = ap (λ n. take n all) count ∙ ap (take (length done)) whole ∙ take-append_seam done (e ∷ rest) in
    let longer : take (w + 1) all ≡ take w all ++ e ∷ [] =
    ap (λ n. take n all) count' ∙ ap (take (length (done ++ e ∷ []))) whole' ∙ take-append_seam (done ++ e ∷ []) rest ∙ ap (λ xs. xs ++ e ∷ []) (sym front) in
    let now' : At head all (after_event head s e) (w + 1) = record {
      memory = λ a. ap (fold (written a) 0) longer ∙ fold-append (written a) 0 (take w all) (e ∷ []) ∙ ap (λ v. written a v e) (now.memory a);
      control = λ q. ap (fold (controlled head.cfg.m q) (started head.cfg.m (slice_get head.processors q))) longer
          ∙ fold-append (controlled head.cfg.m q) (started head.cfg.m (slice_get head.processors q)) (take w all) (e ∷ [])
          ∙ ap (λ c. controlled head.cfg.m q c e) (now.control q);
    } in
    let size : length all ≡ length done + length (e ∷ rest) = ap length whole ∙ length-append done (e ∷ rest) in
    let low : w < 2 ^ 32 = omega (arith, size, few, count) in
    let one = certified head all s w low now sound e run.0.0 run.0.1 in
    let more = certify head all few steps (done ++ e ∷ []) (w + 1) (after_event head s e) whole' count' now' (event_sound head all s w e now here sound) run.1 in
    record {
      events = one.event ∷ more.events;
      same = same_more one.event e more.events (visible steps) one.same more.same;
      well = (well_same head one.event e one.same run.0.0, more.well);
      fits = (one.fits, more.fits);
      good = none_first w (failing_event head all w one.event) (first_bad_from head all (w + 1) more.events) one.good more.good;
    }

pub runs_are_accepted : RunsAreAccepted
runs_are_accepted head steps run few =
    let all : List Event = visible steps in
    let made = certify head all few steps [] 0 (start head) refl refl (record { memory = λ a. refl; control = λ q. refl }) (sound_start head all) run in
    (made.events, made.same, made.well, made.fits, judged_alike head made.events all made.same 0 made.events ∙ made.good)

-- the fields of an event, without its moments and with them
fits_without : (e : Event) → FitsButMoments e → FitsButMoments (without_moments e)
fits_without (Access p flags la outcome moments) h = h
fits_without (Assist p flags la word moments) h = h
fits_without (Write p addr value) h = h
fits_without (MovCr3 p operand) h = h
fits_without (Invlpg p la) h = h
fits_without (Invpcid p kind pcid la) h = h
fits_without (MovCr4Pge p on) h = h

fits_with : (e : Event) → FitsButMoments (without_moments e) → HasMoments e → FitsEvent e
fits_with (Access p flags la outcome moments) h k = (h.0, h.1, h.2, k)
fits_with (Assist p flags la word moments) h k = (h.0, h.1, h.2, k)
fits_with (Write p addr value) h k = h
fits_with (MovCr3 p operand) h k = h
fits_with (Invlpg p la) h k = h
fits_with (Invpcid p kind pcid la) h k = h
fits_with (MovCr4Pge p on) h k = h

all_fit : (xs ys : List Event) → AreSameButMoments xs ys → AllByRecursion FitsButMoments ys → AllByRecursion HasMoments xs → AllByRecursion FitsEvent xs
all_fit [] ys same fits moments = tt
all_fit (x ∷ xs) [] same fits moments = absurd (cc)
all_fit (x ∷ xs) (y ∷ ys) same fits moments =
    let head_same : without_moments x ≡ without_moments y = cc in
    let tail_same : map without_moments xs ≡ map without_moments ys = cc in
    (fits_with x (subst FitsButMoments (sym head_same) (fits_without y fits.0)) moments.0, all_fit xs ys tail_same fits.1 moments.1)

pub runs_are_records : RunsAreRecords
runs_are_records head steps is_head run fits few =
    let made = runs_are_accepted head steps run few in
    let count : length made.0 ≡ length (visible steps) = sym (length-map made.0 without_moments) ∙ ap length made.1 ∙ length-map (visible steps) without_moments in
    (made.0, made.1, record { head = is_head; count = omega (arith, count, few); fits = all_fit made.0 (visible steps) made.1 fits made.3; well = made.2 }, made.4)
