-- Moments that were found for events: what is the same for the events with them.
use Rattle.std.proofs.Common.{◌≡◌, List, [], ◌∷◌, length, map, sym, ap, subst, ◌∙◌, arith}
use Rattle.std.specs.List.{AllByRecursion}
use Rattle.std.proofs.lemmas.List.{length-map}
use Rattle.pg_event.specs.declared.event.Event.{Event}
use Rattle.pg_event.specs.declared.event.Event.TheVariants.{Write, Access, Assist, MovCr3, Invlpg, Invpcid, MovCr4Pge}
use Rattle.pg_event.specs.Heads.{Head}
use Rattle.pg_event.specs.Spelling.{Recorded, FitsEvent, IsRecord}
use Rattle.pg_check.specs.Kept.{AreWellFormed}
use Rattle.pg_run_of.specs.Converse.{without_moments, AreSameButMoments, HasMoments, FitsButMoments}
use Rattle.pg_run_of.proofs.Moments.{well_same}
use Rattle.pg_certify.specs.Certified.{IsCertified}

pub same_count : (xs ys : List Event) → AreSameButMoments xs ys → length xs ≡ length ys
same_count xs ys same = sym (length-map xs without_moments) ∙ ap length same ∙ length-map ys without_moments

-- the form of events reads no moments
pub well_alike : (head : Head) (xs ys : List Event) → AreSameButMoments xs ys → AreWellFormed head ys → AreWellFormed head xs
well_alike head [] ys same well = tt
well_alike head (x ∷ xs) [] same well = absurd (cc)
well_alike head (x ∷ xs) (y ∷ ys) same well =
    let first : without_moments x ≡ without_moments y = cc in
    let rest : map without_moments xs ≡ map without_moments ys = cc in
    (well_same head x y first well.0, well_alike head xs ys rest well.1)

-- fields fit as they did, and moments by themselves
fits_bare : (e : Event) → FitsEvent e → FitsButMoments (without_moments e)
fits_bare (Write p addr value) h = h
fits_bare (Access p flags la outcome moments) h = (h.0, h.1, h.2)
fits_bare (Assist p flags la word moments) h = (h.0, h.1, h.2)
fits_bare (MovCr3 p operand) h = h
fits_bare (Invlpg p la) h = h
fits_bare (Invpcid p kind pcid la) h = h
fits_bare (MovCr4Pge p on) h = h

fits_with : (e : Event) → FitsButMoments (without_moments e) → HasMoments e → FitsEvent e
fits_with (Write p addr value) h k = h
fits_with (Access p flags la outcome moments) h k = (h.0, h.1, h.2, k)
fits_with (Assist p flags la word moments) h k = (h.0, h.1, h.2, k)
fits_with (MovCr3 p operand) h k = h
fits_with (Invlpg p la) h k = h
fits_with (Invpcid p kind pcid la) h k = h
fits_with (MovCr4Pge p on) h k = h

pub fits_alike : (xs ys : List Event) → AreSameButMoments xs ys → AllByRecursion HasMoments xs → AllByRecursion FitsEvent ys → AllByRecursion FitsEvent xs
fits_alike [] ys same moments fits = tt
fits_alike (x ∷ xs) [] same moments fits = absurd (cc)
fits_alike (x ∷ xs) (y ∷ ys) same moments fits =
    let first : without_moments x ≡ without_moments y = cc in
    let rest : map without_moments xs ≡ map without_moments ys = cc in
    (fits_with x (subst FitsButMoments (sym first) (fits_bare y fits.0)) moments.0, fits_alike xs ys rest moments.1 fits.1)

-- a record is one with the moments that certify its events, too
pub found_record : (r : Recorded) (found : List Event) → IsRecord r → IsCertified r.head r.events found → IsRecord (record { head = r.head; events = found })
found_record r found is h =
    let count : length found ≡ length r.events = same_count found r.events h.same in
    record {
      head = is.head;
      count = omega (arith, count, is.count);
      fits = fits_alike found r.events h.same h.fits is.fits;
      well = well_alike r.head found r.events h.same is.well;
    }
