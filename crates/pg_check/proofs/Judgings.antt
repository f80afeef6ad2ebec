-- A run that is judged as it is read.
use Rattle.std.proofs.Common.{◌≡◌, ℕ, ◌+◌, ◌<◌, List, [], ◌∷◌, ◌++◌, length, length-append, Option, None, sym, ap, ◌∙◌, arith, Result, Ok, Err, IfOk, OnOk, OnErr, take}
use Rattle.std.specs.Option.{option_or}
use Rattle.std.proofs.lemmas.List.{append_assoc, length-take, take-append-le}
use Rattle.std.proofs.lemmas.Result.{on_ok_weaker, on_err_weaker}
use Rattle.pg_event.specs.declared.event.Event.{Event}
use Rattle.pg_event.specs.declared.event.Reason.{Reason}
use Rattle.pg_event.specs.Form.{broken_rule}
use Rattle.pg_event.specs.Heads.{Head}
use Rattle.pg_event.specs.Witness.{failing_event, first_some, first_bad_from}
use Rattle.pg_event.proofs.Alike.{same_judged}
use Rattle.pg_chain.specs.declared.past.Past.{Past}
use Rattle.pg_check.specs.Judging.{Noted, HasNoted, MayNote, Findings, IsJudged, MayFollow, Awaits, IsFound}
use Rattle.pg_check.proofs.Firsts.{first_bad-found, first_bad_from-both, first_bad_from-past}

-- what a judge is seen as, by its parts
abbrev pub noted : Past → ℕ → Noted
noted past count = record { past = past; count = count }

-- one of the events that may come comes next, behind those before it
pub may_next : (n m : Noted) (es : List Event) (i : ℕ) (e : Event) → (may : MayNote n es) → ((head : Head) (before : List Event) → HasNoted n head before → HasNoted m head (before ++ take i es))
    → i < length es → broken_rule may.head e ≡ None → MayNote m (e ∷ [])
may_next n m es i e may step there well = record {
  head = may.head;
  before = may.before ++ take i es;
  noted = step may.head may.before may.noted;
  well = (well, tt);
  limit = omega (arith, length-append may.before (take i es), length-take i es, there, may.limit);
}

-- what a run is seen as, by its parts
abbrev pub findings : Head → Noted → ℕ → Option (ℕ × Reason) → Findings
findings head n count first_bad = record { head = head; past = n.past; noted = n.count; count = count; first_bad = first_bad }

abbrev pub noted_in : Findings → Noted
noted_in f = noted f.past f.noted

-- what was judged was noted
pub judged_noted : (f : Findings) (head : Head) (before : List Event) → IsJudged f head before → HasNoted (noted_in f) head before
judged_noted f head before j = record { past = j.past; count = j.noted }

pub may_note : (f : Findings) (more : List Event) → MayFollow f more → MayNote (noted_in f) more
may_note f more may = record {
  head = f.head;
  before = may.before;
  noted = judged_noted f f.head may.before may.judged;
  well = may.well;
  limit = may.limit;
}

pub judged_alike : (f : Findings) (head : Head) (before : List Event) → IsJudged f head before → (n : Noted) → HasNoted n head before → IsJudged (findings f.head n f.count f.first_bad) head before
judged_alike f head before j n is = record { settings = j.settings; past = is.past; noted = is.count; count = j.count; first_bad = j.first_bad }

pub awaits : (f : Findings) (head : Head) (before more : List Event) → MayFollow f more → IsJudged f head before → (n : Noted) → HasNoted n head (before ++ more) → Awaits (findings f.head n f.count f.first_bad) head before more
awaits f head before more may j n is =
    let same : length before ≡ length may.before = sym j.count ∙ may.judged.count in
    record {
      settings = j.settings;
      past = is.past;
      noted = is.count;
      count = j.count;
      first_bad = j.first_bad;
      well = rw j.settings at may.well;
      limit = omega (arith, same, may.limit);
    }

pub noted_ok : {A E : Type 0} (r : Result A E) (f : Findings) (head : Head) (before more : List Event) → MayFollow f more → IsJudged f head before → (n : Noted) → OnOk r (HasNoted n head (before ++ more)) →
    OnOk r (Awaits (findings f.head n f.count f.first_bad) head before more)
noted_ok r f head before more may j n is = on_ok_weaker r (awaits f head before more may j n) is

pub noted_err : {A E : Type 0} (r : Result A E) (f : Findings) (head : Head) (before : List Event) → IsJudged f head before → (n : Noted) → OnErr r (HasNoted n head before) →
    OnErr r (IsJudged (findings f.head n f.count f.first_bad) head before)
noted_err r f head before j n is = on_err_weaker r (judged_alike f head before j n) is

pub settled : (f : Findings) (head : Head) (before more : List Event) (found : Option (ℕ × Reason)) → Awaits f head before more → IsFound found head before more →
    IsJudged (record f { count = f.count + length more; first_bad = option_or f.first_bad found }) head (before ++ more)
settled f head before more found a is = record {
  settings = a.settings;
  past = a.past;
  noted = a.noted;
  count = ap (λ n. n + length more) a.count ∙ sym (length-append before more);
  first_bad = ap (λ o. option_or o found) a.first_bad ∙ first_bad-found head before more found is;
}

-- one event more was judged, unless one before it is bad
pub found_more : (head : Head) (before es : List Event) (e : Event) (found now : Option (ℕ × Reason)) → found ≡ first_bad_from head (before ++ es) (length before) es
    → now ≡ option_or found (first_some (length (before ++ es)) (failing_event head (before ++ es) (length (before ++ es)) e) None)
    → now ≡ first_bad_from head (before ++ (es ++ e ∷ [])) (length before) (es ++ e ∷ [])
found_more head before es e found now was is =
    let n : ℕ = length before + length es in
    let all : List Event = (before ++ es) ++ e ∷ [] in
    let size : length (before ++ es) ≡ n = length-append before es in
    let same : failing_event head all n e ≡ failing_event head (before ++ es) n e = same_judged head all (before ++ es) n e (take-append-le n (before ++ es) (e ∷ []) (omega (arith, size))) in
    is
    ∙ ap (λ k. option_or found (first_some k (failing_event head (before ++ es) k e) None)) size
    ∙ ap (λ (o : Option (ℕ × Reason)). option_or o (first_some n (failing_event head (before ++ es) n e) None))
    (was ∙ sym (first_bad_from-past head (before ++ es) (e ∷ []) es (length before) (omega (arith, size))))
    ∙ ap (λ (o : Option Reason). option_or (first_bad_from head all (length before) es) (first_some n o None)) (sym same)
    ∙ sym (first_bad_from-both head all es (e ∷ []) (length before))
    ∙ ap (λ (xs : List Event). first_bad_from head xs (length before) (es ++ e ∷ [])) (append_assoc before es (e ∷ []))

-- where no event before them is bad, what judging finds is what it found
pub found_ok : {E : Type 0} (r : Result (Option (ℕ × Reason)) E) (head : Head) (before more : List Event) → IfOk r (λ found. found ≡ first_bad_from head (before ++ more) (length before) more)
    → IfOk r (λ found. IsFound found head before more)
found_ok (Ok found) head before more is = λ none. is
found_ok (Err e) head before more is = tt

pub on_err : {A E P : Type 0} (r : Result A E) → P → OnErr r P
on_err (Ok x) p = tt
on_err (Err e) p = p
