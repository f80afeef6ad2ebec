-- Each outcome that is allowed is a candidate, and candidates rise.
use Rattle.std.proofs.Common.{◌≡◌, ℕ, suc, ◌<◌, List, [], ◌∷◌, ◌++◌, map, refl, ap, sym, ◌∙◌, subst, arith}
use Rattle.std.specs.List.{All, AllPairs, Contains}
use Rattle.std.specs.List.Sorted.{IsStrictlyIncreasing}
use Rattle.std.proofs.lemmas.List.{get_or-map, length-map}
use Rattle.std.proofs.lemmas.List.Elements.{All-nil, All-cons, All-map, All-append, Contains-append_left, Contains-append_right}
use Rattle.std.proofs.lemmas.List.Kept.{AllPairs-cons, AllPairs-from_increasing}
use Rattle.pg_entry.specs.declared.AccessKind.{AccessKind}
use Rattle.pg_entry.specs.declared.Cause.{Cause}
use Rattle.pg_entry.specs.declared.Cause.TheVariants as causes
use Rattle.pg_entry.specs.declared.Cfg.{Cfg}
use Rattle.pg_entry.specs.Permission.{fault_code}
use Rattle.pg_event.specs.declared.event.Event.TheVariants.{Access}
use Rattle.pg_event.specs.declared.event.Outcome.{Outcome}
use Rattle.pg_event.specs.declared.event.Outcome.TheVariants.{Page, Fault}
use Rattle.pg_event.specs.Form.{access_kind}
use Rattle.pg_event.specs.Spelling.{Recorded}
use Rattle.pg_event.specs.Witness.{claim_of}
use Rattle.pg_outcomes.specs.Allowing.{IsAllowed, IsBefore}
use Rattle.pg_outcomes.specs.Candidates.{faults_of, AreCandidates}
use Rattle.pg_outcomes.specs.Pages.{HavePages}
use Rattle.pg_outcomes.proofs.Walks.{page_given, code_caused}

-- ---- all

page_there : (pages : List ℕ) (page : ℕ) → Contains pages page → Contains (map Page pages) (Page page)
page_there pages page h = (h.0, omega (arith, h.1, length-map pages Page), get_or-map Page pages h.0 page (Page page) h.1 ∙ ap Page h.2)

fault_there : (cfg : Cfg) (kind : AccessKind) (cause : Cause) → Contains (faults_of cfg kind) (Fault (fault_code cfg kind cause))
fault_there cfg kind causes.Absent = (0, omega arith, refl)
fault_there cfg kind causes.Denied = (1, omega arith, refl)
fault_there cfg kind causes.Reserved = (2, omega arith, refl)

all_there : (r : Recorded) (n p flags la : ℕ) (own : Outcome) (moments : List ℕ) (pages : List ℕ) → HavePages r n la pages → (o : Outcome) → IsAllowed r.head r.events n (Access p flags la own moments) o →
    Contains (map Page pages ++ faults_of r.head.cfg (access_kind flags)) o
all_there r n p flags la own moments pages have (Page page) allowed =
    let by = page_given r (claim_of n p flags la (Page page)) allowed.0 page refl allowed.1.good in
    Contains-append_left (map Page pages) _ (Page page) (page_there pages page (have by.0 by.1 page by.2 by.3 by.4))
all_there r n p flags la own moments pages have (Fault code) allowed =
    let by = code_caused r (claim_of n p flags la (Fault code)) allowed.0 code refl allowed.1.good in
    Contains-append_right (map Page pages) _ (Fault code)
    (subst (λ c. Contains (faults_of r.head.cfg (access_kind flags)) (Fault c)) (sym by.1) (fault_there r.head.cfg (access_kind flags) by.0))

-- ---- rising

no_pairs : AllPairs IsBefore []
no_pairs i j d lt within = absurd (omega (arith, within))

-- of a fault and of two higher ones
faults_rise : (a b c : ℕ) → a < b → b < c → AllPairs IsBefore (Fault a ∷ Fault b ∷ Fault c ∷ [])
faults_rise a b c ab bc =
    let ac : a < c = omega (arith, ab, bc) in
    let one : AllPairs IsBefore (Fault c ∷ []) = AllPairs-cons IsBefore (Fault c) [] (All-nil (IsBefore (Fault c))) no_pairs in
    let two : AllPairs IsBefore (Fault b ∷ Fault c ∷ []) = AllPairs-cons IsBefore (Fault b) (Fault c ∷ []) (All-cons (IsBefore (Fault b)) (Fault c) [] bc (All-nil (IsBefore (Fault b)))) one in
    AllPairs-cons IsBefore (Fault a) (Fault b ∷ Fault c ∷ [])
    (All-cons (IsBefore (Fault a)) (Fault b) (Fault c ∷ []) ab (All-cons (IsBefore (Fault a)) (Fault c) [] ac (All-nil (IsBefore (Fault a))))) two

codes_rise : (cfg : Cfg) (kind : AccessKind) → AllPairs IsBefore (faults_of cfg kind)
codes_rise cfg kind = faults_rise (fault_code cfg kind causes.Absent) (fault_code cfg kind causes.Denied) (fault_code cfg kind causes.Reserved) (omega arith) (omega arith)

faults_later : (a : ℕ) (cfg : Cfg) (kind : AccessKind) → All (IsBefore (Page a)) (faults_of cfg kind)
faults_later a cfg kind =
    let b : Outcome = Fault (fault_code cfg kind causes.Absent) in
    let c : Outcome = Fault (fault_code cfg kind causes.Denied) in
    let d : Outcome = Fault (fault_code cfg kind causes.Reserved) in
    All-cons (IsBefore (Page a)) b (c ∷ d ∷ []) tt (All-cons (IsBefore (Page a)) c (d ∷ []) tt (All-cons (IsBefore (Page a)) d [] tt (All-nil (IsBefore (Page a)))))

pages_rise : (pages : List ℕ) (cfg : Cfg) (kind : AccessKind) → AllPairs (λ a b. a < b) pages → AllPairs IsBefore (map Page pages ++ faults_of cfg kind)
pages_rise [] cfg kind h = codes_rise cfg kind
pages_rise (a ∷ rest) cfg kind h =
    let later : All (λ b. a < b) rest = λ k d lt. h 0 (suc k) d (omega arith) (omega (arith, lt)) in
    let others : AllPairs (λ x y. x < y) rest = λ i j d lt within. h (suc i) (suc j) d (omega (arith, lt)) (omega (arith, within)) in
    AllPairs-cons IsBefore (Page a) (map Page rest ++ faults_of cfg kind)
    (All-append (IsBefore (Page a)) (map Page rest) (faults_of cfg kind) (All-map (IsBefore (Page a)) Page rest later) (faults_later a cfg kind)) (pages_rise rest cfg kind others)

-- ---- candidates

pub are_candidates : (r : Recorded) (n p flags la : ℕ) (own : Outcome) (moments : List ℕ) (pages : List ℕ) (os : List Outcome) → HavePages r n la pages → IsStrictlyIncreasing pages →
    os ≡ map Page pages ++ faults_of r.head.cfg (access_kind flags) → AreCandidates r n (Access p flags la own moments) os
are_candidates r n p flags la own moments pages os have rise is = record {
  all = λ o allowed. subst (λ xs. Contains xs o) (sym is) (all_there r n p flags la own moments pages have o allowed);
  rising = subst (AllPairs IsBefore) (sym is) (pages_rise pages r.head.cfg (access_kind flags) (AllPairs-from_increasing pages rise));
}
