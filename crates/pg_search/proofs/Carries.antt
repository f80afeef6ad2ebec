-- What moments read and what is judged of it, once the moments are carried to other events.
use Rattle.std.proofs.Common.{◌≡◌, ℕ, ◌+◌, ◌%◌, ◌^◌, ◌≤◌, Bool, true, not, cond, leb, ◌&&◌, ◌||◌, ◌==◌, List, [], ◌∷◌, map, Option, Some, None, refl, ap, sym, ◌∙◌, subst, arith}
use Rattle.std.specs.Option.{option_or}
use Rattle.std.specs.List.{AllByRecursion}
use Rattle.std.proofs.lemmas.Bool.{and_parts, and_from, leb-true, le-leb, eqb-true, eq-eqb}
use Rattle.std.proofs.lemmas.List.{length-map, map-id}
use Rattle.pg_entry.specs.declared.Cfg.{Cfg}
use Rattle.pg_entry.specs.declared.Rights.{Rights}
use Rattle.pg_entry.specs.declared.Cause.{Cause}
use Rattle.pg_entry.specs.declared.Cause.TheVariants as causes
use Rattle.pg_entry.specs.declared.Level.{Level}
use Rattle.pg_entry.specs.declared.Level.TheVariants.{Four}
use Rattle.pg_entry.specs.declared.Kind.{Kind}
use Rattle.pg_entry.specs.declared.Kind.TheVariants as kinds
use Rattle.pg_entry.specs.Kinds.{accessed, kind_of, table_of}
use Rattle.pg_entry.specs.Permission.{joined, fault_code}
use Rattle.pg_event.specs.declared.control.Control.{Control}
use Rattle.pg_event.specs.declared.event.Event.{Event}
use Rattle.pg_event.specs.declared.event.Event.TheVariants.{Write, Access, Assist, MovCr3, Invlpg, Invpcid, MovCr4Pge}
use Rattle.pg_event.specs.declared.event.Outcome.{Outcome}
use Rattle.pg_event.specs.declared.event.Outcome.TheVariants.{Page, Fault}
use Rattle.pg_event.specs.declared.event.Reason.{Reason}
use Rattle.pg_event.specs.declared.event.Reason.TheVariants as reasons
use Rattle.pg_event.specs.declared.event.Want.{Want}
use Rattle.pg_event.specs.declared.claim.Claim.{Claim}
use Rattle.pg_event.specs.declared.claim.Update.{Update}
use Rattle.pg_event.specs.declared.keys.StructureKey.{StructureKey}
use Rattle.pg_event.specs.declared.keys.TranslationKey.{TranslationKey}
use Rattle.pg_event.specs.Heads.{Head}
use Rattle.pg_event.specs.Values.{mem_at, control_at}
use Rattle.pg_event.specs.Invalidation.{structure_key, translation_key, must_drop_structure, must_drop_translation}
use Rattle.pg_event.specs.Walk.{Reading, readings, entry_address, below, root_of}
use Rattle.pg_event.specs.Wants.{is_table, may_dirty}
use Rattle.pg_event.specs.Witness.{leads_to, is_in_order, is_one_context, last_or, survives, structures_survive, tables_accessed, Asked, asked_by, asked_of, is_updated, failing_leaf, failing_fault, failing_end, failing_flags, failing_walk, failing_claim, failing_update, walked, failing_access, failing_assist, claim_of, update_of, failing_event, structure_survives, translation_survives}
use Rattle.pg_run_of.proofs.Accesses.{guard_none, last_none}
use Rattle.pg_search.specs.Law.{with_moments, names_moments, AreWitness}
use Rattle.pg_search.specs.ReachableTables.{first_or}
use Rattle.pg_search.specs.Changes.{AreAlike, WitnessedAlike}

-- moments of some events, up to a last one, are carried to moments of others in their order, with
-- the same memory, control registers and survival between them
pub record Carries (head : Head) (xs ys : List Event) (i : ℕ) (f : ℕ → ℕ) : Type 0 where
  pub rises : (w x : ℕ) → w ≤ x → x ≤ i → f w ≤ f x
  pub memory : (w a : ℕ) → w ≤ i → mem_at xs w a ≡ mem_at ys (f w) a
  pub control : (p w : ℕ) → w ≤ i → control_at head xs p w ≡ control_at head ys p (f w)
  pub structures : (p : ℕ) (s : StructureKey) (from to : ℕ) → from ≤ i → to ≤ i →
      structure_survives head xs p s from to ≡ structure_survives head ys p s (f from) (f to)
  pub translations : (p : ℕ) (t : TranslationKey) (from to : ℕ) → from ≤ i → to ≤ i →
      translation_survives head xs p t from to ≡ translation_survives head ys p t (f from) (f to)

-- moments, none above the last

abbrev pub AreUpTo : ℕ → List ℕ → Type 0
AreUpTo i ws = AllByRecursion (λ w. w ≤ i) ws

abbrev pub AreReadUpTo : ℕ → List Reading → Type 0
AreReadUpTo i rs = AllByRecursion (λ r. r.moment ≤ i) rs

in_order : (ws : List ℕ) (i : ℕ) → is_in_order ws i ≡ true → AreUpTo i ws
in_order [] i h = tt
in_order (w ∷ []) i h = (leb-true _ _ h, tt)
in_order (w ∷ x ∷ ws) i h =
    let p = and_parts (leb w x) (is_in_order (x ∷ ws) i) h in
    let others = in_order (x ∷ ws) i p.1 in
    let le : w ≤ x = leb-true _ _ p.0 in
    let next : x ≤ i = others.0 in
    (omega (arith, le, next), others)

moved_order : (f : ℕ → ℕ) (i : ℕ) (ws : List ℕ) → ((w x : ℕ) → w ≤ x → x ≤ i → f w ≤ f x) → is_in_order ws i ≡ true → is_in_order (map f ws) (f i) ≡ true
moved_order f i [] rises h = refl
moved_order f i (w ∷ []) rises h = le-leb _ _ (rises w i (leb-true _ _ h) (omega arith))
moved_order f i (w ∷ x ∷ ws) rises h =
    let p = and_parts (leb w x) (is_in_order (x ∷ ws) i) h in
    let others = in_order (x ∷ ws) i p.1 in
    and_from (leb (f w) (f x)) (is_in_order (map f (x ∷ ws)) (f i)) (le-leb _ _ (rises w x (leb-true _ _ p.0) others.0)) (moved_order f i (x ∷ ws) rises p.1)

-- what is read

abbrev moved : (ℕ → ℕ) → Reading → Reading
moved f r = record { level = r.level; address = r.address; value = r.value; moment = f r.moment; rights = r.rights }

abbrev read_here : Level → ℕ → ℕ → Rights → ℕ → Reading
read_here level address w rights value = record { level = level; address = address; value = value; moment = w; rights = joined rights value }

moved_readings : (m : ℕ) (look seen : ℕ → ℕ → ℕ) (f : ℕ → ℕ) (i la : ℕ) (level : Level) (table : ℕ) (rights : Rights) (ws : List ℕ) → ((w a : ℕ) → w ≤ i → look w a ≡ seen (f w) a) → AreUpTo i ws →
    readings m seen la level table rights (map f ws) ≡ map (moved f) (readings m look la level table rights ws)
moved_readings m look seen f i la level table rights [] h up = refl
moved_readings m look seen f i la level table rights (w ∷ ws) h up =
    let address : ℕ = entry_address table level la in
    let v : ℕ = look w address in
    let value : seen (f w) address ≡ v = sym (h w address up.0) in
    ap (λ (v : ℕ). read_here level address (f w) rights v ∷ readings m seen la (below level) (table_of m v) (joined rights v) (map f ws)) value
    ∙ ap (λ (rs : List Reading). read_here level address (f w) rights v ∷ rs) (moved_readings m look seen f i la (below level) (table_of m v) (joined rights v) ws h up.1)

read_up_to : (m : ℕ) (look : ℕ → ℕ → ℕ) (i la : ℕ) (level : Level) (table : ℕ) (rights : Rights) (ws : List ℕ) → AreUpTo i ws → AreReadUpTo i (readings m look la level table rights ws)
read_up_to m look i la level table rights [] up = tt
read_up_to m look i la level table rights (w ∷ ws) up =
    let value : ℕ = look w (entry_address table level la) in
    (up.0, read_up_to m look i la (below level) (table_of m value) (joined rights value) ws up.1)

last_up_to : (i : ℕ) (r : Reading) (rs : List Reading) → AreReadUpTo i (r ∷ rs) → (last_or r rs).moment ≤ i
last_up_to i r [] up = up.0
last_up_to i r (s ∷ rs) up = last_up_to i s rs up.1

-- clauses that look at no moment

moved_leads : (cfg : Cfg) (want : Want) (f : ℕ → ℕ) (rs : List Reading) → leads_to cfg want (map (moved f) rs) ≡ leads_to cfg want rs
moved_leads cfg want f [] = refl
moved_leads cfg want f (r ∷ []) = refl
moved_leads cfg want f (r ∷ s ∷ rs) = ap (λ b. is_table (kind_of cfg r.level r.value) && b) (moved_leads cfg want f (s ∷ rs))

moved_accessed : (f : ℕ → ℕ) (rs : List Reading) → tables_accessed (map (moved f) rs) ≡ tables_accessed rs
moved_accessed f [] = refl
moved_accessed f (r ∷ []) = refl
moved_accessed f (r ∷ s ∷ rs) = ap (λ b. accessed r.value && b) (moved_accessed f (s ∷ rs))

moved_last : (f : ℕ → ℕ) (r : Reading) (rs : List Reading) → last_or (moved f r) (map (moved f) rs) ≡ moved f (last_or r rs)
moved_last f r [] = refl
moved_last f r (s ∷ rs) = moved_last f s rs

-- clauses that do

moved_context : (head : Head) (xs ys : List Event) (i : ℕ) (f : ℕ → ℕ) (p pcid : ℕ) (ws : List ℕ) → Carries head xs ys i f → AreUpTo i ws →
    is_one_context head ys p pcid (map f ws) ≡ is_one_context head xs p pcid ws
moved_context head xs ys i f p pcid [] k up = refl
moved_context head xs ys i f p pcid (w ∷ ws) k up =
    ap (λ (c : Control). c.pcid == pcid && is_one_context head ys p pcid (map f ws)) (sym (k.control p w up.0))
    ∙ ap (λ b. (control_at head xs p w).pcid == pcid && b) (moved_context head xs ys i f p pcid ws k up.1)

moved_structures : (head : Head) (xs ys : List Event) (i : ℕ) (f : ℕ → ℕ) (p pcid la : ℕ) (rs : List Reading) → Carries head xs ys i f → AreReadUpTo i rs →
    structures_survive head ys p pcid la (map (moved f) rs) ≡ structures_survive head xs p pcid la rs
moved_structures head xs ys i f p pcid la [] k up = refl
moved_structures head xs ys i f p pcid la (r ∷ []) k up = refl
moved_structures head xs ys i f p pcid la (r ∷ s ∷ rs) k up =
    let test : Control → Event → Bool = λ c e. must_drop_structure head.cfg.rules c e (structure_key pcid r.level la) in
    ap (λ b. b && structures_survive head ys p pcid la (map (moved f) (s ∷ rs))) (sym (k.structures p (structure_key pcid r.level la) r.moment s.moment up.0 up.1.0))
    ∙ ap (λ b. survives head xs p test r.moment s.moment && b) (moved_structures head xs ys i f p pcid la (s ∷ rs) k up.1)

-- what has no reason

or_none : (a b : Option Reason) → option_or a b ≡ None → (a ≡ None) × (b ≡ None)
or_none None b h = (refl, h)
or_none (Some x) b h = absurd (cc)

same_number : (f : ℕ → ℕ) (w n : ℕ) → (w == n) ≡ true → (f w == f n) ≡ true
same_number f w n h = eq-eqb (f w) (f n) (ap f (eqb-true w n h))

-- the reasons of a walk

abbrev walk_end : Bool → Bool → Bool → Bool → Option Reason
walk_end order leads context structures =
    cond (not order) (Some reasons.Order) (cond (not leads) (Some reasons.Entry) (cond (not context) (Some reasons.Context) (cond (not structures) (Some reasons.StructureDropped) None)))

abbrev moved_asked : (ℕ → ℕ) → Asked → Asked
moved_asked f a = record { number = f a.number; p = a.p; la = a.la; want = a.want }

walk_ordered : (head : Head) (xs : List Event) (a : Asked) (pcid : ℕ) (ws : List ℕ) (rs : List Reading) → failing_walk head xs a pcid ws rs ≡ None → is_in_order ws a.number ≡ true
walk_ordered head xs a pcid ws rs h = (guard_none (is_in_order ws a.number) reasons.Order _ h).0

moved_walk : (head : Head) (xs ys : List Event) (f : ℕ → ℕ) (a : Asked) (pcid : ℕ) (ws : List ℕ) (rs : List Reading) → Carries head xs ys a.number f → is_in_order ws a.number ≡ true → AreReadUpTo a.number rs →
    failing_walk head ys (moved_asked f a) pcid (map f ws) (map (moved f) rs) ≡ failing_walk head xs a pcid ws rs
moved_walk head xs ys f a pcid ws rs k ordered up =
    let order : is_in_order (map f ws) (f a.number) ≡ is_in_order ws a.number = moved_order f a.number ws k.rises ordered ∙ sym ordered in
    let context = is_one_context head ys a.p pcid (map f ws) in
    let structures = structures_survive head ys a.p pcid a.la (map (moved f) rs) in
    ap (λ b. walk_end b (leads_to head.cfg a.want (map (moved f) rs)) context structures) order
    ∙ ap (λ b. walk_end (is_in_order ws a.number) b context structures) (moved_leads head.cfg a.want f rs)
    ∙ ap (λ b. walk_end (is_in_order ws a.number) (leads_to head.cfg a.want rs) b structures) (moved_context head xs ys a.number f a.p pcid ws k (in_order ws a.number ordered))
    ∙ ap (walk_end (is_in_order ws a.number) (leads_to head.cfg a.want rs) (is_one_context head xs a.p pcid ws)) (moved_structures head xs ys a.number f a.p pcid a.la rs k up)

-- the reasons of an access

abbrev moved_claim : (ℕ → ℕ) → Claim → Claim
moved_claim f c = record { number = f c.number; p = c.p; kind = c.kind; la = c.la; outcome = c.outcome }

moved_fault : (cfg : Cfg) (f : ℕ → ℕ) (c : Claim) (cause : Cause) (moment : ℕ) (outcome : Outcome) → failing_fault cfg c cause moment outcome ≡ None → failing_fault cfg (moved_claim f c) cause (f moment) outcome ≡ None
moved_fault cfg f c cause moment (Page page) h = h
moved_fault cfg f c cause moment (Fault code) h =
    let rest : Option Reason = cond (code == fault_code cfg c.kind cause) None (Some reasons.Code) in
    let parts = guard_none (moment == c.number) reasons.NotAtEvent rest h in
    ap (λ b. cond (not b) (Some reasons.NotAtEvent) rest) (same_number f moment c.number parts.0) ∙ parts.1

abbrev leaf_end : Head → Claim → ℕ → Rights → ℕ → Bool → Bool → Control → Option Reason
leaf_end head c pcid rights address global survived now =
    cond (not survived) (Some reasons.TranslationDropped) (cond (not (now.pcid == pcid) && not global) (Some reasons.ForeignPcid) (failing_leaf head.cfg c.kind rights address c.outcome))

moved_end : (head : Head) (xs ys : List Event) (f : ℕ → ℕ) (c : Claim) (pcid : ℕ) (r : Reading) (kind : Kind) → Carries head xs ys c.number f → r.moment ≤ c.number →
    failing_end head xs c pcid r kind ≡ None → failing_end head ys (moved_claim f c) pcid (moved f r) kind ≡ None
moved_end head xs ys f c pcid r (kinds.Leaf frame shift global_bit) k low h =
    let i : ℕ = c.number in
    let address : ℕ = frame + c.la % 2 ^ shift in
    let test : Bool → Control → Event → Bool = λ global d e. must_drop_translation head.cfg.rules d e (translation_key pcid shift global c.la) in
    let global : Bool = global_bit && (control_at head xs c.p r.moment).pge in
    let now : Control = control_at head ys c.p (f i) in
    ap (λ (d : Control). leaf_end head c pcid r.rights address (global_bit && d.pge) (survives head ys c.p (test (global_bit && d.pge)) (f r.moment) (f i)) now) (sym (k.control c.p r.moment low))
    ∙ ap (λ b. leaf_end head c pcid r.rights address global b now) (sym (k.translations c.p (translation_key pcid shift global c.la) r.moment i low (omega arith)))
    ∙ ap (leaf_end head c pcid r.rights address global (survives head xs c.p (test global) r.moment i)) (sym (k.control c.p i (omega arith))) ∙ h
moved_end head xs ys f c pcid r kinds.Absent k low h = moved_fault head.cfg f c causes.Absent r.moment c.outcome h
moved_end head xs ys f c pcid r kinds.Reserved k low h = moved_fault head.cfg f c causes.Reserved r.moment c.outcome h
moved_end head xs ys f c pcid r (kinds.Table addr) k low h = h

claim_ordered : (head : Head) (xs : List Event) (c : Claim) (pcid : ℕ) (ws : List ℕ) (rs : List Reading) → failing_claim head xs c pcid ws rs ≡ None → is_in_order ws c.number ≡ true
claim_ordered head xs c pcid ws [] h = absurd (cc)
claim_ordered head xs c pcid ws (r ∷ rs) h = walk_ordered head xs (asked_by c) pcid ws (r ∷ rs) (or_none (failing_walk head xs (asked_by c) pcid ws (r ∷ rs)) _ h).0

claim_moved : (head : Head) (xs ys : List Event) (f : ℕ → ℕ) (c : Claim) (pcid : ℕ) (ws : List ℕ) (rs : List Reading) → Carries head xs ys c.number f → AreReadUpTo c.number rs →
    failing_claim head xs c pcid ws rs ≡ None → failing_claim head ys (moved_claim f c) pcid (map f ws) (map (moved f) rs) ≡ None
claim_moved head xs ys f c pcid ws [] k up h = absurd (cc)
claim_moved head xs ys f c pcid ws (r ∷ rs) k up h =
    let end : Reading = last_or r rs in
    let kind : Kind = kind_of head.cfg end.level end.value in
    let tables : Bool = tables_accessed (map (moved f) (r ∷ rs)) in
    let flags : Bool → Option Reason = λ b. failing_flags head.version c b end.value in
    let parts = or_none (failing_walk head xs (asked_by c) pcid ws (r ∷ rs)) _ h in
    let ends = or_none (failing_end head xs c pcid end kind) (flags (tables_accessed (r ∷ rs))) parts.1 in
    let walk : Option Reason = failing_walk head ys (asked_by (moved_claim f c)) pcid (map f ws) (map (moved f) (r ∷ rs)) in
    let tail : Reading → Option Reason = λ e. option_or (failing_end head ys (moved_claim f c) pcid e (kind_of head.cfg e.level e.value)) (failing_flags head.version (moved_claim f c) tables e.value) in
    let walks : walk ≡ None = moved_walk head xs ys f (asked_by c) pcid ws (r ∷ rs) k (walk_ordered head xs (asked_by c) pcid ws (r ∷ rs) parts.0) up ∙ parts.0 in
    ap (λ e. option_or walk (tail e)) (moved_last f r rs)
    ∙ ap (λ o. option_or o (tail (moved f end))) walks
    ∙ ap (λ o. option_or o (flags tables)) (moved_end head xs ys f c pcid end kind k (last_up_to c.number r rs up) ends.0)
    ∙ ap flags (moved_accessed f (r ∷ rs)) ∙ ends.1

-- the reasons of an assist

abbrev moved_update : (ℕ → ℕ) → Update → Update
moved_update f u = record { number = f u.number; p = u.p; kind = u.kind; la = u.la; word = u.word; dirty = u.dirty }

moved_updated : (cfg : Cfg) (f : ℕ → ℕ) (u : Update) (r : Reading) → is_updated cfg u r ≡ true → is_updated cfg (moved_update f u) (moved f r) ≡ true
moved_updated cfg f u r h =
    let may : Bool = not u.dirty || may_dirty cfg u.kind r.rights (kind_of cfg r.level r.value) in
    let parts = and_parts (r.moment == u.number && u.word == r.address) may h in
    let there = and_parts (r.moment == u.number) (u.word == r.address) parts.0 in
    and_from (f r.moment == f u.number && u.word == r.address) may (and_from (f r.moment == f u.number) (u.word == r.address) (same_number f r.moment u.number there.0) there.1) parts.1

update_ordered : (head : Head) (xs : List Event) (u : Update) (pcid : ℕ) (ws : List ℕ) (rs : List Reading) → failing_update head xs u pcid ws rs ≡ None → is_in_order ws u.number ≡ true
update_ordered head xs u pcid ws [] h = absurd (cc)
update_ordered head xs u pcid ws (r ∷ rs) h = walk_ordered head xs (asked_of u) pcid ws (r ∷ rs) (or_none (failing_walk head xs (asked_of u) pcid ws (r ∷ rs)) _ h).0

update_moved : (head : Head) (xs ys : List Event) (f : ℕ → ℕ) (u : Update) (pcid : ℕ) (ws : List ℕ) (rs : List Reading) → Carries head xs ys u.number f → AreReadUpTo u.number rs →
    failing_update head xs u pcid ws rs ≡ None → failing_update head ys (moved_update f u) pcid (map f ws) (map (moved f) rs) ≡ None
update_moved head xs ys f u pcid ws [] k up h = absurd (cc)
update_moved head xs ys f u pcid ws (r ∷ rs) k up h =
    let end : Reading = last_or r rs in
    let parts = or_none (failing_walk head xs (asked_of u) pcid ws (r ∷ rs)) _ h in
    let ends = guard_none (tables_accessed (r ∷ rs)) reasons.Accessed _ parts.1 in
    let updated : is_updated head.cfg (moved_update f u) (moved f end) ≡ true = moved_updated head.cfg f u end (last_none (is_updated head.cfg u end) reasons.Assist ends.1) in
    let walk : Option Reason = failing_walk head ys (asked_of (moved_update f u)) pcid (map f ws) (map (moved f) (r ∷ rs)) in
    let walks : walk ≡ None = moved_walk head xs ys f (asked_of u) pcid ws (r ∷ rs) k (walk_ordered head xs (asked_of u) pcid ws (r ∷ rs) parts.0) up ∙ parts.0 in
    let judged : Bool → Bool → Option Reason = λ tables done. cond (not tables) (Some reasons.Accessed) (cond done None (Some reasons.Assist)) in
    let done : Reading → Bool = λ e. is_updated head.cfg (moved_update f u) e in
    ap (λ e. option_or walk (judged (tables_accessed (map (moved f) (r ∷ rs))) (done e))) (moved_last f r rs)
    ∙ ap (λ o. option_or o (judged (tables_accessed (map (moved f) (r ∷ rs))) (done (moved f end)))) walks
    ∙ ap (λ b. judged b (done (moved f end))) (moved_accessed f (r ∷ rs) ∙ ends.0)
    ∙ ap (judged true) updated

-- the reasons of an event

walked_moved : (head : Head) (xs ys : List Event) (i : ℕ) (f : ℕ → ℕ) (la : ℕ) (start : Control) (ws : List ℕ) → Carries head xs ys i f → AreUpTo i ws → walked head ys la start (map f ws) ≡ map (moved f) (walked head xs la start ws)
walked_moved head xs ys i f la start ws k up = moved_readings head.cfg.m (mem_at xs) (mem_at ys) f i la Four (root_of start).table (root_of start).rights ws k.memory up

pub walked_up_to : (head : Head) (xs : List Event) (i la : ℕ) (start : Control) (ws : List ℕ) → AreUpTo i ws → AreReadUpTo i (walked head xs la start ws)
walked_up_to head xs i la start ws up = read_up_to head.cfg.m (mem_at xs) i la Four (root_of start).table (root_of start).rights ws up

-- moments that witness an access, or an assist, are not above its number

pub access_up_to : (head : Head) (xs : List Event) (c : Claim) (ws : List ℕ) → failing_access head xs c ws ≡ None → AreUpTo c.number ws
access_up_to head xs c [] h = tt
access_up_to head xs c (w ∷ ws) h =
    let start : Control = control_at head xs c.p w in
    in_order (w ∷ ws) c.number (claim_ordered head xs c start.pcid (w ∷ ws) (walked head xs c.la start (w ∷ ws)) h)

assist_up_to : (head : Head) (xs : List Event) (u : Update) (ws : List ℕ) → failing_assist head xs u ws ≡ None → AreUpTo u.number ws
assist_up_to head xs u [] h = tt
assist_up_to head xs u (w ∷ ws) h =
    let start : Control = control_at head xs u.p w in
    in_order (w ∷ ws) u.number (update_ordered head xs u start.pcid (w ∷ ws) (walked head xs u.la start (w ∷ ws)) h)

first_of_all : (i : ℕ) (ws : List ℕ) → AreUpTo i ws → first_or 0 ws ≤ i
first_of_all i [] up = omega arith
first_of_all i (w ∷ ws) up = up.0

pub first_within : (head : Head) (xs : List Event) (i : ℕ) (e : Event) (ws : List ℕ) → names_moments e ≡ true → AreWitness head xs i e ws → first_or 0 ws ≤ i
first_within head xs i (Write p addr value) ws names w = absurd (cc)
first_within head xs i (Access p flags la outcome moments) ws names w = first_of_all i ws (access_up_to head xs (claim_of i p flags la outcome) ws w.good)
first_within head xs i (Assist p flags la word moments) ws names w = first_of_all i ws (assist_up_to head xs (update_of i p flags la word) ws w.good)
first_within head xs i (MovCr3 p operand) ws names w = absurd (cc)
first_within head xs i (Invlpg p la) ws names w = absurd (cc)
first_within head xs i (Invpcid p kind pcid la) ws names w = absurd (cc)
first_within head xs i (MovCr4Pge p on) ws names w = absurd (cc)

access_moved : (head : Head) (xs ys : List Event) (f : ℕ → ℕ) (c : Claim) (ws : List ℕ) → Carries head xs ys c.number f → failing_access head xs c ws ≡ None → failing_access head ys (moved_claim f c) (map f ws) ≡ None
access_moved head xs ys f c [] k h = absurd (cc)
access_moved head xs ys f c (w ∷ ws) k h =
    let start : Control = control_at head xs c.p w in
    let rs : List Reading = walked head xs c.la start (w ∷ ws) in
    let up : AreUpTo c.number (w ∷ ws) = in_order (w ∷ ws) c.number (claim_ordered head xs c start.pcid (w ∷ ws) rs h) in
    ap (λ (s : Control). failing_claim head ys (moved_claim f c) s.pcid (map f (w ∷ ws)) (walked head ys c.la s (map f (w ∷ ws)))) (sym (k.control c.p w up.0))
    ∙ ap (failing_claim head ys (moved_claim f c) start.pcid (map f (w ∷ ws))) (walked_moved head xs ys c.number f c.la start (w ∷ ws) k up)
    ∙ claim_moved head xs ys f c start.pcid (w ∷ ws) rs k (walked_up_to head xs c.number c.la start (w ∷ ws) up) h

assist_moved : (head : Head) (xs ys : List Event) (f : ℕ → ℕ) (u : Update) (ws : List ℕ) → Carries head xs ys u.number f → failing_assist head xs u ws ≡ None → failing_assist head ys (moved_update f u) (map f ws) ≡ None
assist_moved head xs ys f u [] k h = absurd (cc)
assist_moved head xs ys f u (w ∷ ws) k h =
    let start : Control = control_at head xs u.p w in
    let rs : List Reading = walked head xs u.la start (w ∷ ws) in
    let up : AreUpTo u.number (w ∷ ws) = in_order (w ∷ ws) u.number (update_ordered head xs u start.pcid (w ∷ ws) rs h) in
    ap (λ (s : Control). failing_update head ys (moved_update f u) s.pcid (map f (w ∷ ws)) (walked head ys u.la s (map f (w ∷ ws)))) (sym (k.control u.p w up.0))
    ∙ ap (failing_update head ys (moved_update f u) start.pcid (map f (w ∷ ws))) (walked_moved head xs ys u.number f u.la start (w ∷ ws) k up)
    ∙ update_moved head xs ys f u start.pcid (w ∷ ws) rs k (walked_up_to head xs u.number u.la start (w ∷ ws) up) h

event_moved : (head : Head) (xs ys : List Event) (i : ℕ) (f : ℕ → ℕ) (e : Event) (ws : List ℕ) → Carries head xs ys i f → failing_event head xs i (with_moments ws e) ≡ None →
    failing_event head ys (f i) (with_moments (map f ws) e) ≡ None
event_moved head xs ys i f (Write p addr value) ws k h = refl
event_moved head xs ys i f (Access p flags la outcome moments) ws k h = access_moved head xs ys f (claim_of i p flags la outcome) ws k h
event_moved head xs ys i f (Assist p flags la word moments) ws k h = assist_moved head xs ys f (update_of i p flags la word) ws k h
event_moved head xs ys i f (MovCr3 p operand) ws k h = refl
event_moved head xs ys i f (Invlpg p la) ws k h = refl
event_moved head xs ys i f (Invpcid p kind pcid la) ws k h = refl
event_moved head xs ys i f (MovCr4Pge p on) ws k h = refl

pub carried : (head : Head) (xs ys : List Event) (i : ℕ) (f : ℕ → ℕ) (e : Event) (ws : List ℕ) → Carries head xs ys i f → AreWitness head xs i e ws → AreWitness head ys (f i) e (map f ws)
carried head xs ys i f e ws k h = record {
  some = omega (arith, length-map ws f, h.some);
  few = omega (arith, length-map ws f, h.few);
  good = event_moved head xs ys i f e ws k h.good;
}

-- to a run that is alike

alike_carries : (head : Head) (xs ys : List Event) (i : ℕ) → AreAlike head xs ys i → Carries head xs ys i (λ w. w)
alike_carries head xs ys i h = record {
  rises = λ w x low _. low;
  memory = h.memory;
  control = h.control;
  structures = h.structures;
  translations = h.translations;
}

-- what is read, where the same is read at each moment
pub read_alike : (head : Head) (xs ys : List Event) (i la : ℕ) (start : Control) (ws : List ℕ) → AreAlike head xs ys i → AreUpTo i ws → walked head ys la start ws ≡ walked head xs la start ws
read_alike head xs ys i la start ws h up =
    ap (walked head ys la start) (sym (map-id ws)) ∙ walked_moved head xs ys i (λ w. w) la start ws (alike_carries head xs ys i h) up ∙ map-id (walked head xs la start ws)

pub witnessed_alike : WitnessedAlike
witnessed_alike head xs ys i e ws h witness = subst (AreWitness head ys i e) (map-id ws) (carried head xs ys i (λ w. w) e ws (alike_carries head xs ys i h) witness)
