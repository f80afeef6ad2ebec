-- A walk whose links hold, and that ends well, is a proof of the access or of the assist.
use Rattle.std.proofs.Common.{◌≡◌, ℕ, ◌≤◌, Bool, List, [], ◌∷◌, refl, ap, ◌∙◌, true, false, not, cond, ◌&&◌, ◌||◌, Option, Some, None}
use Rattle.std.specs.Option.{option_or}
use Rattle.std.proofs.lemmas.Bool.{and_from, le-leb, eq-eqb}
use Rattle.pg_entry.specs.Kinds.{kind_of, accessed}
use Rattle.pg_entry.specs.Permission.{joined}
use Rattle.pg_event.specs.declared.claim.Claim.{Claim}
use Rattle.pg_event.specs.declared.claim.Update.{Update}
use Rattle.pg_event.specs.declared.event.Event.{Event}
use Rattle.pg_event.specs.declared.event.Reason.TheVariants as reasons
use Rattle.pg_event.specs.Heads.{Head, judges_accessed}
use Rattle.pg_event.specs.Values.{mem_at, control_at}
use Rattle.pg_event.specs.Walk.{Reading, readings, entry_address}
use Rattle.pg_event.specs.Wants.{is_wanted}
use Rattle.pg_event.specs.Witness.{Asked, asked_by, asked_of, leads_to, is_in_order, is_one_context, last_or, structures_survive, tables_accessed, failing_walk, failing_end, failing_flags, failing_claim, failing_update, is_updated, failing_access, failing_assist}
use Rattle.pg_guest.specs.Home.{WalkPosition, at_root, word_at, position_below, Along, FromRoot}

-- what a walk reads at a position
abbrev pub reading_at : List Event → ℕ → WalkPosition → ℕ → Reading
reading_at events la at w = record {
  level = at.level;
  address = entry_address at.table at.level la;
  value = word_at events la at w;
  moment = w;
  rights = joined at.rights (word_at events la at w);
}

-- the last reading of a walk that is asked for
pub record IsLast (head : Head) (es : List Event) (asked : Asked) (pcid : ℕ) (Q : Reading → Type 0) (at : WalkPosition) (w : ℕ) : Type 0 where
  pub order : w ≤ asked.number
  pub own : (control_at head es asked.p w).pcid ≡ pcid
  pub wanted : is_wanted asked.want (kind_of head.cfg at.level (word_at es asked.la at w)) ≡ true
  pub ends : Q (reading_at es asked.la at w)

-- what it reads after its first moment
abbrev rest_of : Head → List Event → ℕ → WalkPosition → ℕ → List ℕ → List Reading
rest_of head es la at w ws =
    let to : WalkPosition = position_below head.cfg.m es la at w in readings head.cfg.m (mem_at es) la to.level to.table to.rights ws

record Holds (head : Head) (es : List Event) (asked : Asked) (pcid : ℕ) (Q : Reading → Type 0) (at : WalkPosition) (w : ℕ) (ws : List ℕ) : Type 0 where
  order : is_in_order (w ∷ ws) asked.number ≡ true
  leads : leads_to head.cfg asked.want (reading_at es asked.la at w ∷ rest_of head es asked.la at w ws) ≡ true
  context : is_one_context head es asked.p pcid (w ∷ ws) ≡ true
  structures : structures_survive head es asked.p pcid asked.la (reading_at es asked.la at w ∷ rest_of head es asked.la at w ws) ≡ true
  used : (not (judges_accessed head.version) || tables_accessed (reading_at es asked.la at w ∷ rest_of head es asked.la at w ws)) ≡ true
  ends : Q (last_or (reading_at es asked.la at w) (rest_of head es asked.la at w ws))

pub none_to_use : (judged : Bool) → (not judged || true) ≡ true
none_to_use true = refl
none_to_use false = refl

both_used : (judged a b : Bool) → (not judged || a) ≡ true → (not judged || b) ≡ true → (not judged || (a && b)) ≡ true
both_used true a b h k = and_from a b h k
both_used false a b h k = refl

holds : (head : Head) (es : List Event) (asked : Asked) (pcid : ℕ) (Q : Reading → Type 0) (at : WalkPosition) (w : ℕ) (ws : List ℕ) →
    Along head es asked.p asked.la pcid (IsLast head es asked pcid Q) at w ws → Holds head es asked pcid Q at w ws
holds head es asked pcid Q at w [] h = record {
  order = le-leb w asked.number h.order;
  leads = h.wanted;
  context = and_from _ _ (eq-eqb _ _ h.own) refl;
  structures = refl;
  used = none_to_use (judges_accessed head.version);
  ends = h.ends;
}
holds head es asked pcid Q at w (x ∷ ws) h =
    let to : WalkPosition = position_below head.cfg.m es asked.la at w in
    let rest = holds head es asked pcid Q to x ws h.1 in record {
      order = and_from _ _ (le-leb w x h.0.order) rest.order;
      leads = and_from _ _ h.0.table rest.leads;
      context = and_from _ _ (eq-eqb _ _ h.0.own) rest.context;
      structures = and_from _ _ h.0.stands rest.structures;
      used = both_used (judges_accessed head.version) (accessed (word_at es asked.la at w)) (tables_accessed (reading_at es asked.la to x ∷ rest_of head es asked.la to x ws)) h.0.usable rest.used;
      ends = rest.ends;
    }

pub passed : {X : Type 0} (b : Bool) (x : X) (o : Option X) → b ≡ true → o ≡ None → cond (not b) (Some x) o ≡ None
passed true x o h k = k
passed false x o h k = absurd (cc)

pub or_none : {X : Type 0} (a b : Option X) → a ≡ None → b ≡ None → option_or a b ≡ None
or_none None b h k = k
or_none (Some x) b h k = absurd (cc)

walk_holds : (head : Head) (es : List Event) (asked : Asked) (pcid : ℕ) (Q : Reading → Type 0) (at : WalkPosition) (w : ℕ) (ws : List ℕ) → Holds head es asked pcid Q at w ws →
    failing_walk head es asked pcid (w ∷ ws) (reading_at es asked.la at w ∷ rest_of head es asked.la at w ws) ≡ None
walk_holds head es asked pcid Q at w ws all =
    let rs : List Reading = reading_at es asked.la at w ∷ rest_of head es asked.la at w ws in
    passed (is_in_order (w ∷ ws) asked.number) reasons.Order _ all.order
    (passed (leads_to head.cfg asked.want rs) reasons.Entry _ all.leads
    (passed (is_one_context head es asked.p pcid (w ∷ ws)) reasons.Context _ all.context
    (passed (structures_survive head es asked.p pcid asked.la rs) reasons.StructureDropped None all.structures refl)))

first_own : (head : Head) (es : List Event) (asked : Asked) (pcid : ℕ) (Q : Reading → Type 0) (at : WalkPosition) (w : ℕ) (ws : List ℕ) →
    Along head es asked.p asked.la pcid (IsLast head es asked pcid Q) at w ws → (control_at head es asked.p w).pcid ≡ pcid
first_own head es asked pcid Q at w [] h = h.own
first_own head es asked pcid Q at w (x ∷ ws) h = h.0.own

-- the last reading serves an access, whatever the flags of the tables, where these are good
pub record IsServed (head : Head) (es : List Event) (c : Claim) (pcid : ℕ) (r : Reading) : Type 0 where
  pub ends : failing_end head es c pcid r (kind_of head.cfg r.level r.value) ≡ None
  pub flags : (tables : Bool) → (not (judges_accessed head.version) || tables) ≡ true → failing_flags head.version c tables r.value ≡ None

pub access_witnessed : (head : Head) (es : List Event) (c : Claim) (pcid : ℕ) (ws : List ℕ) →
    FromRoot head es c.p c.la pcid (IsLast head es (asked_by c) pcid (IsServed head es c pcid)) ws → failing_access head es c ws ≡ None
access_witnessed head es c pcid [] h = absurd h
access_witnessed head es c pcid (w ∷ ws) h =
    let at : WalkPosition = at_root (control_at head es c.p w) in
    let Q : Reading → Type 0 = IsServed head es c pcid in
    let r : Reading = reading_at es c.la at w in
    let rs : List Reading = rest_of head es c.la at w ws in
    let all = holds head es (asked_by c) pcid Q at w ws h in
    let served : Q (last_or r rs) = all.ends in
    ap (λ q. failing_claim head es c q (w ∷ ws) (r ∷ rs)) (first_own head es (asked_by c) pcid Q at w ws h)
    ∙ or_none (failing_walk head es (asked_by c) pcid (w ∷ ws) (r ∷ rs)) _ (walk_holds head es (asked_by c) pcid Q at w ws all)
    (or_none (failing_end head es c pcid (last_or r rs) (kind_of head.cfg (last_or r rs).level (last_or r rs).value)) _ served.ends
    (served.flags (tables_accessed (r ∷ rs)) all.used))

judged_used : (judged b : Bool) → judged ≡ true → (not judged || b) ≡ true → b ≡ true
judged_used true b h k = k
judged_used false b h k = absurd (cc)

updated : (b : Bool) → b ≡ true → cond b None (Some reasons.Assist) ≡ None
updated true h = refl
updated false h = absurd (cc)

pub assist_witnessed : (head : Head) (es : List Event) (u : Update) (pcid : ℕ) (ws : List ℕ) → judges_accessed head.version ≡ true →
    FromRoot head es u.p u.la pcid (IsLast head es (asked_of u) pcid (λ r. is_updated head.cfg u r ≡ true)) ws → failing_assist head es u ws ≡ None
assist_witnessed head es u pcid [] judged h = absurd h
assist_witnessed head es u pcid (w ∷ ws) judged h =
    let at : WalkPosition = at_root (control_at head es u.p w) in
    let Q : Reading → Type 0 = λ r. is_updated head.cfg u r ≡ true in
    let r : Reading = reading_at es u.la at w in
    let rs : List Reading = rest_of head es u.la at w ws in
    let all = holds head es (asked_of u) pcid Q at w ws h in
    let good : is_updated head.cfg u (last_or r rs) ≡ true = all.ends in
    ap (λ q. failing_update head es u q (w ∷ ws) (r ∷ rs)) (first_own head es (asked_of u) pcid Q at w ws h)
    ∙ or_none (failing_walk head es (asked_of u) pcid (w ∷ ws) (r ∷ rs)) _ (walk_holds head es (asked_of u) pcid Q at w ws all)
    (passed (tables_accessed (r ∷ rs)) reasons.Accessed _ (judged_used (judges_accessed head.version) (tables_accessed (r ∷ rs)) judged all.used)
    (updated (is_updated head.cfg u (last_or r rs)) good))
