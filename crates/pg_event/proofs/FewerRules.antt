-- What a processor that is held to fewer rules must drop, and what is witnessed of it.
use Rattle.std.proofs.Common.{◌≡◌, ℕ, zero, suc, ◌+◌, ◌-◌, ◌%◌, ◌^◌, Bool, true, false, not, cond, ◌&&◌, ◌||◌, ◌==◌, List, [], ◌∷◌, Option, Some, None, refl, sym, ap, ◌∙◌}
use Rattle.std.specs.Prelude.{slice_get, option_and_then}
use Rattle.std.specs.List.{AllByRecursion}
use Rattle.std.specs.Option.{option_or}
use Rattle.std.proofs.lemmas.Bool.{and_parts, and_from, or_parts, or_from, not-true, not_from_false, false≢true, false_from_ne_true}
use Rattle.pg_entry.specs.declared.Cfg.{Cfg}
use Rattle.pg_entry.specs.declared.Rules.{Rules}
use Rattle.pg_entry.specs.declared.Rights.{Rights}
use Rattle.pg_entry.specs.declared.AccessKind.{AccessKind}
use Rattle.pg_entry.specs.declared.Op.{Op}
use Rattle.pg_entry.specs.declared.Op.TheVariants as ops
use Rattle.pg_entry.specs.declared.Kind.{Kind}
use Rattle.pg_entry.specs.declared.Kind.TheVariants as kinds
use Rattle.pg_entry.specs.declared.Cause.{Cause}
use Rattle.pg_entry.specs.declared.Cause.TheVariants as causes
use Rattle.pg_entry.specs.Rules.{all_rules, holds, AreAmong, fault_translations, fault_globals, fault_structures, invlpg_structures, invpcid_structures}
use Rattle.pg_entry.specs.Kinds.{kind_of}
use Rattle.pg_entry.specs.Permission.{fault_code, is_allowed, is_allowed_user, is_allowed_supervisor}
use Rattle.pg_event.specs.declared.control.Control.{Control}
use Rattle.pg_event.specs.declared.keys.StructureKey.{StructureKey}
use Rattle.pg_event.specs.declared.keys.TranslationKey.{TranslationKey}
use Rattle.pg_event.specs.declared.event.Event.{Event}
use Rattle.pg_event.specs.declared.event.Event.TheVariants.{Write, Access, Assist, MovCr3, Invlpg, Invpcid, MovCr4Pge}
use Rattle.pg_event.specs.declared.event.Outcome.{Outcome}
use Rattle.pg_event.specs.declared.event.Outcome.TheVariants.{Page, Fault}
use Rattle.pg_event.specs.declared.event.Reason.{Reason}
use Rattle.pg_event.specs.declared.event.Reason.TheVariants as reasons
use Rattle.pg_event.specs.declared.event.Want.{Want}
use Rattle.pg_event.specs.declared.claim.Claim.{Claim}
use Rattle.pg_event.specs.declared.claim.Update.{Update}
use Rattle.pg_event.specs.Heads.{Head, with_rules}
use Rattle.pg_event.specs.Form.{processor_of, broken_rule}
use Rattle.pg_event.specs.Spelling.{IsHead}
use Rattle.pg_event.specs.Values.{control_at}
use Rattle.pg_event.specs.Wants.{is_table, may_dirty}
use Rattle.pg_event.specs.Walk.{Reading}
use Rattle.pg_event.specs.Invalidation.{structure_key, translation_key, structure_matches, translation_matches, must_drop_structure, must_drop_translation}
use Rattle.pg_event.specs.Laws.{FewerRulesDropLess, WitnessedUnderFewerRules}
use Rattle.pg_event.specs.Witness.{leads_to, is_in_order, is_one_context, last_or, any_from, takes_out, survives, structures_survive, tables_accessed, Asked, asked_by, asked_of, failing_leaf, failing_fault, failing_end, failing_walk, failing_claim, failing_update, walked, claim_of, update_of, failing_event}

-- ---- what does not depend on the rules

pub same_form : (head : Head) (rules : Rules) (e : Event) → broken_rule (with_rules head rules) e ≡ broken_rule head e
same_form head rules (Write p addr value) = refl
same_form head rules (Access p flags la outcome moments) = refl
same_form head rules (Assist p flags la word moments) = refl
same_form head rules (MovCr3 p operand) = refl
same_form head rules (Invlpg p la) = refl
same_form head rules (Invpcid p kind pcid la) = refl
same_form head rules (MovCr4Pge p on) = refl

pub well_held : (head : Head) (rules : Rules) (events : List Event) → AllByRecursion (λ e. broken_rule head e ≡ None) events → AllByRecursion (λ e. broken_rule (with_rules head rules) e ≡ None) events
well_held head rules [] well = tt
well_held head rules (e ∷ es) well = (same_form head rules e ∙ well.0, well_held head rules es well.1)

pub head_held : (head : Head) (rules : Rules) → IsHead head → IsHead (with_rules head rules)
head_held head rules is = record { low = is.low; high = is.high; flags = is.flags; some = is.some; few = is.few; size = is.size; limit = is.limit; starts = is.starts }

-- ---- what must be dropped

and_more : (a b c : Bool) → (a ≡ true → b ≡ true) → (a && c) ≡ true → (b && c) ≡ true
and_more true b c up h = ap (λ x. x && c) (up refl) ∙ h
and_more false b c up h = absurd (false≢true h)

and_more_right : (c a b : Bool) → (a ≡ true → b ≡ true) → (c && a) ≡ true → (c && b) ≡ true
and_more_right true a b up h = up h
and_more_right false a b up h = h

or_more : (a b c : Bool) → (a ≡ true → b ≡ true) → (a || c) ≡ true → (b || c) ≡ true
or_more true b c up h = ap (λ x. x || c) (up refl)
or_more false true c up h = refl
or_more false false c up h = h

cond_more : (t a b c d : Bool) → (a ≡ true → b ≡ true) → (c ≡ true → d ≡ true) → cond t a c ≡ true → cond t b d ≡ true
cond_more true a b c d one other h = one h
cond_more false a b c d one other h = other h

-- each rule that the one holds a processor to, the other does too
record AreHeld (fewer more : Rules) : Type 0 where
  fault_translations_too : holds fewer fault_translations ≡ true → holds more fault_translations ≡ true
  fault_globals_too : holds fewer fault_globals ≡ true → holds more fault_globals ≡ true
  fault_structures_too : holds fewer fault_structures ≡ true → holds more fault_structures ≡ true
  invlpg_too : holds fewer invlpg_structures ≡ true → holds more invlpg_structures ≡ true
  invpcid_too : holds fewer invpcid_structures ≡ true → holds more invpcid_structures ≡ true

structures : (fewer more : Rules) → AreHeld fewer more → (c : Control) (e : Event) (s : StructureKey) → must_drop_structure fewer c e s ≡ true → must_drop_structure more c e s ≡ true
structures fewer more held c (Write p addr value) s h = h
structures fewer more held c (Access p flags la (Page page) moments) s h = h
structures fewer more held c (Access p flags la (Fault code) moments) s h =
    and_more _ _ (structure_matches s la) (and_more (holds fewer fault_structures) (holds more fault_structures) (s.pcid == c.pcid) held.fault_structures_too) h
structures fewer more held c (Assist p flags la word moments) s h = h
structures fewer more held c (MovCr3 p operand) s h = h
structures fewer more held c (Invlpg p la) s h =
    and_more_right (s.pcid == c.pcid) _ _ (or_more (holds fewer invlpg_structures) (holds more invlpg_structures) (structure_matches s la) held.invlpg_too) h
structures fewer more held c (Invpcid p kind pcid la) s h =
    cond_more (kind == 0) _ _ _ _
    (and_more _ _ (structure_matches s la) (and_more (holds fewer invpcid_structures) (holds more invpcid_structures) (s.pcid == pcid) held.invpcid_too)) (λ x. x) h
structures fewer more held c (MovCr4Pge p on) s h = h

translations : (fewer more : Rules) → AreHeld fewer more → (c : Control) (e : Event) (t : TranslationKey) → must_drop_translation fewer c e t ≡ true → must_drop_translation more c e t ≡ true
translations fewer more held c (Write p addr value) t h = h
translations fewer more held c (Access p flags la (Page page) moments) t h = h
translations fewer more held c (Access p flags la (Fault code) moments) t h =
    and_more_right (translation_matches t la) _ _
    (cond_more t.global (holds fewer fault_globals) (holds more fault_globals) _ _ held.fault_globals_too
    (and_more (holds fewer fault_translations) (holds more fault_translations) (t.pcid == c.pcid) held.fault_translations_too)) h
translations fewer more held c (Assist p flags la word moments) t h = h
translations fewer more held c (MovCr3 p operand) t h = h
translations fewer more held c (Invlpg p la) t h = h
translations fewer more held c (Invpcid p kind pcid la) t h = h
translations fewer more held c (MovCr4Pge p on) t h = h

held_among : (fewer more : Rules) → AreAmong fewer more → AreHeld fewer more
held_among fewer more among = record {
  fault_translations_too = among fault_translations;
  fault_globals_too = among fault_globals;
  fault_structures_too = among fault_structures;
  invlpg_too = among invlpg_structures;
  invpcid_too = among invpcid_structures;
}

pub fewer_rules_drop_less : FewerRulesDropLess
fewer_rules_drop_less = record {
  structures = λ fewer more among. structures fewer more (held_among fewer more among);
  translations = λ fewer more among. translations fewer more (held_among fewer more among);
}

-- all rules drop what any rules do, whatever flags those have besides
held_by_all : (rules : Rules) → AreHeld rules all_rules
held_by_all rules = record { fault_translations_too = λ _. refl; fault_globals_too = λ _. refl; fault_structures_too = λ _. refl; invlpg_too = λ _. refl; invpcid_too = λ _. refl }

pub structure_kept : (rules : Rules) (c : Control) (e : Event) (s : StructureKey) → must_drop_structure all_rules c e s ≡ false → must_drop_structure rules c e s ≡ false
structure_kept rules c e s kept = false_from_ne_true (must_drop_structure rules c e s) (λ yes. false≢true (sym kept ∙ structures rules all_rules (held_by_all rules) c e s yes))

pub translation_kept : (rules : Rules) (c : Control) (e : Event) (t : TranslationKey) → must_drop_translation all_rules c e t ≡ false → must_drop_translation rules c e t ≡ false
translation_kept rules c e t kept = false_from_ne_true (must_drop_translation rules c e t) (λ yes. false≢true (sym kept ∙ translations rules all_rules (held_by_all rules) c e t yes))

-- ---- what survives

any_fewer : (f g : ℕ → Bool) (from n : ℕ) → ((j : ℕ) → f j ≡ true → g j ≡ true) → any_from g from n ≡ false → any_from f from n ≡ false
any_fewer f g from zero up h = refl
any_fewer f g from (suc n) up h =
    let parts = or_parts (g from) (any_from g (from + 1) n) h in
    or_from (f from) (any_from f (from + 1) n) (false_from_ne_true (f from) (λ yes. false≢true (sym parts.0 ∙ up from yes)))
    (any_fewer f g (from + 1) n up parts.1)

taken_more : (p : ℕ) (f g : Control → Event → Bool) (c : Control) (e : Option Event) → ((c : Control) (e : Event) → f c e ≡ true → g c e ≡ true)
    → takes_out p f c e ≡ true → takes_out p g c e ≡ true
taken_more p f g c None up h = h
taken_more p f g c (Some e) up h = and_more_right (processor_of e == p) (f c e) (g c e) (up c e) h

pub survives_fewer : (head : Head) (fewer : Rules) (events : List Event) (p : ℕ) (f g : Control → Event → Bool) (from to : ℕ) → ((c : Control) (e : Event) → f c e ≡ true → g c e ≡ true)
    → survives head events p g from to ≡ true → survives (with_rules head fewer) events p f from to ≡ true
survives_fewer head fewer events p f g from to up h =
    not_from_false _
    (any_fewer (λ j. takes_out p f (control_at head events p j) (slice_get events j)) (λ j. takes_out p g (control_at head events p j) (slice_get events j)) from (to - from)
    (λ j. taken_more p f g (control_at head events p j) (slice_get events j) up) (not-true _ h))

structures_fewer : (head : Head) (fewer : Rules) (events : List Event) (p pcid la : ℕ) (rs : List Reading) → AreAmong fewer head.cfg.rules
    → structures_survive head events p pcid la rs ≡ true → structures_survive (with_rules head fewer) events p pcid la rs ≡ true
structures_fewer head fewer events p pcid la [] among h = h
structures_fewer head fewer events p pcid la (r ∷ []) among h = h
structures_fewer head fewer events p pcid la (r ∷ s ∷ rs) among h =
    let key : StructureKey = structure_key pcid r.level la in
    let parts = and_parts (survives head events p (λ c e. must_drop_structure head.cfg.rules c e key) r.moment s.moment) (structures_survive head events p pcid la (s ∷ rs)) h in
    and_from _ _
    (survives_fewer head fewer events p (λ c e. must_drop_structure fewer c e key) (λ c e. must_drop_structure head.cfg.rules c e key) r.moment s.moment
    (λ c e. structures fewer head.cfg.rules (held_among fewer head.cfg.rules among) c e key) parts.0)
    (structures_fewer head fewer events p pcid la (s ∷ rs) among parts.1)

-- ---- what looks at no rule

abbrev ruled : Cfg → Rules → Cfg
ruled cfg rules = record cfg { rules = rules }

same_supervisor : (cfg : Cfg) (rules : Rules) (rights : Rights) (op : Op) (ac : Bool) → is_allowed_supervisor (ruled cfg rules) rights op ac ≡ is_allowed_supervisor cfg rights op ac
same_supervisor cfg rules rights ops.Read ac = refl
same_supervisor cfg rules rights ops.Write ac = refl
same_supervisor cfg rules rights ops.Fetch ac = refl

same_allowed : (cfg : Cfg) (rules : Rules) (rights : Rights) (kind : AccessKind) → is_allowed (ruled cfg rules) rights kind ≡ is_allowed cfg rights kind
same_allowed cfg rules rights kind = ap (λ (b : Bool). cond kind.user (is_allowed_user rights kind.op) b) (same_supervisor cfg rules rights kind.op kind.ac)

same_leads : (cfg : Cfg) (rules : Rules) (want : Want) (rs : List Reading) → leads_to (ruled cfg rules) want rs ≡ leads_to cfg want rs
same_leads cfg rules want [] = refl
same_leads cfg rules want (r ∷ []) = refl
same_leads cfg rules want (r ∷ s ∷ rs) = ap (λ (b : Bool). is_table (kind_of cfg r.level r.value) && b) (same_leads cfg rules want (s ∷ rs))

same_leaf : (cfg : Cfg) (rules : Rules) (kind : AccessKind) (rights : Rights) (address : ℕ) (outcome : Outcome) → failing_leaf (ruled cfg rules) kind rights address outcome ≡ failing_leaf cfg kind rights address outcome
same_leaf cfg rules kind rights address (Page page) =
    ap (λ (b : Bool). cond (not b) (Some reasons.Rights) (cond (page == address) None (Some reasons.Answer))) (same_allowed cfg rules rights kind)
same_leaf cfg rules kind rights address (Fault code) =
    ap (λ (b : Bool). cond b (Some reasons.Rights) (cond (code == fault_code cfg kind causes.Denied) None (Some reasons.Code))) (same_allowed cfg rules rights kind)

same_fault : (cfg : Cfg) (rules : Rules) (c : Claim) (cause : Cause) (moment : ℕ) (outcome : Outcome) → failing_fault (ruled cfg rules) c cause moment outcome ≡ failing_fault cfg c cause moment outcome
same_fault cfg rules c cause moment (Page page) = refl
same_fault cfg rules c cause moment (Fault code) = refl

same_dirty : (cfg : Cfg) (rules : Rules) (kind : AccessKind) (rights : Rights) (entry : Kind) → may_dirty (ruled cfg rules) kind rights entry ≡ may_dirty cfg kind rights entry
same_dirty cfg rules kind rights (kinds.Leaf frame shift global_bit) = same_allowed cfg rules rights kind
same_dirty cfg rules kind rights (kinds.Table addr) = refl
same_dirty cfg rules kind rights kinds.Absent = refl
same_dirty cfg rules kind rights kinds.Reserved = refl

-- ---- what fails

or_none : (a b : Option Reason) → option_or a b ≡ None → (a ≡ None) × (b ≡ None)
or_none None b h = (refl, h)
or_none (Some x) b h = absurd (cc)

none_or : (a b : Option Reason) → a ≡ None → b ≡ None → option_or a b ≡ None
none_or a b x y = ap (λ z. option_or z b) x ∙ y

-- the first test fails under no rule where it fails under more
passed_fewer : (some other : Bool) (x : Reason) (rest : Option Reason) → (some ≡ true → other ≡ true) → cond (not some) (Some x) rest ≡ None → cond (not other) (Some x) rest ≡ None
passed_fewer true other x rest up h = ap (λ b. cond (not b) (Some x) rest) (up refl) ∙ h
passed_fewer false other x rest up h = absurd (cc)

-- the tests of a walk, of which the last is told by the rules
passed_walk : (a b c d e : Bool) → (d ≡ true → e ≡ true) →
    cond (not a) (Some reasons.Order) (cond (not b) (Some reasons.Entry) (cond (not c) (Some reasons.Context) (cond (not d) (Some reasons.StructureDropped) None))) ≡ None →
    cond (not a) (Some reasons.Order) (cond (not b) (Some reasons.Entry) (cond (not c) (Some reasons.Context) (cond (not e) (Some reasons.StructureDropped) None))) ≡ None
passed_walk false b c d e up h = absurd (cc)
passed_walk true false c d e up h = absurd (cc)
passed_walk true true false d e up h = absurd (cc)
passed_walk true true true d e up h = passed_fewer d e reasons.StructureDropped None up h

walk_fewer : (head : Head) (fewer : Rules) (events : List Event) (asked : Asked) (pcid : ℕ) (ws : List ℕ) (rs : List Reading) → AreAmong fewer head.cfg.rules
    → failing_walk head events asked pcid ws rs ≡ None → failing_walk (with_rules head fewer) events asked pcid ws rs ≡ None
walk_fewer head fewer events asked pcid ws rs among h =
    ap (λ (b : Bool). cond (not (is_in_order ws asked.number)) (Some reasons.Order) (cond (not b) (Some reasons.Entry)
    (cond (not (is_one_context head events asked.p pcid ws)) (Some reasons.Context)
    (cond (not (structures_survive (with_rules head fewer) events asked.p pcid asked.la rs)) (Some reasons.StructureDropped) None)))) (same_leads head.cfg fewer asked.want rs)
    ∙ passed_walk (is_in_order ws asked.number) (leads_to head.cfg asked.want rs) (is_one_context head events asked.p pcid ws)
    (structures_survive head events asked.p pcid asked.la rs) (structures_survive (with_rules head fewer) events asked.p pcid asked.la rs)
    (structures_fewer head fewer events asked.p pcid asked.la rs among) h

end_fewer : (head : Head) (fewer : Rules) (events : List Event) (c : Claim) (pcid : ℕ) (r : Reading) (kind : Kind) → AreAmong fewer head.cfg.rules
    → failing_end head events c pcid r kind ≡ None → failing_end (with_rules head fewer) events c pcid r kind ≡ None
end_fewer head fewer events c pcid r (kinds.Leaf frame shift global_bit) among h =
    let global : Bool = global_bit && (control_at head events c.p r.moment).pge in
    let key : TranslationKey = translation_key pcid shift global c.la in
    let foreign : Bool = not ((control_at head events c.p c.number).pcid == pcid) && not global in
    let leaf : Cfg → Option Reason = λ cfg. failing_leaf cfg c.kind r.rights (frame + c.la % 2 ^ shift) c.outcome in
    ap (λ (o : Option Reason). cond (not (survives (with_rules head fewer) events c.p (λ d e. must_drop_translation fewer d e key) r.moment c.number)) (Some reasons.TranslationDropped)
    (cond foreign (Some reasons.ForeignPcid) o)) (same_leaf head.cfg fewer c.kind r.rights (frame + c.la % 2 ^ shift) c.outcome)
    ∙ passed_fewer (survives head events c.p (λ d e. must_drop_translation head.cfg.rules d e key) r.moment c.number)
    (survives (with_rules head fewer) events c.p (λ d e. must_drop_translation fewer d e key) r.moment c.number)
    reasons.TranslationDropped (cond foreign (Some reasons.ForeignPcid) (leaf head.cfg))
    (survives_fewer head fewer events c.p (λ d e. must_drop_translation fewer d e key) (λ d e. must_drop_translation head.cfg.rules d e key) r.moment c.number
    (λ d e. translations fewer head.cfg.rules (held_among fewer head.cfg.rules among) d e key)) h
end_fewer head fewer events c pcid r kinds.Absent among h = same_fault head.cfg fewer c causes.Absent r.moment c.outcome ∙ h
end_fewer head fewer events c pcid r kinds.Reserved among h = same_fault head.cfg fewer c causes.Reserved r.moment c.outcome ∙ h
end_fewer head fewer events c pcid r (kinds.Table addr) among h = h

claim_fewer : (head : Head) (fewer : Rules) (events : List Event) (c : Claim) (pcid : ℕ) (ws : List ℕ) (rs : List Reading) → AreAmong fewer head.cfg.rules
    → failing_claim head events c pcid ws rs ≡ None → failing_claim (with_rules head fewer) events c pcid ws rs ≡ None
claim_fewer head fewer events c pcid ws [] among h = h
claim_fewer head fewer events c pcid ws (r ∷ rs) among h =
    let end : Reading = last_or r rs in
    let walk = or_none (failing_walk head events (asked_by c) pcid ws (r ∷ rs)) _ h in
    let last = or_none (failing_end head events c pcid end (kind_of head.cfg end.level end.value)) _ walk.1 in
    none_or _ _ (walk_fewer head fewer events (asked_by c) pcid ws (r ∷ rs) among walk.0)
    (none_or _ _ (end_fewer head fewer events c pcid end (kind_of head.cfg end.level end.value) among last.0) last.1)

update_fewer : (head : Head) (fewer : Rules) (events : List Event) (u : Update) (pcid : ℕ) (ws : List ℕ) (rs : List Reading) → AreAmong fewer head.cfg.rules
    → failing_update head events u pcid ws rs ≡ None → failing_update (with_rules head fewer) events u pcid ws rs ≡ None
update_fewer head fewer events u pcid ws [] among h = h
update_fewer head fewer events u pcid ws (r ∷ rs) among h =
    let end : Reading = last_or r rs in
    let walk = or_none (failing_walk head events (asked_of u) pcid ws (r ∷ rs)) _ h in
    none_or _ _ (walk_fewer head fewer events (asked_of u) pcid ws (r ∷ rs) among walk.0)
    (ap (λ (b : Bool). cond (not (tables_accessed (r ∷ rs))) (Some reasons.Accessed)
    (cond (end.moment == u.number && u.word == end.address && (not u.dirty || b)) None (Some reasons.Assist)))
    (same_dirty head.cfg fewer u.kind end.rights (kind_of head.cfg end.level end.value)) ∙ walk.1)

event_fewer : (head : Head) (fewer : Rules) (events : List Event) (i : ℕ) (e : Event) → AreAmong fewer head.cfg.rules
    → failing_event head events i e ≡ None → failing_event (with_rules head fewer) events i e ≡ None
event_fewer head fewer events i (Write p addr value) among h = h
event_fewer head fewer events i (Access p flags la outcome []) among h = h
event_fewer head fewer events i (Access p flags la outcome (w ∷ ws)) among h =
    let start : Control = control_at head events p w in
    claim_fewer head fewer events (claim_of i p flags la outcome) start.pcid (w ∷ ws) (walked head events la start (w ∷ ws)) among h
event_fewer head fewer events i (Assist p flags la word []) among h = h
event_fewer head fewer events i (Assist p flags la word (w ∷ ws)) among h =
    let start : Control = control_at head events p w in
    update_fewer head fewer events (update_of i p flags la word) start.pcid (w ∷ ws) (walked head events la start (w ∷ ws)) among h
event_fewer head fewer events i (MovCr3 p operand) among h = h
event_fewer head fewer events i (Invlpg p la) among h = h
event_fewer head fewer events i (Invpcid p kind pcid la) among h = h
event_fewer head fewer events i (MovCr4Pge p on) among h = h

some_fewer : (head : Head) (fewer : Rules) (events : List Event) (i : ℕ) (e : Option Event) → AreAmong fewer head.cfg.rules
    → option_and_then (failing_event head events i) e ≡ None → option_and_then (failing_event (with_rules head fewer) events i) e ≡ None
some_fewer head fewer events i None among h = h
some_fewer head fewer events i (Some e) among h = event_fewer head fewer events i e among h

pub witnessed_under_fewer_rules : WitnessedUnderFewerRules
witnessed_under_fewer_rules head fewer among events i h = some_fewer head fewer events i (slice_get events i) among h
