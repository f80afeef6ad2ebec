-- Nothing that a record is judged by reads moments but those of the event itself.
use Rattle.std.proofs.Common.{subst, ◌≡◌, ℕ, ◌+◌, ◌-◌, ◌==◌, ◌%◌, ◌^◌, Bool, cond, List, [], ◌∷◌, refl, ap, sym, ◌∙◌, not, Option, Some, None, take, map, ◌&&◌}
use Rattle.pg_event.specs.declared.control.Control.{Control}
use Rattle.pg_event.specs.declared.keys.StructureKey.{StructureKey}
use Rattle.pg_event.specs.declared.keys.TranslationKey.{TranslationKey}
use Rattle.std.specs.Prelude.{fold, slice_get}
use Rattle.std.specs.List.{list_all}
use Rattle.std.specs.Option.{option_map, option_or}
use Rattle.std.proofs.lemmas.List.{take-map}
use Rattle.std.proofs.lemmas.Option.{slice_get-map}
use Rattle.pg_entry.specs.declared.Kind.{Kind}
use Rattle.pg_entry.specs.declared.Kind.TheVariants as kinds
use Rattle.pg_entry.specs.declared.Level.TheVariants.{Four}
use Rattle.pg_entry.specs.Kinds.{kind_of}
use Rattle.pg_entry.specs.declared.Rules.{Rules}
use Rattle.pg_event.specs.declared.event.Event.{Event}
use Rattle.pg_event.specs.declared.event.Event.TheVariants.{Write, Access, Assist, MovCr3, Invlpg, Invpcid, MovCr4Pge}
use Rattle.pg_event.specs.declared.claim.Claim.{Claim}
use Rattle.pg_event.specs.declared.claim.Update.{Update}
use Rattle.pg_event.specs.declared.event.Outcome.TheVariants.{Page, Fault}
use Rattle.pg_event.specs.declared.event.Reason.{Reason}
use Rattle.pg_event.specs.declared.event.Reason.TheVariants as reasons
use Rattle.pg_event.specs.Heads.{Head}
use Rattle.pg_event.specs.Form.{broken_rule, processor_of}
use Rattle.pg_event.specs.Values.{written, mem_at, controlled, started, control_at}
use Rattle.pg_event.specs.Invalidation.{structure_key, translation_key, must_drop_structure, must_drop_translation}
use Rattle.pg_event.specs.Walk.{Reading, readings, root_of}
use Rattle.pg_event.specs.Witness.{Asked, asked_by, asked_of, claim_of, update_of, takes_out, any_from, survives, is_one_context, structures_survive, tables_accessed, is_updated, failing_leaf, last_or, failing_end, failing_flags, failing_walk, failing_claim, failing_update, failing_access, failing_assist, failing_event, first_some, first_bad_from, structure_survives, translation_survives}
use Rattle.pg_run_of.specs.Converse.{without_moments, AreSameButMoments}

written_same : (a v : ℕ) (e : Event) → written a v (without_moments e) ≡ written a v e
written_same a v (Access p flags la outcome ws) = refl
written_same a v (Write p addr value) = refl
written_same a v (MovCr3 p operand) = refl
written_same a v (Invlpg p la) = refl
written_same a v (Invpcid p kind pcid la) = refl
written_same a v (MovCr4Pge p on) = refl
written_same a v (Assist p flags la word ws) = refl

controlled_same : (m p : ℕ) (c : Control) (e : Event) → controlled m p c (without_moments e) ≡ controlled m p c e
controlled_same m p c (Access q flags la outcome ws) = refl
controlled_same m p c (Write q addr value) = refl
controlled_same m p c (MovCr3 q operand) = refl
controlled_same m p c (Invlpg q la) = refl
controlled_same m p c (Invpcid q kind pcid la) = refl
controlled_same m p c (MovCr4Pge q on) = refl
controlled_same m p c (Assist q flags la word ws) = refl

processor_same : (e : Event) → processor_of (without_moments e) ≡ processor_of e
processor_same (Access q flags la outcome ws) = refl
processor_same (Write q addr value) = refl
processor_same (MovCr3 q operand) = refl
processor_same (Invlpg q la) = refl
processor_same (Invpcid q kind pcid la) = refl
processor_same (MovCr4Pge q on) = refl
processor_same (Assist q flags la word ws) = refl

structure_same : (rules : Rules) (x : StructureKey) (c : Control) (e : Event) → must_drop_structure rules c (without_moments e) x ≡ must_drop_structure rules c e x
structure_same rules x c (Access q flags la (Page page) ws) = refl
structure_same rules x c (Access q flags la (Fault code) ws) = refl
structure_same rules x c (Write q addr value) = refl
structure_same rules x c (MovCr3 q operand) = refl
structure_same rules x c (Invlpg q la) = refl
structure_same rules x c (Invpcid q kind pcid la) = refl
structure_same rules x c (MovCr4Pge q on) = refl
structure_same rules x c (Assist q flags la word ws) = refl

translation_same : (rules : Rules) (x : TranslationKey) (c : Control) (e : Event) → must_drop_translation rules c (without_moments e) x ≡ must_drop_translation rules c e x
translation_same rules x c (Access q flags la (Page page) ws) = refl
translation_same rules x c (Access q flags la (Fault code) ws) = refl
translation_same rules x c (Write q addr value) = refl
translation_same rules x c (MovCr3 q operand) = refl
translation_same rules x c (Invlpg q la) = refl
translation_same rules x c (Invpcid q kind pcid la) = refl
translation_same rules x c (MovCr4Pge q on) = refl
translation_same rules x c (Assist q flags la word ws) = refl

fold-without : {X : Type 0} (step : X → Event → X) → ((x : X) (e : Event) → step x (without_moments e) ≡ step x e) → (x : X) (es : List Event) →
    fold step x (map without_moments es) ≡ fold step x es
fold-without step same x [] = refl
fold-without step same x (e ∷ es) = ap (λ y. fold step y (map without_moments es)) (same x e) ∙ fold-without step same (step x e) es

memory_same : (es : List Event) → mem_at (map without_moments es) ≡ mem_at es
memory_same es = λ j w a. (ap (fold (written a) 0) (take-map without_moments w es) ∙ fold-without (written a) (written_same a) 0 (take w es)) j

control_same : (head : Head) (es : List Event) → control_at head (map without_moments es) ≡ control_at head es
control_same head es = λ j p w.
    (ap (fold (controlled head.cfg.m p) (started head.cfg.m (slice_get head.processors p))) (take-map without_moments w es)
    ∙ fold-without (controlled head.cfg.m p) (controlled_same head.cfg.m p) (started head.cfg.m (slice_get head.processors p)) (take w es)) j

takes_same : (p : ℕ) (test : Control → Event → Bool) → ((c : Control) (e : Event) → test c (without_moments e) ≡ test c e) → (c : Control) (o : Option Event) →
    takes_out p test c (option_map without_moments o) ≡ takes_out p test c o
takes_same p test same c None = refl
takes_same p test same c (Some e) = ap (λ q. q == p && test c (without_moments e)) (processor_same e) ∙ ap (λ b. processor_of e == p && b) (same c e)

survives_same : (head : Head) (es : List Event) (p : ℕ) (test : Control → Event → Bool) → ((c : Control) (e : Event) → test c (without_moments e) ≡ test c e) → (from to : ℕ) →
    survives head (map without_moments es) p test from to ≡ survives head es p test from to
survives_same head es p test same from to =
    ap (λ (f : ℕ → Bool). not (any_from f from (to - from))) (λ k j.
    (ap (λ (c : ℕ → ℕ → Control). takes_out p test (c p j) (slice_get (map without_moments es) j)) (control_same head es)
    ∙ ap (takes_out p test (control_at head es p j)) (slice_get-map without_moments es j)
    ∙ takes_same p test same (control_at head es p j) (slice_get es j)) k)

structures_same : (head : Head) (es : List Event) (p pcid la : ℕ) (rs : List Reading) →
    structures_survive head (map without_moments es) p pcid la rs ≡ structures_survive head es p pcid la rs
structures_same head es p pcid la [] = refl
structures_same head es p pcid la (r ∷ []) = refl
structures_same head es p pcid la (r ∷ s ∷ rs) =
    let x : StructureKey = structure_key pcid r.level la in
    ap (λ b. b && structures_survive head (map without_moments es) p pcid la (s ∷ rs)) (survives_same head es p (λ c e. must_drop_structure head.cfg.rules c e x) (structure_same head.cfg.rules x) r.moment s.moment)
    ∙ ap (λ b. structure_survives head es p x r.moment s.moment && b) (structures_same head es p pcid la (s ∷ rs))

end_same : (head : Head) (es : List Event) (c : Claim) (pcid : ℕ) (r : Reading) (k : Kind) →
    failing_end head (map without_moments es) c pcid r k ≡ failing_end head es c pcid r k
end_same head es c pcid r (kinds.Leaf frame shift g) =
    let all : List Event = map without_moments es in
    let leaf : (ℕ → ℕ → Control) → TranslationKey = λ d. translation_key pcid shift (g && (d c.p r.moment).pge) c.la in
    let t : TranslationKey = leaf (control_at head es) in
    let rest : (ℕ → ℕ → Control) → Option Reason = λ d. cond (not ((d c.p c.number).pcid == pcid) && not (g && (d c.p r.moment).pge)) (Some reasons.ForeignPcid)
    (failing_leaf head.cfg c.kind r.rights (frame + c.la % 2 ^ shift) c.outcome) in
    ap (λ (d : ℕ → ℕ → Control). cond (not (translation_survives head all c.p (leaf d) r.moment c.number)) (Some reasons.TranslationDropped) (rest d)) (control_same head es)
    ∙ ap (λ b. cond (not b) (Some reasons.TranslationDropped) (rest (control_at head es))) (survives_same head es c.p (λ x e. must_drop_translation head.cfg.rules x e t) (translation_same head.cfg.rules t) r.moment c.number)
end_same head es c pcid r kinds.Absent = refl
end_same head es c pcid r kinds.Reserved = refl
end_same head es c pcid r (kinds.Table addr) = refl

walk_same : (head : Head) (es : List Event) (a : Asked) (pcid : ℕ) (ws : List ℕ) (rs : List Reading) →
    failing_walk head (map without_moments es) a pcid ws rs ≡ failing_walk head es a pcid ws rs
walk_same head es a pcid ws rs =
    let alike : is_one_context head (map without_moments es) a.p pcid ws ≡ is_one_context head es a.p pcid ws =
    ap (λ (c : ℕ → ℕ → Control). list_all (λ w. (c a.p w).pcid == pcid) ws) (control_same head es) in
    let kept = structures_same head es a.p pcid a.la rs in
    cc (alike, kept)

claim_same : (head : Head) (es : List Event) (c : Claim) (pcid : ℕ) (ws : List ℕ) (rs : List Reading) →
    failing_claim head (map without_moments es) c pcid ws rs ≡ failing_claim head es c pcid ws rs
claim_same head es c pcid ws [] = refl
claim_same head es c pcid ws (r ∷ rs) =
    let end : Reading = last_or r rs in
    let kind : Kind = kind_of head.cfg end.level end.value in
    let flags : Option Reason = failing_flags head.version c (tables_accessed (r ∷ rs)) end.value in
    ap (λ (o : Option Reason). option_or o (option_or (failing_end head (map without_moments es) c pcid end kind) flags)) (walk_same head es (asked_by c) pcid ws (r ∷ rs))
    ∙ ap (λ (o : Option Reason). option_or (failing_walk head es (asked_by c) pcid ws (r ∷ rs)) (option_or o flags)) (end_same head es c pcid end kind)

update_same : (head : Head) (es : List Event) (u : Update) (pcid : ℕ) (ws : List ℕ) (rs : List Reading) →
    failing_update head (map without_moments es) u pcid ws rs ≡ failing_update head es u pcid ws rs
update_same head es u pcid ws [] = refl
update_same head es u pcid ws (r ∷ rs) =
    ap (λ (o : Option Reason). option_or o (cond (not (tables_accessed (r ∷ rs))) (Some reasons.Accessed) (cond (is_updated head.cfg u (last_or r rs)) None (Some reasons.Assist))))
    (walk_same head es (asked_of u) pcid ws (r ∷ rs))

-- what moments read
abbrev pub reads_by : Head → ℕ → (ℕ → ℕ → ℕ) → Control → List ℕ → List Reading
reads_by head la look start ws = readings head.cfg.m look la Four (root_of start).table (root_of start).rights ws

access_same : (head : Head) (es : List Event) (c : Claim) (ws : List ℕ) →
    failing_access head (map without_moments es) c ws ≡ failing_access head es c ws
access_same head es c [] = refl
access_same head es c (w ∷ ws) =
    let all : List Event = map without_moments es in
    let start : Control = control_at head es c.p w in
    ap (λ (d : ℕ → ℕ → Control). failing_claim head all c (d c.p w).pcid (w ∷ ws) (reads_by head c.la (mem_at all) (d c.p w) (w ∷ ws))) (control_same head es)
    ∙ ap (λ (look : ℕ → ℕ → ℕ). failing_claim head all c start.pcid (w ∷ ws) (reads_by head c.la look start (w ∷ ws))) (memory_same es)
    ∙ claim_same head es c start.pcid (w ∷ ws) (reads_by head c.la (mem_at es) start (w ∷ ws))

assist_same : (head : Head) (es : List Event) (u : Update) (ws : List ℕ) →
    failing_assist head (map without_moments es) u ws ≡ failing_assist head es u ws
assist_same head es u [] = refl
assist_same head es u (w ∷ ws) =
    let all : List Event = map without_moments es in
    let start : Control = control_at head es u.p w in
    ap (λ (d : ℕ → ℕ → Control). failing_update head all u (d u.p w).pcid (w ∷ ws) (reads_by head u.la (mem_at all) (d u.p w) (w ∷ ws))) (control_same head es)
    ∙ ap (λ (look : ℕ → ℕ → ℕ). failing_update head all u start.pcid (w ∷ ws) (reads_by head u.la look start (w ∷ ws))) (memory_same es)
    ∙ update_same head es u start.pcid (w ∷ ws) (reads_by head u.la (mem_at es) start (w ∷ ws))

pub event_same : (head : Head) (es : List Event) (i : ℕ) (e : Event) → failing_event head (map without_moments es) i e ≡ failing_event head es i e
event_same head es i (Access p flags la outcome ws) = access_same head es (claim_of i p flags la outcome) ws
event_same head es i (Assist p flags la word ws) = assist_same head es (update_of i p flags la word) ws
event_same head es i (Write q addr value) = refl
event_same head es i (MovCr3 q operand) = refl
event_same head es i (Invlpg q la) = refl
event_same head es i (Invpcid q kind pcid la) = refl
event_same head es i (MovCr4Pge q on) = refl

bad_same : (head : Head) (es : List Event) (i : ℕ) (rest : List Event) → first_bad_from head (map without_moments es) i rest ≡ first_bad_from head es i rest
bad_same head es i [] = refl
bad_same head es i (e ∷ rest) =
    ap (λ (o : Option Reason). first_some i o (first_bad_from head (map without_moments es) (i + 1) rest)) (event_same head es i e)
    ∙ ap (λ (o : Option (ℕ × Reason)). first_some i (failing_event head es i e) o) (bad_same head es (i + 1) rest)

-- two records that differ in moments alone judge an event alike
pub judged_alike : (head : Head) (xs ys : List Event) → AreSameButMoments xs ys → (i : ℕ) (rest : List Event) → first_bad_from head xs i rest ≡ first_bad_from head ys i rest
judged_alike head xs ys h i rest = sym (bad_same head xs i rest) ∙ ap (λ es. first_bad_from head es i rest) h ∙ bad_same head ys i rest

-- nor does the form of an event read them
broken_same : (head : Head) (e : Event) → broken_rule head (without_moments e) ≡ broken_rule head e
broken_same head (Access q flags la outcome ws) = refl
broken_same head (Write q addr value) = refl
broken_same head (MovCr3 q operand) = refl
broken_same head (Invlpg q la) = refl
broken_same head (Invpcid q kind pcid la) = refl
broken_same head (MovCr4Pge q on) = refl
broken_same head (Assist q flags la word ws) = refl

pub well_same : (head : Head) (a b : Event) → without_moments a ≡ without_moments b → broken_rule head b ≡ None → broken_rule head a ≡ None
well_same head a b same h = subst (λ o. o ≡ None) (broken_same head a) (subst (λ e. broken_rule head e ≡ None) (sym same) (subst (λ o. o ≡ None) (sym (broken_same head b)) h))
