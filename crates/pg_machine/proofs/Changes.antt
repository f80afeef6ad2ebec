-- The state of the definition after each change of the lists.
use Rattle.std.proofs.Common.{◌≡◌, ℕ, ◌<◌, ◌≤◌, List, [], ◌∷◌, length, map, Option, Some, None, refl, ap, ◌∙◌, sym, subst, ◌==◌, Bool, true, not, ◌&&◌, if◌then◌else◌, ⊎_elim}
use Rattle.std.specs.List.{slice_get, filter}
use Rattle.std.proofs.lemmas.Bool.{cases_eq, eq-eqb, ne_eqb, cond-false}
use Rattle.std.proofs.lemmas.List.Elements.{filter_agree}
use Rattle.std.proofs.lemmas.Option.{slice_get-map}
use Rattle.std.proofs.lemmas.List.Sums.{fold_push}
use Rattle.std.specs.Option.{option_map}
use Rattle.pg_event.specs.Heads.{Head}
use Rattle.pg_event.specs.declared.control.Control.{Control}
use Rattle.pg_event.specs.declared.event.Event.{Event}
use Rattle.pg_event.specs.declared.event.Event.TheVariants as events
use Rattle.pg_entry.specs.Kinds.{marked}
use Rattle.pg_event.specs.Form.{processor_of, says_dirty}
use Rattle.pg_event.specs.Values.{written, controlled, started}
use Rattle.pg_event.specs.Invalidation.{must_drop_structure, must_drop_translation}
use Rattle.pg_machine.specs.declared.step.Structure.{Structure}
use Rattle.pg_machine.specs.declared.step.Translation.{Translation}
use Rattle.pg_machine.specs.declared.step.Member.{Member}
use Rattle.pg_machine.specs.declared.step.Member.TheVariants as members
use Rattle.std.proofs.lemmas.List.{length-map}
use Rattle.pg_machine.specs.Listed.{ProcessorState, Listed, IsWhole, value_at, processor_or_none, processor_at, state_of}
use Rattle.pg_machine.specs.Machine.{start, with_structure, with_leaf, without, after_event, same_structure, same_translation}
use Rattle.pg_machine.specs.Stepping.{with_processor, with_structure_first, with_translation_first, without_member, writes_after, processor_after, next_event, started_processor}
use Rattle.pg_machine.proofs.Processors.{same_states, part_set, part_kept, part_changed}

pub structure_added : (l : Listed) (p : ℕ) (x : Structure) → p < length l.processors → state_of (with_processor l p (with_structure_first (processor_at l.processors p) x)) ≡ with_structure (state_of l) p x
structure_added l p x there =
    let processor = with_structure_first (processor_at l.processors p) x in
    same_states _ _ (λ a. refl)
    (part_kept (λ s. s.control) l.processors p processor there refl)
    (part_changed (λ s. s.structures) l.processors p processor (λ xs. x ∷ xs) there refl)
    (part_kept (λ s. s.translations) l.processors p processor there refl)

pub leaf_added : (l : Listed) (p : ℕ) (x : Option Translation) → p < length l.processors → state_of (with_processor l p (with_translation_first (processor_at l.processors p) x)) ≡ with_leaf (state_of l) p x
leaf_added l p None there =
    let processor = processor_at l.processors p in
    same_states _ _ (λ a. refl)
    (part_kept (λ s. s.control) l.processors p processor there refl)
    (part_kept (λ s. s.structures) l.processors p processor there refl)
    (part_kept (λ s. s.translations) l.processors p processor there refl)
leaf_added l p (Some x) there =
    let processor = with_translation_first (processor_at l.processors p) (Some x) in
    same_states _ _ (λ a. refl)
    (part_kept (λ s. s.control) l.processors p processor there refl)
    (part_kept (λ s. s.structures) l.processors p processor there refl)
    (part_changed (λ s. s.translations) l.processors p processor (λ xs. x ∷ xs) there refl)

pub member_dropped : (l : Listed) (p : ℕ) (x : Member) → p < length l.processors → state_of (with_processor l p (without_member (processor_at l.processors p) x)) ≡ without (state_of l) p x
member_dropped l p (members.Structure x) there =
    let processor = without_member (processor_at l.processors p) (members.Structure x) in
    same_states _ _ (λ a. refl)
    (part_kept (λ s. s.control) l.processors p processor there refl)
    (part_changed (λ s. s.structures) l.processors p processor (filter (λ y. not (same_structure x y))) there refl)
    (part_kept (λ s. s.translations) l.processors p processor there refl)
member_dropped l p (members.Translation x) there =
    let processor = without_member (processor_at l.processors p) (members.Translation x) in
    same_states _ _ (λ a. refl)
    (part_kept (λ s. s.control) l.processors p processor there refl)
    (part_kept (λ s. s.structures) l.processors p processor there refl)
    (part_changed (λ s. s.translations) l.processors p processor (filter (λ y. not (same_translation x y))) there refl)

-- the word that an assist writes is the one that it read
marked_at : (with_dirty : Bool) (writes : List (ℕ × ℕ)) (word a : ℕ) → (if word == a then marked with_dirty (value_at writes word) else value_at writes a) ≡ (if word == a then marked with_dirty (value_at writes a) else value_at writes a)
marked_at with_dirty writes word a =
    ⊎_elim
    (λ same. ap (λ b. if word == a then marked with_dirty (value_at writes b) else value_at writes a) same)
    (λ other. rw (ne_eqb word a other) refl)
    (cases_eq word a)

value_after : (writes : List (ℕ × ℕ)) (e : Event) (a : ℕ) → value_at (writes_after writes e) a ≡ written a (value_at writes a) e
value_after writes (events.Write p addr value) a = fold_push (λ old write. if write.0 == a then write.1 else old) 0 writes (addr, value)
value_after writes (events.Access p flags la outcome moments) a = refl
value_after writes (events.Assist p flags la word moments) a =
    fold_push (λ old write. if write.0 == a then write.1 else old) 0 writes (word, marked (says_dirty flags) (value_at writes word))
    ∙ marked_at (says_dirty flags) writes word a
value_after writes (events.MovCr3 p operand) a = refl
value_after writes (events.Invlpg p la) a = refl
value_after writes (events.Invpcid p kind pcid la) a = refl
value_after writes (events.MovCr4Pge p on) a = refl

controlled_other : (m q : ℕ) (c : Control) (e : Event) → (q ≡ processor_of e → ⊥) → controlled m q c e ≡ c
controlled_other m q c (events.Write p addr value) other = refl
controlled_other m q c (events.Access p flags la outcome moments) other = refl
controlled_other m q c (events.Assist p flags la word moments) other = refl
controlled_other m q c (events.MovCr3 p operand) other = cond-false (p == q) _ _ (ne_eqb p q (λ e. other (sym e)))
controlled_other m q c (events.Invlpg p la) other = refl
controlled_other m q c (events.Invpcid p kind pcid la) other = refl
controlled_other m q c (events.MovCr4Pge p on) other = cond-false (p == q) _ _ (ne_eqb p q (λ e. other (sym e)))

filter_all : {X : Type 0} (test : X → Bool) → ((x : X) → test x ≡ true) → (xs : List X) → filter test xs ≡ xs
filter_all test all [] = refl
filter_all test all (x ∷ xs) = rw (all x) (ap (λ ys. x ∷ ys) (filter_all test all xs))

-- a filter that asks whether the processor is the event's own
own : {X : Type 0} (drops : X → Bool) (p : ℕ) (xs : List X) → filter (λ x. not (drops x)) xs ≡ filter (λ x. not (p == p && drops x)) xs
own drops p xs = filter_agree (λ x. not (drops x)) (λ x. not (p == p && drops x)) (λ x. ap (λ b. not (b && drops x)) (sym (eq-eqb p p refl))) xs

foreign : {X : Type 0} (drops : X → Bool) (p q : ℕ) (xs : List X) → (q ≡ p → ⊥) → xs ≡ filter (λ x. not (p == q && drops x)) xs
foreign drops p q xs other =
    sym (filter_all (λ x. not (p == q && drops x)) (λ x. ap (λ b. not (b && drops x)) (ne_eqb p q (λ e. other (sym e)))) xs)

pub event_happened : (l : Listed) (e : Event) → processor_of e < length l.processors → state_of (next_event l e) ≡ after_event l.head (state_of l) e
event_happened l e there =
    let p = processor_of e in
    let m = l.head.cfg.m in
    let rules = l.head.cfg.rules in
    let processor = processor_after l.head.cfg e (processor_at l.processors p) in
    let c : ℕ → Control = λ q. (processor_at l.processors q).control in
    same_states _ _ (value_after l.writes e)
    (part_set (λ s. s.control) l.processors p processor (λ q. controlled m q (c q) e) there refl (λ q other. sym (controlled_other m q (c q) e other)))
    (part_set (λ s. s.structures) l.processors p processor (λ q. filter (λ x. not (p == q && must_drop_structure rules (c q) e x.key)) (processor_at l.processors q).structures) there
    (own (λ x. must_drop_structure rules (c p) e x.key) p (processor_at l.processors p).structures)
    (λ q other. foreign (λ x. must_drop_structure rules (c q) e x.key) p q (processor_at l.processors q).structures other))
    (part_set (λ s. s.translations) l.processors p processor (λ q. filter (λ x. not (p == q && must_drop_translation rules (c q) e x.key)) (processor_at l.processors q).translations) there
    (own (λ x. must_drop_translation rules (c p) e x.key) p (processor_at l.processors p).translations)
    (λ q other. foreign (λ x. must_drop_translation rules (c q) e x.key) p q (processor_at l.processors q).translations other))

started_control : (m : ℕ) (o : Option (ℕ × Bool)) → (processor_or_none (option_map (started_processor m) o)).control ≡ started m o
started_control m None = refl
started_control m (Some start) = refl

started_structures : (m : ℕ) (o : Option (ℕ × Bool)) → (processor_or_none (option_map (started_processor m) o)).structures ≡ []
started_structures m None = refl
started_structures m (Some start) = refl

started_translations : (m : ℕ) (o : Option (ℕ × Bool)) → (processor_or_none (option_map (started_processor m) o)).translations ≡ []
started_translations m None = refl
started_translations m (Some start) = refl

pub started_state : (head : Head) → state_of (record { head = head; writes = []; processors = map (started_processor head.cfg.m) head.processors }) ≡ start head
started_state head =
    let m = head.cfg.m in
    let at : (p : ℕ) → processor_at (map (started_processor m) head.processors) p ≡ processor_or_none (option_map (started_processor m) (slice_get head.processors p)) = λ p. ap processor_or_none (slice_get-map (started_processor m) head.processors p) in
    same_states _ _ (λ a. refl)
    (λ p. ap (λ s. s.control) (at p) ∙ started_control m (slice_get head.processors p))
    (λ p. ap (λ s. s.structures) (at p) ∙ started_structures m (slice_get head.processors p))
    (λ p. ap (λ s. s.translations) (at p) ∙ started_translations m (slice_get head.processors p))

pub started_whole : (head copy : Head) (processors : List ProcessorState) (writes : List (ℕ × ℕ)) → (36 ≤ head.cfg.m) × (head.cfg.m ≤ 52) → copy ≡ head → processors ≡ map (started_processor copy.cfg.m) copy.processors → IsWhole (record { head = copy; writes = writes; processors = processors })
started_whole head copy processors writes width same made = record {
  low = let P : Head → Type 0 = λ h. 36 ≤ h.cfg.m in subst P (sym same) width.0;
  high = let P : Head → Type 0 = λ h. h.cfg.m ≤ 52 in subst P (sym same) width.1;
  count = ap length made ∙ length-map copy.processors (started_processor copy.cfg.m);
}

pub started_lists : (head copy : Head) (processors : List ProcessorState) (writes : List (ℕ × ℕ)) → copy ≡ head → processors ≡ map (started_processor copy.cfg.m) copy.processors → writes ≡ [] → state_of (record { head = copy; writes = writes; processors = processors }) ≡ start head
started_lists head copy processors writes same made none = rw (made, none) (started_state copy ∙ ap start same)
