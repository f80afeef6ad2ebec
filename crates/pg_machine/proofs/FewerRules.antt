-- A run of the machine is one of the machine whose processors are held to fewer rules: step by step
-- its caches have at least as much.
use Rattle.std.proofs.Common.{◌≡◌, ℕ, Bool, true, false, not, cond, ◌&&◌, ◌||◌, ◌==◌, List, [], ◌∷◌, filter, Option, Some, None, refl, sym, ap, subst, ◌∙◌, inl, inr}
use Rattle.pg_entry.specs.declared.Cfg.{Cfg}
use Rattle.pg_entry.specs.declared.Rules.{Rules}
use Rattle.pg_entry.specs.declared.Rights.{Rights}
use Rattle.pg_entry.specs.declared.AccessKind.{AccessKind}
use Rattle.pg_entry.specs.declared.Op.{Op}
use Rattle.pg_entry.specs.declared.Op.TheVariants as ops
use Rattle.pg_entry.specs.declared.Level.{Level}
use Rattle.pg_entry.specs.declared.Level.TheVariants.{Four, Three, Two, One}
use Rattle.pg_entry.specs.declared.Kind.{Kind}
use Rattle.pg_entry.specs.declared.Kind.TheVariants as kinds
use Rattle.pg_entry.specs.Rules.{AreAmong}
use Rattle.pg_entry.specs.Kinds.{table_of, kind_of}
use Rattle.pg_entry.specs.Permission.{joined, is_allowed, is_allowed_user, is_allowed_supervisor}
use Rattle.pg_event.specs.declared.event.Event.{Event}
use Rattle.pg_event.specs.declared.event.Event.TheVariants as events
use Rattle.pg_event.specs.declared.event.Outcome.{Outcome}
use Rattle.pg_event.specs.declared.event.Outcome.TheVariants as outcomes
use Rattle.pg_event.specs.declared.event.Want.{Want}
use Rattle.pg_event.specs.declared.event.Want.TheVariants as wants
use Rattle.pg_event.specs.declared.walk.Parent.{Parent}
use Rattle.pg_event.specs.Heads.{Head, with_rules}
use Rattle.pg_event.specs.Form.{processor_of, access_kind, says_dirty}
use Rattle.pg_event.specs.Invalidation.{must_drop_structure, must_drop_translation}
use Rattle.pg_event.specs.Walk.{root_of}
use Rattle.pg_event.specs.Wants.{want_of, may_dirty}
use Rattle.pg_event.proofs.FewerRules.{fewer_rules_drop_less, same_form}
use Rattle.pg_machine.specs.declared.step.Structure.{Structure}
use Rattle.pg_machine.specs.declared.step.Translation.{Translation}
use Rattle.pg_machine.specs.declared.step.Member.TheVariants as members
use Rattle.pg_machine.specs.declared.step.Step.{Step}
use Rattle.pg_machine.specs.declared.step.Step.TheVariants.{Fill4, Fill3, Fill2, FillLeaf, Drop, Do}
use Rattle.pg_machine.specs.FewerRules.{RunsUnderFewerRules}
use Rattle.pg_machine.specs.Machine.{IsIn, State, start, structure_at, MayRead, entry_now, Answers, HasOutcome, MayAssist, MayCome, changed_at, with_structure, with_translation, translation_at, with_leaf, same_structure, same_translation, without, after_event, RunsFrom}

-- ---- lists of which one has what the other has

abbrev AllIn : {X : Type 0} → List X → List X → Type 0
AllIn {X = X} xs ys = (x : X) → IsIn x xs → IsIn x ys

cons_in : {X : Type 0} (y : X) (xs ys : List X) → AllIn xs ys → AllIn (y ∷ xs) (y ∷ ys)
cons_in y xs ys h = λ x i. elim i [ inl own ↦ inl own | inr more ↦ inr (h x more) ]

in_filtered : {X : Type 0} (test : X → Bool) (x : X) (xs : List X) → IsIn x (filter test xs) → (test x ≡ true) × IsIn x xs
in_filtered test x [] i = absurd i
in_filtered test x (y ∷ ys) i = go (test y) refl (λ more. in_filtered test x ys more) i
  where
    go : (b : Bool) → test y ≡ b → (IsIn x (filter test ys) → (test x ≡ true) × IsIn x ys) → IsIn x (cond b (y ∷ filter test ys) (filter test ys)) → (test x ≡ true) × IsIn x (y ∷ ys)
    go true passes others (inl own) = (sym (ap test own) ∙ passes, inl own)
    go true passes others (inr more) = let rest = others more in (rest.0, inr rest.1)
    go false passes others more = let rest = others more in (rest.0, inr rest.1)

in-filter : {X : Type 0} (test : X → Bool) (x : X) (xs : List X) → IsIn x xs → test x ≡ true → IsIn x (filter test xs)
in-filter test x [] i passes = absurd i
in-filter test x (y ∷ ys) (inl own) passes =
    subst (λ b. IsIn x (cond b (y ∷ filter test ys) (filter test ys))) (sym (ap test own ∙ passes)) (inl own)
in-filter test x (y ∷ ys) (inr more) passes = go (test y) (in-filter test x ys more passes)
  where
    go : (b : Bool) → IsIn x (filter test ys) → IsIn x (cond b (y ∷ filter test ys) (filter test ys))
    go true i = inr i
    go false i = i

-- a test that passes what the other passes
filter_in : {X : Type 0} (f g : X → Bool) (xs ys : List X) → ((x : X) → f x ≡ true → g x ≡ true) → AllIn xs ys → AllIn (filter f xs) (filter g ys)
filter_in f g xs ys up h = λ x i. let parts = in_filtered f x xs i in in-filter g x ys (h x parts.1) (up x parts.0)

changed_in : {X : Type 0} (p q : ℕ) (change : List X → List X) (old new : ℕ → List X) → AllIn (change (old q)) (change (new q)) → AllIn (old q) (new q)
    → AllIn (changed_at p change old q) (changed_at p change new q)
changed_in p q change old new changed same = go (q == p)
  where
    go : (b : Bool) → AllIn (cond b (change (old q)) (old q)) (cond b (change (new q)) (new q))
    go true = changed
    go false = same

not_fewer : (few more : Bool) → (few ≡ true → more ≡ true) → not more ≡ true → not few ≡ true
not_fewer false more up h = refl
not_fewer true more up h = sym (ap not (up refl)) ∙ h

and_fewer : (own few more : Bool) → (few ≡ true → more ≡ true) → (own && few) ≡ true → (own && more) ≡ true
and_fewer true few more up h = up h
and_fewer false few more up h = h

-- ---- what looks at no rule

abbrev ruled : Cfg → Rules → Cfg
ruled cfg rules = record cfg { rules = rules }

same_supervisor : (cfg : Cfg) (rules : Rules) (rights : Rights) (op : Op) (ac : Bool) → is_allowed_supervisor (ruled cfg rules) rights op ac ≡ is_allowed_supervisor cfg rights op ac
same_supervisor cfg rules rights ops.Read ac = refl
same_supervisor cfg rules rights ops.Write ac = refl
same_supervisor cfg rules rights ops.Fetch ac = refl

same_allowed : (cfg : Cfg) (rules : Rules) (rights : Rights) (kind : AccessKind) → is_allowed (ruled cfg rules) rights kind ≡ is_allowed cfg rights kind
same_allowed cfg rules rights kind = ap (λ (b : Bool). cond kind.user (is_allowed_user rights kind.op) b) (same_supervisor cfg rules rights kind.op kind.ac)

same_dirty : (cfg : Cfg) (rules : Rules) (kind : AccessKind) (rights : Rights) (entry : Kind) → may_dirty (ruled cfg rules) kind rights entry ≡ may_dirty cfg kind rights entry
same_dirty cfg rules kind rights (kinds.Leaf frame shift global_bit) = same_allowed cfg rules rights kind
same_dirty cfg rules kind rights (kinds.Table addr) = refl
same_dirty cfg rules kind rights kinds.Absent = refl
same_dirty cfg rules kind rights kinds.Reserved = refl

-- ---- a state whose caches have at least as much

abbrev with_caches : State → (ℕ → List Structure) → (ℕ → List Translation) → State
with_caches s structures translations = record s { structures = structures; translations = translations }

record HasMore (s : State) (structures : ℕ → List Structure) (translations : ℕ → List Translation) : Type 0 where
  structures_in : (p : ℕ) → AllIn (s.structures p) (structures p)
  translations_in : (p : ℕ) → AllIn (s.translations p) (translations p)

read_more : (s : State) (S : ℕ → List Structure) (T : ℕ → List Translation) (p la : ℕ) (level : Level) (from : Parent) → HasMore s S T
    → MayRead s p la level from → MayRead (with_caches s S T) p la level from
read_more s S T p la Four from h read = read
read_more s S T p la Three from h read = h.structures_in p _ read
read_more s S T p la Two from h read = h.structures_in p _ read
read_more s S T p la One from h read = h.structures_in p _ read

answers_more : (head : Head) (rules : Rules) (access : AccessKind) (la : ℕ) (t : Translation) (outcome : Outcome) → Answers head access la t outcome → Answers (with_rules head rules) access la t outcome
answers_more head rules access la t (outcomes.Page page) a = (same_allowed head.cfg rules t.rights access ∙ a.0, a.1, a.2)
answers_more head rules access la t (outcomes.Fault code) a = (same_allowed head.cfg rules t.rights access ∙ a.0, a.1)

outcome_more : (head : Head) (rules : Rules) (s : State) (S : ℕ → List Structure) (T : ℕ → List Translation) (p la : ℕ) (access : AccessKind) (outcome : Outcome) (want : Want) → HasMore s S T
    → HasOutcome head s p la access outcome want → HasOutcome (with_rules head rules) (with_caches s S T) p la access outcome want
outcome_more head rules s S T p la access outcome wants.Leaf h has = (has.0, h.translations_in p _ has.1, has.2, answers_more head rules access la has.0 outcome has.3)
outcome_more head rules s S T p la access outcome wants.Absent h has = (has.0, has.1, read_more s S T p la has.0 has.1 h has.2, has.3, has.4)
outcome_more head rules s S T p la access outcome wants.Reserved h has = (has.0, has.1, read_more s S T p la has.0 has.1 h has.2, has.3, has.4)
outcome_more head rules s S T p la access outcome wants.Present h has = has

assist_more : (head : Head) (rules : Rules) (s : State) (S : ℕ → List Structure) (T : ℕ → List Translation) (p la : ℕ) (access : AccessKind) (word : ℕ) (dirty : Bool) → HasMore s S T
    → MayAssist head s p la access word dirty → MayAssist (with_rules head rules) (with_caches s S T) p la access word dirty
assist_more head rules s S T p la access word dirty h may =
    let level : Level = may.0 in
    let from : Parent = may.1 in
    let entry : ℕ = entry_now s la level from in (
      level,
      from,
      read_more s S T p la level from h may.2,
      may.3,
      may.4,
      ap (λ (b : Bool). not dirty || b) (same_dirty head.cfg rules access (joined from.rights entry) (kind_of head.cfg level entry)) ∙ may.5,
    )

comes_more : (head : Head) (rules : Rules) (s : State) (S : ℕ → List Structure) (T : ℕ → List Translation) (e : Event) → HasMore s S T
    → MayCome head s e → MayCome (with_rules head rules) (with_caches s S T) e
comes_more head rules s S T (events.Write p addr value) h may = tt
comes_more head rules s S T (events.Access p flags la outcome moments) h may = outcome_more head rules s S T p la (access_kind flags) outcome (want_of outcome) h may
comes_more head rules s S T (events.Assist p flags la word moments) h may = assist_more head rules s S T p la (access_kind flags) word (says_dirty flags) h may
comes_more head rules s S T (events.MovCr3 p operand) h may = tt
comes_more head rules s S T (events.Invlpg p la) h may = tt
comes_more head rules s S T (events.Invpcid p kind pcid la) h may = tt
comes_more head rules s S T (events.MovCr4Pge p on) h may = tt

-- ---- the run

-- one structure entry more on both sides
structure_more : (s : State) (S : ℕ → List Structure) (T : ℕ → List Translation) (p : ℕ) (x : Structure) → HasMore s S T
    → HasMore (with_structure s p x) (changed_at p (λ xs. x ∷ xs) S) T
structure_more s S T p x h = record {
  structures_in = λ q. changed_in p q (λ xs. x ∷ xs) s.structures S (cons_in x (s.structures q) (S q) (h.structures_in q)) (h.structures_in q);
  translations_in = h.translations_in;
}

translation_more : (s : State) (S : ℕ → List Structure) (T : ℕ → List Translation) (p : ℕ) (x : Translation) → HasMore s S T
    → HasMore (with_translation s p x) S (changed_at p (λ xs. x ∷ xs) T)
translation_more s S T p x h = record {
  structures_in = h.structures_in;
  translations_in = λ q. changed_in p q (λ xs. x ∷ xs) s.translations T (cons_in x (s.translations q) (T q) (h.translations_in q)) (h.translations_in q);
}

without_structure : (s : State) (S : ℕ → List Structure) (T : ℕ → List Translation) (p : ℕ) (x : Structure) → HasMore s S T
    → HasMore (without s p (members.Structure x)) (changed_at p (filter (λ y. not (same_structure x y))) S) T
without_structure s S T p x h = record {
  structures_in = λ q. changed_in p q (filter (λ y. not (same_structure x y))) s.structures S
      (filter_in (λ y. not (same_structure x y)) (λ y. not (same_structure x y)) (s.structures q) (S q) (λ y passes. passes) (h.structures_in q)) (h.structures_in q);
  translations_in = h.translations_in;
}

without_translation : (s : State) (S : ℕ → List Structure) (T : ℕ → List Translation) (p : ℕ) (x : Translation) → HasMore s S T
    → HasMore (without s p (members.Translation x)) S (changed_at p (filter (λ y. not (same_translation x y))) T)
without_translation s S T p x h = record {
  structures_in = h.structures_in;
  translations_in = λ q. changed_in p q (filter (λ y. not (same_translation x y))) s.translations T
      (filter_in (λ y. not (same_translation x y)) (λ y. not (same_translation x y)) (s.translations q) (T q) (λ y passes. passes) (h.translations_in q)) (h.translations_in q);
}

-- what an event drops under fewer rules it drops under more
event_more : (head : Head) (fewer : Rules) (s : State) (S : ℕ → List Structure) (T : ℕ → List Translation) (e : Event) → AreAmong fewer head.cfg.rules → HasMore s S T
    → HasMore (after_event head s e) (after_event (with_rules head fewer) (with_caches s S T) e).structures (after_event (with_rules head fewer) (with_caches s S T) e).translations
event_more head fewer s S T e among h = record {
  structures_in = λ q.
      filter_in (λ x. not (processor_of e == q && must_drop_structure head.cfg.rules (s.control q) e x.key)) (λ x. not (processor_of e == q && must_drop_structure fewer (s.control q) e x.key))
      (s.structures q) (S q)
      (λ x. not_fewer _ _ (and_fewer (processor_of e == q) _ _ (fewer_rules_drop_less.structures fewer head.cfg.rules among (s.control q) e x.key)))
      (h.structures_in q);
  translations_in = λ q.
      filter_in (λ x. not (processor_of e == q && must_drop_translation head.cfg.rules (s.control q) e x.key)) (λ x. not (processor_of e == q && must_drop_translation fewer (s.control q) e x.key))
      (s.translations q) (T q)
      (λ x. not_fewer _ _ (and_fewer (processor_of e == q) _ _ (fewer_rules_drop_less.translations fewer head.cfg.rules among (s.control q) e x.key)))
      (h.translations_in q);
}

-- the rest of a run, after a leaf was filled
leaf_more : (head : Head) (fewer : Rules) (s : State) (S : ℕ → List Structure) (T : ℕ → List Translation) (p : ℕ) (o : Option Translation) (steps : List Step) → HasMore s S T
    → ((s' : State) (S' : ℕ → List Structure) (T' : ℕ → List Translation) → HasMore s' S' T' → RunsFrom head s' steps → RunsFrom (with_rules head fewer) (with_caches s' S' T') steps)
    → RunsFrom head (with_leaf s p o) steps → RunsFrom (with_rules head fewer) (with_leaf (with_caches s S T) p o) steps
leaf_more head fewer s S T p None steps h others run = others s S T h run
leaf_more head fewer s S T p (Some t) steps h others run =
    others (with_translation s p t) S (changed_at p (λ xs. t ∷ xs) T) (translation_more s S T p t h) run

-- the structure entry that a level gives
abbrev given : Head → State → ℕ → ℕ → Level → Parent → Structure
given head s p la level from =
    let entry : ℕ = entry_now s la level from in
    let to : Parent = record { table = table_of head.cfg.m entry; rights = joined from.rights entry } in
    structure_at s p la level to

runs_more : (head : Head) (fewer : Rules) (s : State) (S : ℕ → List Structure) (T : ℕ → List Translation) (steps : List Step) → AreAmong fewer head.cfg.rules → HasMore s S T
    → RunsFrom head s steps → RunsFrom (with_rules head fewer) (with_caches s S T) steps
runs_more head fewer s S T [] among h run = tt
runs_more head fewer s S T (Fill4 p la ∷ steps) among h run =
    let x : Structure = given head s p la Four (root_of (s.control p)) in
    (run.0, runs_more head fewer (with_structure s p x) (changed_at p (λ xs. x ∷ xs) S) T steps among (structure_more s S T p x h) run.1)
runs_more head fewer s S T (Fill3 p la from ∷ steps) among h run =
    let x : Structure = given head s p la Three from in
    let found = run.0.1 in (
      (run.0.0, (found.0, read_more s S T p la Three from h found.1, found.2, found.3)),
      runs_more head fewer (with_structure s p x) (changed_at p (λ xs. x ∷ xs) S) T steps among (structure_more s S T p x h) run.1,
    )
runs_more head fewer s S T (Fill2 p la from ∷ steps) among h run =
    let x : Structure = given head s p la Two from in
    let found = run.0.1 in (
      (run.0.0, (found.0, read_more s S T p la Two from h found.1, found.2, found.3)),
      runs_more head fewer (with_structure s p x) (changed_at p (λ xs. x ∷ xs) S) T steps among (structure_more s S T p x h) run.1,
    )
runs_more head fewer s S T (FillLeaf p la level from ∷ steps) among h run =
    let found = run.0.3 in
    let entry : ℕ = entry_now s la level from in (
      (run.0.0, run.0.1, run.0.2, (found.0, read_more s S T p la level from h found.1, found.2, found.3)),
      leaf_more head fewer s S T p (translation_at (s.control p) la (joined from.rights entry) entry (kind_of head.cfg level entry)) steps h
          (λ s' S' T' h' more. runs_more head fewer s' S' T' steps among h' more) run.1,
    )
runs_more head fewer s S T (Drop p (members.Structure x) ∷ steps) among h run = (
  h.structures_in p x run.0,
  runs_more head fewer (without s p (members.Structure x)) (changed_at p (filter (λ y. not (same_structure x y))) S) T steps among (without_structure s S T p x h) run.1,
)
runs_more head fewer s S T (Drop p (members.Translation x) ∷ steps) among h run = (
  h.translations_in p x run.0,
  runs_more head fewer (without s p (members.Translation x)) S (changed_at p (filter (λ y. not (same_translation x y))) T) steps among (without_translation s S T p x h) run.1,
)
runs_more head fewer s S T (Do e ∷ steps) among h run =
    let next : State = after_event (with_rules head fewer) (with_caches s S T) e in (
      (same_form head fewer e ∙ run.0.0, comes_more head fewer s S T e h run.0.1),
      runs_more head fewer (after_event head s e) next.structures next.translations steps among (event_more head fewer s S T e among h) run.1,
    )

pub runs_under_fewer_rules : RunsUnderFewerRules
runs_under_fewer_rules head fewer among steps run =
    runs_more head fewer (start head) (λ p. []) (λ p. []) steps among (record { structures_in = λ p x i. i; translations_in = λ p x i. i }) run
