-- What is sure of the orders in which a run comes to an event.
use Rattle.std.proofs.Common.{◌≡◌, ◌⊎◌, ℕ, ◌+◌, ◌<◌, ◌≤◌, List, [], ◌∷◌, ◌++◌, map, take, length, refl, ap, sym, ◌∙◌, subst, arith, inl, inr, Some}
use Rattle.std.specs.Prelude.{slice_get}
use Rattle.std.specs.List.{Contains}
use Rattle.std.proofs.lemmas.Bool.{cases_lt}
use Rattle.std.proofs.lemmas.List.{take-take, take-map}
use Rattle.std.proofs.lemmas.Option.{slice_get-get_or, slice_get_within}
use Rattle.pg_event.specs.declared.event.Event.{Event}
use Rattle.pg_event.specs.declared.event.Event.TheVariants.{Write}
use Rattle.pg_machine.specs.Machine.{visible}
use Rattle.pg_run_of.specs.Converse.{without_moments}
use Rattle.pg_span_run.specs.Orders.{Spanned, IsOrder, StandsBefore, ordered}
use Rattle.pg_span_run.proofs.Orders.{are_all}
use Rattle.pg_span_run.proofs.Places.{stands_once, some_same}
use Rattle.pg_span_refute.specs.declared.edge.Edge.{Edge}
use Rattle.pg_span_refute.specs.Memory.{IsWrite}
use Rattle.pg_span_refute.specs.Orders.{RunComesTo, NeverComes, NamesWalk, NamesSomeWalk}
use Rattle.pg_span_refute.specs.Supposed.{Keeps, NeverComesSo, AreSure, IsUpTo, IsRace, IsDeduced, AreDeduced, AddsEdgesOf}

-- both are events, and not the same
record AreApart (s : Spanned) (edge : Edge) : Type 0 where
  first : edge.first < length s.events
  second : edge.second < length s.events
  other : edge.first ≡ edge.second → ⊥

no_write_names_a_walk : (events : List Event) (i : ℕ) → IsWrite events i → NamesSomeWalk events i → ⊥
no_write_names_a_walk events i write walk =
    let both : Some walk.1.0 ≡ Some (Write write.1.1.0 write.0 write.1.0) = sym walk.1.1 ∙ write.1.1.1 in
    let same : walk.1.0 ≡ Write write.1.1.0 write.0 write.1.0 = cc in
    subst (NamesWalk walk.0) same walk.1.2

apart : (s : Spanned) (edge : Edge) → IsRace s edge → AreApart s edge
apart s edge race = record {
  first = slice_get_within s.events edge.first _ race.write.1.1.1;
  second = slice_get_within s.events edge.second _ race.walk.1.1;
  other = λ same. no_write_names_a_walk s.events edge.second (subst (IsWrite s.events) same race.write) race.walk;
}

-- a run that comes to a place of an order comes to the places before it
comes_earlier : (s : Spanned) (order : List ℕ) (a b : ℕ) → a ≤ b → RunComesTo s order b → RunComesTo s order a
comes_earlier s order a b le run =
    let cut : (xs : List Event) → map without_moments (take (a + 1) xs) ≡ take (a + 1) (map without_moments (take (b + 1) xs)) =
    λ xs. ap (map without_moments) (sym (take-take (a + 1) (b + 1) xs (omega (arith, le)))) ∙ sym (take-map without_moments (a + 1) (take (b + 1) xs)) in
    (run.0, run.1, cut (ordered s.events order) ∙ (ap (take (a + 1)) run.2 ∙ sym (cut (visible run.0))))

-- of two events one comes first
either_first : (s : Spanned) (order : List ℕ) → IsOrder s order → (a b : ℕ) → a < length s.events → b < length s.events → (a ≡ b → ⊥) →
    StandsBefore order a b ⊎ StandsBefore order b a
either_first s order is a b low_a low_b other =
    let x : Contains order a = is.each a low_a in
    let y : Contains order b = is.each b low_b in
    let at_x : slice_get order x.0 ≡ Some a = slice_get-get_or order x.0 a x.1 ∙ ap Some x.2 in
    let at_y : slice_get order y.0 ≡ Some b = slice_get-get_or order y.0 b y.1 ∙ ap Some y.2 in
    let differs : x.0 ≡ y.0 → ⊥ = λ e. other (some_same a b (sym at_x ∙ (ap (slice_get order) e ∙ at_y))) in
    elim (cases_lt x.0 y.0) [
      | inl lt ↦ inl (record { place = x.0; later = y.0; rises = lt; first = at_x; second = at_y })
      | inr high ↦ inr (record { place = y.0; later = x.0; rises = omega (arith, high, differs); first = at_y; second = at_x })
    ]

keeps_more : (order : List ℕ) (edges : List Edge) (e : Edge) → Keeps order edges → StandsBefore order e.first e.second → Keeps order (edges ++ e ∷ [])
keeps_more order [] e keeps b x (inl same) = subst (λ (y : Edge). StandsBefore order y.first y.second) same b
keeps_more order [] e keeps b x (inr h) = absurd h
keeps_more order (y ∷ ys) e keeps b x (inl same) = keeps x (inl same)
keeps_more order (y ∷ ys) e keeps b x (inr h) = keeps_more order ys e (λ z i. keeps z (inr i)) b x h

-- where no run comes to an event, none comes to a later one
comes_not : (s : Spanned) (order : List ℕ) → IsOrder s order → (edges : List Edge) (access : ℕ) → NeverComesSo s edges access → (i : ℕ) → IsUpTo s access i →
    (place : ℕ) → slice_get order place ≡ Some i → RunComesTo s order place → Keeps order edges → ⊥
comes_not s order is edges access never i (inl same) place at run keeps = never order place is keeps (at ∙ ap Some (sym same)) run
comes_not s order is edges access never i (inr must) place at run keeps =
    let b : StandsBefore order access i = is.keeps access i must in
    let later : b.later ≡ place = stands_once order (length s.events) (are_all s order is) b.later place i b.second at in
    never order b.place is keeps b.first (comes_earlier s order b.place place (omega (arith, b.rises, later)) run)

-- so the other of two events comes first
pub deduced : (s : Spanned) (edges : List Edge) (edge other : Edge) → other.first ≡ edge.second → other.second ≡ edge.first → IsRace s edge → (access : ℕ) →
    NeverComesSo s (edges ++ other ∷ []) access → (i : ℕ) → IsUpTo s access i → AreSure s edges i → AreSure s (edges ++ edge ∷ []) i
deduced s edges edge other first second race access never i up sure order place is at run =
    let keeps : Keeps order edges = sure order place is at run in
    let two : AreApart s edge = apart s edge race in
    keeps_more order edges edge keeps (elim (either_first s order is edge.first edge.second two.first two.second two.other) [
      | inl b ↦ b
      | inr b ↦
          let turned : StandsBefore order other.first other.second =
          subst (λ k. StandsBefore order k other.second) (sym first) (subst (StandsBefore order edge.second) (sym second) b) in
          absurd (comes_not s order is (edges ++ other ∷ []) access never i up place at run (keeps_more order edges other keeps turned))
    ])

-- what was added is deduced
pub more_deduced : (s : Spanned) (edges : List Edge) (edge : Edge) → IsRace s edge → AreSure s (edges ++ edge ∷ []) edge.second → AreDeduced s edges → AreDeduced s (edges ++ edge ∷ [])
more_deduced s [] edge race sure are e (inl same) =
    subst (IsDeduced s) same (record { race = race; first = λ order place is at run. sure order place is at run edge (inl refl) })
more_deduced s [] edge race sure are e (inr h) = absurd h
more_deduced s (x ∷ xs) edge race sure are e (inl same) = are e (inl same)
more_deduced s (x ∷ xs) edge race sure are e (inr h) =
    more_deduced s xs edge race (λ order place is at run y i. sure order place is at run y (inr i)) (λ y i. are y (inr i)) e h

-- what was added is of its access
pub adds_one : (edges : List Edge) (edge : Edge) → AddsEdgesOf edge.second edges (edges ++ edge ∷ [])
adds_one [] edge e (inl same) = inr (ap (λ (x : Edge). x.second) (sym same))
adds_one [] edge e (inr h) = absurd h
adds_one (x ∷ xs) edge e (inl same) = inl (inl same)
adds_one (x ∷ xs) edge e (inr h) = elim (adds_one xs edge e h) [ inl old ↦ inl (inr old) | inr own ↦ inr own ]

pub adds_none : (edges : List Edge) (access : ℕ) → AddsEdgesOf access edges edges
adds_none edges access e h = inl h

pub adds_on : (access : ℕ) (a b c : List Edge) → AddsEdgesOf access a b → AddsEdgesOf access b c → AddsEdgesOf access a c
adds_on access a b c first second e h = elim (second e h) [ inl old ↦ first e old | inr own ↦ inr own ]

-- nothing is supposed at first
pub sure_of_none : (s : Spanned) (i : ℕ) → AreSure s [] i
sure_of_none s i order place is at run edge h = absurd h

-- what is sure is as supposed
pub never_so : (s : Spanned) (edges : List Edge) (i : ℕ) → AreSure s edges i → NeverComesSo s edges i → NeverComes s i
never_so s edges i sure never order place is at run = never order place is (sure order place is at run) at run
