-- Logs that are those of one run.
use Rattle.std.proofs.Common.{◌≡◌, ℕ, ◌<◌, ◌≤◌, ◌^◌, Bool, List, length, get_or, refl, sym, ap, subst, ◌∙◌, arith, inl, inr, Some, lit≤}
use Rattle.std.specs.Prelude.{slice_get}
use Rattle.std.specs.List.{All, AllPairs}
use Rattle.std.proofs.lemmas.Bool.{cases_order}
use Rattle.std.proofs.lemmas.Option.{slice_get-get_or, slice_get_within, get_or_from_slice_get}
use Rattle.std.proofs.lemmas.List.Elements.{recursion_from_All}
use Rattle.pg_entry.specs.declared.Cfg.{Cfg}
use Rattle.pg_entry.specs.declared.Rules.{Rules}
use Rattle.pg_entry.specs.Rules.{all_rules}
use Rattle.pg_event.specs.declared.event.Event.{Event}
use Rattle.pg_event.specs.declared.event.Event.TheVariants.{Write, Access, Assist, MovCr3, Invlpg, Invpcid, MovCr4Pge}
use Rattle.pg_event.specs.Heads.{Head, most_segment, most_processors}
use Rattle.pg_event.specs.Form.{broken_rule}
use Rattle.pg_event.specs.Spelling.{IsHead}
use Rattle.pg_span_run.specs.declared.log.LogHeader.{LogHeader}
use Rattle.pg_span_run.specs.declared.log_error.Setting.TheVariants.{Version, Maxphyaddr, Flags, Processors}
use Rattle.pg_span_run.specs.Logs.{Logged, AreLogSettings}
use Rattle.pg_span_run.specs.Runs.{IsPartOf, AreOfOneRun}
use Rattle.pg_span_run.specs.Parts.{IsLike, IsStartOf, AreStarts}
use Rattle.pg_span_run.proofs.Elements.{all_found}

abbrev Apart : Logged → Logged → Type 0
Apart a b = a.head.own ≡ b.head.own → ⊥

-- the header that one log and the starts of all processors make
abbrev pub head_of : LogHeader → List (ℕ × Bool) → Head
head_of first starts = record {
  version = first.version;
  cfg = first.cfg;
  segment = most_segment;
  processors = starts;
}

same_cfg : (a b : Cfg) → a.m ≡ b.m → a.flags.0 ≡ b.flags.0 → a.rules ≡ b.rules → a ≡ b
same_cfg a b m flags rules =
    let made : ℕ → ℕ → Rules → Cfg = λ x y z. record { flags = record { 0 = x }; m = y; rules = z } in
    ap (λ x. made x a.m a.rules) flags ∙ ap (λ y. made b.flags.0 y a.rules) m ∙ ap (made b.flags.0 b.m) rules

-- logs of one processor stand at one place
one_place : (logs : List Logged) (i j : ℕ) (a b : Logged) → AllPairs Apart logs → slice_get logs i ≡ Some a → slice_get logs j ≡ Some b → a.head.own ≡ b.head.own → i ≡ j
one_place logs i j a b apart there other own = elim (cases_order i j) [
  | inl same ↦ same
  | inr g ↦ elim g [
    | inl less ↦ absurd (differ logs i j a b apart there other less own)
    | inr more ↦ absurd (differ logs j i b a apart other there more (sym own))
  ]
]
  where
    differ : (logs : List Logged) (i j : ℕ) (a b : Logged) → AllPairs Apart logs → slice_get logs i ≡ Some a → slice_get logs j ≡ Some b → i < j → a.head.own ≡ b.head.own → ⊥
    differ logs i j a b apart there other less own =
        let first : get_or logs i a ≡ a = get_or_from_slice_get logs i a a there in
        let second : get_or logs j a ≡ b = get_or_from_slice_get logs j b a other in
        apart i j a less (slice_get_within logs j b other) (ap (λ (l : Logged). l.head.own) first ∙ (own ∙ ap (λ (l : Logged). l.head.own) (sym second)))

part_of : (first : LogHeader) (logs : List Logged) (starts : List (ℕ × Bool)) (k : ℕ) (log : Logged) → slice_get logs k ≡ Some log → IsLike first log → first.cfg.rules ≡ all_rules → AllPairs Apart logs → AreStarts logs first.processors starts → IsPartOf (head_of first starts) log.head
part_of first logs starts k log there like rules apart are =
    let within : log.head.own < first.processors = omega (arith, like.is.settings.own, like.alike Processors) in
    let s : IsStartOf logs starts log.head.own = are.each log.head.own within in
    let place : s.place ≡ k = one_place logs s.place k s.log log apart s.there there s.own in
    let both : Some s.log ≡ Some log = sym s.there ∙ (ap (slice_get logs) place ∙ there) in
    let one : s.log ≡ log = cc in
    record {
      version = like.alike Version;
      cfg = same_cfg first.cfg log.head.cfg (like.alike Maxphyaddr) (like.alike Flags) (rules ∙ sym like.is.settings.rules);
      processors = are.count ∙ like.alike Processors;
      start = s.start ∙ ap (λ (l : Logged). Some l.head.start) one;
    }

pub of_one_run : (first : LogHeader) (logs : List Logged) (starts : List (ℕ × Bool)) → first.cfg.rules ≡ all_rules → All (IsLike first) logs → AllPairs Apart logs → AreStarts logs first.processors starts → AreOfOneRun logs (head_of first starts)
of_one_run first logs starts rules like apart are = record {
  parts = λ k d lt. part_of first logs starts k (get_or logs k d) (slice_get-get_or logs k d lt) (like k d lt) rules apart are;
  apart = apart;
  whole = λ p lt. let s : IsStartOf logs starts p = are.each p (omega (arith, lt, are.count)) in record {
    place = s.place;
    log = s.log;
    there = s.there;
    own = s.own;
  };
  segment = refl;
}

pub head_in_range : (first : LogHeader) (logs : List Logged) (starts : List (ℕ × Bool)) → AreLogSettings first → All (IsLike first) logs → AreStarts logs first.processors starts → IsHead (head_of first starts)
head_in_range first logs starts are like from = record {
  low = are.low;
  high = are.high;
  flags = are.flags;
  some = omega (arith, are.some, from.count);
  few = subst (λ n. n ≤ most_processors first.version) (sym from.count) are.few;
  size = lit≤ tt;
  limit = lit≤ tt;
  starts = recursion_from_All (λ start. start.0 < 2 ^ first.cfg.m) starts below;
}
  where
    below : (k : ℕ) (d : ℕ × Bool) → k < length starts → (get_or starts k d).0 < 2 ^ first.cfg.m
    below k d lt =
        let s : IsStartOf logs starts k = from.each k (omega (arith, lt, from.count)) in
        let own : IsLike first s.log = all_found (IsLike first) logs s.place s.log like s.there in
        let here : get_or starts k d ≡ s.log.head.start = get_or_from_slice_get starts k s.log.head.start d s.start in
        let small : s.log.head.start.0 < 2 ^ first.cfg.m = subst (λ m. s.log.head.start.0 < 2 ^ m) (sym (own.alike Maxphyaddr)) own.is.settings.start in
        subst (λ (start : ℕ × Bool). start.0 < 2 ^ first.cfg.m) (sym here) small

-- whether an event is well formed is told by the settings and the number of processors
pub same_rule : (a b : Head) → a.version ≡ b.version → a.cfg ≡ b.cfg → length a.processors ≡ length b.processors → (e : Event) → broken_rule a e ≡ broken_rule b e
same_rule a b v c n (Write p addr value) = simp (c, n)
same_rule a b v c n (Access p flags la outcome moments) = simp n
same_rule a b v c n (Assist p flags la word moments) = simp (v, c, n)
same_rule a b v c n (MovCr3 p operand) = simp (c, n)
same_rule a b v c n (Invlpg p la) = simp n
same_rule a b v c n (Invpcid p kind pcid la) = simp n
same_rule a b v c n (MovCr4Pge p on) = simp n
