use Rattle.std.proofs.Common.{◌≡◌, ℕ, ◌==◌, ◌&&◌, Bool, true, Decides, rules, sym, ◌∙◌, ap}
use Rattle.std.specs.Cmp.{unsigned_Decides, booleans_Decides}
use Rattle.std.proofs.lemmas.Bool.{and_parts, and_from, eqb-true}
use Rattle.std.proofs.lemmas.Slice.Eq.{slice_eq-Decides}
use Rattle.pg_entry.specs.declared.Cfg.{Cfg}
use Rattle.pg_event.specs.Heads.{Head}
use Rattle.pg_event.proofs.header.Header.is_same.Goals as goal
use Rattle.pg_event.proofs.header.Header.is_same.Goals.{then-eq, else-eq, then-eq-2, else-eq-2}

same_where : (h k : Head) (b : Bool) → h.version ≡ k.version → h.cfg ≡ k.cfg → h.segment ≡ k.segment → Decides b (h.processors ≡ k.processors) → Decides b (h ≡ k)
same_where h k b version cfg segment processors = (
  λ yes. λ i. record { version = version i; cfg = cfg i; segment = segment i; processors = processors.0 yes i },
  λ same. processors.1 (ap (λ (h : Head). h.processors) same),
)

same_cfg : (a b : Cfg) → (a.flags.0 == b.flags.0 && (a.m == b.m && a.rules.0 == b.rules.0)) ≡ true → a ≡ b
same_cfg a b both =
    let parts = and_parts (a.flags.0 == b.flags.0) (a.m == b.m && a.rules.0 == b.rules.0) both in
    let others = and_parts (a.m == b.m) (a.rules.0 == b.rules.0) parts.1 in
    let flags = eqb-true a.flags.0 b.flags.0 parts.0 in
    let m = eqb-true a.m b.m others.0 in
    let rules = eqb-true a.rules.0 b.rules.0 others.1 in
    λ i. record { flags = record { 0 = flags i }; m = m i; rules = record { 0 = rules i } }

pair_decides : (a b : ℕ × Bool) (p q : Bool) → Decides p (a.0 ≡ b.0) → Decides q (a.1 ≡ b.1) → Decides (p && q) (a ≡ b)
pair_decides a b p q first second = (
  λ both. let parts = and_parts p q both in λ i. (first.0 parts.0 i, second.0 parts.1 i),
  λ same. and_from p q (first.1 (ap (λ t. t.0) same)) (second.1 (ap (λ t. t.1) same)),
)

pub returns-then-self-other : goal.returns-then-self-other
returns-then-self-other c =
    elim c.if-eq-2.branch [
      | then-eq-2 w ↦
          elim c.if-eq.branch [
            | then-eq v ↦
                let version : c.self.inside.version ≡ c.other.inside.version = search rules in
                let cfg : c.self.inside.cfg ≡ c.other.inside.cfg = same_cfg _ _ (sym v.eq-then-eq.ensures ∙ sym v.value-is ∙ w.if-eq-2.true) in
                let segment : c.self.inside.segment ≡ c.other.inside.segment = eqb-true _ _ (sym w.value-is ∙ c.if-self-other.true) in
                let starts = slice_eq-Decides (λ a b. pair_decides a b _ _ (unsigned_Decides a.0 b.0) (booleans_Decides a.1 b.1)) _ _ _ c.eq-then-self-other.ensures in
                rw (sym c.self.view_is, sym c.other.view_is) (same_where _ _ _ version cfg segment starts)
            | else-eq v ↦ absurd (cc)
          ]
      | else-eq-2 w ↦ absurd (cc)
    ]
