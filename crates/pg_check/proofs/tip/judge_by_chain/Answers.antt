use Rattle.std.proofs.Common.{◌≡◌, ℕ, length, Ok, sym, ap, subst, ◌∙◌, arith}
use Rattle.pg_entry.specs.declared.Cfg.{Cfg}
use Rattle.pg_entry.specs.Kinds.{kind_of}
use Rattle.pg_event.specs.declared.event.Want.{Want}
use Rattle.pg_event.specs.declared.event.Want.TheVariants as wants
use Rattle.pg_chain.specs.declared.steps.Chain.{Chain}
use Rattle.pg_chain.specs.Walked.{chain_of}
use Rattle.pg_check.specs.declared.lasting.Lasting.{Lasting}
use Rattle.pg_check.specs.Lasting.{IsLasting}
use Rattle.pg_check.specs.Remembered.{page_bits, page_start, IsWithin}
use Rattle.pg_check.proofs.Pages.{walk_of_page}
use Rattle.pg_check.proofs.Memos.{made_slot}
use Rattle.pg_check.proofs.Reasons.{failing_access-ordered}
use Rattle.pg_check.proofs.tip.judge_by_chain.Goals as goal

pub lasting_now-walk-requires-clause-leaf : goal.lasting_now-walk-requires-clause-leaf
lasting_now-walk-requires-clause-leaf c = λ head events h.
    let end = c.args.chain.end in
    sym (ap (λ (x : Cfg). kind_of x end.level end.value) (c.cfg.ensures.run head events h)) ∙ c.in-Some.ensures.kind

pub keep_walk-requires-clause-slot : goal.keep_walk-requires-clause-slot
keep_walk-requires-clause-slot c =
    let claim = c.args.claim.now in
    let ws = c.args.moments.now in
    let leaf = c.in-Some.leaf in
    let walk = c.lasting_now-walk.result in
    let slot = c.slot_of-slot in
    let page : c.page_of-page.result ≡ page_start (page_bits (length ws)) claim.la =
    c.page_of-page.ensures ∙ ap (λ n. page_start (page_bits n) claim.la) c.len.ensures.length in
    let moment : slot.result.moment ≡ claim.number =
    ap (λ (x : Chain). x.end.moment) (slot.ensures.chain ∙ c.lasting_now-walk.ensures.chain) ∙ c.requires.moment in
    let asked : slot.result.asked ≡ claim.number =
    ap (λ (l : Lasting). l.asked) (slot.ensures.standing c.lasting_now-walk.ensures.asked.1) ∙ c.lasting_now-walk.ensures.asked.0 in
    let within : IsWithin claim.number slot.result = record {
      few = rw (slot.ensures.names.2, ← c.len.ensures.length) c.len.ensures.within.1;
      ordered = rw (slot.ensures.names.2) c.requires.ordered;
      read = omega (arith, moment);
      asked = omega (arith, asked);
      shift = rw (slot.ensures.leaf) c.in-Some.ensures.shift;
    } in
    made_slot c.args.past.now claim.number slot.result claim.p c.page_of-page.result ws walk c.cfg.result leaf.frame leaf.shift leaf.global_bit
    slot.ensures.names slot.ensures.leaf slot.ensures.chain slot.ensures.lasting within
    (λ head events h. (
      subst (λ (la : ℕ). chain_of head events claim.p la ws wants.Leaf ≡ Ok walk.chain) (sym page)
          (c.requires.walk head events h ∙ ap (λ (x : Chain). Ok x) (sym c.lasting_now-walk.ensures.chain)),
      c.lasting_now-walk.ensures.lasting head events h,
    ))
    c.cfg.ensures.within c.cfg.ensures.run
    (ap (λ (x : Chain). kind_of c.cfg.result x.end.level x.end.value) c.lasting_now-walk.ensures.chain ∙ c.in-Some.ensures.kind)

pub returns-clause-right : goal.returns-clause-right
returns-clause-right c = λ head events h.
    let claim = c.args.claim.now in
    let ws = c.args.moments.now in
    let leaf = c.in-Some.leaf in
    let walk = c.lasting_now-walk.result in
    let page = c.page_of-page.ensures ∙ ap (λ n. page_start (page_bits n) claim.la) c.len.ensures.length in
    let chain = c.requires.walk head events h ∙ ap (λ (x : Chain). Ok x) (sym c.lasting_now-walk.ensures.chain) in
    let lasting = subst (λ (la : ℕ). IsLasting head events claim.p la walk) page (c.lasting_now-walk.ensures.lasting head events h) in
    let found = walk_of_page head events claim.p claim.la wants.Leaf ws (Ok walk) (rw (← c.len.ensures.length) c.len.ensures.within.1) (chain, lasting) in
    c.failing_leaf_chain.ensures head events leaf.global_bit h
    (ap (λ (x : Chain). kind_of head.cfg x.end.level x.end.value) c.lasting_now-walk.ensures.chain
    ∙ sym (ap (λ (x : Cfg). kind_of x c.args.chain.end.level c.args.chain.end.value) (c.cfg.ensures.run head events h)) ∙ c.in-Some.ensures.kind) found.1
    ∙ failing_access-ordered head events claim ws (rw (← c.len.ensures.length) c.len.ensures.within.0) c.requires.ordered
    _ (ap (λ (w : Want). chain_of head events claim.p claim.la ws w) c.requires.leaf ∙ found.0)
