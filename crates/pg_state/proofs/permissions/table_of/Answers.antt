use Rattle.std.proofs.Common.{◌≡◌, ℕ, Bool, false, get_or, set, ap, sym, subst, ◌∙◌, arith}
use Rattle.std.proofs.lemmas.List.{length-set}
use Rattle.pg_entry.specs.declared.Rights.{Rights}
use Rattle.pg_entry.specs.declared.AccessKind.{AccessKind}
use Rattle.pg_entry.specs.Permission.{is_allowed}
use Rattle.pg_state.specs.Permissions.{place_of, rights_at, kind_at}
use Rattle.pg_state.proofs.Tables.{filled, place_within, place_back}
use Rattle.pg_state.proofs.permissions.table_of.Goals as goal

pub loop-place-preserved : goal.loop-place-preserved
loop-place-preserved c =
    let cfg = c.args.cfg in
    let table = c.loop-place.table in
    let place = c.loop-place.place in
    let f : ℕ → Bool = λ m. is_allowed cfg (rights_at m) (kind_at m) in
    let told : c.allowed.result ≡ f place =
    c.allowed.ensures ∙ ap (λ (r : Rights). is_allowed cfg r c.kind_at.result) c.rights_at.ensures ∙ ap (λ (k : AccessKind). is_allowed cfg (rights_at place) k) c.kind_at.ensures in (
      length-set table place c.allowed.result ∙ c.loop-place.invariant.0,
      λ m lt. subst (λ v. get_or (set table place v) m false ≡ f m) (sym told)
          (filled table place f (omega (arith, c.loop-place-test.true, c.loop-place.invariant.0)) c.loop-place.invariant.1 m lt),
    )

pub returns : goal.returns
returns c =
    let cfg = c.args.cfg in record {
      length = c.loop-place.invariant.0;
      tells = λ rights kind.
          let back = place_back rights kind in
          c.loop-place.invariant.1 (place_of rights kind) (omega (arith, place_within rights kind, c.loop-place-test.false))
          ∙ ap (λ (r : Rights). is_allowed cfg r (kind_at (place_of rights kind))) back.0 ∙ ap (λ (k : AccessKind). is_allowed cfg rights k) back.1;
    }
