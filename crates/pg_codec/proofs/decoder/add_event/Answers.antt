use Rattle.std.proofs.Common.{◌≡◌, Ok, ◌∙◌, ap, subst, arith}
use Rattle.pg_event.specs.Heads.{Head}
use Rattle.pg_event.specs.Reading.{last_tag, processor_at}
use Rattle.pg_event.specs.declared.version.Version.{Version}
use Rattle.pg_codec.proofs.Adding.{adds_event}
use Rattle.pg_codec.proofs.decoder.add_event.Goals as goal

pub returns-clause-added : goal.returns-clause-added
returns-clause-added c =
    let version = ap (λ (h : Head). h.version) c.header.view_is in
    adds_event c.args.header.now c.args.bytes.now _ _ c.in-Ok.tag c.in-Ok-processor_number.p c.last_tag.result _ _ _ c.in-Ok.ensures (omega (arith, c.if-tag-lt16.false)) (omega (arith, c.if-tag-last_tag.false)) (c.last_tag.ensures.value ∙ ap last_tag version)
    (subst (λ (v : Version). processor_at v c.in-Ok.rest.now ≡ Ok (c.in-Ok-processor_number.p, c.in-Ok-processor_number.rest.now)) version c.in-Ok-processor_number.ensures) c.add_fields.ensures.added
