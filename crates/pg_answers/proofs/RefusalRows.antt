-- Lines of refusals, to the byte.
use Rattle.std.proofs.Common.{◌≡◌, refl}
use Rattle.std.specs.Prelude.{codes}
use Rattle.std.specs.Fmt.{digits}
use Rattle.pg_event.specs.declared.event.Malformed.TheVariants.{WordAddress}
use Rattle.pg_event.specs.declared.refusal.Refusal.TheVariants.{Malformed, Truncated}
use Rattle.pg_report.specs.declared.error.AuditError.TheVariants.{Refused}
use Rattle.pg_answers.specs.Refusals.{refusal_line}

write_address_not_multiple_of_8 : refusal_line (Refused (Malformed 0 WordAddress)) ≡ codes "pcid-audit: refused 7 malformed event 0 rule 2\npcid-audit: event 0: the address of its word is not a multiple of 8, or not below 2^MAXPHYADDR\n"
unfolding digits
write_address_not_multiple_of_8 = refl

fresh_walk_without_last_byte : refusal_line (Refused Truncated) ≡ codes "pcid-audit: refused 8 truncated\npcid-audit: the input ends within a field, or before the end mark\n"
unfolding digits
fresh_walk_without_last_byte = refl
