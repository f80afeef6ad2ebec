-- The flags of an access and what they say.
use Rattle.std.proofs.Common.{◌≡◌, ℕ, zero, suc, ◌%◌, ◌<◌, ◌≢◌, Bool, true, false, refl, arith}
use Rattle.pg_entry.specs.declared.Op.{Op}
use Rattle.pg_entry.specs.declared.Op.TheVariants as ops
use Rattle.pg_entry.specs.declared.AccessKind.{AccessKind}
use Rattle.pg_event.specs.Form.{access_kind, flags_of}
use Rattle.pg_event.specs.Laws.{FlagsAreTold}

kind_told : (op : Op) (user ac : Bool) → let kind : AccessKind = record { op = op; user = user; ac = ac } in access_kind (flags_of kind) ≡ kind
kind_told ops.Read false false = refl
kind_told ops.Read false true = refl
kind_told ops.Read true false = refl
kind_told ops.Read true true = refl
kind_told ops.Write false false = refl
kind_told ops.Write false true = refl
kind_told ops.Write true false = refl
kind_told ops.Write true true = refl
kind_told ops.Fetch false false = refl
kind_told ops.Fetch false true = refl
kind_told ops.Fetch true false = refl
kind_told ops.Fetch true true = refl

told : (flags : ℕ) → flags < 16 → flags % 4 ≢ 3 → flags_of (access_kind flags) ≡ flags
told zero below op = refl
told (suc zero) below op = refl
told (suc (suc zero)) below op = refl
told (suc (suc (suc zero))) below op = absurd (op refl)
told (suc (suc (suc (suc zero)))) below op = refl
told (suc (suc (suc (suc (suc zero))))) below op = refl
told (suc (suc (suc (suc (suc (suc zero)))))) below op = refl
told (suc (suc (suc (suc (suc (suc (suc zero))))))) below op = absurd (op refl)
told (suc (suc (suc (suc (suc (suc (suc (suc zero)))))))) below op = refl
told (suc (suc (suc (suc (suc (suc (suc (suc (suc zero))))))))) below op = refl
told (suc (suc (suc (suc (suc (suc (suc (suc (suc (suc zero)))))))))) below op = refl
told (suc (suc (suc (suc (suc (suc (suc (suc (suc (suc (suc zero))))))))))) below op = absurd (op refl)
told (suc (suc (suc (suc (suc (suc (suc (suc (suc (suc (suc (suc zero)))))))))))) below op = refl
told (suc (suc (suc (suc (suc (suc (suc (suc (suc (suc (suc (suc (suc zero))))))))))))) below op = refl
told (suc (suc (suc (suc (suc (suc (suc (suc (suc (suc (suc (suc (suc (suc zero)))))))))))))) below op = refl
told (suc (suc (suc (suc (suc (suc (suc (suc (suc (suc (suc (suc (suc (suc (suc zero))))))))))))))) below op = absurd (op refl)
told (suc (suc (suc (suc (suc (suc (suc (suc (suc (suc (suc (suc (suc (suc (suc (suc n)))))))))))))))) below op = absurd (omega arith)

pub flags_are_told : FlagsAreTold
flags_are_told = record { kind = λ kind. kind_told kind.op kind.user kind.ac; flags = told }
