use Rattle.uefi_path.specs.declared.fault.NameFault.TheVariants as refusal
use Rattle.partitions.proofs.TooLong.{too_long, refusal_is}
use Rattle.partitions.proofs.file_name.loader_name.Goals as goal

pub returns-clause-fault : goal.returns-clause-fault
returns-clause-fault c =
    let same = c.in-Ok.ensures.cases.0 in
    let good = rw same at c.in_ok-units.ensures.good in
    let made = c.in_ok-units.ensures.made in
    let refused = c.in-Err-from_vec.field-0 in
    let told = c.in-Err-from_vec.ensures in
    too_long c.args.name.now refused.fault c.in-Ok.ensures.cases.1 good
    (λ at is. rw same at (rw made at
    ((told.zero_unit at).0 (refusal_is (λ fault units. record refused { fault = fault; units = units }) refused.fault
    (refusal.ZeroUnit at) refused.units c.in_ok-units.units is told.handed_back))))
    (λ is. rw same at (rw made at (told.too_long.0 (refusal_is (λ fault units. record refused { fault = fault; units = units })
    refused.fault refusal.TooLong refused.units c.in_ok-units.units is told.handed_back))))
    told.named
