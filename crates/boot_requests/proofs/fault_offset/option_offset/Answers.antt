use Rattle.std.proofs.Common.{ℕ, ◌+◌, ap}
use Rattle.boot_requests.specs.Reader.{raw_of}
use Rattle.boot_requests.proofs.Frames.OptionPlaces.{offset_behind, option_of_a_kind}
use Rattle.boot_requests.proofs.fault_offset.option_offset.Goals as goal

pub returns-in_default-from_bytes : goal.returns-in_default-from_bytes
returns-in_default-from_bytes c = λ fault first.
    let raw = c.in-Some.raw in
    absurd (option_of_a_kind c.args.bytes.now (raw_of raw.magic raw.version raw.kind raw.number raw.len raw.payload.now) c.in-Some.ensures.found fault
    c.in_default-from_bytes.ensures.none first)

pub returns : goal.returns
returns c = λ fault first.
    let raw = c.in-Some.raw in
    let found = c.in-Some-from_bytes.ensures.found in
    offset_behind c.args.bytes.now (raw_of raw.magic raw.version raw.kind raw.number raw.len raw.payload.now) c.in-Some.ensures.found fault
    c.in-Some-from_bytes.kind (12 + c.option_place.result) found.0 found.1 (ap (λ (n : ℕ). 12 + n) c.option_place.ensures) first
