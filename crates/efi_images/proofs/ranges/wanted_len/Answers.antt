use Rattle.std.proofs.Common.{arith}
use Rattle.efi_images.proofs.ranges.wanted_len.Goals as goal

pub returns-then-len-lt-DOS_LEN-clause-held : goal.returns-then-len-lt-DOS_LEN-clause-held
returns-then-len-lt-DOS_LEN-clause-held c = record {
  least = λ e. omega (arith, e);
  whole = λ e. omega (arith, e);
  table = λ h e. omega (arith, h.least, e);
}

pub returns-then-headers_end-len-clause-held : goal.returns-then-headers_end-len-clause-held
returns-then-headers_end-len-clause-held c = record {
  least = λ e. omega arith;
  whole = λ e. omega (arith, e);
  table = λ h e. omega (arith, h.whole, e);
}
