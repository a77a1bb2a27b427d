use Rattle.std.proofs.Common.{◌≡◌, ◌+◌, ◌++◌, length, ap, ◌∙◌, arith}
use Rattle.byteorder.specs.Endian.{big_bytes}
use Rattle.fields.specs.Fields.{number_at}
use Rattle.fields.proofs.Bytes.{number_at-front, number_at-skip}
use Rattle.fields.proofs.laws.written_is_read_back.Goals as goal

pub returns : goal.returns
returns c front k n rest fits =
    let place : length front ≡ length front + 0 = omega arith in
    ap (λ p. number_at p k (front ++ (big_bytes k n ++ rest))) place ∙ number_at-skip front 0 k (big_bytes k n ++ rest) ∙ number_at-front k n rest fits
