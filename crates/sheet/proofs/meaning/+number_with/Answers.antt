use Rattle.std.proofs.Common.{ℕ, arith, ap, cond}
use Rattle.sheet.proofs.Bits.{number-none, number-first}
use Rattle.sheet.proofs.meaning.+number_with.Goals as goal

pub returns-in-empty-clause-number : goal.returns-in-empty-clause-number
returns-in-empty-clause-number t c = number-none c.args.bits.now c.in-empty.len_below

pub returns-then-bit-clause-number : goal.returns-then-bit-clause-number
returns-then-bit-clause-number t c =
    let bit = ap {B = ℕ} (λ b. cond b 1 0) c.if-bit.true in
    omega (arith, bit, number-first c.args.bits.now c.in-len1-up.len_at_least)

pub returns-else-bit-clause-number : goal.returns-else-bit-clause-number
returns-else-bit-clause-number t c =
    let bit = ap {B = ℕ} (λ b. cond b 1 0) c.if-bit.false in
    omega (arith, bit, number-first c.args.bits.now c.in-len1-up.len_at_least)
