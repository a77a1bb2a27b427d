use Rattle.std.proofs.Common.{rules}
use Rattle.numerals.proofs.Digits.{converted}
use Rattle.numerals.proofs.number_in.Goals as goal

pub returns : goal.returns
returns c =
    let h = converted c.args.radix c.args.digits.now _ c.requires.high (search rules) c.from_str_radix.ensures.value in
    search rules
