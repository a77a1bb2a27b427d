-- One more word adds its row's bit, and no word more leaves the selection.
use Rattle.std.proofs.Common.{◌∷◌, [], rules}
use Rattle.std.proofs.lemmas.Nat.{one_shl}
use Rattle.lines.proofs.methods.selection.Goals as goal

pub loop-word-preserved : goal.loop-word-preserved
loop-word-preserved c = λ rows writes below.
    let row = c.in_ok-row.row in
    let bit = one_shl row 32 c.if-row-ge-BITS.false in
    let all = c.loop-word.invariant (row ∷ rows) (search rules) (c.if-row-ge-BITS.false, below) in
    search rules

pub returns : goal.returns
returns c = c.loop-word.invariant [] (search rules) tt
