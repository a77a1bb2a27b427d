-- What is left is neither nothing nor the one word, so it is the words of neither standing.
use Rattle.std.proofs.Common.{◌≢◌, ℕ, Bool, true, false, List, codes, rules}
use Rattle.rules.specs.declared.row.Standing.{Standing}
use Rattle.rules.specs.declared.row.Standing.TheVariants.{Shared, SingleUser}
use Rattle.lines.specs.Line.{where_true}
use Rattle.lines.specs.Spelling.{standing_words}
use Rattle.lines.proofs.methods.standing.Goals as goal

neither : (ws : List (List ℕ)) → ((stands : Bool) → ws ≢ where_true stands (codes "single")) → (standing : Standing) → ws ≢ standing_words standing
neither ws h Shared = h false
neither ws h SingleUser = h true

pub returns-in_err-ends_with-clause-refused : goal.returns-in_err-ends_with-clause-refused
returns-in_err-ends_with-clause-refused c = let h = neither _ c.in_err-ends_with.ensures in search rules
