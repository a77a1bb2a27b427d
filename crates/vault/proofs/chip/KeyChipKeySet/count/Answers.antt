-- A one for each word that is not 0, and nothing for the others.
use Rattle.std.proofs.Common.{◌==◌, ◌≤◌, ◌∙◌, not, cond, length, ap, rules, arith}
use Rattle.std.proofs.lemmas.Iterator.{YieldsList-from_slice, YieldsList-from_map}
use Rattle.std.proofs.lemmas.Iterator.Consumers.{YieldsList-at, sum_by_from_yields_List, fits_by_from_yields_list}
use borrow.Author.Tests.{tests}
use Rattle.vault.specs.Serials.{collect}
use Rattle.vault.proofs.Words.{count-words, length-collect}
use Rattle.vault.proofs.chip.KeyChipKeySet.count.Goals as goal

pub returns : goal.returns
returns c =
    let words = c.words.result.now in
    sum_by_from_yields_List (λ word. cond (not (word == 0)) 1 0) words c.map.result _ c.sum.ensures.ran
    (YieldsList-from_map _ (λ word. cond (not (word == 0)) 1 0) (YieldsList-at c.map.ensures.source (YieldsList-from_slice words cc)) c.map.ensures.closure (λ x r q k. search (rules, tests)))
    ∙ count-words words ∙ ap (λ ws. length (collect ws)) c.words.ensures

pub sum-requires-clause-fits : goal.sum-requires-clause-fits
sum-requires-clause-fits c =
    let words = c.words.result.now in
    let n = count-words words in
    let l = length-collect words in
    let few : length words ≤ 64 = search rules in
    fits_by_from_yields_list (λ word. cond (not (word == 0)) 1 0) words c.map.result _
    (YieldsList-from_map _ (λ word. cond (not (word == 0)) 1 0) (YieldsList-at c.map.ensures.source (YieldsList-from_slice words cc)) c.map.ensures.closure (λ x r q k. search (rules, tests)))
    (omega (arith, n, l, few))
