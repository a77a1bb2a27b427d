use Rattle.std.proofs.Common.{◌≡◌, ◌+◌, ◌∷◌, take}
use Rattle.layout.specs.View.{drive}
use Rattle.rules.specs.Drive.{Drive}
use Rattle.rules.specs.FreshKeys.{fresh_keys}
use Rattle.table.proofs.state.Table.give_fresh_keys.Given as goal

-- those before the index have fresh keys
abbrev pub invariant-loop-holder : goal.invariant-loop-holder
invariant-loop-holder g l =
    let now : Drive = drive l.self.content.layout l.self.content.closed g.N.Numbering.BOUNDS (g.V.KeySet.meaning l.self.vault.now) in
    let was : Drive = drive l.fn.self.content.layout l.fn.self.content.closed g.N.Numbering.BOUNDS (g.V.KeySet.meaning l.fn.self.vault.now) in
    (now ≡ fresh_keys was (take l.holder-index l.fn.holders))
    × (l.self.content.layout.next ≡ l.fn.self.content.layout.next + l.holder-index)
    × ((l.self.vault.ghost_name ∷ g.V.KeySet.lenders l.self.vault.now) ≡ (l.fn.self.vault.ghost_name ∷ g.V.KeySet.lenders l.fn.self.vault.now))
