-- Of the vault Assign and Create ask only how many keys it has room for.
use Rattle.std.proofs.Common.{◌≡◌, ◌-◌, ℕ, length, refl, arith}
use Rattle.rules.specs.declared.row.Standing.{Standing}
use Rattle.rules.specs.Drive.{Drive, with_vault, unused_keys}
use Rattle.rules.specs.Commands.{create_answer}
use Rattle.rules.specs.Methods.{assign_answer}
use Rattle.content.specs.Rooms.{room_for}

module _ (d : Drive) (unused : ℕ) (e : unused ≡ unused_keys d) where
  as-many : unused - 0 ≡ d.vault.capacity - length d.vault.held
  as-many = omega (arith, e)

  pub assign-by-room : (caller n start len : ℕ) (standing : Standing)
      → assign_answer (with_vault (room_for unused) d) caller n start len standing ≡ assign_answer d caller n start len standing
  assign-by-room caller n start len standing = rw as-many refl

  pub create-by-room : (n blocks : ℕ) → create_answer (with_vault (room_for unused) d) n blocks ≡ create_answer d n blocks
  create-by-room n blocks = rw as-many refl
