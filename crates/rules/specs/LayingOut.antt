-- Laying a table out blank.
use Rattle.std.specs.Prelude.{Bool, not, List, [], ◌∷◌, length, replicate, is_some, Option, nat_lt}
use Rattle.vault.specs.Checks.{first_of, answer}
use Rattle.vault.specs.Kinds.{can_be_capacity}
use Rattle.vault.specs.Meaning.{Meaning}
use Rattle.rules.specs.declared.cause.Cause.{Cause}
use Rattle.rules.specs.declared.cause.Cause.TheVariants.{Closed}
use Rattle.rules.specs.declared.numbering.Bounds.{Bounds}
use Rattle.rules.specs.Causes.{Done}
use Rattle.rules.specs.Drive.{Drive}
use Rattle.rules.specs.Rows.{free_row, global_row}

-- the vault can't serve, or it holds a key already
abbrev pub fresh_checks : Meaning → List (Bool × Cause)
fresh_checks vault =
    (not (can_be_capacity vault.capacity), Closed)
    ∷ (nat_lt 0 (length vault.held), Closed)
    ∷ []

abbrev pub fresh_refusal : Meaning → Option Cause
fresh_refusal vault = first_of (fresh_checks vault)

abbrev pub fresh_check : Meaning → Done
fresh_check vault = answer (fresh_refusal vault) tt

-- no units and free rows; closed where the check refuses
abbrev pub fresh : Bounds → Meaning → Drive
fresh bounds vault = record {
  closed = is_some (fresh_refusal vault);
  numbering = bounds;
  units = [];
  rows = global_row ∷ replicate 16 free_row;
  next = 1;
  policy = 1;
  vault = vault;
}
