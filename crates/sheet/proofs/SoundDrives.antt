-- A drive is in order just where the checks find no fault.
use Rattle.std.proofs.Common.{◌≡◌, ◌<◌, ◌≤◌, true, false, not, ◌||◌, length, sym, refl, ap, ◌∙◌}
use Rattle.std.proofs.lemmas.Bool.{or_parts, or_from, not-false, not_from_true, true≢false}
use Rattle.std.proofs.lemmas.List.Elements.{All-from_get_or}
use Rattle.std.specs.List.{list_any}
use Rattle.packed.specs.Rising.{rises}
use Rattle.vault.specs.Kinds.{can_be_capacity}
use Rattle.vault.specs.Meaning.{sound}
use Rattle.vault.specs.Serials.{distinct}
use Rattle.rules.specs.declared.row.Kind.{Kind}
use Rattle.rules.specs.declared.row.Kind.TheVariants.{Free, Global, UnitRow, RangeRow}
use Rattle.rules.specs.Drive.{Drive}
use Rattle.rules.specs.Rows.{free_row, row, is_a_unit_row, is_range_row, unit_or, numbered}
use Rattle.rules.specs.Sound.{row_fits, row_key, serials, policy_fits, Sound}
use Rattle.rules.specs.Units.{valid}
use Rattle.rules.proofs.RowsKept.{fits-exists}
use Rattle.sheet.specs.Loading.{one_of, unit_faults, kind_faults, relation_faults, holds_just}
use Rattle.sheet.proofs.Relations.{GoodRows, rows-sound, rows-no-faults}
use Rattle.sheet.proofs.SerialChecks.{key-below, keys-sound, just-these, units-given, row-given}
use Rattle.sheet.proofs.UnitChecks.{units-sound, exists-valid, units-no-faults}

-- what the checks of a sheet beside a vault show of the drive that it describes
pub record Faultless (d : Drive) : Type 0 where
  pub usable : d.closed ≡ false
  pub capacity : can_be_capacity d.vault.capacity ≡ true
  pub next : (0 < d.next) × (d.next ≤ 4294967295)
  pub policy : policy_fits d.policy d.rows ≡ true
  pub few : length d.units ≤ 16
  pub seventeen : length d.rows ≡ 17
  pub units : list_any (λ u. one_of (unit_faults d.numbering d.next u)) d.units ≡ false
  pub rows : GoodRows d.numbering d.next d.rows
  pub relations : one_of (relation_faults d.units d.rows) ≡ false
  pub just : holds_just (serials d.units d.rows) d.vault ≡ true
  pub meaning : sound d.vault ≡ true

module _ (d : Drive) where
  pub drive-sound : Faultless d → Sound d
  drive-sound h =
      let p = or_parts (not (rises (λ u. u.number) 0 d.units)) _ h.relations in
      let q = or_parts (not (distinct (serials d.units d.rows))) _ p.1 in
      let r = or_parts (list_any (λ entry. one_of (kind_faults d.units d.rows entry.0 entry.1.kind)) (numbered d.rows)) false q.1 in
      let u = units-sound d.numbering d.next d.units h.few (not-false _ p.0) h.units in
      record {
        usable = h.usable;
        capacity = h.capacity;
        next = h.next;
        policy = h.policy;
        units = u.0;
        rows = rows-sound d.units d.rows d.numbering d.next h.seventeen h.rows r.0;
        keys = keys-sound d.next d.vault d.units d.rows h.meaning h.just u.1 (All-from_get_or (λ r. row_key r < d.next) d.rows free_row (λ i l. key-below d.next (row i d.rows) h.next.0 (h.rows i).given));
      }

  numbers : Sound d → (kind : Kind) → row_fits d.units d.rows kind ≡ true → (is_a_unit_row kind || is_range_row kind) ≡ true → valid d.numbering (unit_or kind d.numbering.mark) ≡ true
  numbers h Free f t = absurd (true≢false (sym t))
  numbers h Global f t = absurd (true≢false (sym t))
  numbers h (UnitRow u) f t = exists-valid d.numbering d.next d.units h.units u f
  numbers h (RangeRow u s l k) f t = exists-valid d.numbering d.next d.units h.units u (fits-exists d.units d.rows u s l k f)

  pub drive-no-faults : Sound d → Faultless d
  drive-no-faults h = record {
    usable = h.usable;
    capacity = h.capacity;
    next = h.next;
    policy = h.policy;
    few = h.units.few;
    seventeen = h.rows.seventeen;
    units = units-no-faults d.numbering d.next d.units h.units (units-given d h);
    rows = λ i. record {
      global = λ e. ap (λ k. (row k d.rows).kind) e ∙ h.rows.global;
      others = h.rows.others i;
      blanks = h.rows.blanks i;
      given = row-given d h i;
      numbers = numbers h (row i d.rows).kind (h.rows.each i);
    };
    relations = or_from _ _ (not_from_true _ h.units.ordered) (or_from _ _ (not_from_true _ h.keys.apart) (or_from _ false (rows-no-faults d.units d.rows h.rows) refl));
    just = just-these d.next d.vault (serials d.units d.rows) h.keys;
    meaning = h.keys.meaning;
  }
