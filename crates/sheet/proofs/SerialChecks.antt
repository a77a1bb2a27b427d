-- The checks of the keys: the vault holds just the serials of the units and of the range rows.
use Rattle.std.proofs.Common.{◌≡◌, ℕ, suc, ◌<◌, ◌⊎◌, true, false, not, ◌&&◌, ◌||◌, eqb, leb, List, [], ◌∷◌, map, length, get_or, sym, refl, ap, ◌∙◌, subst, inl, inr, ⊎_elim, arith}
use Rattle.std.proofs.lemmas.Bool.Decides.{nat_tests, same_from_decides}
use Rattle.std.proofs.lemmas.Bool.{cases_eq, and_parts, and_from, or_from, eqb-true, eq-eqb, ne_eqb, lt-leb, true≢false}
use Rattle.std.proofs.lemmas.List.Elements.{All-append, All-map, All-from_get_or, All-from_recursion, recursion_from_All}
use Rattle.std.proofs.lemmas.List.Sums.{AllPass-from_list_all, list_all-from_AllPass}
use Rattle.std.proofs.lemmas.Slice.Eq.{bytes_eq-Decides}
use Rattle.std.specs.List.{All, count_by, list_all}
use Rattle.packed.specs.Rising.{rises, has}
use Rattle.vault.specs.Meaning.{Meaning, sound}
use Rattle.vault.specs.Serials.{holds, collect, distinct}
use Rattle.vault.proofs.Requests.{rises as rises-held}
use Rattle.vault.proofs.Words.{holds-collect, rises-collect, count-words}
use Rattle.rules.specs.declared.row.Kind.{Kind}
use Rattle.rules.specs.declared.row.Kind.TheVariants.{Free, Global, UnitRow, RangeRow}
use Rattle.rules.specs.declared.row.Row.{Row}
use Rattle.rules.specs.declared.unit.Holder.TheVariants.{TheRow}
use Rattle.rules.specs.declared.unit.LogicalUnit.{LogicalUnit}
use Rattle.rules.specs.Drive.{Drive, kind_of}
use Rattle.rules.specs.FreshKeys.{key_of}
use Rattle.rules.specs.Rows.{row, is_range_row, key_or}
use Rattle.rules.specs.Sound.{unit_fits, serial_of, row_key, serials, SoundKeys, Sound}
use Rattle.rules.specs.Units.{no_unit}
use Rattle.rules.proofs.Places.{key-held, key-nonzero, words_long, unit-word}
use Rattle.rules.proofs.Keys.{holds_at, make-keys, word_held}
use Rattle.rules.proofs.Lookups.{all_lookup, lookup_key, has-from}
use Rattle.sheet.specs.Loading.{bad_serial, holds_just}

-- ---- from the checks
-- what holds of all the words holds of one that is held
of-held : (P : ℕ → Type 0) (s : ℕ) (words : List ℕ) → All P words → holds s words ≡ true → P s
of-held P s words each h = subst P (lookup_key (λ w. w) s words 0 h) (all_lookup (λ w. w) P s words 0 h (recursion_from_All P words each))

pub keys-sound : (next : ℕ) (vault : Meaning) (units : List LogicalUnit) (rows : List Row) → sound vault ≡ true → holds_just (serials units rows) vault ≡ true
    → All (λ u. u.serial < next) units → All (λ r. row_key r < next) rows → SoundKeys next vault (serials units rows)
keys-sound next vault units rows ok just a b =
    let words = serials units rows in
    let held = (bytes_eq-Decides vault.held (collect words)).0 just in
    let each = All-append (λ w. w < next) (map serial_of units) (map row_key rows) (All-map (λ w. w < next) serial_of units a) (All-map (λ w. w < next) row_key rows b) in
    make-keys next vault words ok held (λ s t.
    let c = holds-collect s words in
    let q : holds s (collect words) ≡ true = ap (holds s) (sym held) ∙ t in
    of-held (λ w. w < next) s words each (grind (arith, nat_tests)))

-- a row's serial was given, or it has none
pub key-below : (next : ℕ) (r : Row) → 0 < next → (is_range_row r.kind ≡ true → bad_serial next (row_key r) ≡ false) → row_key r < next
key-below next r p good = go r.kind good
  where
    go : (kind : Kind) → (is_range_row kind ≡ true → bad_serial next (key_or kind 0) ≡ false) → key_or kind 0 < next
    go Free g = p
    go Global g = p
    go (UnitRow u) g = p
    go (RangeRow u s l k) g = let f = g refl in grind (arith, nat_tests)

-- ---- to the checks
-- the vault holds these serials and no others
pub just-these : (next : ℕ) (vault : Meaning) (words : List ℕ) → SoundKeys next vault words → holds_just words vault ≡ true
just-these next vault words k = (bytes_eq-Decides vault.held (collect words)).1 k.held

module _ (d : Drive) (h : Sound d) where
  pub units-given : All (λ u. u.serial < d.next) d.units
  units-given = All-from_get_or (λ u. u.serial < d.next) d.units no_unit (λ i l.
      let u : LogicalUnit = get_or d.units i no_unit in
      let f : unit_fits d.numbering u ≡ true = All-from_recursion (λ u. unit_fits d.numbering u ≡ true) d.units h.units.each i no_unit l in
      let p : 0 < u.serial = grind (arith, nat_tests) in
      h.keys.given u.serial (word_held d.next d.vault (serials d.units d.rows) h.keys i u.serial (omega (arith, words_long d.units d.rows)) (unit-word d.units d.rows i l) (λ e. omega arith)))

  pub row-given : (r : ℕ) → is_range_row (kind_of d r) ≡ true → bad_serial d.next (row_key (row r d.rows)) ≡ false
  row-given r v =
      let k = key_of d (TheRow r) in
      or_from (eqb k 0) (leb d.next k) (ne_eqb k 0 (key-nonzero d h (TheRow r) v)) (lt-leb d.next k (h.keys.given k (key-held d h (TheRow r) v)))

-- ---- what the vault is asked: for each word, and how many keys it holds
-- of two rising lists, the one that holds the numbers of the other is longer, or is the other
among : (low : ℕ) (xs ys : List ℕ) → rises (λ x. x) low xs ≡ true → rises (λ y. y) low ys ≡ true → ((s : ℕ) → holds s xs ≡ true → holds s ys ≡ true)
    → (length xs < length ys) ⊎ (xs ≡ ys)
unfolding rises has
among low [] [] r q sub = inr refl
among low (x ∷ xs) [] r q sub = absurd (true≢false (sym (sub x (ap (λ b. b || holds x xs) (eq-eqb x x refl)))))
among low [] (y ∷ ys) r q sub = inl (omega arith)
among low (x ∷ xs) (y ∷ ys) r q sub =
    let rest : rises (λ z. z) (suc x) xs ≡ true = grind (arith, nat_tests) in
    let others : rises (λ z. z) (suc y) ys ≡ true = grind (arith, nat_tests) in
    elim (cases_eq x y) [
      | inl e ↦ ⊎_elim
          (λ l. inl (omega arith))
          (λ same. inr (ap (λ z. z ∷ xs) e ∙ ap (λ zs. y ∷ zs) same))
          (among (suc y) xs ys (subst (λ z. rises (λ w. w) (suc z) xs ≡ true) e rest) others (λ s t.
          let g = has-from (λ z. z) s (suc x) xs rest t in
          let h = sub s in
          grind (arith, nat_tests)))
      | inr n ↦
          let here = sub x in
          let there : holds x ys ≡ true = grind (arith, nat_tests) in
          let above = has-from (λ z. z) x (suc y) ys others there in
          let all : rises (λ z. z) (suc y) (x ∷ xs) ≡ true = grind (arith, nat_tests) in
          ⊎_elim (λ l. inl (omega arith)) (λ same. inl (omega (arith, ap length same))) (among (suc y) (x ∷ xs) ys all others (λ s t.
          let g = has-from (λ z. z) s (suc y) (x ∷ xs) all t in
          let h = sub s t in
          grind (arith, nat_tests)))
    ]

module _ (vault : Meaning) (words : List ℕ) where
  all-covered : vault.held ≡ collect words → list_all (λ w. eqb w 0 || holds w vault.held) words ≡ true
  all-covered e = list_all-from_AllPass (λ w. eqb w 0 || holds w vault.held) words (All-from_get_or (λ w. (eqb w 0 || holds w vault.held) ≡ true) words 0 (λ i l.
      let h = holds_at words i l in
      let c = holds-collect (get_or words i 0) words in
      let held : holds (get_or words i 0) vault.held ≡ holds (get_or words i 0) (collect words) = ap (holds (get_or words i 0)) e in
      grind (arith, nat_tests)))

  no-others : sound vault ≡ true → distinct words ≡ true → list_all (λ w. eqb w 0 || holds w vault.held) words ≡ true → length vault.held ≡ length (collect words) → vault.held ≡ collect words
  no-others ok apart all long = ⊎_elim
      (λ l. absurd (let b : ⊥ = omega arith in b))
      (λ e. sym e)
      (among 1 (collect words) vault.held (rises-collect words apart) (rises-held vault ok) (λ s h.
      let p = and_parts (not (eqb s 0)) (holds s words) (sym (holds-collect s words) ∙ h) in
      let nonzero = p.0 in
      let t = of-held (λ w. (eqb w 0 || holds w vault.held) ≡ true) s words (AllPass-from_list_all (λ w. eqb w 0 || holds w vault.held) words all) p.1 in
      grind (arith, nat_tests)))

  pub counted : sound vault ≡ true → distinct words ≡ true
      → holds_just words vault ≡ (list_all (λ w. eqb w 0 || holds w vault.held) words && eqb (length vault.held) (count_by (λ w. not (eqb w 0)) words))
  counted ok apart = same_from_decides _ _ (bytes_eq-Decides vault.held (collect words)) (
    (λ t.
        let p = and_parts (list_all (λ w. eqb w 0 || holds w vault.held) words) _ t in
        no-others ok apart p.0 (eqb-true _ _ p.1 ∙ count-words words)),
    (λ e. and_from _ _ (all-covered e) (eq-eqb _ _ (ap length e ∙ sym (count-words words)))),
  )
