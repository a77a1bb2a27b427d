-- A derived `==` of an enum decides whether two values are one, where `==` does so at each variant's fields.
use Rattle.std.proofs.Common.{◌≡◌, ℕ, Bool, true, false, cond, ◌&&◌, List, [], ◌∷◌, Ok, Err, Decides, sym, refl, ap, inl, inr, rules}
use Rattle.std.proofs.lemmas.Bool.Decides.{Decides-and, Decides-eqb, Decides-like}
use Rattle.std.proofs.lemmas.Bool.{true≢false}
use Rattle.std.specs.Cmp.{booleans_Decides}
use Rattle.std.specs.Result.{result_eq}
use denote.Enum.Bare.{same_true, true_same}
use denote.Enum.Compared.{Each, by}
use denote.Enum.Declared.{Choice, Record, values_one}
use denote.Struct.Field.{Field}
use denote.Struct.Values.{Values}
use Rattle.rules.specs.declared.ask.Told.{Told}
use Rattle.rules.specs.declared.call.Accepted.{Accepted}
use Rattle.rules.specs.declared.cause.Cause.{Cause}
use Rattle.rules.specs.declared.row.Flags.{Flags}
use Rattle.rules.specs.declared.row.RowFields.{RowFields}
use Rattle.rules.specs.declared.row.Standing.{Standing}
use Rattle.rules.specs.declared.unit.Control.{Control}
use Rattle.rules.specs.Asks.{Reply}
use Rattle.rules.specs.contracts.ask.Told as told
use Rattle.rules.specs.contracts.ask.ToldPartialEq.TheImpl as told_eq
use Rattle.rules.specs.contracts.call.Accepted as accepted
use Rattle.rules.specs.contracts.call.AcceptedPartialEq.TheImpl as accepted_eq
use Rattle.rules.specs.contracts.cause.Cause as cause
use Rattle.rules.specs.contracts.cause.CausePartialEq.TheImpl as cause_eq
use Rattle.rules.specs.contracts.row.FlagsPartialEq.TheImpl as flags_eq
use Rattle.rules.specs.contracts.row.RowFieldsPartialEq.TheImpl as fields_eq
use Rattle.rules.specs.contracts.row.Standing as standing
use Rattle.rules.specs.contracts.row.StandingPartialEq.TheImpl as standing_eq
use Rattle.rules.specs.contracts.unit.ControlPartialEq.TheImpl as control_eq

-- at each variant: a variant without fields is itself, and there is nothing to show
abbrev Exact : (Fss : List (List Field)) → Each Bool Fss → Type 0
Exact [] each = Unit {0}
Exact ([] ∷ Fss) each = cond (each.0 tt tt) (Exact Fss each.1) ⊥
Exact ((F ∷ Fs) ∷ Fss) each = ((x y : Values (F ∷ Fs)) → Decides (each.0 x y) (x ≡ y)) × Exact Fss each.1

one-choice : (Fss : List (List Field)) (each : Each Bool Fss) → Exact Fss each → (c d : Choice Fss) → Decides (by false false Fss each c d) (c ≡ d)
one-choice [] each ex c d = absurd c
one-choice ([] ∷ Fss) each ex c d = go (each.0 tt tt) refl ex (one-choice Fss each.1) c d
  where
    go : (b : Bool) → each.0 tt tt ≡ b → cond b (Exact Fss each.1) ⊥
        → (Exact Fss each.1 → (c d : Choice Fss) → Decides (by false false Fss each.1 c d) (c ≡ d))
        → (c d : Choice ([] ∷ Fss)) → Decides (by false false ([] ∷ Fss) each c d) (c ≡ d)
    go false e ex later c d = absurd ex
    go true e ex later (inl x) (inl y) = (λ _. refl, λ _. e)
    go true e ex later (inl x) (inr y) = (λ p. absurd (true≢false (sym p)), λ p. cc)
    go true e ex later (inr x) (inl y) = (λ p. absurd (true≢false (sym p)), λ p. cc)
    go true e ex later (inr x) (inr y) = let r = later ex x y in (λ p. ap inr (r.0 p), λ p. r.1 cc)
one-choice ((F ∷ Fs) ∷ Fss) each ex (inl x) (inl y) = let r = ex.0 x y in (λ p. ap inl (r.0 p), λ p. r.1 cc)
one-choice ((F ∷ Fs) ∷ Fss) each ex (inl x) (inr y) = (λ p. absurd (true≢false (sym p)), λ p. cc)
one-choice ((F ∷ Fs) ∷ Fss) each ex (inr x) (inl y) = (λ p. absurd (true≢false (sym p)), λ p. cc)
one-choice ((F ∷ Fs) ∷ Fss) each ex (inr x) (inr y) = let r = one-choice Fss each.1 ex.1 x y in (λ p. ap inr (r.0 p), λ p. r.1 cc)

one-value : (N : Record) (each : Each Bool N.parts) → Exact N.parts each → (x y : N.D) → Decides (by false false N.parts each (N.as_values x) (N.as_values y)) (x ≡ y)
one-value N each ex x y =
    let r = one-choice N.parts each ex (N.as_values x) (N.as_values y) in
    (λ p. values_one N x y (r.0 p), λ p. r.1 (ap N.as_values p))

-- ---- fields one after the other
last : {A : Type 0} {p : Bool} {a b : A} → Decides p (a ≡ b) → Decides p (◌≡◌ {A = A × Unit {0}} (a, tt) (b, tt))
last d = (λ e i. (d.0 e i, tt), λ e. d.1 (ap (λ v. v.0) e))

then : {A B : Type 0} {p q : Bool} {a b : A} {x y : B} → Decides p (a ≡ b) → Decides q (x ≡ y) → Decides (p && q) (◌≡◌ {A = A × B} (a, x) (b, y))
then {p = p} {q = q} d e = Decides-like (p && q) (λ f i. (f.0 i, f.1 i)) (λ f. (ap (λ v. v.0) f, ap (λ v. v.1) f)) (Decides-and p q d e)

same-control : (a b : Control) → Decides ((control_eq.eq-value).it a b) (a ≡ b)
same-control a b = search rules

same-standing : (a b : Standing) → Decides ((standing_eq.eq-value).it a b) (a ≡ b)
same-standing a b = (same_true standing.the_type tt a b, true_same standing.the_type a b)

abbrev flag_parts : Flags → Bool × (Bool × (Bool × (Bool × Bool)))
flag_parts f = (f.read_lock_enabled, (f.write_lock_enabled, (f.read_locked, (f.write_locked, f.lock_on_reset))))

same-flags : (a b : Flags) → Decides ((flags_eq.eq-value).it a b) (a ≡ b)
same-flags a b = Decides-like ((flags_eq.eq-value).it a b)
    (λ (e : flag_parts a ≡ flag_parts b). ap (λ v. record { read_lock_enabled = v.0; write_lock_enabled = v.1.0; read_locked = v.1.1.0; write_locked = v.1.1.1.0; lock_on_reset = v.1.1.1.1 }) e)
    (ap flag_parts)
    (then (booleans_Decides a.read_lock_enabled b.read_lock_enabled) (then (booleans_Decides a.write_lock_enabled b.write_lock_enabled) (then (booleans_Decides a.read_locked b.read_locked) (then (booleans_Decides a.write_locked b.write_locked) (booleans_Decides a.lock_on_reset b.lock_on_reset)))))

abbrev field_parts : RowFields → ℕ × (ℕ × (ℕ × (ℕ × (Flags × (Bool × Standing)))))
field_parts f = (f.unit, (f.serial, (f.start, (f.length, (f.flags, (f.is_unit_row, f.standing))))))

same-fields : (a b : RowFields) → Decides ((fields_eq.eq-value).it a b) (a ≡ b)
same-fields a b = Decides-like ((fields_eq.eq-value).it a b)
    (λ (e : field_parts a ≡ field_parts b). ap (λ v. record { unit = v.0; serial = v.1.0; start = v.1.1.0; length = v.1.1.1.0; flags = v.1.1.1.1.0; is_unit_row = v.1.1.1.1.1.0; standing = v.1.1.1.1.1.1 }) e)
    (ap field_parts)
    (then (Decides-eqb a.unit b.unit) (then (Decides-eqb a.serial b.serial) (then (Decides-eqb a.start b.start) (then (Decides-eqb a.length b.length) (then (same-flags a.flags b.flags) (then (booleans_Decides a.is_unit_row b.is_unit_row) (same-standing a.standing b.standing)))))))

same-cause : (a b : Cause) → Decides ((cause_eq.eq-value).it a b) (a ≡ b)
same-cause a b = one-value cause.enum _ ((λ x y. search rules), ((λ x y. search rules), tt)) a b

same-accepted : (a b : Accepted) → Decides ((accepted_eq.eq-value).it a b) (a ≡ b)
same-accepted a b = one-value accepted.enum _ ((λ x y. search rules), ((λ x y. search rules), tt)) a b

same-told : (a b : Told) → Decides ((told_eq.eq-value).it a b) (a ≡ b)
same-told a b = one-value told.enum _ (
  (λ x y. last (same-accepted x.0 y.0)),
  ((λ x y. last (Decides-eqb x.0 y.0)), ((λ x y. last (same-control x.0 y.0)), ((λ x y. last (same-fields x.0 y.0)), tt))),
) a b

-- ---- replies
pub same-reply : (came listed : Reply) → Decides (result_eq (told_eq.eq-value).it (cause_eq.eq-value).it came listed) (came ≡ listed)
same-reply (Ok a) (Ok b) = Decides-like ((told_eq.eq-value).it a b) (ap Ok) (λ e. cc) (same-told a b)
same-reply (Ok a) (Err b) = (λ e. absurd (true≢false (sym e)), λ e. cc)
same-reply (Err a) (Ok b) = (λ e. absurd (true≢false (sym e)), λ e. cc)
same-reply (Err a) (Err b) = Decides-like ((cause_eq.eq-value).it a b) (ap Err) (λ e. cc) (same-cause a b)
