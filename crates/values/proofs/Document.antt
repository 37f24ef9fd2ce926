-- Both sides of the one inequality, L and faithful are for each kind what document 01 writes, nearest is the same with halves, and whole is
-- L's line with =.
use mathlib.Core.Path.{◌≡◌, refl, sym, ap₂, transport}
use mathlib.Core.Logic.{◌⊎◌, ◌↔◌, inl, inr, ⊎_elim}
use Prim.Native.Nat.{ℕ, zero, suc, ◌+◌, ◌-◌, ◌*◌, ◌^◌, ◌≤◌, ◌<◌}
use native.Mathlib.Nat.{one-mul, mul_comm}
use native.Mathlib.Omega.{arith}
use lib.Pow.{pow-add}
use Rattle.values.specs.Rows.{rows, kinds, row_of}
use Rattle.values.specs.Exact.{num, den, number_side, value_side, AtMost, Exactly, Greatest}
use Rattle.values.specs.Floor.{floor_value}
use Rattle.values.specs.Inputs.{InRange}
use Rattle.values.specs.Document.{SidesSaid, FloorSaid, ToldWhole, WholeSaid, Between, WordSaid, Document}
use Rattle.values.proofs.FloorLaws.{floor-greatest, whole_is}
use Rattle.values.proofs.NewtonLaws.{first-power}
use Rattle.values.proofs.WidthLaws.{row_lawful}

sides-said : (kind w s X n : ℕ) → SidesSaid kind w s X n
unfolding rows row_of num den number_side value_side
sides-said kind w s X n =
    record {
      reciprocal = λ e. rw e (ap₂ (λ (a b : ℕ). a * b) (first-power n) (one-mul X), sym (pow-add 2 s w));
      root = ⊎_elim
          (λ (e : kind ≡ 1). rw e (refl, mul_comm (4 ^ s) (1 * X)))
          (λ (e : kind ≡ 2). rw e (refl, mul_comm (4 ^ s) (2 * X)));
      reciprocal-root = ⊎_elim (λ (e : kind ≡ 3). rw e (refl, refl)) (λ (e : kind ≡ 4). rw e (refl, refl));
    }

-- The greatest number with a property is the greatest with the same property in other words.
reworded : {A B : ℕ → Type 0} {L : ℕ} → ((n : ℕ) → A n ≡ B n) → Greatest A L → Greatest B L
reworded {L} same g =
    record { holds = transport (same L) g.holds; greatest = λ m h. g.greatest m (transport (sym (same m)) h) }

both-sides : {a b c d : ℕ} → (a ≡ c) × (b ≡ d) → (a ≤ b) ≡ (c ≤ d)
both-sides e = ap₂ (λ (x y : ℕ). x ≤ y) e.0 e.1

floor-said : (kind w P X : ℕ) → InRange w X → FloorSaid kind w P X
unfolding rows kinds
floor-said kind w P X range =
    record {
      reciprocal = λ e. reworded (λ n. both-sides ((sides-said kind w P X n).reciprocal e)) (floor (omega arith));
      root = λ e.
          reworded (λ n. both-sides ((sides-said kind w P X n).root e))
          (floor (⊎_elim (λ (h : kind ≡ 1). omega arith) (λ (h : kind ≡ 2). omega arith) e));
      reciprocal-root = λ e.
          reworded (λ n. both-sides ((sides-said kind w P X n).reciprocal-root e))
          (floor (⊎_elim (λ (h : kind ≡ 3). omega arith) (λ (h : kind ≡ 4). omega arith) e));
    }
  where
    floor : kind < kinds → Greatest (AtMost (row_of kind) w P X) (floor_value (row_of kind) w P X)
    floor h = floor-greatest (row_of kind) (row_lawful kind h) w P X range

whole-said : (kind w P X n : ℕ) → InRange w X → WholeSaid kind w P X n
unfolding rows kinds
whole-said kind w P X n range =
    let sides = sides-said kind w P X n in
    record {
      reciprocal = λ e. rw ((sides.reciprocal e).0, (sides.reciprocal e).1) at (whole (omega arith));
      root = λ e.
          rw ((sides.root e).0, (sides.root e).1)
          at (whole (⊎_elim (λ (h : kind ≡ 1). omega arith) (λ (h : kind ≡ 2). omega arith) e));
      reciprocal-root = λ e.
          rw ((sides.reciprocal-root e).0, (sides.reciprocal-root e).1)
          at (whole (⊎_elim (λ (h : kind ≡ 3). omega arith) (λ (h : kind ≡ 4). omega arith) e));
    }
  where
    whole : kind < kinds → ToldWhole kind w P X n ↔ Exactly (row_of kind) w P X n
    whole h = whole_is (row_of kind) (row_lawful kind h) w P X range n

-- Every kind is one of the three forms.
form : (kind : ℕ) → kind < kinds → (kind ≡ 0) ⊎ (((kind ≡ 1) ⊎ (kind ≡ 2)) ⊎ ((kind ≡ 3) ⊎ (kind ≡ 4)))
unfolding rows kinds
form zero h = inl refl
form (suc zero) h = inr (inl (inl refl))
form (suc (suc zero)) h = inr (inl (inr refl))
form (suc (suc (suc zero))) h = inr (inr (inl refl))
form (suc (suc (suc (suc zero)))) h = inr (inr (inr refl))
form (suc (suc (suc (suc (suc n))))) h = absurd (omega arith)

-- The exact value between two numbers, in the one form and in the document's
module _ (◌≺◌ : ℕ → ℕ → Type 0) where
  infix 50 ◌≺◌
  module _ (w s X low high kind : ℕ) where
    abbrev Sides : Type 0
    Sides = (number_side (row_of kind) w X low ≺ value_side (row_of kind) w s X)
        × (value_side (row_of kind) w s X ≺ number_side (row_of kind) w X high)

    pub said : Sides → Between ◌≺◌ kind (row_of kind).c w s X low high
    said bounds =
        let l = sides-said kind w s X low in
        let h = sides-said kind w s X high in
        record {
          reciprocal = λ e. rw ((l.reciprocal e).0, (l.reciprocal e).1, (h.reciprocal e).0) at bounds;
          root = λ e. rw ((l.root e).0, (l.root e).1, (h.root e).0) at bounds;
          reciprocal-root = λ e. rw ((l.reciprocal-root e).0, (l.reciprocal-root e).1, (h.reciprocal-root e).0) at bounds;
        }

    unsaid : kind < kinds → Between ◌≺◌ kind (row_of kind).c w s X low high → Sides
    unsaid known b =
        let l = sides-said kind w s X low in
        let h = sides-said kind w s X high in
        ⊎_elim (λ e. rw ((l.reciprocal e).0, (l.reciprocal e).1, (h.reciprocal e).0) (b.reciprocal e))
        (⊎_elim (λ e. rw ((l.root e).0, (l.root e).1, (h.root e).0) (b.root e))
        (λ e. rw ((l.reciprocal-root e).0, (l.reciprocal-root e).1, (h.reciprocal-root e).0) (b.reciprocal-root e)))
        (form kind known)

word-said : (kind w q X y : ℕ) → kind < kinds → WordSaid kind w q X y
word-said kind w q X y known =
    record {
      faithful = (
        λ f. (f.positive, said ◌<◌ w q X (y - 1) (y + 1) kind (f.low, f.high)),
        λ p. let b = unsaid ◌<◌ w q X (y - 1) (y + 1) kind known p.1 in record { positive = p.0; low = b.0; high = b.1 },
      );
      nearest = (
        λ n. (n.positive, said ◌≤◌ w (q + 1) X (2 * y - 1) (2 * y + 1) kind (n.low, n.high)),
        λ p.
            let b = unsaid ◌≤◌ w (q + 1) X (2 * y - 1) (2 * y + 1) kind known p.1 in
            record { positive = p.0; low = b.0; high = b.1 },
      );
    }

pub document : Document
unfolding rows row_of
document = record { c = refl; sides = sides-said; floor = floor-said; whole = whole-said; word = word-said }
