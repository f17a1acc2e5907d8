-- The part that the lookup hands back: within the store, and the layer. Assumes nothing.
use mathlib.Core.Path.{◌≡◌, refl, sym, ap, ap₂, ◌∙◌}
use mathlib.Core.Bool.{Bool, true, false, cond, ◌&&◌}
use mathlib.Core.List.{List, []}
use Prim.Native.Nat.{ℕ, ◌+◌, ◌^◌, ◌≤◌, ◌<◌}
use native.Mathlib.Omega.{arith}
use lib.Dec.{leb, ltb, eqb}
use lib.ListN.{length, take, drop}
use borrow.Author.Tests.{leb-true, ltb-true, lt-leb, le-leb, le-ltb, lt-ltb, ne_eqb, eq-eqb}
use Rattle.std.specs.Prelude.{Ok, Err}
use Rattle.refusal.specs.Outcome.{Outcome}
use Rattle.refusal.proofs.Checks.{both_true, first_false, second_false, each_true, equal_of_test}
use Rattle.fri.specs.Layout.{dimension, layer_start, store_length, stored_layer}
use Rattle.fri.specs.Checks.{parameters_outcome}
use Rattle.fri.specs.Lookup.{part_after, in_store, layer_part}
use Rattle.fri.proofs.Layouts.{layer_before, length_steps}
use Rattle.layout.specs.declared.Parameters.{Parameters}
use Rattle.layout.specs.declared.Part.{Part}
use Rattle.layout.specs.Parameters.{steps_by}
use Rattle.layout.specs.Lengths.{or_zeros, lengths_due, lengths_of}
use Rattle.layout.specs.Parts.{empty, or_empty, part_of, part_in}
use Rattle.layout.proofs.Sizes.{store_length_is}

stored_layer_is : (k : ℕ) (steps store : List ℕ) (i : ℕ)
    → take (2 ^ dimension k steps i) (drop (layer_start k steps i) store) ≡ stored_layer k steps store i
unfolding stored_layer
stored_layer_is k steps store i = refl

module _ (p : Parameters) (count i : ℕ) where
  abbrev pub found : Part
  found = record { start = layer_start p.k (steps_by p) i; length = 2 ^ dimension p.k (steps_by p) i }

  -- the store has a layer i
  abbrev pub has : Bool
  has = leb 1 i && ltb i (length (steps_by p)) && eqb count (store_length p.k (steps_by p))

  -- the lookup by what its two tests answer
  pub part_where : (outcome : Outcome) (test : Bool) → parameters_outcome p.k p.rate p.step ≡ outcome
      → has ≡ test → or_empty outcome (cond test found empty) ≡ part_of p count i
  part_where outcome test e f =
      sym (ap₂ (λ (o : Outcome) (t : Bool). or_empty o (cond t found empty)) e f)

  abbrev fits : Bool
  fits = eqb count (store_length p.k (steps_by p))

  -- a layer in the store
  pub part_found : parameters_outcome p.k p.rate p.step ≡ Ok tt → 1 ≤ i → i < length (steps_by p)
      → count ≡ store_length p.k (steps_by p) → found ≡ part_of p count i
  part_found e least most whole =
      let r = length (steps_by p) in
      part_where (Ok tt) true e
      (both_true (leb 1 i && ltb i r) fits (both_true (leb 1 i) (ltb i r) (le-leb 1 i least) (lt-ltb i r most))
      (eq-eqb count (store_length p.k (steps_by p)) whole))

  -- it lies within the store
  pub part_within : (part_of p count i).start + (part_of p count i).length ≤ count
  part_within = by (parameters_outcome p.k p.rate p.step) has refl
    where
      by : (outcome : Outcome) (test : Bool) → has ≡ test
          → (or_empty outcome (cond test found empty)).start + (or_empty outcome (cond test found empty)).length ≤ count
      by (Ok _) true e =
          let all = each_true (leb 1 i && ltb i (length (steps_by p))) (eqb count (store_length p.k (steps_by p))) e in
          let both = each_true (leb 1 i) (ltb i (length (steps_by p))) all.0 in
          let whole = equal_of_test count (store_length p.k (steps_by p)) all.1 in
          let least = leb-true 1 i both.0 in
          let inside = ltb-true i (length (steps_by p)) both.1 in
          let ends = layer_before p.k (steps_by p) i (length (steps_by p)) least inside in
          omega (arith, whole, store_length_is p.k (steps_by p), ends)
      by (Ok _) false e = omega arith
      by (Err cause) test e = omega arith

-- and it is the layer
pub part_taken : (p : Parameters) (store : List ℕ) (i : ℕ)
    → part_in (part_of p (length store) i) store ≡ layer_part p.k p.rate p.step store i
part_taken p store i = by (parameters_outcome p.k p.rate p.step) (in_store p.k (steps_by p) store i)
  where
    by : (outcome : Outcome) (test : Bool)
        → part_in (or_empty outcome (cond test (found p (length store) i) empty)) store
        ≡ part_after outcome (cond test (stored_layer p.k (steps_by p) store i) [])
    by (Ok _) true = stored_layer_is p.k (steps_by p) store i
    by (Ok _) false = refl
    by (Err cause) test = refl
