-- The layer lookup, and the layers that the judge reads. Assumes nothing.
use mathlib.Core.Path.{◌≡◌, refl, sym, ap, ◌∙◌, subst}
use mathlib.Core.Logic.{◌≢◌, ◌⊎◌, ⊎_elim}
use mathlib.Core.Bool.{Bool, false, cond, ◌&&◌}
use mathlib.Core.List.{List, []}
use Prim.Native.Nat.{ℕ, zero, suc, ◌+◌, ◌*◌, ◌-◌, ◌^◌, ◌≤◌, ◌<◌}
use native.Mathlib.Omega.{arith}
use lib.Dec.{leb, ltb, eqb}
use lib.ListN.{length, get_or, drop}
use lib.Seq.{get_or-take, get_or-drop}
use borrow.Author.Tests.{le-leb, lt-leb, lt-ltb, le-ltb, eq-eqb, ne_eqb}
use Rattle.std.specs.Prelude.{Ok, Err}
use Rattle.refusal.specs.Outcome.{Outcome}
use Rattle.refusal.proofs.Checks.{both_true, first_false, second_false}
use Rattle.fri.specs.Layout.{rounds_of, steps_of, dimension, layer_start, store_length, stored_layer}
use Rattle.fri.specs.Run.{Run, steps_in, rounds_in, layer_in}
use Rattle.fri.specs.Layers.{honest_layer, honest_store}
use Rattle.fri.specs.Checks.{parameters_outcome}
use Rattle.fri.specs.Lookup.{part_after, in_store, layer_part}
use Rattle.fri.specs.Demand.{ValidParameters, ValidCoset}
use Rattle.fri.specs.Theorems.{Lookups, SentLayers}
use Rattle.fri.proofs.Layouts as laws
use Rattle.fri.proofs.Layers.{counted}
use Rattle.fri.proofs.Cosets.{length-honest_store, honest_layers}
use Rattle.fri.proofs.Checks as checks

module _ (k rate step : ℕ) (store : List ℕ) (i : ℕ) where
  abbrev steps : List ℕ
  steps = steps_of k rate step

  abbrev test : Bool
  test = in_store k steps store i

  empty_after : (o : Outcome) → part_after o [] ≡ []
  empty_after (Ok _) = refl
  empty_after (Err cause) = refl

  empty_by : test ≡ false → layer_part k rate step store i ≡ []
  empty_by e =
      ap (λ (t : Bool). part_after (parameters_outcome k rate step) (cond t (stored_layer k steps store i) [])) e
      ∙ empty_after (parameters_outcome k rate step)

  no_layer : (i < 1) ⊎ (rounds_of k rate step ≤ i) → layer_part k rate step store i ≡ []
  no_layer o =
      empty_by
      (first_false (leb 1 i && ltb i (length steps)) (eqb (length store) (store_length k steps))
      (⊎_elim (λ (l : i < 1). first_false (leb 1 i) (ltb i (length steps)) (lt-leb 1 i l))
      (λ (u : rounds_of k rate step ≤ i). second_false (leb 1 i) (ltb i (length steps))
      (le-ltb i (length steps) (subst (λ (n : ℕ). n ≤ i) (sym (laws.length_steps k rate step)) u))) o))

  not_done : (o : Outcome) (part : List ℕ) → o ≢ (Ok tt) → part_after o part ≡ []
  not_done (Ok _) part n = absurd (n refl)
  not_done (Err cause) part n = refl

  looked_up : ValidParameters k rate step → 1 ≤ i → i < rounds_of k rate step → length store ≡ store_length k steps
      → layer_part k rate step store i ≡ stored_layer k steps store i
  looked_up v l h e =
      ap (λ (o : Outcome). part_after o (cond test (stored_layer k steps store i) []))
      (checks.parameters_pass k rate step v)
      ∙ ap (λ (t : Bool). cond t (stored_layer k steps store i) [])
      (both_true (leb 1 i && ltb i (length steps)) (eqb (length store) (store_length k steps))
      (both_true (leb 1 i) (ltb i (length steps)) (le-leb 1 i l)
      (lt-ltb i (length steps) (counted k rate step (suc i) h))) (eq-eqb (length store) (store_length k steps) e))

  part_length : ValidParameters k rate step → 1 ≤ i → i < rounds_of k rate step → length store ≡ store_length k steps
      → length (layer_part k rate step store i) ≡ 2 ^ (k - i * step)
  part_length v l h e =
      ap length (looked_up v l h e)
      ∙ laws.length-stored_layer k steps store i l (counted k rate step (suc i) h) e
      ∙ ap (λ (n : ℕ). 2 ^ n) (laws.dimension_of_layer k rate step i (counted k rate step i (omega arith)))

  no_parameters : (ValidParameters k rate step → ⊥) → layer_part k rate step store i ≡ []
  no_parameters n =
      not_done (parameters_outcome k rate step) (cond test (stored_layer k steps store i) [])
      (λ e. n (checks.parameters_valid k rate step e))

  no_store : length store ≢ store_length k steps → layer_part k rate step store i ≡ []
  no_store n =
      empty_by (second_false (leb 1 i && ltb i (length steps)) (eqb (length store) (store_length k steps))
      (ne_eqb (length store) (store_length k steps) n))

part_entries : (k rate step : ℕ) (store : List ℕ) (i t : ℕ) → ValidParameters k rate step → 1 ≤ i
    → i < rounds_of k rate step
    → length store ≡ store_length k (steps_of k rate step) → t < 2 ^ (k - i * step)
    → get_or (layer_part k rate step store i) t 0 ≡ get_or store (layer_start k (steps_of k rate step) i + t) 0
unfolding stored_layer
part_entries k rate step store i t v l h e u =
    let steps : List ℕ = steps_of k rate step in
    ap (λ (part : List ℕ). get_or part t 0) (looked_up k rate step store i v l h e)
    ∙ get_or-take (2 ^ dimension k steps i) (drop (layer_start k steps i) store) t 0
    (subst (λ (n : ℕ). t < 2 ^ n) (sym (laws.dimension_of_layer k rate step i (counted k rate step i (omega arith)))) u)
    ∙ get_or-drop (layer_start k steps i) store t 0

in_rounds : (run : Run) (i : ℕ) → i ≤ rounds_in run → i ≤ rounds_of run.k run.rate run.step
in_rounds run i h = subst (λ (n : ℕ). i ≤ n) (laws.length_steps run.k run.rate run.step) h

of_honest : (run : Run) (i : ℕ) → ValidCoset run → length run.word ≡ 2 ^ run.k → 1 ≤ i → i < rounds_in run
    → layer_part run.k run.rate run.step (honest_store run) i ≡ honest_layer run i
unfolding layer_in
of_honest run zero v lw l h = absurd (omega arith)
of_honest run (suc i) v lw l h =
    looked_up run.k run.rate run.step (honest_store run) (suc i) v.parameters l
    (in_rounds run (suc (suc i)) h) (length-honest_store run v lw)
    ∙ honest_layers run v lw (suc i) h

pub lookups : Lookups
lookups =
    record {
      found = λ k rate step store i v l h e.
          (looked_up k rate step store i v l h e, part_length k rate step store i v l h e);
      entries = part_entries;
      bad_parameters = no_parameters;
      other_layer = no_layer;
      other_length = no_store;
      of_honest = of_honest;
    }

-- ---- the layers as they were sent

sent_word : (run : Run) → layer_in run 0 ≡ run.word
unfolding layer_in
sent_word run = refl

sent_stored : (run : Run) (i : ℕ) → ValidParameters run.k run.rate run.step → 1 ≤ i → i < rounds_in run
    → length run.store ≡ store_length run.k (steps_in run)
    → layer_in run i ≡ layer_part run.k run.rate run.step run.store i
unfolding layer_in
sent_stored run zero v l h e = absurd (omega arith)
sent_stored run (suc i) v l h e =
    sym (looked_up run.k run.rate run.step run.store (suc i) v l (in_rounds run (suc (suc i)) h) e)

pub sent_layers : SentLayers
sent_layers = record { word = sent_word; stored = sent_stored }
