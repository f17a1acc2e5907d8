-- Dimensions, the store and indices: over any list of steps that fit, and for r steps of η. Assumes nothing.
use mathlib.Core.Path.{◌≡◌, refl, sym, ap, ap₂, ◌∙◌, subst}
use mathlib.Core.Logic.{⊎_elim}
use mathlib.Core.List.{List}
use Prim.Native.Nat.{ℕ, zero, suc, ◌+◌, ◌*◌, ◌-◌, ◌/◌, ◌^◌, ◌≤◌, ◌<◌}
use native.Mathlib.Nat.{zero-mul, suc-mul, mul-zero, add-zero, add-suc, div-one, le_trans}
use native.Mathlib.Nat.{sub-zero, sub-add_cancel, le-div_iff_mul-le, le-mul_of_pos_right, le_of_eq, eq-or-lt_of_le}
use native.Mathlib.Omega.{arith}
use lib.Pow.{shr_lt, shr-shr}
use lib.ListN.{length, take, drop, length-append, length-drop, length-replicate, get_or-replicate}
use lib.Seq.{length-take-le, take_all, take-append-le, drop-append-le, drop_at}
use Rattle.fri.specs.Layout.{rounds_of, steps_of, step_at, dimension, last_count, layer_start}
use Rattle.fri.specs.Layout.{store_length, joined_layers, stored_layer, index_in}

-- ---- over any list of steps

-- no round takes more off than there is
abbrev pub StepsFit : ℕ → List ℕ → Type 0
StepsFit k steps = (i : ℕ) → i < length steps → step_at steps i ≤ dimension k steps i

-- a query's index lies within each layer
pub index_within : (k : ℕ) (steps : List ℕ) → StepsFit k steps → (j i : ℕ) → i ≤ length steps → j < 2 ^ k
    → index_in steps j i < 2 ^ dimension k steps i
unfolding index_in dimension
index_within k steps fit j zero h l = l
index_within k steps fit j (suc i) h l =
    shr_lt (dimension k steps i - step_at steps i) (step_at steps i)
    (subst (λ (n : ℕ). index_in steps j i < 2 ^ n) (sym (sub-add_cancel (fit i h)))
    (index_within k steps fit j i (omega arith) l))

-- layer i + 1 begins where layer i ends
pub start_next : (k : ℕ) (steps : List ℕ) (i : ℕ) → 1 ≤ i
    → layer_start k steps (suc i) ≡ layer_start k steps i + 2 ^ dimension k steps i
unfolding layer_start
start_next k steps zero h = absurd (omega arith)
start_next k steps (suc i) h = refl

start_later : (k : ℕ) (steps : List ℕ) (i n : ℕ) → 1 ≤ i → layer_start k steps i ≤ layer_start k steps (i + n)
start_later k steps i zero h = le_of_eq (ap (layer_start k steps) (sym (add-zero i)))
start_later k steps i (suc n) h =
    le_trans (start_later k steps i n h)
    (le_trans (omega (arith, start_next k steps (i + n) (omega arith)))
    (le_of_eq (ap (layer_start k steps) (sym (add-suc i n)))))

-- layer i ends where a later one begins, or before
pub layer_before : (k : ℕ) (steps : List ℕ) (i n : ℕ) → 1 ≤ i → i < n
    → layer_start k steps i + 2 ^ dimension k steps i ≤ layer_start k steps n
layer_before k steps i n least h =
    let whole : suc i + (n - suc i) ≡ n = omega arith in
    subst (λ (m : ℕ). layer_start k steps i + 2 ^ dimension k steps i ≤ layer_start k steps m) whole
    (omega (arith, start_next k steps i least, start_later k steps (suc i) (n - suc i) (omega arith)))

pub length-stored_layer : (k : ℕ) (steps store : List ℕ) (i : ℕ) → 1 ≤ i → i < length steps
    → length store ≡ store_length k steps
    → length (stored_layer k steps store i) ≡ 2 ^ dimension k steps i
unfolding stored_layer store_length
length-stored_layer k steps store i least most fits =
    length-take-le (2 ^ dimension k steps i) (drop (layer_start k steps i) store)
    (omega (arith, length-drop (layer_start k steps i) store, fits, layer_before k steps i (length steps) least most))

-- ---- layers 1 to n, joined, where each has the size due

module _ (k : ℕ) (steps : List ℕ) (layer : ℕ → List ℕ) where
  abbrev pub Sized : ℕ → Type 0
  Sized n = (i : ℕ) → 1 ≤ i → i ≤ n → length (layer i) ≡ 2 ^ dimension k steps i

  pub joined_length : (n : ℕ) → Sized n → length (joined_layers layer n) ≡ layer_start k steps (suc n)
  unfolding joined_layers layer_start
  joined_length zero sized = refl
  joined_length (suc n) sized =
      length-append (joined_layers layer n) (layer (suc n))
      ∙ ap₂ ◌+◌ (joined_length n (λ i least most. sized i least (omega arith)))
      (sized (suc n) (omega arith) (omega arith))

  found_last : (n : ℕ) → Sized (suc n) → stored_layer k steps (joined_layers layer (suc n)) (suc n) ≡ layer (suc n)
  unfolding stored_layer joined_layers
  found_last n sized =
      ap (take (2 ^ dimension k steps (suc n)))
      (drop_at (joined_layers layer n) (layer (suc n)) (layer_start k steps (suc n))
      (joined_length n (λ i least most. sized i least (omega arith))))
      ∙ take_all (2 ^ dimension k steps (suc n)) (layer (suc n)) (le_of_eq (sized (suc n) (omega arith) (omega arith)))

  found_earlier : (n i : ℕ) → Sized n → 1 ≤ i → i ≤ n
      → stored_layer k steps (joined_layers layer (suc n)) i ≡ stored_layer k steps (joined_layers layer n) i
  unfolding stored_layer joined_layers
  found_earlier n i sized least most =
      let start : ℕ = layer_start k steps i in
      let size : ℕ = 2 ^ dimension k steps i in
      let ends : start + size ≤ layer_start k steps (suc n) = layer_before k steps i (suc n) least (omega arith) in
      ap (take size)
      (drop-append-le start (joined_layers layer n) (layer (suc n)) (omega (arith, ends, joined_length n sized)))
      ∙ take-append-le size (drop start (joined_layers layer n)) (layer (suc n))
      (omega (arith, ends, joined_length n sized, length-drop start (joined_layers layer n)))

  -- a layer that is joined is found where it begins
  pub joined_found : (n : ℕ) → Sized n → (i : ℕ) → 1 ≤ i → i ≤ n
      → stored_layer k steps (joined_layers layer n) i ≡ layer i
  joined_found zero sized i least most = absurd (omega arith)
  joined_found (suc n) sized i least most =
      let before : Sized n = λ j l m. sized j l (omega arith) in
      ⊎_elim
      (λ (e : i ≡ suc n).
      subst (λ (m : ℕ). stored_layer k steps (joined_layers layer (suc n)) m ≡ layer m) (sym e) (found_last n sized))
      (λ (h : i < suc n). found_earlier n i before least (omega arith) ∙ joined_found n before i least (omega arith))
      (eq-or-lt_of_le most)

-- ---- r steps of η

pub length_steps : (k rate step : ℕ) → length (steps_of k rate step) ≡ rounds_of k rate step
length_steps k rate step = length-replicate (rounds_of k rate step) step

pub step_of_round : (k rate step i : ℕ) → i < length (steps_of k rate step) → step_at (steps_of k rate step) i ≡ step
step_of_round k rate step i h =
    get_or-replicate (rounds_of k rate step) i step 0 (subst (λ (n : ℕ). i < n) (length_steps k rate step) h)

pub dimension_of_layer : (k rate step i : ℕ) → i ≤ length (steps_of k rate step)
    → dimension k (steps_of k rate step) i ≡ k - i * step
unfolding dimension
dimension_of_layer k rate step zero h = sym (ap (λ (n : ℕ). k - n) (zero-mul step) ∙ sub-zero k)
dimension_of_layer k rate step (suc i) h =
    ap₂ (λ (n s : ℕ). n - s) (dimension_of_layer k rate step i (omega arith)) (step_of_round k rate step i h)
    ∙ omega (arith, suc-mul i step)

-- i rounds take at most k - R off
pub rounds_fit : (k rate step i : ℕ) → 1 ≤ step → i ≤ length (steps_of k rate step) → i * step ≤ k - rate
rounds_fit k rate step i least h =
    (le-div_iff_mul-le {k = step} {x = i} {y = k - rate} least).0 (subst (λ (n : ℕ). i ≤ n) (length_steps k rate step) h)

-- k is at most 20 and the rate at least 1, so that there are at most 19 rounds
pub rounds_few : (k rate step : ℕ) → 1 ≤ rate → 1 ≤ step → k ≤ 20 → length (steps_of k rate step) ≤ 19
rounds_few k rate step some least most =
    let r = length (steps_of k rate step) in
    le_trans (le-mul_of_pos_right r least)
    (le_trans (rounds_fit k rate step r least (omega arith)) (omega arith))

-- the rate and the step of round i fit in the dimension of layer i
pub step_fits : (k rate step : ℕ) → 1 ≤ step → rate ≤ k → (i : ℕ) → i < length (steps_of k rate step)
    → rate + step_at (steps_of k rate step) i ≤ dimension k (steps_of k rate step) i
step_fits k rate step least r i h =
    omega (
      arith,
      step_of_round k rate step i h,
      dimension_of_layer k rate step i (omega arith),
      rounds_fit k rate step (suc i) least h,
      suc-mul i step,
    )

-- there is a round
pub some_round : (k rate step : ℕ) → 1 ≤ step → rate + step ≤ k → 0 < length (steps_of k rate step)
some_round k rate step least h =
    subst (λ (n : ℕ). 1 ≤ n) (sym (length_steps k rate step))
    ((le-div_iff_mul-le {k = step} {x = 1} {y = k - rate} least).1 (omega arith))

-- and η is the step of round 0
pub first_step : (k rate step : ℕ) → 1 ≤ step → rate + step ≤ k → step_at (steps_of k rate step) 0 ≡ step
first_step k rate step least h = step_of_round k rate step 0 (some_round k rate step least h)

-- d
pub last-count : (k rate step : ℕ)
    → last_count k rate (steps_of k rate step) ≡ 2 ^ (k - rate - rounds_of k rate step * step)
unfolding last_count
last-count k rate step =
    ap (λ (n : ℕ). 2 ^ (n - rate)) (dimension_of_layer k rate step (length (steps_of k rate step)) (omega arith))
    ∙ ap (λ (n : ℕ). 2 ^ (k - n * step - rate)) (length_steps k rate step)
    ∙ ap (λ (n : ℕ). 2 ^ n) (omega arith)

-- a query's index in layer i
pub index_of_layer : (k rate step j i : ℕ) → i ≤ length (steps_of k rate step)
    → index_in (steps_of k rate step) j i ≡ j / 2 ^ (step * i)
unfolding index_in
index_of_layer k rate step j zero h = sym (ap (λ (n : ℕ). j / 2 ^ n) (mul-zero step) ∙ div-one j)
index_of_layer k rate step j (suc i) h =
    ap₂ (λ (m s : ℕ). m / 2 ^ s) (index_of_layer k rate step j i (omega arith)) (step_of_round k rate step i h)
    ∙ shr-shr j (step * i) step ∙ ap (λ (n : ℕ). j / 2 ^ n) (omega arith)
