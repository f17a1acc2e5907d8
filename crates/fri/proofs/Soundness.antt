-- Demand 3, second half. Every index of a later layer is that of an accepted query,
-- so that the round checks say of every entry what they say of the queries'. The degree goes down from the last fold:
-- a layer whose fold has low degree has it too, or its challenge is exceptional. Assumes nothing.
use mathlib.Core.Path.{◌≡◌, sym, ap, ◌∙◌, subst}
use mathlib.Core.Logic.{◌⊎◌, inl, inr, ⊎_elim}
use mathlib.Core.List.{List, [], ◌∷◌}
use Prim.Native.Nat.{ℕ, zero, suc, ◌*◌, ◌-◌, ◌/◌, ◌^◌, ◌≤◌, ◌<◌}
use native.Mathlib.Nat.{sub-add_cancel, sub_right_comm}
use native.Mathlib.Omega.{arith}
use lib.Pow.{pow_pos, pow_mono, shl_lt, shl-shr}
use lib.ListN.{length, get_or}
use lib.Seq.{ext_get_or}
use Rattle.poly.specs.Carrier.{gf64}
use Rattle.poly.specs.Polynomial.{evaluate}
use Rattle.poly.proofs.Degree.{below_or_not}
use Rattle.std.specs.Prelude.{Ok}
use Rattle.coset.specs.Coset.{point}
use Rattle.reed_solomon.specs.Codes.{encoded, interpolated, WordDegreeBelow}
use Rattle.reed_solomon.proofs.Theorems.{encoding}
use Rattle.fold.specs.Exceptional.{Exceptional}
use Rattle.fold.proofs.Exceptional.{exceptional_bound}
use Rattle.fri.specs.Layout.{dimension, last_count, index_in}
use Rattle.fri.specs.Run.{Run, steps_in, rounds_in, challenge_in, layer_in, step_in}
use Rattle.fri.specs.Layers.{layer_basis, layer_offset, basis_in, offset_in, fold_of}
use Rattle.fri.specs.Checks.{run_outcome}
use Rattle.fri.specs.Demand.{ValidCoset, Elements, LowDegree, Any, Accepted, Visits}
use Rattle.fri.specs.Demand.{Covered, ExceptionalIn, Soundness, FewExceptional}
use Rattle.fri.specs.Theorems.{PassesEveryRound, Fit}
use Rattle.fri.proofs.Cosets.{challenge_element, layer_step_fits, some_rounds, length-layer_basis}
use Rattle.fri.proofs.Cosets.{layer_basis-elements, layer_offset-element, layer_basis_independent}
use Rattle.fri.proofs.Cosets.{fits_basis, word_over, length-fold_of, length_layer, layer_elements}
use Rattle.fri.proofs.Values.{computed_entry, found_entry, found_last}
use Rattle.fri.proofs.Checks.{run_valid}
use Rattle.fri.proofs.Verdicts.{accepted_checks, checks_valid}

-- ---- from the cover to queries

-- a visited coset has a query that passes
visited : (run : Run) (coset : ℕ) (queries : List ℕ)
    → ((t : ℕ) → t < length queries → PassesEveryRound run (get_or queries t 0)) → Visits run queries coset
    → (j : ℕ) × PassesEveryRound run j × (j / 2 ^ step_in run 0 ≡ coset)
visited run coset [] h v = absurd v
visited run coset (j ∷ queries) h (inl e) = (j, h 0 (omega arith), e)
visited run coset (j ∷ queries) h (inr v) = visited run coset queries (λ t l. h (suc t) (omega arith)) v

covering : (run : Run) (coset : ℕ) (lists : List (List ℕ))
    → Any (λ queries. Accepted run queries × Visits run queries coset) lists
    → (run_outcome run ≡ Ok tt) × ((j : ℕ) × PassesEveryRound run j × (j / 2 ^ step_in run 0 ≡ coset))
covering run coset [] s = absurd s
covering run coset (queries ∷ lists) (inl h) =
    let told = accepted_checks run queries h.0 in
    ((checks_valid run queries told.0).0, visited run coset queries told.1 h.1)
covering run coset (queries ∷ lists) (inr s) = covering run coset lists s

-- a run of 64-bit numbers that passes the checks has a valid coset
valid_coset : (run : Run) → Elements run → run_outcome run ≡ Ok tt → ValidCoset run
valid_coset run e checked =
    let told = run_valid run checked in
    record {
      parameters = told.0;
      offset_element = e.offset;
      basis_elements = e.basis;
      basis_count = told.1.basis;
      independent = told.2;
    }

module _ (run : Run) (lists : List (List ℕ)) (e : Elements run) (cover : Covered run lists) where
  -- ---- every index is a query's

  first_coset : (m : ℕ) → m < 2 ^ (run.k - step_in run 0)
      → (run_outcome run ≡ Ok tt) × ((j : ℕ) × PassesEveryRound run j × (j / 2 ^ step_in run 0 ≡ m))
  first_coset m h = covering run m lists (cover m h)

  checked : run_outcome run ≡ Ok tt
  checked = (first_coset 0 (pow_pos (run.k - step_in run 0))).0

  fit : Fit run
  fit = (run_valid run checked).1

  v : ValidCoset run
  v = valid_coset run e checked

  -- of a query that passes
  abbrev Reached : ℕ → ℕ → Type 0
  Reached i m = (j : ℕ) × PassesEveryRound run j × (index_in (steps_in run) j i ≡ m)

  reached : (i m : ℕ) → i < rounds_in run → m < 2 ^ dimension run.k (steps_in run) (suc i) → Reached (suc i) m
  unfolding index_in dimension
  reached zero m h l = (first_coset m l).1
  reached (suc i) m h l = by (reached i (m * 2 ^ step_in run (suc i)) (omega arith) shifted)
    where
      shifted : m * 2 ^ step_in run (suc i) < 2 ^ dimension run.k (steps_in run) (suc i)
      shifted =
          subst (λ (n : ℕ). m * 2 ^ step_in run (suc i) < 2 ^ n)
          (sub-add_cancel (omega (arith, layer_step_fits run v (suc i) h)))
          (shl_lt (dimension run.k (steps_in run) (suc i) - step_in run (suc i)) (step_in run (suc i)) l)

      by : Reached (suc i) (m * 2 ^ step_in run (suc i))
          → (j : ℕ) × PassesEveryRound run j × (index_in (steps_in run) j (suc i) / 2 ^ step_in run (suc i) ≡ m)
      by (j, p, s) = (j, p, ap (λ (n : ℕ). n / 2 ^ step_in run (suc i)) s ∙ shl-shr m (step_in run (suc i)))

  -- ---- every layer is the exact fold of the one before

  fold_entry : (i m : ℕ) → suc i < rounds_in run → m < 2 ^ dimension run.k (steps_in run) (suc i)
      → get_or (layer_in run (suc i)) m 0 ≡ get_or (fold_of run i (layer_in run i)) m 0
  fold_entry i m h l = by (reached i m (omega arith) l)
    where
      by : Reached (suc i) m → get_or (layer_in run (suc i)) m 0 ≡ get_or (fold_of run i (layer_in run i)) m 0
      by (j, p, s) = sym (found_entry run j i m h s) ∙ sym (p i (omega arith)) ∙ computed_entry run v j i m l s

  exact_folds : (i : ℕ) → suc i < rounds_in run → layer_in run (suc i) ≡ fold_of run i (layer_in run i)
  exact_folds i h =
      let size : length (layer_in run (suc i)) ≡ 2 ^ dimension run.k (steps_in run) (suc i) =
      length_layer run v fit.word fit.store (suc i) h in
      ext_get_or 0 (layer_in run (suc i)) (fold_of run i (layer_in run i))
      (size ∙ sym (length-fold_of run v i (layer_in run i))) (λ m l. fold_entry i m h (subst (λ (n : ℕ). m < n) size l))

  last_entry : (i m : ℕ) → suc i ≡ rounds_in run → m < 2 ^ dimension run.k (steps_in run) (suc i)
      → get_or (fold_of run i (layer_in run i)) m 0
      ≡ evaluate gf64 run.last (point (offset_in run (suc i)) (basis_in run (suc i)) m)
  last_entry i m h l = by (reached i m (omega arith) l)
    where
      by : Reached (suc i) m → get_or (fold_of run i (layer_in run i)) m 0
          ≡ evaluate gf64 run.last (point (offset_in run (suc i)) (basis_in run (suc i)) m)
      by (j, p, s) = sym (computed_entry run v j i m l s) ∙ p i (omega arith) ∙ found_last run j i m h s

  last_fold : (i : ℕ) → suc i ≡ rounds_in run
      → fold_of run i (layer_in run i) ≡ encoded (offset_in run (suc i)) (basis_in run (suc i)) run.last
  last_fold i h =
      let basis : List ℕ = basis_in run (suc i) in
      let size : length (fold_of run i (layer_in run i)) ≡ 2 ^ dimension run.k (steps_in run) (suc i) =
      length-fold_of run v i (layer_in run i) in
      let same : 2 ^ dimension run.k (steps_in run) (suc i) ≡ 2 ^ length basis =
      ap (λ (n : ℕ). 2 ^ n) (sym (length-layer_basis run v (suc i))) in
      ext_get_or 0 (fold_of run i (layer_in run i)) (encoded (offset_in run (suc i)) basis run.last)
      (size ∙ same ∙ sym (encoding.count (offset_in run (suc i)) basis run.last))
      (λ m l.
      let inside : m < 2 ^ dimension run.k (steps_in run) (suc i) = subst (λ (n : ℕ). m < n) size l in
      last_entry i m h inside
      ∙ sym (encoding.values (offset_in run (suc i)) basis run.last m (subst (λ (n : ℕ). m < n) same inside)))

  -- ---- the degree

  -- the fold of layer i has low degree
  abbrev FoldLow : ℕ → Type 0
  FoldLow i =
      WordDegreeBelow (2 ^ (dimension run.k (steps_in run) (suc i) - run.rate)) (offset_in run (suc i))
      (basis_in run (suc i)) (fold_of run i (layer_in run i))

  abbrev Found : Type 0
  Found = LowDegree run ⊎ ((i : ℕ) × (i < rounds_in run) × ExceptionalIn run i (challenge_in run i))

  -- layer i has low degree, or its challenge is exceptional
  one_layer : (i : ℕ) → FoldLow i
      → WordDegreeBelow (2 ^ (dimension run.k (steps_in run) i - run.rate)) (offset_in run i) (basis_in run i)
      (layer_in run i) ⊎ ExceptionalIn run i (challenge_in run i)
  unfolding dimension fold_of layer_basis layer_offset
  one_layer i low =
      by (below_or_not (2 ^ (dimension run.k (steps_in run) i - run.rate))
      (interpolated (offset_in run i) (basis_in run i) (layer_in run i)))
    where
      step : ℕ
      step = step_in run i

      as_length : dimension run.k (steps_in run) i - step - run.rate ≡ length (basis_in run i) - run.rate - step
      as_length =
          sub_right_comm (dimension run.k (steps_in run) i) step run.rate
          ∙ ap (λ (n : ℕ). n - run.rate - step) (sym (length-layer_basis run v i))

      Low : Type 0
      Low =
          WordDegreeBelow (2 ^ (dimension run.k (steps_in run) i - run.rate)) (offset_in run i)
          (basis_in run i) (layer_in run i)

      by : (Low ⊎ (Low → ⊥)) → Low ⊎ ExceptionalIn run i (challenge_in run i)
      by (inl h) = inl h
      by (inr n) =
          let exceptional : Exceptional run.rate step (offset_in run i) (basis_in run i)
          (layer_in run i) (challenge_in run i) = (
            challenge_element run e.challenges i,
            (λ z. n (subst (λ (d : ℕ). WordDegreeBelow (2 ^ (d - run.rate)) (offset_in run i) (basis_in run i)
                (layer_in run i)) (length-layer_basis run v i) z)),
            subst (λ (d : ℕ). WordDegreeBelow (2 ^ d) (offset_in run (suc i)) (basis_in run (suc i))
                (fold_of run i (layer_in run i))) as_length low,
          )
          in
          inr exceptional

  descend : (i : ℕ) → i < rounds_in run → FoldLow i → Found
  unfolding dimension layer_in layer_basis layer_offset
  descend zero h low = by (one_layer 0 low)
    where
      by : (LowDegree run ⊎ ExceptionalIn run 0 (challenge_in run 0)) → Found
      by (inl l) = inl l
      by (inr m) = inr (0, h, m)
  descend (suc i) h low =
      ⊎_elim
      (λ (l : WordDegreeBelow (2 ^ (dimension run.k (steps_in run) (suc i) - run.rate)) (offset_in run (suc i))
      (basis_in run (suc i)) (layer_in run (suc i))).
      descend i (omega arith)
      (subst (WordDegreeBelow (2 ^ (dimension run.k (steps_in run) (suc i) - run.rate)) (offset_in run (suc i))
      (basis_in run (suc i))) (exact_folds i h) l))
      (λ (m : ExceptionalIn run (suc i) (challenge_in run (suc i))). inr (suc i, h, m))
      (one_layer (suc i) low)

  -- the last fold is a word of d coefficients
  last_low : (i : ℕ) → suc i ≡ rounds_in run → FoldLow i
  unfolding last_count
  last_low i h =
      let due : length run.last ≡ 2 ^ (dimension run.k (steps_in run) (suc i) - run.rate) =
      fit.last ∙ ap (λ (n : ℕ). 2 ^ (dimension run.k (steps_in run) n - run.rate)) (sym h)
      in
      let few : 2 ^ (dimension run.k (steps_in run) (suc i) - run.rate) ≤ 2 ^ length (basis_in run (suc i)) =
      pow_mono (omega (arith, length-layer_basis run v (suc i)))
      in
      subst (WordDegreeBelow (2 ^ (dimension run.k (steps_in run) (suc i) - run.rate)) (offset_in run (suc i))
      (basis_in run (suc i))) (sym (last_fold i h))
      (subst (λ (n : ℕ). WordDegreeBelow n (offset_in run (suc i)) (basis_in run (suc i))
      (encoded (offset_in run (suc i)) (basis_in run (suc i)) run.last)) due
      (encoding.degree (offset_in run (suc i)) (basis_in run (suc i)) run.last (layer_offset-element run v (suc i))
      (layer_basis-elements run v (suc i)) e.last (layer_basis_independent run v (suc i)) (omega (arith, due, few))))

-- ---- the exceptional sets

pub few_exceptional : FewExceptional
few_exceptional run i v h elements size =
    exceptional_bound run.rate (step_in run i) (offset_in run i) (basis_in run i) (layer_in run i)
    (word_over run v i (layer_in run i) elements size) (fits_basis run v i h)

-- ---- all of it together

pub soundness : Soundness
soundness run lists e cover =
    let coset : ValidCoset run = v run lists e cover in
    let lengths : Fit run = fit run lists e cover in
    let whole : suc (rounds_in run - 1) ≡ rounds_in run = omega (arith, some_rounds run coset) in
    record {
      some_round = some_rounds run coset;
      folds = exact_folds run lists e cover;
      last = λ i h.
          last_fold run lists e cover i h
          ∙ ap (λ (n : ℕ). encoded (offset_in run n) (basis_in run n) run.last) h;
      degree =
          descend run lists e cover (rounds_in run - 1) (omega (arith, whole))
          (last_low run lists e cover (rounds_in run - 1) whole);
      few = λ i h.
          few_exceptional run i coset h (layer_elements run coset e.word e.store i)
          (length_layer run coset lengths.word lengths.store i h);
    }
