-- The rounds of a prover, from each honest layer to the next one. Assumes nothing.
use mathlib.Core.Path.{◌≡◌, refl, sym, ap, ap₂, ◌∙◌, subst}
use mathlib.Core.List.{List, ◌++◌, append_assoc}
use Prim.Native.Nat.{ℕ, zero, suc, ◌+◌, ◌*◌, ◌-◌, ◌%◌, ◌^◌, ◌≤◌, ◌<◌}
use native.Mathlib.Nat.{le_of_eq, le_trans}
use native.Mathlib.Numerals.{add-one}
use native.Mathlib.Omega.{arith}
use lib.ListN.{length, get_or, take, drop}
use lib.Seq.{take_all, take_at, drop_at}
use Rattle.poly.proofs.Parts.{mid_suffix}
use Rattle.coset.proofs.Points.{all_elements}
use Rattle.coset.proofs.Sizes.{size_shifted}
use Rattle.coset.proofs.Subspace.{next_independent}
use Rattle.coset.specs.Span.{Independent}
use Rattle.coset.specs.Subspace.{next_offset, next_basis}
use Rattle.field.specs.declared.Element.{Element}
use Rattle.fold.specs.Fold.{folded}
use Rattle.fold.proofs.Folding.{length-folded}
use Rattle.fri.specs.Layout.{dimension, layer_start, joined_layers}
use Rattle.fri.specs.Run.{Run, steps_in, rounds_in, challenge_in}
use Rattle.fri.specs.Layers.{basis_in, offset_in, honest_layer, honest_store}
use Rattle.fri.proofs.Cosets.{first_coset, length_basis}
use Rattle.fri.proofs.Layouts.{start_next, layer_before, step_of_round, joined_length}
use Rattle.fri.proofs.Layers.{honest_run}
use Rattle.layout.specs.declared.Claim.{Claim}
use Rattle.points.specs.declared.Coset.{Coset}
use Rattle.layout.proofs.Sizes.{start_of_first, store_length_is, one_round, step_within, dimension_most}
use Rattle.layer_cosets.specs.declared.LayerCoset.{LayerCoset}
use Rattle.layer_cosets.specs.Cosets.{layer_coset_of}
use Rattle.layer_cosets.proofs.NextLayers.{basis_next, offset_next}
use Rattle.honest_layers.specs.Input.{input_of, Sound, Passed, coset_in, Joined, Filled}

-- where the layers of a claim begin, and their sizes
module _ (claim : Claim) where
  abbrev run : Run
  run = input_of claim

  abbrev r : ℕ
  r = rounds_in run

  abbrev step : ℕ
  step = run.step

  abbrev start : ℕ → ℕ
  start i = layer_start run.k (steps_in run) i

  abbrev size : ℕ → ℕ
  size i = 2 ^ dimension run.k (steps_in run) i

  first_size : 2 ^ run.k ≡ size 0
  unfolding dimension
  first_size = refl

  dimension_next : (i : ℕ) → i < r
      → dimension run.k (steps_in run) (suc i) ≡ dimension run.k (steps_in run) i - run.step
  unfolding dimension
  dimension_next i h =
      ap (λ (s : ℕ). dimension run.k (steps_in run) i - s) (step_of_round run.k run.rate run.step i h)

  joined_next : (i : ℕ)
      → joined_layers (honest_layer run) i ++ honest_layer run (suc i) ≡ joined_layers (honest_layer run) (suc i)
  unfolding joined_layers
  joined_next i = refl

  store_is : joined_layers (honest_layer run) (r - 1) ≡ honest_store run
  unfolding honest_store
  store_is = refl

  -- the last round has the last challenge
  pub last_of : Sound claim → (i : ℕ) → i ≡ length claim.challenges.now - 1 → suc i ≡ r
  last_of sound i e = omega (arith, e, sound.challenges, one_round claim.parameters sound.parameters)

  -- the same coset, by reference
  pub joined_at : {i j : ℕ} (coset : LayerCoset) (here : Coset)
      → (here.offset ≡ coset.offset) × (here.basis.now ≡ coset.basis) → i ≡ j → (joined : List ℕ)
      → Joined claim i coset.offset.0 coset.basis joined → Joined claim j here.offset.0 here.basis.now joined
  joined_at {i} coset here same e joined known =
      subst (λ (n : ℕ). Joined claim n here.offset.0 here.basis.now joined) e
      (subst (λ (o : Element). Joined claim i o.0 here.basis.now joined) (sym same.0)
      (subst (λ (b : List ℕ). Joined claim i coset.offset.0 b joined) (sym same.1) known))

  -- the honest layers have the sizes of their cosets
  module _ (sound : Sound claim) (word : length run.word ≡ 2 ^ run.k) where
    layer_counted : (i : ℕ) → i ≤ r → length (honest_layer run i) ≡ size i
    layer_counted zero h = ap length (honest_run.word run) ∙ word ∙ first_size
    layer_counted (suc i) h =
        ap length (honest_run.next run i ∙ honest_run.folds run i (honest_layer run i) (omega arith))
        ∙ length-folded step (offset_in run i) (basis_in run i) (honest_layer run i) (challenge_in run i)
        ∙ ap (λ (n : ℕ). 2 ^ (n - step)) (length_basis run.k (steps_in run) run.basis sound.basis i)
        ∙ ap (λ (n : ℕ). 2 ^ n) (sym (dimension_next i (omega arith)))

    joined_counted : (i : ℕ) → i ≤ r → length (joined_layers (honest_layer run) i) ≡ start (suc i)
    joined_counted i h =
        joined_length run.k (steps_in run) (honest_layer run) i (λ j least most. layer_counted j (omega arith))

    -- the last one of those that are joined
    joined_last : (i : ℕ) → 1 ≤ i → i ≤ r → drop (start i) (joined_layers (honest_layer run) i) ≡ honest_layer run i
    unfolding joined_layers
    joined_last zero least most = absurd (omega arith)
    joined_last (suc i) least most =
        drop_at (joined_layers (honest_layer run) i) (honest_layer run (suc i)) (start (suc i))
        (joined_counted i (omega arith))

  -- what is known where layers 1 to i are joined
  module _ {i offset : ℕ} {basis joined : List ℕ} (known : Joined claim i offset basis joined) where
    inside : i < r
    inside = omega (arith, known.round)

    count : length basis ≡ dimension run.k (steps_in run) i
    count = ap length known.basis_is ∙ length_basis run.k (steps_in run) run.basis known.claim_fits.basis i

    few : length basis ≤ 20
    few = le_trans (le_of_eq count) (dimension_most claim.parameters known.claim_fits.parameters i)

    pub step_most : step ≤ 3
    step_most = known.claim_fits.parameters.step_most

    pub step_fits : step ≤ length basis
    step_fits =
        le_trans (step_within claim.parameters known.claim_fits.parameters i inside) (le_of_eq (sym count))

    -- how many entries layer i and layer i + 1 have, as the code counts them
    pub size_is : 1 * 2 ^ length basis % 2 ^ 64 ≡ size i
    size_is = size_shifted (length basis) (omega (arith, few)) ∙ ap (λ (n : ℕ). 2 ^ n) count

    next_counted : 2 ^ (length basis - step) ≡ size (suc i)
    next_counted = ap (λ (n : ℕ). 2 ^ (n - step)) count ∙ ap (λ (n : ℕ). 2 ^ n) (sym (dimension_next i inside))

    pub next_size : 1 * 2 ^ (length basis - step) % 2 ^ 64 ≡ size (suc i)
    next_size = size_shifted (length basis - step) (omega (arith, few)) ∙ next_counted

    -- ---- layer i, and its fold

    pub word_is : i ≡ 0 → claim.word.now ≡ honest_layer run i
    word_is zeroth = sym (honest_run.word run) ∙ ap (honest_layer run) (sym zeroth)

    module _ (some : 1 ≤ i) where
      ends : length joined ≡ start i + size i
      ends =
          ap length known.joined_is ∙ joined_counted known.claim_fits known.word i (omega (arith, inside))
          ∙ start_next run.k (steps_in run) i some

      pub last_fits : 1 * 2 ^ length basis % 2 ^ 64 ≤ length joined
      last_fits = omega (arith, size_is, ends)

      pub last_is : (let begin = length joined - 1 * 2 ^ length basis % 2 ^ 64 in
          take (length joined - begin) (drop begin joined) ≡ honest_layer run i)
      last_is =
          let begins : length joined - 1 * 2 ^ length basis % 2 ^ 64 ≡ start i = omega (arith, size_is, ends) in
          mid_suffix (length joined - 1 * 2 ^ length basis % 2 ^ 64) joined
          ∙ ap₂ (λ (n : ℕ) (l : List ℕ). drop n l) begins known.joined_is
          ∙ joined_last known.claim_fits known.word i some (omega (arith, inside))

    -- what `fold_layer` asks
    pub foldable : (layer : List ℕ) → layer ≡ honest_layer run i → (next : ℕ) → next ≡ size (suc i)
        → (1 ≤ step) × (step ≤ 3) × (step ≤ length basis) × (length layer ≡ 2 ^ length basis)
        × (next ≡ 2 ^ (length basis - step))
    foldable layer is next e = (
      known.claim_fits.parameters.step_least,
      step_most,
      step_fits,
      ap length is ∙ layer_counted known.claim_fits known.word i (omega (arith, inside))
          ∙ ap (λ (n : ℕ). 2 ^ n) (sym count),
      e ∙ sym next_counted,
    )

    -- what `fold_layer` leaves
    pub next_folded : (layer : List ℕ) → layer ≡ honest_layer run i
        → folded step offset basis layer (challenge_in run i) ≡ honest_layer run (suc i)
    next_folded layer is =
        ap₂ (λ (o : ℕ) (b : List ℕ). folded step o b layer (challenge_in run i)) known.offset_is known.basis_is
        ∙ ap (λ (l : List ℕ). folded step (offset_in run i) (basis_in run i) l (challenge_in run i)) is
        ∙ sym (honest_run.folds run i (honest_layer run i) inside) ∙ sym (honest_run.next run i)

    pub coset_next : layer_coset_of (next_offset step offset basis) (next_basis step basis) ≡ coset_in run (suc i)
    coset_next =
        ap₂ (λ (o : ℕ) (l : List ℕ). layer_coset_of (next_offset step o l) (next_basis step l)) known.offset_is
        known.basis_is
        ∙ ap₂ (λ (o : ℕ) (l : List ℕ). layer_coset_of o l)
        (offset_next claim.parameters run.offset run.basis i inside)
        (basis_next claim.parameters run.offset run.basis i inside)

    pub next_is_independent : (here : Coset) → here.basis.now ≡ basis → Independent basis
        → (following : LayerCoset)
        → following ≡ layer_coset_of (next_offset step offset basis) (next_basis step basis)
        → Independent following.basis
    next_is_independent here same independent following is =
        let below = subst (λ (b : List ℕ). (j : ℕ) → get_or b j 0 < 2 ^ 64) same here.elements in
        subst (λ (c : LayerCoset). Independent c.basis) (sym is)
        (next_independent step basis (all_elements basis below) independent)

  -- ---- the store

  -- nothing is stored yet
  pub first_filled : (store : List ℕ) {last : ℕ} (coset : LayerCoset) → Passed claim (length store) last
      → coset ≡ layer_coset_of run.offset run.basis → Filled claim 0 coset.offset.0 coset.basis 0 store
  unfolding joined_layers
  first_filled store coset known is =
      record {
        joined = record {
          claim_fits = known.claim_fits;
          word = known.word;
          round = one_round claim.parameters known.claim_fits.parameters;
          offset_is = ap (λ (c : LayerCoset). c.offset.0) is ∙ sym (first_coset run).0;
          basis_is = ap (λ (c : LayerCoset). c.basis) is ∙ sym (first_coset run).1;
          joined_is = refl;
        };
        start_is = start_of_first run.k (steps_in run);
        store_fits = known.store;
      }

  module _ {i offset begin : ℕ} {basis store : List ℕ} (known : Filled claim i offset basis begin store) where
    -- all layers but the last one are stored
    module _ (ends : suc i ≡ r) where
      whole : begin ≡ length store
      whole = known.start_is ∙ ap start ends ∙ store_length_is run.k (steps_in run) ∙ sym known.store_fits

      store_taken : take begin store ≡ store
      store_taken = take_all begin store (le_of_eq (sym whole))

      pub all_joined : Joined claim i offset basis store
      all_joined = subst (Joined claim i offset basis) store_taken known.joined

      pub store_whole : store ≡ honest_store run
      store_whole =
          let before : i ≡ r - 1 = omega (arith, ends) in
          all_joined.joined_is ∙ ap (joined_layers (honest_layer run)) before ∙ store_is

    -- there is room for another
    module _ (more : suc (suc i) ≤ r) where
      pub next_within : begin + size (suc i) ≤ length store
      next_within =
          let before = layer_before run.k (steps_in run) (suc i) r (omega arith) (omega (arith, more)) in
          omega (arith, known.start_is, known.store_fits, before, store_length_is run.k (steps_in run))

      pub next_start : begin + size (suc i) ≡ start (suc (suc i))
      next_start =
          ap (λ (n : ℕ). n + size (suc i)) known.start_is
          ∙ sym (start_next run.k (steps_in run) (suc i) (omega arith))

      -- the next layer is joined
      pub next_joined : (front next rest : List ℕ) (end : ℕ) → front ≡ take begin store
          → next ≡ honest_layer run (suc i) → end ≡ start (suc (suc i))
          → take end (front ++ (next ++ rest)) ≡ joined_layers (honest_layer run) (suc i)
      next_joined front next rest end f n e =
          let all : front ++ next ≡ joined_layers (honest_layer run) (suc i) =
          ap₂ {B = List ℕ} (λ (l m : List ℕ). l ++ m) (f ∙ known.joined.joined_is) n ∙ joined_next i
          in
          ap (take end) (sym (append_assoc front next rest))
          ∙ take_at (front ++ next) rest end
          (ap length all ∙ joined_counted known.joined.claim_fits known.joined.word (suc i) (omega (arith, more))
          ∙ sym e)
          ∙ all

      pub next_filled : (following : LayerCoset) (end : ℕ) (stored : List ℕ)
          → following ≡ layer_coset_of (next_offset step offset basis) (next_basis step basis)
          → end ≡ start (suc (suc i)) → length stored ≡ length store
          → take end stored ≡ joined_layers (honest_layer run) (suc i)
          → Filled claim (i + 1) following.offset.0 following.basis end stored
      next_filled following end stored is e kept joined =
          let there = is ∙ coset_next known.joined in
          subst (λ (n : ℕ). Filled claim n following.offset.0 following.basis end stored) (sym (add-one i))
          (record {
            joined = record {
              claim_fits = known.joined.claim_fits;
              word = known.joined.word;
              round = more;
              offset_is = ap (λ (c : LayerCoset). c.offset.0) there;
              basis_is = ap (λ (c : LayerCoset). c.basis) there;
              joined_is = joined;
            };
            start_is = e;
            store_fits = kept ∙ known.store_fits;
          })
