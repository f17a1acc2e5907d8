-- What holds before the queries, where a query's entries lie, the two values of a round, and the verdict where the judge
-- stops. Assumes nothing.
use mathlib.Core.Path.{◌≡◌, refl, sym, ap, ap₂, ◌∙◌, subst}
use mathlib.Core.Logic.{◌⊎◌, inl, inr}
use mathlib.Core.Bool.{Bool, cond}
use mathlib.Core.List.{List}
use Prim.Native.Nat.{ℕ, zero, suc, ◌+◌, ◌*◌, ◌/◌, ◌%◌, ◌^◌, ◌≤◌, ◌<◌, min}
use native.Mathlib.Nat.{le_trans, eq-or-lt_of_le, add-mul, mul-le-mul, suc-mul, min-le_right}
use native.Mathlib.Numerals.{add-one}
use native.Mathlib.Omega.{arith}
use lib.Pow.{pow_pos, shl_exact}
use lib.ListN.{length, get_or, take, drop}
use lib.Seq.{length-take-le, get_or-take, get_or-drop}
use borrow.Author.Tests.{lt-ltb, le-ltb}
use Rattle.std.proofs.lemmas.List.{ext_get_or, length-drop}
use Rattle.gf64.specs.Field.{IsElement}
use Rattle.poly.specs.Carrier.{gf64}
use Rattle.poly.specs.Polynomial.{All, evaluate}
use Rattle.poly.proofs.Entries.{all_get_d}
use Rattle.refusal.specs.declared.Cause.TheVariants.{RoundCheckFails}
use Rattle.std.specs.Prelude.{Some, None, Ok, Err}
use Rattle.refusal.specs.Outcome.{Outcome}
use Rattle.fold.specs.Fold.{coset_entries}
use Rattle.fri.specs.declared.Verdict.{Verdict}
use Rattle.fri.specs.Layout.{index_in}
use Rattle.fri.specs.Run.{Run, rounds_in, layer_in, steps_in}
use Rattle.fri.specs.Demand.{ValidQueries}
use Rattle.fri.specs.Theorems.{PassesEveryRound, FailsFirst}
use Rattle.fri.specs.Judge.{checks_outcome, verdict_of}
use Rattle.fri.specs.Rounds.{value_computed, value_found, failing_round}
use Rattle.fri.proofs.Checks.{run_valid}
use Rattle.fri.proofs.Rounds.{passing_of, failing_of}
use Rattle.fri.proofs.Verdicts.{checks_valid, accepted_verdict, refused_by, reads_refused}
use Rattle.layout.specs.declared.Parameters.{Parameters}
use Rattle.layout.proofs.Sizes.{few_rounds}
use Rattle.round_checks.specs.declared.Round.{Round}
use Rattle.round_checks.specs.declared.QueryPoint.{QueryPoint}
use Rattle.round_checks.specs.Rounds.{no_round, next_query_point, value_folded}
use Rattle.round_checks.specs.Judging.{layer_of, EntryWithin, query_point_of, Reached, Checked, Prepared}
use Rattle.round_checks.proofs.StepSizes.{size_of, begin_of, size_is, size_eight, begin_is}
use Rattle.round_checks.proofs.Runs.{parameters_of, coset_index, coset_begin, index_inside, coset_ends}
use Rattle.round_checks.proofs.Runs.{length_layer, next-query-point, computed_by, found_by}

-- the checks before the round checks tell what the judge must know
pub checked_run : (run : Run) (queries : List ℕ) → checks_outcome run queries ≡ Ok tt
    → IsElement run.offset → All IsElement run.basis → All IsElement run.challenges
    → All IsElement run.word → All IsElement run.store → Checked run
checked_run run queries e ho hb hc hw hs =
    let valid = run_valid run (checks_valid run queries e).0 in
    record {
      coset =
          record {
            parameters = valid.0;
            offset_element = ho;
            basis_elements = hb;
            basis_count = valid.1.basis;
            independent = valid.2;
          };
      fit = valid.1;
      challenges_elements = hc;
      word_elements = hw;
      store_elements = hs;
    }

-- the layers as lists
pub layer_same : (run : Run) (i : ℕ) → layer_of (parameters_of run) run.word run.store i ≡ layer_in run i
unfolding layer_of layer_in
layer_same run zero = refl
layer_same run (suc i) = refl

-- a part of a list, entry by entry
part_same : (part entries : List ℕ) (begin size : ℕ) → size ≤ length part → begin + size ≤ length entries
    → ((u : ℕ) → u < size → get_or part u 0 ≡ get_or entries (begin + u) 0)
    → take size part ≡ take size (drop begin entries)
part_same part entries begin size room fits same =
    let left : length (take size part) ≡ size = length-take-le size part room in
    let right : length (take size (drop begin entries)) ≡ size =
    length-take-le size (drop begin entries) (omega (arith, length-drop begin entries)) in
    ext_get_or 0 (take size part) (take size (drop begin entries)) (left ∙ sym right)
    (λ u h.
    get_or-take size part u 0 (omega (arith, left))
    ∙ same u (omega (arith, left))
    ∙ sym (get_or-take size (drop begin entries) u 0 (omega (arith, left)) ∙ get_or-drop begin entries u 0))

module _ {run : Run} {queries : List ℕ} {count : ℕ} {table : List Round} (b : Prepared run queries count table) where
  queries_are : ValidQueries run.k queries
  queries_are = (checks_valid run queries b.checks).1

  pub query_inside : (query : ℕ) → get_or queries query 0 < 2 ^ run.k
  query_inside query = all_get_d (λ j. j < 2 ^ run.k) queries query 0 (pow_pos run.k) queries_are.within

  pub queries_most : length queries ≤ 256
  queries_most = queries_are.most

  pub count_few : count ≤ 19
  count_few =
      subst (λ (n : ℕ). n ≤ 19) (sym b.count_is) (few_rounds (parameters_of run) b.ready.coset.parameters)

  pub step_few : run.step ≤ 3
  step_few = b.ready.coset.parameters.step_most

  reads_exact : (cosets : ℕ) → cosets < 2 ^ 13 → cosets * 2 ^ run.step % 2 ^ 64 ≡ cosets * 2 ^ run.step
  reads_exact cosets h = shl_exact {a = cosets} 13 run.step 64 h (omega (arith, step_few))

  -- ---- a round of a query

  module _ {i : ℕ} (within : i < count) where
    inside : i < rounds_in run
    inside = subst (λ (n : ℕ). i < n) b.count_is within

    pub next_of : (j : ℕ) → j < 2 ^ run.k → {here : QueryPoint} → here ≡ query_point_of run j i
        → next_query_point run.step (get_or table i no_round).elements here ≡ query_point_of run j (suc i)
    next_of j hj here_is =
        ap₂ (λ (round : Round) (v : QueryPoint). next_query_point run.step round.elements v) (b.held i within) here_is
        ∙ next-query-point b.ready j i hj inside

    -- an entry of the coset that is read
    pub coset_within : {p : Parameters} → p ≡ parameters_of run → {here : QueryPoint} → Reached run i here → (t : ℕ)
        → t < size_of run.step → EntryWithin p i (get_or table i no_round).start (begin_of run.step here.index + t)
    coset_within same {here} (j, hj, here_is) t h =
        subst (λ (p : Parameters). EntryWithin p i (get_or table i no_round).start (begin_of run.step here.index + t))
        (sym same)
        (record {
          round = inside;
          starts = ap (λ (round : Round). round.start) (b.held i within);
          inside =
              omega (
                arith,
                coset_ends b.ready j i hj inside,
                size_is run.step step_few,
                begin_is run.step step_few here.index,
                ap (λ (v : QueryPoint). v.index / 2 ^ run.step * 2 ^ run.step) here_is,
              );
        })

    -- and an entry of the next layer
    pub entry_within : {p : Parameters} → p ≡ parameters_of run → {here : QueryPoint} → Reached run i here
        → EntryWithin p i (get_or table i no_round).start here.index
    entry_within same {here} (j, hj, here_is) =
        subst (λ (p : Parameters). EntryWithin p i (get_or table i no_round).start here.index) (sym same)
        (record {
          round = inside;
          starts = ap (λ (round : Round). round.start) (b.held i within);
          inside =
              omega (
                arith,
                index_inside b.ready j i hj (omega (arith, inside)),
                ap (λ (v : QueryPoint). v.index) here_is,
              );
        })

    -- the value computed
    pub computed_value : {p : Parameters} → p ≡ parameters_of run → {here : QueryPoint} (part : List ℕ) {t value : ℕ}
        → length part ≡ 8 → size_of run.step ≤ t
        → ((u : ℕ) → u < t → get_or part u 0 ≡ get_or (layer_of p run.word run.store i) (begin_of run.step here.index + u) 0)
        → value ≡ value_folded run.step (get_or table i no_round) here (take (size_of run.step) part)
        → (j : ℕ) → j < 2 ^ run.k → here ≡ query_point_of run j i → value ≡ value_computed run j i
    unfolding coset_entries
    computed_value {p} same {here} part {t} {value} eight all filled e j hj here_is =
        e
        ∙ ap₂ (λ (round : Round) (v : QueryPoint). value_folded run.step round v (take (size_of run.step) part))
        (b.held i within) here_is
        ∙ computed_by b.ready j i hj inside (take (size_of run.step) part) part_is
      where
        layer : layer_of p run.word run.store i ≡ layer_in run i
        layer = ap (λ (q : Parameters). layer_of q run.word run.store i) same ∙ layer_same run i

        begin : begin_of run.step here.index ≡ coset_begin run j i
        begin =
            begin_is run.step step_few here.index
            ∙ ap (λ (v : QueryPoint). v.index / 2 ^ run.step * 2 ^ run.step) here_is

        part_is : take (size_of run.step) part ≡ coset_entries run.step (layer_in run i) (coset_index run j i)
        part_is =
            ap (λ (n : ℕ). take n part) (size_is run.step step_few)
            ∙ part_same part (layer_in run i) (coset_begin run j i) (2 ^ run.step)
            (omega (arith, size_is run.step step_few, size_eight run.step step_few))
            (omega (arith, coset_ends b.ready j i hj inside, length_layer b.ready j i hj inside))
            (λ u h.
            filled u (omega (arith, size_is run.step step_few))
            ∙ ap₂ (λ (l : List ℕ) (n : ℕ). get_or l (n + u) 0) layer begin)

    -- the value found in the next layer, where that is stored
    pub stored_value : {p : Parameters} → p ≡ parameters_of run → {next : QueryPoint} {entry : ℕ} → i + 1 < count
        → entry ≡ get_or (layer_of p run.word run.store (i + 1)) next.index 0
        → (j : ℕ) → j < 2 ^ run.k → next ≡ query_point_of run j (i + 1) → entry ≡ value_found run j i
    stored_value {p} same {next} {entry} more e j hj next_is =
        sym
        (ap (λ (t : Bool). cond t entry (evaluate gf64 run.last (query_point_of run j (suc i)).point.0))
        (lt-ltb (suc i) (rounds_in run) (omega (arith, b.count_is))))
        ∙ found_by b.ready j i hj inside entry
        (λ l.
        e
        ∙ ap₂ (λ (q : Parameters) (v : QueryPoint). get_or (layer_of q run.word run.store (i + 1)) v.index 0) same next_is
        ∙ ap₂ (λ (m n : ℕ). get_or (layer_of (parameters_of run) run.word run.store m) (index_in (steps_in run) j n) 0)
        (add-one i) (add-one i)
        ∙ ap (λ (l : List ℕ). get_or l (index_in (steps_in run) j (suc i)) 0) (layer_same run (suc i)))

    -- or in the last round
    pub last_value : {next : QueryPoint} {value : ℕ} → count ≤ i + 1 → value ≡ evaluate gf64 run.last next.point.0
        → (j : ℕ) → j < 2 ^ run.k → next ≡ query_point_of run j (i + 1) → value ≡ value_found run j i
    last_value {next} {value} most e j hj next_is =
        e
        ∙ ap (λ (v : QueryPoint). evaluate gf64 run.last v.point.0)
        (next_is ∙ ap (query_point_of run j) (add-one i))
        ∙ sym
        (ap (λ (t : Bool). cond t 0 (evaluate gf64 run.last (query_point_of run j (suc i)).point.0))
        (le-ltb (suc i) (rounds_in run) (omega (arith, b.count_is))))
        ∙ found_by b.ready j i hj inside 0 (λ l. absurd (omega (arith, b.count_is)))

  -- ---- the queries

  -- `query` of them have passed
  pub record Passed (cosets query : ℕ) : Type 0 where
    pub query_most : query ≤ length queries
    pub passed : (t : ℕ) → t < query → PassesEveryRound run (get_or queries t 0)
    pub cosets_are : cosets ≡ query * count

  pub none_passed : Passed 0 0
  none_passed =
      record {
        query_most = omega arith;
        passed = λ t h. absurd (omega arith);
        cosets_are = omega arith;
      }

  module _ {cosets query : ℕ} (q : Passed cosets query) where
    -- 256 queries of 19 rounds, and one round more
    pub cosets_few : cosets + count < 2 ^ 13
    cosets_few =
        let most : query * count ≤ 4864 = mul-le-mul (le_trans q.query_most queries_most) count_few in
        omega (arith, q.cosets_are, count_few)

    pub one_more : query < length queries → None ≡ failing_round run (get_or queries query 0)
        → Passed (cosets + count) (query + 1)
    one_more h e =
        record {
          query_most = omega arith;
          passed = λ t l. let at_most : t ≤ query = omega (arith, add-one query) in by t (eq-or-lt_of_le at_most);
          cosets_are =
              ap (λ (n : ℕ). n + count) q.cosets_are
              ∙ sym (ap (λ (n : ℕ). n * count) (add-one query) ∙ suc-mul query count);
        }
      where
        by : (t : ℕ) → (t ≡ query) ⊎ (t < query) → PassesEveryRound run (get_or queries t 0)
        by t (inl same) =
            subst (λ (m : ℕ). PassesEveryRound run (get_or queries m 0)) (sym same)
            (passing_of run (get_or queries query 0) (sym e))
        by t (inr before) = q.passed t before

    -- no query is left
    pub accepted : length queries ≤ query
        → ◌≡◌ {A = Verdict} (record { answer = Ok tt; reads = cosets * 2 ^ run.step % 2 ^ 64 }) (verdict_of run queries)
    accepted h =
        ap (λ (n : ℕ). record { answer = Ok tt; reads = n })
        (reads_exact cosets (omega (arith, cosets_few))
        ∙ ap (λ (n : ℕ). n * 2 ^ run.step) (q.cosets_are ∙ ap₂ (λ (m n : ℕ). m * n) all b.count_is))
        ∙ sym (accepted_verdict run queries b.checks (λ t l. q.passed t (omega arith)))
      where
        all : query ≡ length queries
        all = omega (arith, q.query_most)

    -- a round check of this query fails
    pub refused : {round : ℕ} → query < length queries → Some round ≡ failing_round run (get_or queries query 0)
        → ◌≡◌ {A = Verdict}
        (record {
          answer = Err (RoundCheckFails query round);
          reads = (cosets + min (round + 2) count) * 2 ^ run.step % 2 ^ 64;
        })
        (verdict_of run queries)
    refused {round} h e =
        ap₂ (λ (a : Outcome) (n : ℕ). record { answer = a; reads = n })
        (sym (refused_by run queries query round b.checks first))
        (reads_exact (cosets + min (round + 2) count)
        (omega (arith, cosets_few, min-le_right (round + 2) count))
        ∙ add-mul cosets (min (round + 2) count) (2 ^ run.step)
        ∙ ap₂ (λ (m n : ℕ). m * 2 ^ run.step + min (round + 2) n * 2 ^ run.step)
        (q.cosets_are ∙ ap (λ (n : ℕ). query * n) b.count_is) b.count_is
        ∙ sym (reads_refused run queries query round b.checks first))
      where
        first : FailsFirst run queries query round
        first =
            let told = failing_of run (get_or queries query 0) round (sym e) in
            record {
              query_within = h;
              round_within = told.0;
              fails = told.1;
              rounds_before = told.2;
              queries_before = q.passed;
            }
