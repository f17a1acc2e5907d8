-- The parameters as the code has them, and the run that a call speaks of.
use Rattle.std.specs.Prelude.{List, ℕ}
use Rattle.fri.specs.Layout.{steps_of}
use Rattle.fri.specs.Run.{Run}
use Rattle.fri.specs.Demand.{ValidParameters}
use Rattle.layout.specs.declared.Parameters.{Parameters}
use Rattle.layout.specs.declared.Claim.{Claim}

-- the steps of the rounds
abbrev pub steps_by : (p : Parameters) → List ℕ
steps_by p = steps_of p.k p.rate p.step

-- parameters in range
abbrev pub Valid : (p : Parameters) → Type 0
Valid p = ValidParameters p.k p.rate p.step

-- the run of a call: its parameters, offset, basis, challenges, word, store and last coefficients
abbrev pub run_of : (p : Parameters) (offset : ℕ) (basis challenges word store last : List ℕ) → Run
run_of p offset basis challenges word store last =
    record {
      k = p.k;
      rate = p.rate;
      step = p.step;
      offset = offset;
      basis = basis;
      challenges = challenges;
      word = word;
      store = store;
      last = last;
    }

-- the run of a claim, with a store and last coefficients
abbrev pub run_claimed : (claim : Claim) (store last : List ℕ) → Run
run_claimed claim store last =
    run_of claim.parameters claim.offset.0 claim.basis.now claim.challenges.now claim.word.now store last
