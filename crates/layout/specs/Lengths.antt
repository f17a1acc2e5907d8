-- The lengths of the lists that prover and judge are lent, told beforehand.
use Rattle.std.specs.Prelude.{Ok, Err}
use Rattle.refusal.specs.Outcome.{Outcome}
use Rattle.fri.specs.Layout.{rounds_of, last_count, store_length}
use Rattle.fri.specs.Checks.{parameters_outcome}
use Rattle.layout.specs.declared.Parameters.{Parameters}
use Rattle.layout.specs.declared.Lengths.{Lengths}
use Rattle.layout.specs.Parameters.{steps_by}

-- the lengths if the checks pass, else 0 for each
abbrev pub or_zeros : (outcome : Outcome) (lengths : Lengths) → Lengths
or_zeros (Ok _) lengths = lengths
or_zeros (Err cause) lengths = record { rounds = 0; store = 0; last = 0 }

-- r, the length of the store, and d
abbrev pub lengths_due : (p : Parameters) → Lengths
lengths_due p =
    record {
      rounds = rounds_of p.k p.rate p.step;
      store = store_length p.k (steps_by p);
      last = last_count p.k p.rate (steps_by p);
    }

-- the same for any parameters: 0 for each where they are out of range
abbrev pub lengths_of : (p : Parameters) → Lengths
lengths_of p = or_zeros (parameters_outcome p.k p.rate p.step) (lengths_due p)
