-- The statements of specs/Theorems.antt over every carrier with the laws, proved. Assumes nothing.
use Rattle.poly.specs.Carrier.{Operations, Laws}
use Rattle.poly.specs.Theorems.{Roots, Interpolation, RootProduct, RowDivision, OverEveryCarrier}
use Rattle.poly.proofs.Evaluation.{evaluate-padded}
use Rattle.poly.proofs.Roots.{root_bound_degree, unique}
use Rattle.poly.proofs.Interpolation.{length-interpolant, interpolant-elements}
use Rattle.poly.proofs.Interpolation.{interpolant_agrees, interpolant_recovers}
use Rattle.poly.proofs.Newton.{vanishing_not_zero}
use Rattle.poly.proofs.Vanishing.{evaluate-vanishing, vanishing_leading}
use Rattle.poly.proofs.Identity.{rows_identity}
use Rattle.poly.proofs.Rows.{length-rows, rows_lengths, rows-evaluate, rows_degree, degree_of_rows}

roots : (A : Type 0) (F : Operations A) (Element : A → Type 0) → Laws A F Element → Roots A F Element
roots A F Element L = record { bound = root_bound_degree F Element L; unique = unique F Element L }

interpolation : (A : Type 0) (F : Operations A) (Element : A → Type 0) → Laws A F Element → Interpolation A F Element
interpolation A F Element L =
    record {
      elements = interpolant-elements F Element L;
      count = length-interpolant F;
      agrees = interpolant_agrees F Element L;
      padding = evaluate-padded F Element L;
      recovers = interpolant_recovers F Element L;
      divisor = vanishing_not_zero F Element L;
    }

root_product : (A : Type 0) (F : Operations A) (Element : A → Type 0) → Laws A F Element → RootProduct A F
root_product A F Element L = record { value = evaluate-vanishing F Element L; leading = vanishing_leading F }

row_division : (A : Type 0) (F : Operations A) (Element : A → Type 0) → Laws A F Element → RowDivision A F Element
row_division A F Element L =
    record {
      count = length-rows F;
      counts = rows_lengths F;
      identity = rows_identity F Element L;
      values = rows-evaluate F Element L;
      degrees = λ N q n p whole. (rows_degree F Element L N q n p, degree_of_rows F Element L N q n p whole);
    }

pub over_every_carrier : OverEveryCarrier
over_every_carrier =
    record { roots = roots; interpolation = interpolation; root_product = root_product; row_division = row_division }
