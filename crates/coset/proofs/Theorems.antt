-- The statements of specs/Theorems.antt, proved. Assumes nothing.
use mathlib.Core.Path.{◌∙◌, sym, ap}
use Rattle.coset.specs.Span.{in_span}
use Rattle.coset.specs.Theorems.{Cosets, FirstDependent, Subspaces, NextCosets}
use Rattle.coset.proofs.Points.{length-points, get_or-points, points_distinct}
use Rattle.coset.proofs.Sequence.{point_next}
use Rattle.coset.proofs.Dimension.{independent_short}
use Rattle.coset.proofs.Dependence.{point_shifted, reached_of_span, span_of_point}
use Rattle.coset.proofs.Dependence.{first_found, first_before, none_dependent}
use Rattle.coset.proofs.Steps.{image_through, elements_not_zero}
use Rattle.coset.proofs.Subspace.{subspace_degree, subspace_lower, image_additive, image-zero}
use Rattle.coset.proofs.Subspace.{length-next_basis, next_independent, image_of_coset, image_only}

pub cosets : Cosets
cosets =
    record {
      span = λ elements a.
          (reached_of_span elements a, λ r. sym (ap (in_span elements) r.2) ∙ span_of_point elements r.0);
      shifted = point_shifted;
      count = length-points;
      in_order = get_or-points;
      distinct = points_distinct;
      next = point_next;
    }

pub first_dependent : FirstDependent
first_dependent = record { found = first_found; first = first_before; none = none_dependent; short = independent_short }

pub subspaces : Subspaces
subspaces = record {
  monic = subspace_degree;
  lower = subspace_lower;
  additive = image_additive;
  zero = image-zero;
  composition = image_through;
  elements = elements_not_zero;
}

pub next_cosets : NextCosets
next_cosets =
    record { count = length-next_basis; independent = next_independent; points = image_of_coset; only = image_only }
