-- The refusals of a transcript before the round checks, in the order of document 01: section by section; in each the
-- count's bytes (1), its value (2, or 9 in section 4), the entries' bytes (1), their values; then bytes after the last
-- section (3).
use Rattle.std.specs.Prelude.{Bool, ◌&&◌, List, ℕ, zero, suc, ◌+◌, ◌^◌, leb, eqb, length}
use Rattle.refusal.specs.declared.Cause.{Cause}
use Rattle.refusal.specs.declared.Cause.TheVariants.{BytesEnd, CountDiffers, TrailingBytes, QueryCountOutOfRange}
use Rattle.std.specs.Prelude.{Ok}
use Rattle.refusal.specs.Outcome.{Outcome}
use Rattle.refusal.specs.Checks.{refused_unless, and_then}
use Rattle.coset.specs.Answers.{basis_outcome}
use Rattle.fri.specs.Layout.{step_at, dimension, last_count}
use Rattle.fri.specs.Checks.{parameters_outcome, indices_outcome}
use Rattle.transcript.specs.Sections.{section_start, section_count, layer_section, transcript_k, transcript_rate}
use Rattle.transcript.specs.Sections.{transcript_step, transcript_steps, transcript_rounds, run_in, queries_in}

-- section s: its count's bytes (1), its count, which must pass the test, its entries' bytes (1)
abbrev pub section_outcome : (bytes : List ℕ) (s : ℕ) (test : Bool) (cause : Cause) → Outcome
section_outcome bytes s test cause =
    refused_unless (leb (section_start bytes s + 4) (length bytes)) (BytesEnd s)
    (refused_unless test cause
    (refused_unless (leb (section_start bytes (suc s)) (length bytes)) (BytesEnd s)
    (Ok tt)))

-- a section whose count must be the one due (2)
abbrev pub due_outcome : (bytes : List ℕ) (s due : ℕ) → Outcome
due_outcome bytes s due = section_outcome bytes s (eqb (section_count bytes s) due) (CountDiffers s)

-- section 1, and the ranges (4 to 7)
abbrev pub parameters_section : (bytes : List ℕ) → Outcome
parameters_section bytes =
    and_then (due_outcome bytes 1 3)
    (parameters_outcome (transcript_k bytes) (transcript_rate bytes) (transcript_step bytes))

-- section 2, and the basis (8)
abbrev pub coset_section : (bytes : List ℕ) → Outcome
coset_section bytes = and_then (due_outcome bytes 2 (transcript_k bytes + 1)) (basis_outcome (run_in bytes).basis)

-- section 3
abbrev pub challenges_section : (bytes : List ℕ) → Outcome
challenges_section bytes = due_outcome bytes 3 (transcript_rounds bytes)

-- section 4: 1 to 256 queries (9), then their indices (10, then 17)
abbrev pub queries_section : (bytes : List ℕ) → Outcome
queries_section bytes =
    and_then
    (section_outcome bytes 4 (leb 1 (section_count bytes 4) && leb (section_count bytes 4) 256) QueryCountOutOfRange)
    (indices_outcome (transcript_k bytes) (step_at (transcript_steps bytes) 0) (queries_in bytes))

-- sections 2 to 4
abbrev pub lists_outcome : (bytes : List ℕ) → Outcome
lists_outcome bytes = and_then (coset_section bytes) (and_then (challenges_section bytes) (queries_section bytes))

-- sections 1 to 4
abbrev pub front_outcome : (bytes : List ℕ) → Outcome
front_outcome bytes = and_then (parameters_section bytes) (lists_outcome bytes)

-- the sections of layer i and of those after it, `left` of them
unfoldable pub layers_from : (bytes : List ℕ) (i left : ℕ) → Outcome
layers_from bytes i zero = Ok tt
layers_from bytes i (suc left) =
    and_then (due_outcome bytes (layer_section i) (2 ^ dimension (transcript_k bytes) (transcript_steps bytes) i))
    (layers_from bytes (suc i) left)

-- the last coefficients, after which nothing follows (3)
abbrev pub end_outcome : (bytes : List ℕ) → Outcome
end_outcome bytes =
    and_then
    (due_outcome bytes (layer_section (transcript_rounds bytes))
    (last_count (transcript_k bytes) (transcript_rate bytes) (transcript_steps bytes)))
    (refused_unless (eqb (section_start bytes (suc (layer_section (transcript_rounds bytes)))) (length bytes)) TrailingBytes
    (Ok tt))

-- the sections of the layers and the last one
abbrev pub layers_outcome : (bytes : List ℕ) → Outcome
layers_outcome bytes = and_then (layers_from bytes 0 (transcript_rounds bytes)) (end_outcome bytes)

-- all sections
abbrev pub transcript_outcome : (bytes : List ℕ) → Outcome
transcript_outcome bytes = and_then (front_outcome bytes) (layers_outcome bytes)
