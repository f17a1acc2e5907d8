-- Every theorem that the project proves of its definitions, a field each, in the order in which docs/ARCHITECTURE.md,
-- section 4, has the definitions. proofs/Theorems.antt has the one value: a statement without a proof fails the check.
use Rattle.gf64.specs.Theorems as gf64
use Rattle.refusal.specs.Theorems as refusal
use Rattle.poly.specs.Theorems as poly
use Rattle.coset.specs.Theorems as coset
use Rattle.reed_solomon.specs.Theorems as reed-solomon
use Rattle.transform.specs.Theorems as transform
use Rattle.fold.specs.Theorems as fold
use Rattle.fri.specs.Theorems as fri
use Rattle.fri.specs.Demand as demand
use Rattle.transcript.specs.Theorems as transcript
use Rattle.written.specs.Theorems as written
use Rattle.line_text.specs.Theorems as line-text
use Rattle.sheet_text.specs.Theorems as sheet-text
use Rattle.writer.specs.Theorems as writer
use Rattle.end_to_end.specs.Theorems as end_to_end
use Rattle.c_answers.specs.Theorems as c-answers
use Rattle.input.specs.Reading as reading
use Rattle.table_a.specs.TableA as table
use Rattle.table_a.specs.Transcripts as transcripts
use Rattle.table_a.specs.Needed as needed
use Rattle.samples.specs.Agreement as samples
use Rattle.former_answers.specs.LaterBases as former-bases
use Rattle.former_answers.specs.LongInputs as former-inputs

pub record Theorems : Type 1 where
  -- ---- the field
  -- the product of polynomials over GF(2) is the convolution of their coefficients; it makes a ring
  pub polynomial_product : gf64.PolynomialProduct
  -- the remainder modulo t^64 + t^4 + t^3 + t + 1 is that of a division, and the only one
  pub division : gf64.Division
  -- elements form a commutative group under the sum, in which each is its own negative
  pub sum_group : gf64.SumGroup
  -- the product is commutative, associative and distributive, and one is neutral
  pub product_ring : gf64.ProductRing
  -- every nonzero element has exactly one inverse; that of zero is zero
  pub inverses : gf64.Inverses
  -- powers are repeated products
  pub powers : gf64.Powers
  -- cases A to C of Table A
  pub field_cases : gf64.FieldCases
  -- ---- numbers
  -- no cause has the number 15 or 16
  pub retired_numbers : refusal.RetiredNumbers
  -- a round goes with number 11 and with no other
  pub round_numbers : refusal.RoundNumbers
  -- ---- polynomials
  -- root bound, interpolant and division into rows, over every carrier with the laws of a field of characteristic 2
  pub over_every_carrier : poly.OverEveryCarrier
  -- the field of 2^64 elements is one
  pub at_field : poly.AtField
  -- the degree as a number
  pub degrees : poly.Degrees
  -- ---- cosets
  -- the points of a coset: how many, in which order, and that they are distinct
  pub cosets : coset.Cosets
  -- the first element of a basis that lies in the span of earlier ones
  pub first_dependent : coset.FirstDependent
  -- the subspace polynomial q: monic, additive, zero exactly on its span, a composition of maps
  pub subspaces : coset.Subspaces
  -- the next coset: independent where the basis is, each point the image of one coset of the fold
  pub next_cosets : coset.NextCosets
  -- ---- encoding and interpolation
  -- encoding, entry by entry
  pub encoding : reed-solomon.Encoding
  -- encoding and interpolation invert one another
  pub round_trips : reed-solomon.RoundTrips
  -- which calls of them are done
  pub codes_accepted : reed-solomon.CodesAccepted
  -- and which are refused, by the first check that fails
  pub code_refusals : reed-solomon.CodeRefusals
  -- case E of Table A
  pub code_cases : reed-solomon.CodeCases
  -- each step of the additive transform and its way back
  pub transform_steps : transform.Steps
  -- the transform equals encoding, and its inverse interpolation, over every dimension
  pub transforms : transform.Transforms
  -- ---- the fold
  -- the fold: the value at the challenge of each coset's interpolant; it keeps degree bounds
  pub folds : fold.Folds
  -- the exceptional set of a layer has at most 2^η - 1 elements
  pub exceptional_sets : fold.ExceptionalSets
  -- an entry of the fold by halvings, as code computes it
  pub halvings : fold.Halvings
  -- which lone folds are done, and what they answer and leave
  pub fold_accepted : fold.FoldAccepted
  -- and which are refused, by the first check that fails, leaving both lists
  pub fold_refusals : fold.FoldRefusals
  -- cases D, F, J and K of Table A, one fold at a time
  pub fold_cases : fold.FoldCases
  -- ---- the protocol over lists
  -- rounds, dimensions of layers, d, the store and a query's indices
  pub layouts : fri.Layouts
  -- the cosets of the layers
  pub layer_cosets : fri.LayerCosets
  -- the honest layers and last coefficients
  pub honest_layers : fri.HonestLayers
  -- what the layer lookup hands back
  pub lookups : fri.Lookups
  -- the layers that the judge reads are those of the lookup
  pub sent_layers : fri.SentLayers
  -- which runs and queries pass the checks before the round checks
  pub passing : fri.Passing
  -- and which are refused, by the first check that fails
  pub refusals : fri.Refusals
  -- queries that share a first-layer coset (17)
  pub shared_cosets : fri.SharedCosets
  -- the two values of a round check; acceptance and 11 by the first that fails
  pub round_checks : fri.RoundChecks
  -- entries read
  pub reads : fri.Reads
  -- when the prover is done, when it answers 12, and what it leaves
  pub prover_answers : fri.ProverAnswers
  -- no other numbers are given by judge and prover
  pub only_numbers : fri.OnlyNumbers
  -- ---- demand 3
  -- demand 3, first half: every honest run of a word of low degree is accepted
  pub completeness : demand.Completeness
  -- demand 3, second half: what accepted judgings that visit every first-layer coset show of layers from anybody
  pub soundness : demand.Soundness
  -- the bound on exceptional sets by itself
  pub few_exceptional : demand.FewExceptional
  -- the prover makes the honest run, and some query lists cover it
  pub honest_proofs : demand.HonestProofs
  -- ---- transcripts
  -- judging bytes is judging the lists that they carry
  pub judging_bytes : transcript.JudgingBytes
  -- queries that share a first-layer coset, over bytes
  pub shared_in_bytes : transcript.SharedInBytes
  -- the longest transcript, and that more bytes change no verdict
  pub long_transcripts : transcript.LongTranscripts
  -- the program's answer to inputs over its limit
  pub long_inputs : transcript.LongInputs
  -- no other numbers are given over bytes
  pub transcript_numbers : transcript.TranscriptNumbers
  -- demand 3, first half, of the lists that bytes carry
  pub transcript_completeness : transcript.TranscriptCompleteness
  -- demand 3, second half, of the lists that bytes carry
  pub transcript_soundness : transcript.TranscriptSoundness
  -- ---- written transcripts
  -- the bytes of counts, entries and sections, and that others have other bytes
  pub written_sections : written.WrittenSections
  -- the reader finds in a written transcript what was written, and the same in no other bytes
  pub written_transcripts : written.WrittenTranscripts
  -- which lists the writer refuses, in which order
  pub writer_refusals : written.WriterRefusals
  -- what the lent bytes hold where the writer is done
  pub written_bytes : written.WrittenBytes
  -- ---- the lines that the programs print
  -- the lines of `judge`, by example
  pub line_examples : line-text.Examples
  -- a round is printed with 11 alone
  pub printed_rounds : line-text.PrintedRounds
  -- decimal digits stand for their number
  pub decimals : line-text.Decimals
  -- the lines of a sheet, by example
  pub sheet_examples : sheet-text.Examples
  -- hexadecimal digits stand for their number
  pub hexadecimals : sheet-text.Hexadecimals
  -- the sheet beside the judge's answer: where there are lines, all are `ok` exactly where it accepts
  pub sheets : sheet-text.Sheets
  -- ---- prover, writer and judge together
  -- the length told beforehand is the one that the writer asks for
  pub length_told : writer.LengthTold
  -- what `prove` leaves of a word of low degree is accepted by `judge`
  pub proved_is_accepted : end_to_end.ProvedIsAccepted
  -- the same through bytes
  pub written_is_accepted : end_to_end.WrittenIsAccepted
  -- demand 3, second half, of the verdicts that `judge` returns
  pub judged_soundness : end_to_end.JudgedSoundness
  -- ---- the C interface
  -- the five numbers of the C interface, by example: a fold
  pub fold_numbers : c-answers.FoldNumbers
  -- prover, judge and lookup
  pub run_numbers : c-answers.RunNumbers
  -- ---- what the programs have read
  -- what a program prints is the text of the bytes that were read
  pub prints_of_read : reading.PrintsOfRead
  -- and, where there is no more room, of every input that begins with them
  pub prints_of_whole : reading.PrintsOfWhole
  -- ---- cases and samples
  -- the starred cases of Table A
  pub table-a : table.TableA
  -- cases G, H and K as transcripts and as sheets
  pub transcript_cases : transcripts.TranscriptCases
  -- case J: without exceptional sets demand 3 would be false
  pub exceptional_sets_needed : needed.ExceptionalSetsNeeded
  -- the definitions give what the reference gives, on all its samples
  pub agreement : samples.Agreement
  -- ---- former answers
  -- the check of later layers' bases (16) never refused
  pub removed_check : former-bases.RemovedCheck
  -- so that without it every answer is as before
  pub answers_as_before : former-bases.AnswersAsBefore
  -- which answers to long inputs changed
  pub changed_answers : former-inputs.ChangedAnswers
