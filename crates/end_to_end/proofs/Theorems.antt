-- Demand 3 of what the functions return: from the theorems about the definitions, by the contracts. Assumes nothing.
use mathlib.Core.Path.{◌≡◌, sym, ap, ap₂, ◌∙◌}
use mathlib.Core.Logic.{inl, inr}
use mathlib.Core.List.{List, [], ◌∷◌}
use Prim.Native.Nat.{ℕ}
use Rattle.poly.specs.Polynomial.{All}
use Rattle.std.specs.Prelude.{Ok}
use Rattle.fri.specs.declared.Verdict.{Verdict}
use Rattle.fri.specs.Run.{Run}
use Rattle.fri.specs.Judge.{verdict_of}
use Rattle.fri.specs.Demand.{Any, Accepted, Visits}
use Rattle.fri.proofs.Soundness.{soundness}
use Rattle.fri.proofs.Completeness.{completeness, honest_proofs}
use Rattle.transcript.specs.Judge.{transcript_verdict}
use Rattle.written.specs.Writer.{write_outcome, bytes_after}
use Rattle.written.proofs.Written.{written_bytes}
use Rattle.end_to_end.specs.Theorems.{leaving, Judging, Judged, ProvedIsAccepted, WrittenIsAccepted}
use Rattle.end_to_end.specs.Theorems.{JudgedSoundness}

pub proved_is_accepted : ProvedIsAccepted
proved_is_accepted run queries outcome store last verdict h proved v =
    let honest = honest_proofs.proves run h.coset h.input h.low h.store_fits h.last_fits in
    let left =
    ap₂ (λ (x y : List ℕ). verdict_of (leaving run x y) queries) (proved.store ∙ honest.1) (proved.last ∙ honest.2)
    in (
      proved.answer ∙ honest.0,
      v ∙ left ∙ completeness run queries h.coset h.input h.low h.queries_valid h.queries_apart,
    )

pub written_is_accepted : WrittenIsAccepted
written_is_accepted run queries held proved written store last bytes verdict h size p w v =
    let done = honest_proofs.proves run h.coset h.input h.low h.store_fits h.last_fits in
    let same = ap₂ (leaving run) (p.store ∙ done.1) (p.last ∙ done.2) in (
      p.answer ∙ done.0,
      w.answer ∙ ap₂ (λ (x : Run) (n : ℕ). write_outcome x queries n) same size
          ∙ written_bytes.honest_done run queries h.coset h.input h.queries_valid h.queries_apart,
      v ∙ ap transcript_verdict (w.bytes ∙ ap (λ (x : Run). bytes_after x queries held) same)
          ∙ written_bytes.honest_accepted run queries held h.coset h.input h.low h.queries_valid
          h.queries_apart size,
    )

lists : List Judging → List (List ℕ)
lists [] = []
lists (judging ∷ judgings) = judging.queries ∷ lists judgings

visited : (run : Run) (coset : ℕ) (judgings : List Judging) → All (Judged run) judgings
    → Any (λ judging. (judging.verdict.answer ≡ Ok tt) × Visits run judging.queries coset) judgings
    → Any (λ queries. Accepted run queries × Visits run queries coset) (lists judgings)
unfolding lists
visited run coset (judging ∷ judgings) judged (inl (a, v)) =
    inl (sym (ap (λ (x : Verdict). x.answer) judged.0) ∙ a, v)
visited run coset (judging ∷ judgings) judged (inr rest) = inr (visited run coset judgings judged.1 rest)
visited run coset [] judged none = none

pub judged_soundness : JudgedSoundness
judged_soundness run judgings e judged covers =
    soundness run (lists judgings) e (λ coset h. visited run coset judgings judged (covers coset h))
