-- The sections of a transcript one after the other, with the layers as the lookup hands them back. Assumes nothing.
use mathlib.Core.Path.{◌≡◌, refl, sym, ap, ap₂, subst, ◌∙◌}
use mathlib.Core.List.{List, [], ◌∷◌, ◌++◌, append_assoc, append-nil}
use Prim.Native.Nat.{ℕ, zero, suc, ◌+◌, ◌*◌, ◌-◌, ◌≤◌, ◌<◌}
use native.Mathlib.Nat.{add-zero, zero-add}
use native.Mathlib.Omega.{arith}
use lib.ListN.{length, take, drop, length-append}
use lib.Seq.{drop-length}
use Rattle.fri.specs.Run.{Run, rounds_in, layer_in}
use Rattle.fri.specs.Lookup.{layer_part}
use Rattle.fri.specs.Demand.{ValidParameters}
use Rattle.fri.specs.Theorems.{Fit}
use Rattle.fri.proofs.Layouts.{some_round}
use Rattle.fri.proofs.Lookups.{sent_layers}
use Rattle.layout.specs.declared.Parameters.{Parameters}
use Rattle.layout.specs.Parameters.{Valid, steps_by}
use Rattle.placing.specs.declared.Cursor.{Cursor}
use Rattle.placing.specs.Put.{Puts}
use Rattle.placing.proofs.Puts.{list_after}
use Rattle.written.specs.Bytes.{section_bytes, sections_bytes}
use Rattle.written.specs.Transcript.{layers_then_last, transcript_of}
use Rattle.written.proofs.Bytes.{length-section_bytes}
use Rattle.run_writer.specs.Layers.{stored_layers}

-- the sections of one more layer of the store
stored-next : (p : Parameters) (store : List ℕ) (i n : ℕ)
    → sections_bytes (stored_layers p store i (suc n))
    ≡ sections_bytes (stored_layers p store i n) ++ section_bytes (layer_part p.k p.rate p.step store (i + n))
unfolding sections_bytes stored_layers
stored-next p store i zero =
    append-nil (section_bytes (layer_part p.k p.rate p.step store i))
    ∙ ap (λ (m : ℕ). section_bytes (layer_part p.k p.rate p.step store m)) (sym (add-zero i))
stored-next p store i (suc n) =
    let first = section_bytes (layer_part p.k p.rate p.step store i) in
    let next : suc i + n ≡ i + suc n = omega arith in
    ap (λ (l : List ℕ). first ++ l)
    (stored-next p store (suc i) n
    ∙ ap (λ (m : ℕ). sections_bytes (stored_layers p store (suc i) n) ++ section_bytes (layer_part p.k p.rate p.step store m)) next)
    ∙ sym (append_assoc first (sections_bytes (stored_layers p store (suc i) n)) (section_bytes (layer_part p.k p.rate p.step store (i + suc n))))

module _ (p : Parameters) (store layer : List ℕ) (i : ℕ) (some : 1 ≤ i)
    (is : layer ≡ layer_part p.k p.rate p.step store i) where
  pub layer_next : sections_bytes (stored_layers p store 1 (i - 1)) ++ section_bytes layer
      ≡ sections_bytes (stored_layers p store 1 (i + 1 - 1))
  layer_next =
      let more : suc (i - 1) ≡ i + 1 - 1 = omega arith in
      let same : 1 + (i - 1) ≡ i = omega arith in
      ap (λ (l : List ℕ). sections_bytes (stored_layers p store 1 (i - 1)) ++ section_bytes l) is
      ∙ ap (λ (m : ℕ). sections_bytes (stored_layers p store 1 (i - 1)) ++ section_bytes (layer_part p.k p.rate p.step store m)) (sym same)
      ∙ sym (stored-next p store 1 (i - 1))
      ∙ ap (λ (m : ℕ). sections_bytes (stored_layers p store 1 m)) more

-- layers that are to come have no fewer bytes
more_layers : (p : Parameters) (store : List ℕ) (i m n : ℕ) → m ≤ n
    → length (sections_bytes (stored_layers p store i m)) ≤ length (sections_bytes (stored_layers p store i n))
unfolding sections_bytes stored_layers
more_layers p store i zero n h = omega arith
more_layers p store i (suc m) zero h = absurd (omega arith)
more_layers p store i (suc m) (suc n) h =
    let first = section_bytes (layer_part p.k p.rate p.step store i) in
    omega (
      arith,
      more_layers p store (suc i) m n (omega arith),
      length-append first (sections_bytes (stored_layers p store (suc i) m)),
      length-append first (sections_bytes (stored_layers p store (suc i) n)),
    )

module _ (p : Parameters) (store layer : List ℕ) (i n : ℕ) (some : 1 ≤ i) (within : i < n)
    (is : layer ≡ layer_part p.k p.rate p.step store i) where
  pub layer_room : length (sections_bytes (stored_layers p store 1 (i - 1))) + (4 + 8 * length layer)
      ≤ length (sections_bytes (stored_layers p store 1 (n - 1)))
  layer_room =
      omega (
        arith,
        more_layers p store 1 (i + 1 - 1) (n - 1) (omega arith),
        ap length (layer_next p store layer i some is),
        length-append (sections_bytes (stored_layers p store 1 (i - 1))) (section_bytes layer),
        length-section_bytes layer,
      )

pub no_layers : (p : Parameters) (store : List ℕ) → [] ≡ sections_bytes (stored_layers p store 1 (1 - 1))
unfolding sections_bytes stored_layers
no_layers p store = refl

module _ (run : Run) (queries : List ℕ) where
  abbrev of_run : Parameters
  of_run = record { k = run.k; rate = run.rate; step = run.step }

  -- the sections, with the store's layers as the lookup hands them back
  abbrev pub all : (p : Parameters) → List ℕ
  all p =
      section_bytes (p.k ∷ p.rate ∷ p.step ∷ [])
      ++ (section_bytes (run.offset ∷ run.basis)
      ++ (section_bytes run.challenges
      ++ (section_bytes queries
      ++ (section_bytes run.word
      ++ (sections_bytes (stored_layers p run.store 1 (length (steps_by p) - 1)) ++ section_bytes run.last)))))

  module _ (fits : Fit run) where
    stored_then_last : ValidParameters run.k run.rate run.step → (i left : ℕ) → 1 ≤ i → i + left ≡ rounds_in run
        → sections_bytes (layers_then_last run i left)
        ≡ sections_bytes (stored_layers of_run run.store i left) ++ section_bytes run.last
    unfolding sections_bytes layers_then_last stored_layers
    stored_then_last valid i zero l e = append-nil (section_bytes run.last)
    stored_then_last valid i (suc left) l e =
        let layer = section_bytes (layer_part run.k run.rate run.step run.store i) in
        ap₂ (λ (one others : List ℕ). section_bytes one ++ others)
        (sent_layers.stored run i valid l (omega arith) fits.store)
        (stored_then_last valid (suc i) left (omega arith) (omega arith))
        ∙ sym (append_assoc layer (sections_bytes (stored_layers of_run run.store (suc i) left)) (section_bytes run.last))

    word_then_stored : ValidParameters run.k run.rate run.step → (n : ℕ) → n ≡ rounds_in run → 1 ≤ n
        → sections_bytes (layers_then_last run 0 n)
        ≡ section_bytes run.word
        ++ (sections_bytes (stored_layers of_run run.store 1 (n - 1)) ++ section_bytes run.last)
    unfolding sections_bytes layers_then_last layer_in
    word_then_stored valid zero e l = absurd (omega arith)
    word_then_stored valid (suc m) e l =
        let same : m ≡ suc m - 1 = omega arith in
        ap (λ (others : List ℕ). section_bytes run.word ++ others)
        (stored_then_last valid 1 m (omega arith) (omega arith)
        ∙ ap (λ (n : ℕ). sections_bytes (stored_layers of_run run.store 1 n) ++ section_bytes run.last) same)

    pub all_sections : (p : Parameters) → p ≡ of_run → Valid p → all p ≡ transcript_of run queries
    unfolding transcript_of sections_bytes
    all_sections p e valid =
        let of_this : Valid of_run = subst Valid e valid in
        ap all e
        ∙ sym
        (ap (λ (layers : List ℕ).
        section_bytes (run.k ∷ run.rate ∷ run.step ∷ [])
        ++ (section_bytes (run.offset ∷ run.basis)
        ++ (section_bytes run.challenges ++ (section_bytes queries ++ layers))))
        (word_then_stored of_this (rounds_in run) refl
        (some_round run.k run.rate run.step of_this.step_least of_this.k_enough)))

    -- how many bytes they have
    pub size : (p : Parameters) → p ≡ of_run → Valid p → (bytes : List ℕ) → length bytes ≡ length (transcript_of run queries)
        → length bytes
        ≡ 28 + (12 + 8 * length run.basis) + (4 + 8 * length run.challenges) + (4 + 8 * length queries)
        + (4 + 8 * length run.word)
        + length (sections_bytes (stored_layers p run.store 1 (length (steps_by p) - 1)))
        + (4 + 8 * length run.last)
    size p e valid bytes h =
        let layers = sections_bytes (stored_layers p run.store 1 (length (steps_by p) - 1)) in
        let last = section_bytes run.last in
        let word = section_bytes run.word in
        let asked = section_bytes queries in
        let challenges = section_bytes run.challenges in
        let coset = section_bytes (run.offset ∷ run.basis) in
        h ∙ ap length (sym (all_sections p e valid))
        ∙ omega (
          arith,
          length-append (section_bytes (p.k ∷ p.rate ∷ p.step ∷ [])) (coset ++ (challenges ++ (asked ++ (word ++ (layers ++ last))))),
          length-append coset (challenges ++ (asked ++ (word ++ (layers ++ last)))),
          length-append challenges (asked ++ (word ++ (layers ++ last))),
          length-append asked (word ++ (layers ++ last)),
          length-append word (layers ++ last),
          length-append layers last,
          length-section_bytes (p.k ∷ p.rate ∷ p.step ∷ []),
          length-section_bytes (run.offset ∷ run.basis),
          length-section_bytes run.challenges,
          length-section_bytes queries,
          length-section_bytes run.word,
          length-section_bytes run.last,
        )

-- a text that fills the whole list
pub whole_list : {old new : Cursor} {text whole : List ℕ} → Puts old text new → text ≡ whole → old.at ≡ 0
    → length old.out.now ≡ length whole → new.out.now ≡ whole
whole_list {old} {new} {text} {whole} put is front h =
    let end : length old.out.now ≡ length text = h ∙ ap length (sym is) in
    list_after put
    ∙ ap (λ (n : ℕ). take n old.out.now ++ (text ++ drop (n + length text) old.out.now)) front
    ∙ ap (λ (l : List ℕ). text ++ l) (ap (λ (n : ℕ). drop n old.out.now) (zero-add (length text) ∙ sym end) ∙ drop-length old.out.now)
    ∙ append-nil text ∙ is
