-- Bytes that carry lists are the transcript of those lists, so that no other bytes carry the same. Assumes nothing.
use mathlib.Core.Path.{◌≡◌, refl, sym, ap, ap₂, ◌∙◌}
use mathlib.Core.List.{List, [], ◌∷◌, ◌++◌}
use Prim.Native.Nat.{ℕ, zero, suc, ◌+◌, ◌≤◌}
use native.Mathlib.Nat.{add-zero, add-suc, le_of_eq}
use native.Mathlib.Omega.{arith}
use lib.ListN.{length, get_or, take, drop}
use lib.Seq.{take-length}
use Rattle.fri.specs.Run.{Run}
use Rattle.transcript.specs.Numerals.{AreBytes}
use Rattle.transcript.specs.Sections.{section_start, section_count, section_entries, layer_section, transcript_rounds}
use Rattle.transcript.specs.Sections.{run_in, queries_in}
use Rattle.transcript.specs.Theorems.{Carries}
use Rattle.transcript.proofs.Numerals.{length_entries}
use Rattle.transcript.proofs.Sections.{first_start}
use Rattle.transcript.proofs.Carried.{layer_is}
use Rattle.written.specs.Bytes.{sections_bytes}
use Rattle.written.specs.Transcript.{layers_then_last, lists_of, transcript_of}
use Rattle.written.proofs.Sections.{lists_from, sections_written}

three : (l : List ℕ) → length l ≡ 3 → get_or l 0 0 ∷ get_or l 1 0 ∷ get_or l 2 0 ∷ [] ≡ l
three [] e = absurd (omega arith)
three (x ∷ []) e = absurd (omega arith)
three (x ∷ y ∷ []) e = absurd (omega arith)
three (x ∷ y ∷ z ∷ []) e = refl
three (x ∷ y ∷ z ∷ v ∷ l) e = absurd (omega arith)

one_and_more : (l : List ℕ) → 1 ≤ length l → get_or l 0 0 ∷ drop 1 l ≡ l
one_and_more [] h = absurd (omega arith)
one_and_more (x ∷ l) h = refl

module _ (bytes : List ℕ) (b : AreBytes bytes) (c : Carries bytes) where
  abbrev read : Run
  read = run_in bytes

  abbrev r : ℕ
  r = transcript_rounds bytes

  counted : (s : ℕ) → length (section_entries bytes s) ≡ section_count bytes s
  counted s = length_entries bytes (section_start bytes s + 4) (section_count bytes s)

  layers : (i left : ℕ) → i + left ≡ r → layers_then_last read i left ≡ lists_from bytes (layer_section i) (suc left)
  unfolding lists_from layers_then_last
  layers i zero e = ap (λ (n : ℕ). section_entries bytes (layer_section n) ∷ []) (sym e ∙ add-zero i)
  layers i (suc left) e =
      ap₂ (λ (x : List ℕ) (l : List (List ℕ)). x ∷ l) (layer_is bytes c i (omega arith))
      (layers (suc i) left (omega arith) ∙ ap (λ (s : ℕ). lists_from bytes s (suc left)) (add-suc 5 i))

  -- 5 + r sections
  abbrev sections : ℕ
  sections = suc (suc (suc (suc (suc r))))

  lists : lists_of read (queries_in bytes) ≡ lists_from bytes 1 sections
  unfolding lists_from
  lists =
      ap₂ (λ (x : List ℕ) (l : List (List ℕ)). x ∷ l)
      (three (section_entries bytes 1) (counted 1 ∙ c.parameters_count))
      (ap₂ (λ (x : List ℕ) (l : List (List ℕ)). x ∷ section_entries bytes 3 ∷ section_entries bytes 4 ∷ l)
      (one_and_more (section_entries bytes 2) (omega (arith, counted 2, c.coset_count))) (layers 0 r (omega arith)))

  pub only : transcript_of read (queries_in bytes) ≡ bytes
  unfolding transcript_of
  only =
      ap sections_bytes lists
      ∙ ap (λ (n : ℕ). take n bytes ++ sections_bytes (lists_from bytes 1 sections)) (sym (first_start bytes))
      ∙ sections_written bytes b 1 sections (omega arith) (le_of_eq end)
      ∙ ap (λ (n : ℕ). take n bytes) end ∙ take-length bytes
    where
      end : section_start bytes (1 + sections) ≡ length bytes
      end =
          let same : 1 + sections ≡ suc (layer_section r) = omega arith in
          ap (section_start bytes) same ∙ c.ends

pub unique : (one other : List ℕ) → AreBytes one → AreBytes other → Carries one → Carries other
    → run_in one ≡ run_in other → queries_in one ≡ queries_in other → one ≡ other
unique one other bo bt co ct e q = sym (only one bo co) ∙ ap₂ transcript_of e q ∙ only other bt ct
