-- The bytes of the first entries of a list. Assumes nothing.
use mathlib.Core.Path.{◌≡◌, refl, sym, ap, ◌∙◌}
use mathlib.Core.List.{List, [], ◌∷◌, ◌++◌, append_assoc, append-nil}
use Prim.Native.Nat.{ℕ, ◌+◌, ◌*◌, ◌<◌}
use native.Mathlib.Numerals.{add-one}
use native.Mathlib.Omega.{arith}
use lib.ListN.{length, get_or, take}
use lib.Seq.{take-suc, length-take-le}
use Rattle.written.specs.Bytes.{entry_bytes, entries_bytes}
use Rattle.written.proofs.Bytes.{length-entries_bytes}

pub entries_none : [] ≡ entries_bytes []
unfolding entries_bytes
entries_none = refl

entries-append : (front : List ℕ) (entry : ℕ)
    → entries_bytes (front ++ (entry ∷ [])) ≡ entries_bytes front ++ entry_bytes entry
unfolding entries_bytes
entries-append [] entry = append-nil (entry_bytes entry)
entries-append (x ∷ front) entry =
    ap (λ (l : List ℕ). entry_bytes x ++ l) (entries-append front entry)
    ∙ sym (append_assoc (entry_bytes x) (entries_bytes front) (entry_bytes entry))

module _ (entries : List ℕ) (i : ℕ) (within : i < length entries) where
  pub entries_next : entries_bytes (take i entries) ++ entry_bytes (get_or entries i 0) ≡ entries_bytes (take (i + 1) entries)
  entries_next =
      sym (entries-append (take i entries) (get_or entries i 0))
      ∙ ap entries_bytes (sym (take-suc entries i 0 within) ∙ ap (λ (n : ℕ). take n entries) (sym (add-one i)))

  pub length_so_far : length (entries_bytes (take i entries)) ≡ 8 * i
  length_so_far = omega (arith, length-entries_bytes (take i entries), length-take-le i entries (omega arith))
