-- Tables in parts, and moved to start at zero. Assumes nothing.
use mathlib.Core.Path.{◌≡◌, sym, ap, ◌∙◌}
use mathlib.Core.List.{List, ◌∷◌, ◌++◌}
use Prim.Native.Nat.{ℕ, zero, suc, ◌+◌}
use native.Mathlib.Nat.{zero-add, add-zero, suc-add, add-suc}
use native.Mathlib.Omega.{arith}
use lib.Seq.{ext_get_or}
use Rattle.coset.specs.Coset.{tabulated}
use Rattle.coset.proofs.Points.{length-tabulated, get_or-tabulated}

pub tabulated-append : (f : ℕ → ℕ) (start m n : ℕ)
    → tabulated f start (m + n) ≡ tabulated f start m ++ tabulated f (start + m) n
unfolding tabulated
tabulated-append f start zero n =
    ap (tabulated f start) (zero-add n) ∙ ap (λ (s : ℕ). tabulated f s n) (sym (add-zero start))
tabulated-append f start (suc m) n =
    ap (tabulated f start) (suc-add m n)
    ∙ ap {B = List ℕ} (λ l. f start ∷ l)
    (tabulated-append f (suc start) m n
    ∙ ap (λ (s : ℕ). tabulated f (suc start) m ++ tabulated f s n) (suc-add start m ∙ sym (add-suc start m)))

pub tabulated_moved : (f : ℕ → ℕ) (start n : ℕ) → tabulated f start n ≡ tabulated (λ i. f (start + i)) 0 n
tabulated_moved f start n =
    ext_get_or 0 (tabulated f start n) (tabulated (λ i. f (start + i)) 0 n)
    (length-tabulated f start n ∙ sym (length-tabulated (λ i. f (start + i)) 0 n))
    (λ i h. get_or-tabulated f start n i (omega (arith, length-tabulated f start n))
    ∙ sym (get_or-tabulated (λ j. f (start + j)) 0 n i (omega (arith, length-tabulated f start n))
    ∙ ap (λ (j : ℕ). f (start + j)) (zero-add i)))

-- a table in two halves
pub tabulated_halves : (f : ℕ → ℕ) (m : ℕ)
    → tabulated f 0 (m + m) ≡ tabulated f 0 m ++ tabulated (λ i. f (m + i)) 0 m
tabulated_halves f m =
    tabulated-append f 0 m m
    ∙ ap (λ (l : List ℕ). tabulated f 0 m ++ l)
    (ap (λ (s : ℕ). tabulated f s m) (zero-add m) ∙ tabulated_moved f m m)
