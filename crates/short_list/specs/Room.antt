-- A list and the zeros behind it give its room and its count back. Assumes nothing.
use Rattle.std.specs.Prelude.{◌≡◌, ℕ, ◌-◌, ◌≤◌, List, ◌++◌, length, take, drop, replicate}
use Rattle.std.proofs.Common.{sym, ap, subst, ◌∙◌, take-append-drop, length-take-le}

module _ (n count : ℕ) (room : List ℕ) (few : count ≤ n) (whole : length room ≡ n) where
  pub count_is : length (take count room) ≡ count
  count_is = length-take-le count room (subst (λ (k : ℕ). count ≤ k) (sym whole) few)

  pub room_is : drop count room ≡ replicate (n - count) 0
      → take count room ++ replicate (n - length (take count room)) 0 ≡ room
  room_is zeros =
      ap (λ (k : ℕ). take count room ++ replicate (n - k) 0) count_is
      ∙ ap (λ (behind : List ℕ). take count room ++ behind) (sym zeros)
      ∙ take-append-drop count room
