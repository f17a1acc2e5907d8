-- What a read behind earlier ones makes of a list, and of the bytes that a reader still has. Assumes nothing.
use Rattle.std.proofs.Common.{◌≡◌, ℕ, ◌+◌, ◌-◌, ◌≤◌, List, ◌∷◌, ◌++◌, length, take, drop, refl, sym, ap, ◌∙◌, append_assoc, subst, arith, length-append}
use Rattle.std.specs.Prelude.{Option, Some, None, Result, Ok, Err, Bool, true, false, cond, eqb, ◌||◌}
use Rattle.std.specs.declared.ops.ControlFlow.{ControlFlow}
use Rattle.std.specs.declared.ops.ControlFlow.TheVariants.{Continue, Break}
use Rattle.std.specs.Result.{result_ok}
use Rattle.input.specs.Reading.{read_after, ComesTo, Reads, ReadBy}
use Rattle.std.specs.Io.KnownBytes.{Consumes, ReadConsumes}
use Rattle.std.specs.Io.{ReadsAtMost}
use Rattle.std.proofs.lemmas.List.{length-take, length-drop, take-append-drop, take-append-le}
use Rattle.std.proofs.lemmas.Slice.{take-put_mid, drop-put_mid}
use Rattle.std.proofs.Math.Seq.{take-append-add}
use borrow.Rule.Slice.PartMut.{put_mid}

module _ (list part : List ℕ) (count more : ℕ) (fits : count ≤ length list) (few : more ≤ length part) where
  abbrev joined : List ℕ
  joined = put_mid count (length list - count) list part

  -- the first bytes are those of before, and the first of the part behind them
  front_joined : take (count + more) joined ≡ take count list ++ take more part
  front_joined =
      let front = take count list in
      let end = count + length part in
      let counted : length front ≡ count = omega (arith, length-take count list) in
      ap (take (count + more))
      (sym (take-append-drop end joined)
      ∙ ap (λ l. l ++ drop end joined) (take-put_mid count (length list - count) list part end refl fits))
      ∙ take-append-le (count + more) (front ++ part) (drop end joined) (omega (arith, length-append front part))
      ∙ ap (λ n. take (n + more) (front ++ part)) (sym counted)
      ∙ take-append-add front part more

  -- which the list has
  pub fits_joined : count + more ≤ length joined
  fits_joined =
      omega (
        arith,
        ap length front_joined,
        length-append (take count list) (take more part),
        length-take count list,
        length-take more part,
        length-take (count + more) joined,
      )

  -- so what a reader gave is in the list
  pub read_on : (whole before after : Option (List ℕ)) → Consumes whole before (take count list)
      → Consumes before after (take more part) → Consumes whole after (take (count + more) joined)
  read_on None before after f g = record {}
  read_on (Some w) None after f g = absurd f
  read_on (Some w) (Some b) None f g = absurd g
  read_on (Some w) (Some b) (Some a) f g =
      f ∙ ap (λ l. take count list ++ l) g ∙ sym (append_assoc (take count list) (take more part) a)
      ∙ ap (λ l. l ++ a) (sym front_joined)

-- where there may be more, the read gave the bytes that were added
pub turn : {E : Type 0} (result : Result ℕ E) (got : Option ℕ) (count size next : ℕ) (flow : ControlFlow ℕ ℕ)
    → got ≡ result_ok result → Some flow ≡ read_after count got size → flow ≡ Continue next
    → (more : ℕ) × ((result ≡ Ok more) × (next ≡ count + more))
turn (Err e) got count size next flow g a f =
    let none : got ≡ None = g in
    let never : Some flow ≡ None = a ∙ ap (λ o. read_after count o size) none in
    absurd (cc)
turn (Ok more) got count size next flow g a f =
    (more, (refl, by (eqb more 0 || eqb (count + more) size) (sym f ∙ some_same (a ∙ ap (λ o. read_after count o size) g))))
  where
    some_same : {x y : ControlFlow ℕ ℕ} → Some x ≡ Some y → x ≡ y
    some_same e = cc

    by : (over : Bool) → Continue next ≡ cond over (Break (count + more)) (Continue (count + more)) → next ≡ count + more
    by true e = absurd (cc)
    by false e = cc

-- what a read that gave so many bytes took
pub taken : {E : Type 0} (before after : Option (List ℕ)) (result : Result ℕ E) (part : List ℕ) (more : ℕ)
    → result ≡ Ok more → ReadConsumes before after result part → ReadsAtMost result part
    → Consumes before after (take more part) × (more ≤ length part)
taken before after (Ok m) part more e bytes bound =
    let same : m ≡ more = cc in (subst (λ n. Consumes before after (take n part)) same bytes.0, omega (arith, same, bound))
taken before after (Err e') part more e bytes bound = absurd (cc)

module _ (list part : List ℕ) (count : ℕ) (fits : count ≤ length list)
    (whole : length part ≡ length (take (length list - count) (drop count list))) where
  abbrev behind : List ℕ
  behind = put_mid count (length list - count) list part

  -- a list with another part behind its first bytes is as long as before
  same_length : length behind ≡ length list
  same_length =
      let n = length list in
      let rest : length part ≡ n - count =
      omega (arith, whole, fits, length-take (n - count) (drop count list), length-drop count list)
      in
      let front = ap length (take-put_mid count (n - count) list part n (omega (arith, rest, fits)) fits) in
      let last = ap length (drop-put_mid count (n - count) list part n (omega (arith, fits)) fits rest) in
      omega (
        arith,
        rest,
        fits,
        front,
        last,
        length-append (take count list) part,
        length-take count list,
        length-take n behind,
        length-drop n behind,
        length-drop n list,
      )

  -- one read more is in front of those that come later, and behind those that came before
  pub read_first : {S : Type 0} (Gave : S → Option ℕ → S → Type 0) (reading got given : Option ℕ)
      (gots : List (Option ℕ)) (first source left : S) (known : Option (ControlFlow ℕ ℕ))
      → ((gots : List (Option ℕ)) → Reads Gave (length list) reading gots count source
      → ReadBy Gave (length list) reading first)
      → Gave source given left → got ≡ given → known ≡ read_after count got (length behind)
      → ComesTo reading (λ next. Reads Gave (length behind) reading gots next left) known
      → ReadBy Gave (length behind) reading first
  unfolding Reads
  read_first Gave reading got given gots first source left known before gave e after comes =
      let later = ComesTo reading (λ next. Reads Gave (length behind) reading gots next left) in
      let here : Reads Gave (length behind) reading (got ∷ gots) count source =
      (left, (subst (λ o. Gave source o left) (sym e) gave, subst later after comes))
      in
      subst (λ n. ReadBy Gave n reading first) (sym same_length)
      (before (got ∷ gots) (subst (λ n. Reads Gave n reading (got ∷ gots) count source) same_length here))
