-- Texts put at a cursor, part by part and one after the other. Assumes nothing.
use mathlib.Core.Path.{◌≡◌, refl, sym, ap, subst, ◌∙◌}
use mathlib.Core.List.{List, [], ◌++◌, append_assoc, append-nil}
use Prim.Native.Nat.{ℕ, zero, suc, ◌+◌, ◌-◌, ◌≤◌}
use native.Mathlib.Omega.{arith}
use lib.ListN.{length, take, drop, length-append, replicate, take-append-drop}
use lib.Seq.{drop-drop}
use Rattle.placing.specs.declared.Cursor.{Cursor}
use Rattle.placing.specs.Put.{Page, page, with_text, Puts}

pub puts : {old new : Cursor} {text : List ℕ}
    → new.out.ghost_name ≡ old.out.ghost_name → length new.out.now ≡ length old.out.now → new.at ≡ old.at + length text
    → take new.at new.out.now ≡ take old.at old.out.now ++ text
    → drop new.at new.out.now ≡ drop (old.at + length text) old.out.now
    → new.at ≤ length new.out.now
    → Puts old text new
puts {old} {new} {text} list size ends before after room =
    let rest = after ∙ sym (drop-drop (length text) old.at old.out.now) in
    record {
      page = λ i. record { list = list i; size = size i; at = ends i; before = before i; after = rest i };
      room = room;
    }

-- where it ends
module _ {old new : Cursor} {text : List ℕ} (put : Puts old text new) where
  pub ends : new.at ≡ old.at + length text
  ends = λ i. (put.page i).at

  pub same_size : length new.out.now ≡ length old.out.now
  same_size = λ i. (put.page i).size

-- what the list holds then
pub list_after : {old new : Cursor} {text : List ℕ} → Puts old text new
    → new.out.now ≡ take old.at old.out.now ++ (text ++ drop (old.at + length text) old.out.now)
list_after {old} {new} {text} put =
    sym (take-append-drop new.at new.out.now)
    ∙ (λ i. (put.page i).before ++ (put.page i).after)
    ∙ ap (λ (l : List ℕ). (take old.at old.out.now ++ text) ++ l) (drop-drop (length text) old.at old.out.now)
    ∙ append_assoc (take old.at old.out.now) text (drop (old.at + length text) old.out.now)

-- one text after the other
with_texts : (held : Page) (s t : List ℕ) → with_text (with_text held s) t ≡ with_text held (s ++ t)
with_texts held s t =
    λ i. record {
      list = held.list;
      size = held.size;
      at = ends i;
      before = append_assoc held.before s t i;
      after = rest i;
    }
  where
    ends : held.at + length s + length t ≡ held.at + length (s ++ t)
    ends = omega (arith, length-append s t)

    rest : drop (length t) (drop (length s) held.after) ≡ drop (length (s ++ t)) held.after
    rest =
        drop-drop (length t) (length s) held.after
        ∙ ap (λ (n : ℕ). drop n held.after) (sym (length-append s t))

pub puts_append : {old mid new : Cursor} {s t : List ℕ} → Puts old s mid → Puts mid t new → Puts old (s ++ t) new
puts_append {old} {mid} {new} {s} {t} p q =
    record { page = q.page ∙ ap (λ (held : Page). with_text held t) p.page ∙ with_texts (page old) s t; room = q.room }

-- a text by another name
pub puts_same : {old new : Cursor} {s t : List ℕ} → Puts old s new → s ≡ t → Puts old t new
puts_same {old} {new} p e = subst (λ (text : List ℕ). Puts old text new) e p

-- no text
pub puts_nothing : (cursor : Cursor) → cursor.at ≤ length cursor.out.now → Puts cursor [] cursor
puts_nothing cursor h =
    puts refl refl (omega arith) (sym (append-nil (take cursor.at cursor.out.now)))
    (ap (λ (n : ℕ). drop n cursor.out.now) (omega arith)) h

-- ---- a text at the front of zeros

drop_zeros : (m n : ℕ) → drop m (replicate {A = ℕ} n 0) ≡ replicate (n - m) 0
drop_zeros zero n = let same : n ≡ n - 0 = omega arith in ap (λ (x : ℕ). replicate x 0) same
drop_zeros (suc m) zero = let none : 0 ≡ 0 - suc m = omega arith in ap (λ (x : ℕ). replicate x 0) none
drop_zeros (suc m) (suc n) =
    let same : n - m ≡ suc n - suc m = omega arith in
    drop_zeros m n ∙ ap (λ (x : ℕ). replicate x 0) same

pub zeros_after : {old new : Cursor} {text : List ℕ} (size : ℕ) → Puts old text new
    → old.at ≡ 0 → old.out.now ≡ replicate size 0 → drop new.at new.out.now ≡ replicate (size - new.at) 0
zeros_after {old} {new} {text} size put front zeros =
    (λ i. (put.page i).after)
    ∙ drop-drop (length text) old.at old.out.now
    ∙ ap (drop (old.at + length text)) zeros
    ∙ drop_zeros (old.at + length text) size
    ∙ ap (λ (n : ℕ). replicate (size - n) 0) (sym (λ i. (put.page i).at))
