-- `layout::layer` meets its contract. Assumes nothing.
use Rattle.layout.proofs.Parts.{part_within, part_taken}
use Rattle.layout.specs.declared.Parameters.{Parameters}
use Rattle.layout.specs.declared.Part.{Part}
use Rattle.layout.specs.Parts.{part_of, part_in}
use lib.ListN.{length, take, drop}
use Prim.Native.Nat.{ℕ, ◌+◌, ◌-◌, ◌≤◌}
use mathlib.Core.Path.{◌≡◌, sym, ap, ◌∙◌, subst}
use borrow.Author.Rules.{rules}
use native.Mathlib.Omega.{arith}
use Rattle.layout.proofs.layer.Goals as goal

-- the part lies within the store
within : (p : Parameters) (count i : ℕ) (part : Part) → part ≡ part_of p count i → part.start + part.length ≤ count
within p count i part e = subst (λ (r : Part). r.start + r.length ≤ count) (sym e) (part_within p count i)

pub overflow_add-end : goal.overflow_add-end
overflow_add-end c =
    let a = c.args in
    let fits = within a.parameters (length a.store.now) a.i c.part-part.result c.part-part.ensures in
    search (rules, fits)

pub offset_bounds-store-start : goal.offset_bounds-store-start
offset_bounds-store-start c =
    let a = c.args in
    let fits = within a.parameters (length a.store.now) a.i c.part-part.result c.part-part.ensures in
    search (rules, fits)

pub slice_bounds-result-end : goal.slice_bounds-result-end
slice_bounds-result-end c =
    let a = c.args in
    let fits = within a.parameters (length a.store.now) a.i c.part-part.result c.part-part.ensures in
    search (rules, fits)

pub returns : goal.returns
returns c =
    let a = c.args in
    let r = c.part-part.result in
    let back : r.start + r.length - r.start ≡ r.length = omega arith in
    let part =
    ap (λ (n : ℕ). take n (drop r.start a.store.now)) back
    ∙ ap (λ (p : Part). part_in p a.store.now) c.part-part.ensures
    in record {
      layer = part ∙ part_taken a.parameters a.store.now a.i;
      part = part;
    }
