-- `writer::length_due` meets its contract. Assumes nothing.
use native.Mathlib.Omega.{arith}
use Rattle.writer.proofs.Lengths.{entries_few}
use Rattle.writer.proofs.length_due.Goals as goal

pub overflow_add-result-7 : goal.overflow_add-result-7
overflow_add-result-7 c =
    let few = entries_few c.args.shape c.lengths-due.result c.lengths-due.ensures c.args.queries c.requires in
    omega (arith, few.0)

pub overflow_add-result-8 : goal.overflow_add-result-8
overflow_add-result-8 c =
    let few = entries_few c.args.shape c.lengths-due.result c.lengths-due.ensures c.args.queries c.requires in
    omega (arith, few.0)

pub overflow_mul-result-2 : goal.overflow_mul-result-2
overflow_mul-result-2 c =
    let few = entries_few c.args.shape c.lengths-due.result c.lengths-due.ensures c.args.queries c.requires in
    omega (arith, few.0)

pub overflow_add-result-9 : goal.overflow_add-result-9
overflow_add-result-9 c =
    let few = entries_few c.args.shape c.lengths-due.result c.lengths-due.ensures c.args.queries c.requires in
    omega (arith, few.0, few.1)
