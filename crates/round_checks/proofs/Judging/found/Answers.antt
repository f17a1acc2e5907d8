-- `Judging::found` meets its contract. Assumes nothing.
use Rattle.round_checks.proofs.Judged.{entry_within, stored_value, last_value}
use Rattle.round_checks.proofs.Judging.found.Goals as goal

pub entry-requires : goal.entry-requires
entry-requires g c =
    let judging = c.args.self.now in
    entry_within judging.prepared c.if-i-self.true judging.same c.requires.reached

pub returns-then-i-self : goal.returns-then-i-self
returns-then-i-self g c =
    let judging = c.args.self.now in
    stored_value judging.prepared c.requires.round judging.same c.if-i-self.true c.entry.ensures

pub returns-else-i-self : goal.returns-else-i-self
returns-else-i-self g c =
    last_value c.args.self.now.prepared c.requires.round c.if-i-self.false c.evaluate.ensures
