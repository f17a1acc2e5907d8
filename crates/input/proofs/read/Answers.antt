-- `input::read` meets its contract. Assumes nothing.
use Rattle.std.proofs.Common.{◌-◌, ◌∙◌, Some, None, [], length, take, subst, sym, ap, refl, arith}
use Rattle.std.specs.declared.ops.ControlFlow.TheVariants.{Continue, Break}
use Rattle.std.specs.Io.KnownBytes.{Consumes}
use borrow.Rule.Slice.PartMut.{put_mid}
use Rattle.input.proofs.Known.{read_on, fits_joined, turn, taken, read_first}
use Rattle.input.proofs.read.Goals as goal

pub loop-source-preserved : goal.loop-source-preserved
loop-source-preserved g c =
    let l = c.loop-source in
    let part = c.read_once.new.list in
    let (more, (read, next)) =
    turn c.read_once.result c.ok-got.result l.count _ c.in-Continue.next _ c.ok-got.ensures.value c.in_ok-whole.ensures
    c.in-Continue.is
    in
    let (bytes, few) =
    taken (g.R.Read.remaining l.source) (g.R.Read.remaining c.read_once.new.self) c.read_once.result part more read c.read_once.ensures.bytes c.read_once.ensures.bound
    in
    record {
      fits = omega (arith, next, fits_joined l.input part l.count more l.invariant.fits few);
      given =
          subst
          (λ n. Consumes (g.R.Read.remaining c.args.source) (g.R.Read.remaining c.read_once.new.self)
          (take n (put_mid l.count (length l.input - l.count) l.input part)))
          (sym next)
          (read_on l.input part l.count more l.invariant.fits few (g.R.Read.remaining c.args.source) (g.R.Read.remaining l.source)
          (g.R.Read.remaining c.read_once.new.self) l.invariant.given bytes);
      reads =
          λ reading gots later.
          read_first l.input part l.count l.invariant.fits c.read_once.auto.list g.R.Source.Gave reading c.ok-got.result _
          gots c.args.source l.source c.read_once.new.self (Some (Continue c.in-Continue.next))
          (l.invariant.reads reading) c.read_once.ensures.gave c.ok-got.ensures.value
          (ap Some (sym c.in-Continue.is) ∙ c.in_ok-whole.ensures) later;
    }

pub returns-in_err-whole-clause-reads : goal.returns-in_err-whole-clause-reads
returns-in_err-whole-clause-reads g c =
    let l = c.loop-source in
    read_first l.input c.read_once.new.list l.count l.invariant.fits c.read_once.auto.list g.R.Source.Gave
    c.from_residual.result c.ok-got.result _ [] c.args.source l.source c.read_once.new.self None (l.invariant.reads c.from_residual.result)
    c.read_once.ensures.gave c.ok-got.ensures.value c.in_err-whole.ensures c.from_residual.ensures

pub returns-in-Break-clause-reads : goal.returns-in-Break-clause-reads
returns-in-Break-clause-reads g c =
    let l = c.loop-source in
    read_first l.input c.read_once.new.list l.count l.invariant.fits c.read_once.auto.list g.R.Source.Gave
    (Some c.in-Break.whole) c.ok-got.result _ [] c.args.source l.source c.read_once.new.self (Some (Break c.in-Break.whole))
    (l.invariant.reads (Some c.in-Break.whole)) c.read_once.ensures.gave c.ok-got.ensures.value
    (ap Some (sym c.in-Break.is) ∙ c.in_ok-whole.ensures) refl
