-- `Parameters::dimension` meets its contract. Assumes nothing.
use Rattle.layout.proofs.Sizes.{dimension_is}
use mathlib.Core.Path.{sym}
use Rattle.layout.proofs.Shape.dimension.Goals as goal

pub returns : goal.returns
returns c = sym (dimension_is c.args.self.parameters c.args.self.valid c.args.i c.requires)
