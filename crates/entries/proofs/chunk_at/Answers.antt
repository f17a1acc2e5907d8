-- `entries::chunk_at` meets its contract. Assumes nothing.
use mathlib.Core.Path.{◌∙◌}
use Rattle.entries.proofs.Chunks.{whole_chunk}
use Rattle.entries.proofs.chunk_at.Goals as goal

-- the bytes are all there
pub returns-in-Some : goal.returns-in-Some
returns-in-Some g c =
    let chunk = c.in-Some.ensures.cases in
    chunk.same ∙ whole_chunk g.row.N c.args.bytes.now c.args.at chunk.enough
