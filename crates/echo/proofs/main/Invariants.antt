-- What `echo::main` prints is the first seven bytes. Assumes nothing.
use lib.ListN.{take}
use Rattle.echo.proofs.main.Given as goal

abbrev pub ghost-print : goal.ghost-print
ghost-print a = take 7
