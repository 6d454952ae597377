use Rattle.std.proofs.Common.{rules}
use Rattle.program_options.proofs.library_options.LibraryOptions.fits.Goals as goal

pub returns-then-self-clause-ok : goal.returns-then-self-clause-ok
returns-then-self-clause-ok c = search rules fits 100
