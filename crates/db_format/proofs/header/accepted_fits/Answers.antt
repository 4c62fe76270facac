use Rattle.db_format.proofs.FitsLemmas.{accepted_fits_holds}
use Rattle.db_format.proofs.header.accepted_fits.Goals as goal

pub returns : goal.returns
returns c = accepted_fits_holds
