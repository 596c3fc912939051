use lib.Utf8.{encode}
use Rattle.var_places.proofs.folder.is_vendor.Goals as goal

pub returns-in-None : goal.returns-in-None
unfolding encode
returns-in-None c = (λ no. absurd (cc no), λ is. absurd (c.in-None.ensures.cases is.0 is.1))
