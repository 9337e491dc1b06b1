-- The number that is taken out is the nearest binary64, and the only one. Assumes nothing.
use Rattle.binary64.proofs.Nearest.{nearest_one, taken_nearest}
use Rattle.promises.specs.Nearest.{TheNumberOutIsTheNearest, OneNumberIsTheNearest}

pub the_number_out_is_the_nearest : TheNumberOutIsTheNearest
unfolding TheNumberOutIsTheNearest
the_number_out_is_the_nearest = taken_nearest

pub one_number_is_the_nearest : OneNumberIsTheNearest
unfolding OneNumberIsTheNearest
one_number_is_the_nearest = nearest_one
